-- A part of a unit with its faults apart: what it is where it has none, and those that it has.
use Rattle.std.specs.Prelude.{ℕ, ◌≡◌, ◌+◌, Bool, true, false, Option, Some, None, Result}
use Rattle.std.specs.Prelude.{List, [], ◌∷◌, ◌++◌}
use Rattle.std.specs.Prelude.{Ok, Err}
use Rattle.pli_base.specs.Statements as source
use Rattle.pli_base.specs.declared.statement.Procedure.{Procedure}
use Rattle.pli_base.specs.declared.token.Fault.{Fault}
use Rattle.pli_base.specs.views.StatementView.{unit_view}
use Rattle.pli_declare.specs.ResolvedUnits.{resolved_unit_of}
use Rattle.pli_type_rules.specs.Names.{NamedUnit}
use Rattle.pli_type_rules.specs.NamedUnits.{named_unit}
use Rattle.pli_type_rules.specs.StatementTyping.{WithProcedures}
use Rattle.pli_declare.specs.TreeBlocks.{blocks_of, blocks_among}
use Rattle.pli_type_rules.specs.Temporaries.{Next, temporaries_of, temporaries_among}
use Rattle.pli_base.specs.declared.failure.Failure.{Failure}
use Rattle.pli_base.specs.declared.failure.Failure.TheVariants as errors
use Rattle.pli_type_tree.specs.TypedTree as typed

-- what it is, where it has no fault
abbrev pub given : {A : Type 0} → Result (WithProcedures A) (List Fault) → Option A
given (Ok x) = Some x.part
given (Err fs) = None

-- its faults
abbrev pub told : {A : Type 0} → Result (WithProcedures A) (List Fault) → List Fault
told (Ok x) = []
told (Err fs) = fs

-- the procedures in it are put after others; where it has a fault nothing is said of them
abbrev pub Adds : {A : Type 0} → Result (WithProcedures A) (List Fault)
    → (old new : List typed.TypedProcedure)
    → Type 0
Adds (Ok x) old new = new ≡ old ++ x.procedures
Adds (Err fs) old new = Unit {0}

-- what typing answered, where it has no fault
abbrev pub part_in : {A : Type 0} → Result A (Failure Fault) → Option A
part_in (Ok x) = Some x
part_in (Err e) = None

-- the fault that it told
abbrev pub faults_in : {A : Type 0} → Result A (Failure Fault) → List Fault
faults_in (Err (errors.Fault f)) = f ∷ []
faults_in answer = []

-- memory did not run out
abbrev pub IsKnown : {A : Type 0} → Result A (Failure Fault) → Type 0
IsKnown (Err errors.OutOfMemory) = ⊥
IsKnown answer = Unit {0}

-- two parts together, where neither has a fault
abbrev pub both : {A B C : Type 0} → (A → B → C) → Option A → Option B → Option C
both make (Some x) (Some y) = Some (make x y)
both make x y = None

-- an IF of its three parts
abbrev pub if_of : Option typed.TypedExpression → Option typed.TypedStatement → Option typed.OtherWise
    → Option typed.Form
if_of (Some x) (Some s) (Some otherwise) = Some (typed.If x s otherwise)
if_of tested consequence alternative = None

-- none or one
abbrev pub listed_if : {A : Type 0} → (nothing : Bool) → Option A → List A
listed_if nothing None = []
listed_if true (Some x) = []
listed_if false (Some x) = x ∷ []

-- after what a statement is
abbrev pub after_body : (is_based : (at : ℕ) → Bool) → Next → source.Body → Next
after_body is_based x b =
    record { block = x.block + blocks_of b; temporary = x.temporary + temporaries_of is_based b }

-- after a list
abbrev pub after_list : (is_based : (at : ℕ) → Bool) → Next → source.Statements → Next
after_list is_based x ss =
    record { block = x.block + blocks_among ss; temporary = x.temporary + temporaries_among is_based ss }

-- a unit as types see it
unfoldable pub unit_named : Procedure → NamedUnit
unit_named u = named_unit 63 (resolved_unit_of (unit_view u))
