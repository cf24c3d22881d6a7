-- What the walk over a unit's statements does at a part of them.
use Rattle.std.specs.Prelude.{◌≡◌, ◌≤◌, ◌+◌, ◌-◌, ℕ, suc, Bool, true, false, Option, Some, None, Result}
use Rattle.std.specs.Prelude.{List, [], ◌∷◌, ◌++◌, length, map, take}
use Rattle.pli_base.specs.Statements.{Body, ExternalProcedure, Statements}
use Rattle.pli_base.specs.declared.token.Fault.{Fault}
use Rattle.pli_map.specs.Description.{Description}
use Rattle.pli_type_rules.specs.Checked.{may_begin}
use Rattle.pli_type_rules.specs.Names.{NamedUnit}
use Rattle.pli_type_rules.specs.StatementTyping as spec
use Rattle.pli_type_rules.specs.StatementTyping.{Enclosing, Surroundings, WithProcedures, head_of}
use Rattle.pli_declare.specs.TreeBlocks.{blocks_among}
use Rattle.pli_type_rules.specs.Temporaries.{Next}
use Rattle.pli_type_names.specs.UnitNaming.{inside, outside}
use Rattle.pli_type_templates.specs.views.UnitView.{automatic_at, based_at}
use Rattle.pli_type_tree.specs.Templates.{Template}
use Rattle.pli_type_tree.specs.TypedTree.{Form, Signature, Global, TypedProcedure, TypedStatements, TypedUnit}
use Rattle.pli_type_tree.specs.declared.statement.BlockHead.{BlockHead}
use Rattle.pli_type_tree.specs.views.TemplateView.{groups_view}
use Rattle.pli_type_tree.specs.views.TypedView.{head_view, procedure_view}
use Rattle.pli_type_parts.specs.Around.{Around, Listing, surroundings_of}
use Rattle.pli_type_parts.specs.Parts.{unit_named, given, told, Adds, after_body, after_list}
use Rattle.pli_type_walk.specs.declared.walk.OpenBlock.{OpenBlock}
use Rattle.pli_type_walk.specs.declared.walk.TypingWalk.{TypingWalk}
use Rattle.pli_type_parts.specs.views.AroundView.{around_view, lists_view}

-- the unit that it walks over
abbrev pub unit_at : TypingWalk → NamedUnit
unit_at w = unit_named w.naming.unit

-- where it is
abbrev pub around : TypingWalk → Surroundings
around w = surroundings_of (around_view w.surroundings)

-- the next block and temporary
abbrev pub next_at : TypingWalk → Next
next_at w = record { block = w.next.block; temporary = w.next.temporary }

-- the procedures that it has walked over
abbrev pub finished : TypingWalk → List TypedProcedure
finished w = map procedure_view w.procedures.items

-- each BEGIN block round a place is one of the lists round it
abbrev pub IsDeep : Around → Type 0
IsDeep a = a.begins ≤ length a.lists

-- which names are those of BASED variables
abbrev pub based_names : TypingWalk → (at : ℕ) → Bool
based_names w = (unit_at w).is_based

-- names are looked at from the blocks round the place; what the variables of the blocks that begin from here
-- on are made from is still there, and what BASED ones are; and BEGIN blocks round the place are lists
pub record IsPlaced (w : TypingWalk) : Type 0 where
  pub blocks : w.naming.blocks ≡ map (λ (b : Enclosing). b.number) (around w).blocks
  pub templates : (block : ℕ) → w.next.block ≤ block
      → automatic_at w.templates block ≡ (unit_at w).automatic block
  pub based : (block : ℕ) → based_at w.templates block ≡ ((unit_at w).naming []).based block
  pub deep : IsDeep (around_view w.surroundings)

-- a word has room for so many numbers more, of blocks and of temporaries
abbrev pub HasRoom : Next → (taken : ℕ) → Type 0
HasRoom x taken = x.block + x.temporary + taken ≤ 9223372036854775808

-- it is where it was
pub record IsBack (old new : TypingWalk) : Type 0 where
  pub naming : new.naming ≡ old.naming
  pub around : around_view new.surroundings ≡ around_view old.surroundings
  pub globals : new.templates.globals ≡ old.templates.globals
  pub placed : IsPlaced new

-- it has walked over a part: that part, if it has no fault; its faults after the others; and its procedures
-- after the others
pub record Walks (A : Type 0) (old new : TypingWalk) (after : Next)
    (typed : Result (WithProcedures A) (List Fault)) (answer : Option A) : Type 0 where
  pub back : IsBack old new
  pub next : next_at new ≡ after
  pub part : answer ≡ given typed
  pub faults : new.faults.items ≡ old.faults.items ++ told typed
  pub procedures : Adds typed (finished old) (finished new)

-- over what a statement says
abbrev pub WalksBody : (old new : TypingWalk) → (number at : ℕ) → Body → Option Form → Type 0
WalksBody old new number at b form =
    Walks Form old new (after_body (based_names old) (next_at old) b)
    (spec.body_typed (unit_at old) (around old) (next_at old) number at b) form

-- over a list in other surroundings than those of the place
abbrev pub WalksList : (old new : TypingWalk) → Surroundings → Statements → Option TypedStatements → Type 0
WalksList old new s ss list =
    Walks TypedStatements old new (after_list (based_names old) (next_at old) ss)
    (spec.statements_typed (unit_at old) s (next_at old) ss) list

-- a list that the walk has gone into
abbrev pub in_list : Around → Listing → (begins : ℕ) → Option Description → Around
in_list a l begins value = record { lists = a.lists ++ l ∷ []; begins = begins; value = value }

-- it has gone into the next block
pub record Enters (old new : TypingWalk) (block : OpenBlock) (is_on_unit : Bool) (inner : ℕ)
    (gives : Option Description) (labels : List ℕ) : Type 0 where
  pub naming : new.naming ≡ inside old.naming old.next.block
  pub around : around_view new.surroundings
      ≡ in_list (around_view old.surroundings)
      (record { block = Some old.next.block; is_on_unit = is_on_unit; labels = labels }) inner gives
  pub next : next_at new ≡ record { block = suc old.next.block; temporary = 0 }
  pub templates : (k : ℕ) → (k ≡ old.next.block → ⊥)
      → automatic_at new.templates k ≡ automatic_at old.templates k
  pub based : new.templates.based ≡ old.templates.based
  pub globals : new.templates.globals ≡ old.templates.globals
  pub faults : new.faults.items ≡ old.faults.items
  pub procedures : new.procedures.items ≡ old.procedures.items
  pub number : block.number ≡ old.next.block
  pub variables : groups_view block.variables.items ≡ automatic_at old.templates old.next.block
  pub begins : block.begins ≡ old.surroundings.begins
  pub value : block.value ≡ old.surroundings.value
  pub temporary : block.temporary ≡ old.next.temporary

-- it has gone out of that block
pub record Leaves (old new : TypingWalk) (block : OpenBlock) (statement : ℕ) (made : BlockHead) : Type 0 where
  pub naming : new.naming ≡ outside old.naming
  pub lists : lists_view new.surroundings.lists.items
      ≡ take (length (lists_view old.surroundings.lists.items) - 1) (lists_view old.surroundings.lists.items)
  pub begins : new.surroundings.begins ≡ block.begins
  pub value : new.surroundings.value ≡ block.value
  pub next : next_at new ≡ record { block = old.next.block; temporary = block.temporary }
  pub templates : new.templates ≡ old.templates
  pub faults : new.faults.items ≡ old.faults.items
  pub procedures : new.procedures.items ≡ old.procedures.items
  pub head : head_view made
      ≡ record {
        number = block.number;
        statement = statement;
        variables = groups_view block.variables.items;
        temporaries = old.next.temporary;
      }

-- the whole block
pub record WalksBlock (old new : TypingWalk) (s : Surroundings) (statement : ℕ) (ss : Statements)
    (made : BlockHead)
    (list : Option TypedStatements) : Type 0 where
  pub walked : Walks TypedStatements old new
      (record { block = suc old.next.block + blocks_among ss; temporary = old.next.temporary })
      (spec.statements_typed (unit_at old) s (spec.inside (next_at old)) ss) list
  pub head : head_view made ≡ head_of (unit_at old) old.next.block statement ss

-- where the statements of the next block stand
abbrev pub in_block : TypingWalk → (is_on_unit : Bool) → (begins : ℕ) → Option Description → Statements
    → Surroundings
in_block w is_on_unit begins value ss =
    surroundings_of (in_list (around_view w.surroundings)
    (record { block = Some w.next.block; is_on_unit = is_on_unit; labels = spec.labels_of ss }) begins value)

-- a procedure of this list
abbrev pub ended_as : TypingWalk → (end : ℕ) → BlockHead → TypedStatements → TypedProcedure
ended_as w end head list = record {
  is_on_unit = false;
  head = head_view head;
  parent = Some (spec.block_at (around w));
  parameters = length ((unit_at w).parameters head.number);
  function_end = spec.function_end ((unit_at w).returned head.number) end;
  statements = list;
}

-- an ON-unit of this list
abbrev pub on_unit_ended : TypingWalk → BlockHead → TypedStatements → TypedProcedure
on_unit_ended w head list = record {
  is_on_unit = true;
  head = head_view head;
  parent = Some (spec.block_at (around w));
  parameters = 0;
  function_end = None;
  statements = list;
}

-- what is made of a list is put after the others and leaves a form, if the list has no fault
abbrev pub Ends : (left : Form) → (make : TypedStatements → TypedProcedure) → (old : List TypedProcedure)
    → Option TypedStatements → (new : List TypedProcedure) → Option Form → Type 0
Ends left make old None new form = form ≡ None
Ends left make old (Some list) new form = (form ≡ Some left) × (new ≡ old ++ make list ∷ [])

-- it has walked over a procedure or an ON-unit, whose list it has left: nothing else has changed
pub record Finishes (old new : TypingWalk) (left : Form) (make : TypedStatements → TypedProcedure)
    (list : Option TypedStatements) (form : Option Form) : Type 0 where
  pub naming : new.naming ≡ old.naming
  pub surroundings : new.surroundings ≡ old.surroundings
  pub next : new.next ≡ old.next
  pub templates : new.templates ≡ old.templates
  pub faults : new.faults ≡ old.faults
  pub ends : Ends left make (finished old) list (finished new) form

-- an external procedure of its parts
abbrev pub external_with : ExternalProcedure → Signature → (automatic : List Template) → (temporaries : ℕ)
    → TypedStatements → TypedProcedure
external_with u signature automatic temporaries list = record {
  is_on_unit = false;
  head = record {
    number = 0;
    statement = u.heading.number;
    variables = automatic;
    temporaries = temporaries;
  };
  parent = None;
  parameters = length signature.parameters;
  function_end = spec.function_end signature.result u.end;
  statements = list;
}

-- a unit of its parts
abbrev pub unit_with : ExternalProcedure → Signature → List Global → (automatic : List Template)
    → (temporaries : ℕ) → TypedStatements → List TypedProcedure → TypedUnit
unit_with u signature globals automatic temporaries list procedures = record {
  name = u.heading.name.name;
  procedure = u.heading.name.name;
  is_main = may_begin u signature;
  signature = signature;
  globals = globals;
  procedures = external_with u signature automatic temporaries list ∷ procedures;
}
