-- Well-typed programs: each procedure of each unit is, the units are linked, and the static
-- variables have room.
use Rattle.std.specs.Prelude.{◌≡◌, ℕ, ◌+◌, ◌≤◌, Bool, true, false, Option, Some, None}
use Rattle.std.specs.Prelude.{List, [], ◌∷◌, ◌++◌, length, map, slice_get}
use Rattle.std.specs.List.{flat_map}
use Rattle.pli_base.specs.Name.{Name}
use Rattle.pli_base.specs.Words.{is_among}
use Rattle.pli_map.specs.Description.{Description}
use Rattle.pli_map.specs.Sizes.{size_of}
use Rattle.pli_machine_step.specs.Runs.{Outcome}
use Rattle.pli_world.specs.Storage.{generation_limit}
use Rattle.pli_map.specs.Variables.{byte_limit}
use Rattle.pli_program.specs.declared.kind.VariableKind.{VariableKind}
use Rattle.pli_program.specs.declared.kind.VariableKind.TheVariants.{Static, Controlled}
use Rattle.pli_type_tree.specs.Templates.{Template, variable_of}
use Rattle.pli_type_tree.specs.Globals.{templates_in}
use Rattle.pli_type_tree.specs.TypedTree.{TypedProcedure, Signature, Global, OwnVariable, ExternalVariable}
use Rattle.pli_type_tree.specs.TypedTree.{EntryPoint, TypedUnit}
use Rattle.pli_type_tree.specs.WellTyped.{AreMade, KnownProcedure, TypingContext, block_of}
use Rattle.pli_type_tree.specs.WellTyped.{AreTypedStatements}
use Rattle.pli_meaning_tree.specs.ProgramMeaning.{TypedProgram, procedure_in, unit_named, whole_run}

-- what a procedure's own statements know
abbrev pub context_in : List Global → (procedures : ℕ → Option KnownProcedure) → KnownProcedure
    → TypedProcedure → TypingContext
context_in globals procedures p f = record {
  globals = globals;
  procedures = procedures;
  blocks = block_of f.head p.parameters f.statements ∷ p.around;
  begins = 0;
  value = p.value;
}

-- a function has an END that must not be reached
abbrev pub HasEnd : (function_end : Option ℕ) → (value : Option Description) → Type 0
HasEnd None None = Unit {0}
HasEnd None (Some d) = ⊥
HasEnd (Some s) value = Unit {0}

-- a procedure is as it is known
pub record IsTypedProcedure (greatest : ℕ) (globals : List Global) (procedures : ℕ → Option KnownProcedure)
    (p : KnownProcedure) (f : TypedProcedure) : Type 0 where
  pub kind : f.is_on_unit ≡ p.is_on_unit
  pub parent : f.parent ≡ p.parent
  pub parameters : f.parameters ≡ length p.parameters
  pub end : HasEnd f.function_end p.value
  pub made : AreMade (map variable_of f.head.variables)
  pub statements : AreTypedStatements greatest (context_in globals procedures p f) f.statements

-- the external procedure is known as one that stands in no block, takes the parameters of a signature and
-- gives its result
abbrev pub IsOuter : Option KnownProcedure → Signature → Type 0
IsOuter o s =
    o ≡ Some (record {
      is_on_unit = false;
      parent = None;
      around = [];
      parameters = s.parameters;
      value = s.result;
    })

-- a unit: each procedure that is known is there; the external one is block 0
pub record IsTypedUnit (greatest : ℕ) (u : TypedUnit) : Type 0 where
  pub procedures : (number : ℕ) → Option KnownProcedure
  pub outer : IsOuter (procedures 0) u.signature
  pub made : AreMade (map variable_of (templates_in u.globals))
  pub typed :
      (number : ℕ) (p : KnownProcedure) → procedures number ≡ Some p
      → (f : TypedProcedure) × (procedure_in u.procedures number ≡ Some f)
      × IsTypedProcedure greatest u.globals procedures p f

-- each unit is
abbrev pub AreTypedUnits : (greatest : ℕ) → List TypedUnit → Type 0
AreTypedUnits n [] = Unit {0}
AreTypedUnits n (u ∷ us) = IsTypedUnit n u × AreTypedUnits n us

-- all globals, in the order of the units
abbrev pub all_globals : List TypedUnit → List Global
all_globals us = flat_map (λ u. u.globals) us

-- the units are linked: each entry names the external procedure of a unit, which takes and gives what the
-- entry says; and where several declare an external variable of one name, they declare it alike
pub record IsLinked (units : List TypedUnit) : Type 0 where
  pub entries :
      (i : ℕ) (name : Name) (signature : Signature)
      → slice_get (all_globals units) i ≡ Some (EntryPoint name signature)
      → (number : ℕ) × (unit_named units name ≡ Some number)
      × ((u : TypedUnit) × (slice_get units number ≡ Some u) × (u.signature ≡ signature))
  pub variables :
      (i j : ℕ) (name : Name) (kind like : VariableKind) (one other : Template)
      → slice_get (all_globals units) i ≡ Some (ExternalVariable name kind one)
      → slice_get (all_globals units) j ≡ Some (ExternalVariable name like other)
      → (kind ≡ like) × (one ≡ other)

-- a generation is made of a STATIC variable; of a CONTROLLED one there is none yet
abbrev pub made_of_kind : VariableKind → Template → List Template
made_of_kind Static t = t ∷ []
made_of_kind Controlled t = []

-- nothing, where the variable was made before
abbrev pub unless : Bool → List Template → List Template
unless true ts = []
unless false ts = ts

-- of which generations are made for globals: an external variable is made once, where it is declared first;
-- those of these names were made before
abbrev pub made_for : (before : List Name) → List Global → List Template
made_for before [] = []
made_for before (OwnVariable kind t ∷ gs) = made_of_kind kind t ++ made_for before gs
made_for before (ExternalVariable name kind t ∷ gs) =
    unless (is_among name before) (made_of_kind kind t) ++ made_for (name ∷ before) gs
made_for before (EntryPoint name signature ∷ gs) = made_for before gs

-- the bytes of variables
abbrev pub bytes_of : List Template → ℕ
bytes_of [] = 0
bytes_of (t ∷ ts) = size_of t.description + bytes_of ts

-- the procedure of the main unit takes nothing and gives nothing
abbrev pub HasMain : Option TypedUnit → Type 0
HasMain None = ⊥
HasMain (Some u) = u.signature ≡ record { parameters = []; result = None }

-- each unit is well typed, they are linked, the static variables have room, and the main
-- unit can begin
pub record WellTyped (p : TypedProgram) : Type 0 where
  pub units : AreTypedUnits p.greatest p.units
  pub linked : IsLinked p.units
  pub bytes : bytes_of (made_for [] (all_globals p.units)) ≤ byte_limit
  pub count : length (made_for [] (all_globals p.units)) ≤ generation_limit
  pub main : HasMain (slice_get p.units p.main)

-- Every run of a well-typed program has a meaning: it is never lost, no bound of the definition is too low,
-- no jump leads out of the program, and it does not end in a fault of the machine.
abbrev pub EveryRunIsMeant : Type 0
EveryRunIsMeant =
    (p : TypedProgram) → WellTyped p → (steps : ℕ) → (o : Outcome) × (whole_run p steps ≡ Some o)
