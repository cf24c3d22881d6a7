-- What it comes to that globals are made.
use Rattle.std.specs.Prelude.{◌≡◌, ℕ, suc, nat_eq, Option, Some, None, option_map, List, [], ◌∷◌, ◌++◌, map}
use Rattle.std.specs.Prelude.{drop, get_or, if◌then◌else◌, Result, Ok, Err}
use Rattle.std.specs.Map.{lookup}
use Rattle.pli_run.specs.declared.ending.RunError.{RunError}
use Rattle.pli_program.specs.Program.{GlobalCode, global_variable}
use Rattle.pli_machine_step.specs.Runs.{all_statics_made}
use Rattle.pli_map.specs.Variables.{Variable}
use Rattle.pli_program.specs.declared.kind.VariableKind.{VariableKind}
use Rattle.pli_world.specs.World as plain
use Rattle.pli_world.specs.World.{World, Answer, Yields, Raises, Wrong, Static, made_before}
use Rattle.pli_world.specs.World.{with_shared, made_as, made_once, statics_made}
use Rattle.pli_stacks.specs.declared.stacks.Stacks.{Stacks}
use Rattle.pli_store.specs.declared.fault.StoreFault.{StoreFault}
use Rattle.pli_store.specs.declared.fault.StoreFault.TheVariants.{Raised, NoRule, OutOfMemory}
use Rattle.pli_store.specs.declared.storage.Storage.{Storage}
use Rattle.pli_code.specs.CodeTables.{there}
use Rattle.pli_code.specs.Modules.{Member, unit_of}
use Rattle.pli_machine_activations.specs.declared.linked.LinkedGlobal.{LinkedGlobal}
use Rattle.pli_machine_activations.specs.declared.linked.LinkedGlobal.TheVariants as linked
use Rattle.pli_machine_loading.specs.declared.shared.Shared.{Shared}
use Rattle.pli_machine_loading.specs.declared.standing.Standing.{Standing}
use Rattle.pli_machine_loading.specs.declared.standing.Standing.TheVariants.{Lies, Stacked}
use Rattle.pli_machine_loading.specs.views.StandingView.{standing_view}
use Rattle.pli_machine_activations.specs.views.TableView.{statics_from, all_statics, entry_in}
use Rattle.pli_machine_activations.specs.views.TableView.{entry_of, AreLinked}
use Rattle.pli_machine_activations.specs.answers.Making.{EndsAs, first_world}

-- it ends in some world in which nothing is printed and no activation is there
pub record EndsFirst (whole : Answer Unit) (e : RunError) : Type 0 where
  pub storage : Storage
  pub stacks : Stacks
  pub statics : List Static
  pub ends : whole ≡ Raises e (first_world storage stacks statics)

-- such an end by a fault of the storage; where memory is wanting there is no answer
abbrev pub EndsEarlier : StoreFault → (whole : Answer Unit) → Type 0
EndsEarlier (Raised e) whole = EndsFirst whole e
EndsEarlier NoRule whole = whole ≡ Wrong
EndsEarlier OutOfMemory whole = Unit {0}

-- the world with what units share, and with these variables
abbrev pub world_at : Shared → List Static → World
world_at s statics = first_world s.storage s.stacks statics

-- a variable is made in the world with these, and stands so; or it ends
abbrev pub MadeAs : VariableKind → Variable → (old new : Shared) → List Static → Result Standing StoreFault
    → Type 0
MadeAs kind v old new statics (Ok s) =
    made_as kind v (world_at old statics) ≡ Yields (standing_view s) (world_at new statics)
MadeAs kind v old new statics (Err fault) =
    EndsAs fault (made_as kind v (world_at old statics)) (world_at new statics)

-- a variable is there before the program begins, if it is one: it was made before, and stands so, or it is
-- made in the world with these
abbrev pub Placed : VariableKind → Option Variable → (before : Option plain.Standing) → (old new : Shared)
    → List Static → Result (Option Standing) StoreFault → Type 0
Placed kind (Some v) before old new statics (Ok (Some s)) =
    made_once kind v before (world_at old statics) ≡ Yields (standing_view s) (world_at new statics)
Placed kind None before old new statics (Ok None) = world_at new statics ≡ world_at old statics
Placed kind (Some v) before old new statics (Err fault) =
    EndsAs fault (made_once kind v before (world_at old statics)) (world_at new statics)
Placed kind v before old new statics result = ⊥

-- external variables that were made already, by their numbers
abbrev pub AreKnown : Shared → (externals : List (ℕ × plain.Standing)) → Type 0
AreKnown s externals =
    (number : ℕ)
    → lookup (nat_eq number) externals ≡ option_map standing_view (get_or s.externals.items number None)

-- a variable is there, and known, if units know it by a number
abbrev pub KnownAt : (external : Option ℕ) → Shared → (externals : List (ℕ × plain.Standing))
    → Result (Option Standing) StoreFault → Type 0
KnownAt external s externals (Ok (Some p)) = AreKnown s (with_shared external (standing_view p) externals)
KnownAt external s externals (Ok None) = AreKnown s externals
KnownAt external s externals (Err fault) = Unit {0}

-- a variable that units know by this, if they share it, is there, and its number is known
pub record PlacedKnown (kind : VariableKind) (v : Option Variable) (external : Option ℕ) (old new : Shared)
    (statics : List Static) (externals : List (ℕ × plain.Standing))
    (result : Result (Option Standing) StoreFault) : Type 0 where
  pub placed : Placed kind v (made_before nat_eq external externals) old new statics result
  pub known : KnownAt external new externals result

-- where the external variable of a number stands is noted
abbrev pub IsNoted : (number : ℕ) → Standing → (old new : List (Option Standing)) → Type 0
IsNoted number s old new =
    (other : ℕ) → get_or new other None ≡ (if nat_eq other number then Some s else get_or old other None)

-- the next link is taken, if there is one
abbrev pub LinkTaken : List ℕ → (old new : ℕ) → Option ℕ → Type 0
LinkTaken links old new None = (drop old links ≡ []) × (new ≡ old)
LinkTaken links old new (Some link) = drop old links ≡ link ∷ drop new links

-- a variable that stands so as a global
abbrev pub global_of : Standing → LinkedGlobal
global_of (Lies place) = linked.Variable place
global_of (Stacked stack) = linked.ControlledVariable stack

-- one that stands so, if there is one
abbrev pub as_global : Result (Option Standing) StoreFault → Result (Option LinkedGlobal) StoreFault
as_global (Ok (Some s)) = Ok (Some (global_of s))
as_global (Ok None) = Ok None
as_global (Err fault) = Err fault

-- the number of the next global after this one
abbrev pub number_after : (number : ℕ) → Option LinkedGlobal → ℕ
number_after number None = number
number_after number (Some g) = suc number

-- the next of these globals of a unit is linked; those that are left, and which external variables are made
-- then
pub record NextLinked (unit number : ℕ) (statics : List Static) (externals : List (ℕ × plain.Standing))
    (globals left : List GlobalCode) (old new : Shared) (g : Option LinkedGlobal) : Type 0 where
  pub after : List (ℕ × plain.Standing)
  pub made :
      statics_made nat_eq unit number (map global_variable globals) externals
      (world_at old statics)
      ≡ statics_made nat_eq unit (number_after number g) (map global_variable left) after
      (world_at new (statics ++ statics_from unit number (there g)))
  pub same : map entry_in globals ≡ map entry_of (there g) ++ map entry_in left
  pub known : AreKnown new after

-- or the storage has no room
abbrev pub Links : (unit number : ℕ) (statics : List Static) (externals : List (ℕ × plain.Standing))
    (globals left : List GlobalCode) (old new : Shared) → Result (Option LinkedGlobal) StoreFault → Type 0
Links unit number statics externals globals left old new (Ok g) =
    NextLinked unit number statics externals globals left old new g
Links unit number statics externals globals left old new (Err fault) =
    EndsAs fault
    (statics_made nat_eq unit number (map global_variable globals) externals
    (world_at old statics))
    (world_at new statics)

-- all globals of a unit are linked, in the world with the variables of those before
pub record UnitLinked (unit : ℕ) (globals : List GlobalCode) (statics : List Static)
    (externals : List (ℕ × plain.Standing)) (old new : Shared) (table : List LinkedGlobal) : Type 0 where
  pub after : List (ℕ × plain.Standing)
  pub made :
      statics_made nat_eq unit 0 (map global_variable globals) externals (world_at old statics)
      ≡ Yields after (world_at new (statics ++ statics_from unit 0 table))
  pub same : map entry_in globals ≡ map entry_of table
  pub known : AreKnown new after

-- the globals of a unit are linked, or the storage has no room
abbrev pub LinksUnit : (unit : ℕ) (globals : List GlobalCode) (statics : List Static)
    (externals : List (ℕ × plain.Standing)) (old new : Shared) (table : List LinkedGlobal)
    → Result Unit StoreFault → Type 0
LinksUnit unit globals statics externals old new table (Ok done) =
    UnitLinked unit globals statics externals old new table
LinksUnit unit globals statics externals old new table (Err fault) =
    EndsAs fault
    (statics_made nat_eq unit 0 (map global_variable globals) externals (world_at old statics))
    (world_at new (statics ++ statics_from unit 0 table))

-- and of all units
pub record AllLinked (units : List Member) (old new : Shared) (tables : List (List LinkedGlobal)) : Type 0
  where
    pub made :
        all_statics_made 0 (map unit_of units) [] (world_at old [])
        ≡ Yields tt (world_at new (all_statics 0 tables))
    pub same : AreLinked units tables

-- or the storage has no room
abbrev pub LinksAll : (units : List Member) (old new : Shared) (tables : List (List LinkedGlobal))
    → Result Unit StoreFault → Type 0
LinksAll units old new tables (Ok done) = AllLinked units old new tables
LinksAll units old new tables (Err fault) =
    EndsEarlier fault (all_statics_made 0 (map unit_of units) [] (world_at old []))
