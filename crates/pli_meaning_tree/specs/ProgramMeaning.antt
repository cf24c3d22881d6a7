-- Meaning of whole programs: what calls and conditions run, and what a run is for a number of steps (own).
use Rattle.std.specs.Prelude.{ℕ, zero, suc, nat_eq, not, ◌&&◌, Option}
use Rattle.std.specs.Prelude.{Some, None}
use Rattle.std.specs.Prelude.{option_map}
use Rattle.std.specs.Prelude.{List, [], ◌∷◌, length, map, slice_get, if◌then◌else◌}
use Rattle.std.specs.List.{find}
use Rattle.pli_base.specs.Name.{Name}
use Rattle.pli_base.specs.declared.statement.Condition.{Condition}
use Rattle.pli_run.specs.declared.ending.Ending.{Ending}
use Rattle.pli_run.specs.declared.ending.Ending.TheVariants as message
use Rattle.pli_program.specs.Kinds.{is_external}
use Rattle.pli_machine_step.specs.Outcomes.{Outcome, outcome_of}
use Rattle.pli_world.specs.Conditions.{Handler, error_of, handler}
use Rattle.pli_world.specs.Ends.{Ended, OutOfSteps, told}
use Rattle.pli_world.specs.Storage.{Place}
use Rattle.pli_world.specs.World.{Standing, World, Answer, Yields, further, nothing}
use Rattle.pli_world.specs.World.{error_at}
use Rattle.pli_world.specs.World.{statics_made}
use Rattle.pli_base.specs.Words.{same_name}
use Rattle.pli_type_tree.specs.ProgramVariables.{global_variable}
use Rattle.pli_type_tree.specs.TypedTree.{TypedProcedure, Callee, OfBlock, OfEntry, Global}
use Rattle.pli_type_tree.specs.TypedTree.{EntryPoint, TypedUnit}
use Rattle.pli_value.specs.Value.{Value}
use Rattle.pli_meaning_tree.specs.Effects.{Effect, Gives, Fails, Spent, Short}
use Rattle.pli_meaning_tree.specs.Effects.{Doing, ◌>>=◌, there}
use Rattle.pli_meaning_tree.specs.Effects.{provided, performed}
use Rattle.pli_meaning_tree.specs.Effects.{as_step}
use Rattle.pli_meaning_tree.specs.Effects.{unless_full}
use Rattle.pli_meaning_tree.specs.Effects.{procedure_end}
use Rattle.pli_meaning_tree.specs.TreeMeaning.{Calls, head_in, static_link, activation_of, does_list}

-- a program: its units, and which of them is the main one; no number has more binary digits than the greatest
-- precision
pub record TypedProgram : Type 0 where
  pub units : List TypedUnit
  pub main : ℕ
  pub greatest : ℕ

-- procedures

-- of a unit of a number
module _ (greatest : ℕ) (call : Calls) (level unit : ℕ) where
  -- an activation of a procedure is a step, which is taken before its variables are made
  abbrev pub procedure_run : TypedProcedure → (link : ℕ) → List Place → Doing (Option Value)
  procedure_run f link places =
      as_step
      (activation_of (head_in unit f.head) link places
      (does_list greatest call unit level f.head.number f.statements) (procedure_end f.function_end))

  -- a call of what is no ON-unit, with as many arguments as there are parameters; the limit of activations is
  -- tested before the step
  abbrev pub procedure_called : TypedProcedure → (link : ℕ) → List Place → Doing (Option Value)
  procedure_called f link places =
      provided (not f.is_on_unit && nat_eq f.parameters (length places))
      (unless_full (procedure_run f link places))

-- the procedure of a block
abbrev pub procedure_in : List TypedProcedure → (block : ℕ) → Option TypedProcedure
procedure_in fs block = find (λ f. nat_eq f.head.number block) fs

-- the number of the unit whose external procedure has a name: of several, the first
abbrev pub unit_named : List TypedUnit → (procedure : Name) → Option ℕ
unit_named [] name = None
unit_named (u ∷ us) name =
    if same_name u.procedure name then Some 0 else option_map suc (unit_named us name)

-- the number of the unit whose external procedure an entry names
abbrev pub entry_unit : List TypedUnit → Option Global → Option ℕ
entry_unit us (Some (EntryPoint name signature)) = unit_named us name
entry_unit us g = None

-- in a program of units, whose calls do so at a level
module _ (greatest : ℕ) (us : List TypedUnit) (call : (unit : ℕ) → TypedUnit → Calls) (level : ℕ) where
  -- a call that stands in the unit of a number: of a procedure of the unit, by its static link; or of the
  -- external procedure of the unit that an entry names, which is block 0 there and stands in no block
  abbrev pub called_in : (unit : ℕ) → TypedUnit → Callee → List Place → Doing (Option Value)
  called_in unit u (OfBlock block) places = do
    f ← there (procedure_in u.procedures block)
    link ← λ w. there (static_link unit f.parent w) w
    procedure_called greatest (call unit u) level unit f link places
  called_in unit u (OfEntry number) places = do
    k ← there (entry_unit us (slice_get u.globals number))
    v ← there (slice_get us k)
    f ← there (procedure_in v.procedures 0)
    provided (is_external f.parent) (procedure_called greatest (call k v) level k f 0 places)

  -- a condition that is raised: the ON-unit that takes it runs, as an activation of its own, within the one
  -- that established it; without one the run ends by its error
  abbrev pub raised_in : Condition → Option Handler → Doing (Option Value)
  raised_in c None = λ w left. Fails (error_at (error_of c) w) w
  raised_in c (Some h) = do
    u ← there (slice_get us h.unit)
    f ← there (procedure_in u.procedures h.block)
    unless_full (procedure_run greatest (call h.unit u) level h.unit f h.link [])

-- the calls and the conditions that stand in a unit, at a level: what is called inside may do is the level
-- below
abbrev pub calls : (greatest : ℕ) → List TypedUnit → (level unit : ℕ) → TypedUnit → Calls
calls greatest us zero unit u =
    record { procedure = λ callee places w left. Short; condition = λ c w left. Short }
calls greatest us (suc level) unit u =
    record {
      procedure = called_in greatest us (calls greatest us level) level unit u;
      condition = λ c w left. raised_in greatest us (calls greatest us level) level c
          (handler c w.activations) w left;
    }

-- programs

-- the static variables of units, numbered from one on, where these
-- external ones are there already
abbrev pub all_made : (unit : ℕ) → List TypedUnit → (shared : List (Name × Standing)) → World → Answer Unit
all_made unit [] shared w = Yields tt w
all_made unit (u ∷ us) shared w =
    further (statics_made same_name unit 0 (map global_variable u.globals) shared w)
    (λ shared w. all_made (suc unit) us shared w)

-- what a program does at a level: the variables that are made once, and then block 0 of the main unit, a
-- procedure that has no parameters and stands in no block
abbrev pub program_run : TypedProgram → (level : ℕ) → Doing (Option Value)
program_run p level = do
  made ← performed (all_made 0 p.units [])
  u ← there (slice_get p.units p.main)
  f ← there (procedure_in u.procedures 0)
  provided (is_external f.parent && (not f.is_on_unit && nat_eq f.parameters 0))
      (procedure_run p.greatest (calls p.greatest p.units level p.main u) level p.main f 0 [])

-- an outcome that a program may have: it does not end by the machine's fault
abbrev pub unless_fault : Ending → Outcome → Option Outcome
unless_fault message.MachineFault o = None
unless_fault e o = Some o

-- how a run has ended, if it has a meaning: it gives no value, it does not jump out of the program, it is not
-- lost, and the level was high enough
abbrev pub ran : (names : List Name) → Effect (Option Value) → Option Outcome
ran names (Gives None w left) = Some (outcome_of names Ended w)
ran names (Fails e w) = unless_fault (told names e) (outcome_of names e w)
ran names (Spent w) = Some (outcome_of names OutOfSteps w)
ran names other = None

-- Whole run, at one level more than steps: the output, the ending and the next column
abbrev pub whole_run : TypedProgram → (steps : ℕ) → Option Outcome
whole_run p n = ran (map (λ u. u.name) p.units) (program_run p (suc n) nothing n)
