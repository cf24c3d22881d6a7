-- Parts of the meaning under names of their own, as proofs go through them: each by what is there or not.
use Rattle.std.specs.Prelude.{ℕ, ℤ, suc, nat_eq, Bool, not, ◌&&◌, Option, Some, List, [], map, slice_get}
use Rattle.std.specs.Prelude.{if◌then◌else◌}
use Rattle.pli_base.specs.Name.{Name}
use Rattle.pli_base.specs.declared.statement.Condition.{Condition}
use Rattle.pli_program.specs.Kinds.{is_external}
use Rattle.pli_world.specs.Activations.{Head}
use Rattle.pli_world.specs.Areas.{emptied, assigned}
use Rattle.pli_world.specs.Conditions.{Handler, established, signalled}
use Rattle.pli_world.specs.Storage.{Place}
use Rattle.pli_world.specs.Strings.{string_as, subscripted_by}
use Rattle.pli_world.specs.World.{Answer, copied, height_of, line_ended, nothing, subscripted}
use Rattle.pli_type_tree.specs.TypedTree.{TypedExpression, TypedReference, TypedArguments, AllocatedItem}
use Rattle.pli_type_tree.specs.TypedTree.{FreedItem, Callee, TypedProcedure, TypedUnit}
use Rattle.pli_value.specs.Value.{Value}
use Rattle.pli_meaning_tree.specs.Effects.{Label, Effect, Jumps, Flow, Returned, Doing, and_then, ◌>>=◌}
use Rattle.pli_meaning_tree.specs.Effects.{gives}
use Rattle.pli_meaning_tree.specs.Effects.{nothing_done, there, provided, after_flow, each, performed, just}
use Rattle.pli_meaning_tree.specs.Effects.{handled, without_value, unless_full, block_end}
use Rattle.pli_meaning_tree.specs.TreeMeaning.{Calls, as_number, printed_item, or_zero}
use Rattle.pli_meaning_tree.specs.ProgramMeaning.{TypedProgram}
use Rattle.pli_meaning_tree.specs.TreeMeaning.{or_nothing}
use Rattle.pli_meaning_tree.specs.TreeMeaning.{value_of, place_of, called_with, allocates_item, frees_item}
use Rattle.pli_meaning_tree.specs.TreeMeaning.{static_link, activation_of}
use Rattle.pli_meaning_tree.specs.ProgramMeaning.{procedure_run, procedure_called}
use Rattle.pli_meaning_tree.specs.ProgramMeaning.{procedure_in, program_run}

-- one thing is done, and then the next, unless the procedure is being left
abbrev pub followed : Effect Flow → Doing Flow → Effect Flow
followed o go = and_then o (after_flow go)

-- what an operation gives that may raise a condition, after which this result stands
abbrev pub resolved : {A : Type 0} → (raise : Condition → Doing (Option Value)) → (result : A) → Answer A
    → (left : ℕ) → Effect A
resolved raise x o left = handled raise (gives x) o left

-- the value that a function has given
abbrev pub a_value : Option Value → Doing Value
a_value o = there o

-- one of two
abbrev pub chosen : {A : Type 0} → Bool → (if_true if_false : Doing A) → Doing A
chosen b if_true if_false = if b then if_true else if_false

-- a subscript, tested against its bounds
abbrev pub element_of : (low high : ℤ) (multiplier : ℕ) → Place → Value → Doing Place
element_of low high multiplier p v = as_number v >>= λ x. performed (subscripted low high multiplier x p)

-- one of a dimension of the array that a place is
abbrev pub dimension_of : (dimension : ℕ) → Place → Value → Doing Place
dimension_of k p v = as_number v >>= λ x. performed (subscripted_by k x p)

-- a procedure that is no function has given none
abbrev pub no_value : Option Value → Doing Flow
no_value o = without_value nothing_done o

module _ (greatest : ℕ) (call : Calls) where
  -- a line is ended before the first item
  abbrev pub skips : (skip : Bool) → Doing Flow → Doing Flow
  skips skip go w = go (if skip then line_ended w else w)

  -- the one of a number, from 0, of what is kept
  abbrev pub kept : List Value → (number : ℕ) → Doing Value
  kept vs number = there (slice_get vs number)

  -- a string as the one at a place takes it
  abbrev pub fitted_at : Place → Value → Doing Value
  fitted_at p v = or_zero greatest call (string_as p v)

  -- an assignment of an aggregate
  abbrev pub assigns_aggregate : (target source : TypedReference) → Doing Flow
  assigns_aggregate target source =
      do p ← place_of greatest call target; q ← place_of greatest call source; just (copied q p)

  -- an assignment of an area
  abbrev pub assigns_area : (target source : TypedReference) → Doing Flow
  assigns_area target source = do
    p ← place_of greatest call target
    q ← place_of greatest call source
    or_nothing greatest call (assigned q p)

  -- all blocks of an area end
  abbrev pub empties : TypedReference → Doing Flow
  empties target = do p ← place_of greatest call target; just (emptied p)

  -- the items of PUT
  abbrev pub puts : List TypedExpression → Doing Flow
  puts es = each (λ e. value_of greatest call e >>= printed_item) es

  -- a call, of what is no function
  abbrev pub does_call : (callee : Callee) → TypedArguments → Doing Flow
  does_call callee arguments = called_with greatest call callee arguments [] >>= no_value

  -- the items of ALLOCATE
  abbrev pub allocates : (level : ℕ) → List AllocatedItem → Doing Flow
  allocates level items = each (allocates_item greatest call level) items

  -- the items of FREE
  abbrev pub frees : List FreedItem → Doing Flow
  frees items = each (frees_item greatest call) items

  -- SIGNAL
  abbrev pub signals : Condition → Doing Flow
  signals c = or_nothing greatest call (signalled c)

  -- RETURN with a value
  abbrev pub returns_value : (outward : ℕ) → TypedExpression → Doing Flow
  returns_value outward e = do v ← value_of greatest call e; gives (Returned outward (Some v))

-- ON
abbrev pub establishes : (unit block : ℕ) → Condition → (on_unit : ℕ) → Doing Flow
establishes unit block c on_unit = just (established unit (Some block) c on_unit)

-- a jump to a label of the activation so many static links outward
abbrev pub jumps_to : (outward : ℕ) → Label → Doing Flow
jumps_to outward label = performed (height_of outward) >>= λ h. λ w left. Jumps h label w left

-- a BEGIN block is activated
abbrev pub in_block : Head → (link : Option ℕ) → Doing Flow → Doing Flow
in_block head link run = there link >>= λ link. unless_full (activation_of head link [] run block_end)

module _ (greatest : ℕ) (call : Calls) (level unit : ℕ) where
  -- a call of a procedure by its static link
  abbrev pub activates_in : TypedProcedure → (link : Option ℕ) → List Place → Doing (Option Value)
  activates_in f link places = there link >>= λ link. procedure_called greatest call level unit f link places

  -- a call of a procedure of the unit
  abbrev pub activates : Option TypedProcedure → List Place → Doing (Option Value)
  activates f places = there f >>= λ f w. activates_in f (static_link unit f.parent w) places w

  -- a call of the external procedure of the unit
  abbrev pub activates_outer : Option TypedProcedure → List Place → Doing (Option Value)
  activates_outer f places = there f >>= λ f. provided (is_external f.parent) (activates_in f (Some 0) places)

  -- the main procedure
  abbrev pub main_run : Option TypedProcedure → Doing (Option Value)
  main_run f =
      there f >>= λ f. provided (is_external f.parent && (not f.is_on_unit && nat_eq f.parameters 0))
      (procedure_run greatest call level unit f 0 [])

module _ (greatest : ℕ) (call : (unit : ℕ) → TypedUnit → Calls) (level unit : ℕ) where
  -- a call of the external procedure of the unit of a number
  abbrev pub activates_unit : Option TypedUnit → List Place → Doing (Option Value)
  activates_unit u places =
      there u >>= λ u. activates_outer greatest (call unit u) level unit (procedure_in u.procedures 0) places

  -- the main unit runs
  abbrev pub unit_run : Option TypedUnit → Doing (Option Value)
  unit_run u = there u >>= λ u. main_run greatest (call unit u) level unit (procedure_in u.procedures 0)

-- a call of the external procedure of the unit that an entry names
abbrev pub activates_entry : (greatest : ℕ) → List TypedUnit → (call : (unit : ℕ) → TypedUnit → Calls)
    → (level : ℕ) → (unit : Option ℕ) → List Place → Doing (Option Value)
activates_entry greatest us call level unit places =
    there unit >>= λ k. activates_unit greatest call level k (slice_get us k) places

-- an ON-unit runs
abbrev pub runs_block : (greatest : ℕ) → Calls → (level : ℕ) → Handler → Option TypedProcedure
    → Doing (Option Value)
runs_block greatest call level h f =
    there f >>= λ f. unless_full (procedure_run greatest call level h.unit f h.link [])

-- that of a unit of the program
abbrev pub runs_on_unit : (greatest : ℕ) → (call : (unit : ℕ) → TypedUnit → Calls) → (level : ℕ) → Handler
    → Option TypedUnit → Doing (Option Value)
runs_on_unit greatest call level h u =
    there u >>= λ u. runs_block greatest (call h.unit u) level h (procedure_in u.procedures h.block)

-- what a program does with so many steps
abbrev pub run_effect : TypedProgram → (steps : ℕ) → Effect (Option Value)
run_effect p n = program_run p (suc n) nothing n

-- the names of its units
abbrev pub unit_names : List TypedUnit → List Name
unit_names us = map (λ u. u.name) us
