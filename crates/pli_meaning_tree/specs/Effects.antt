-- What doing something comes to, and how one thing is done after another (X3.53). A level bounds the
-- recursion of a definition; the steps left are what the language counts, and go from one thing to the next.
use Rattle.std.specs.Prelude.{ℕ, zero, suc, nat_eq, nat_lt, Bool, ◌&&◌, Option, Some, None}
use Rattle.std.specs.Prelude.{List, [], ◌∷◌, if◌then◌else◌}
use Rattle.pli_base.specs.declared.statement.Condition.{Condition}
use Rattle.pli_run.specs.declared.ending.RunError.{RunError}
use Rattle.pli_run.specs.declared.ending.RunError.TheVariants.{NoReturnedValue, TooManyActivations}
use Rattle.pli_operation.specs.Operations.{is_true}
use Rattle.pli_world.specs.Activations.{activation_limit}
use Rattle.pli_world.specs.Conditions.{condition_of}
use Rattle.pli_world.specs.Ends.{RunEnd}
use Rattle.pli_world.specs.World.{World, Answer, Yields, Raises, Wrong, height, at_statement, stepped}
use Rattle.pli_world.specs.World.{left_by, cleared, error_at}
use Rattle.pli_value.specs.Value.{Value, Bits}

-- a label: the number of its unit, as activations have it, and that of its statement there
pub record Label : Type 0 where
  pub unit : ℕ
  pub number : ℕ

-- it gives a result and leaves so many steps; it jumps to a label of an activation, which is named by its
-- height; it ends the run; it has spent the steps; it has no meaning; or the level was too low for it, which
-- never comes
pub data Effect (A : Type 0) : Type 0 where
  Gives : (result : A) (world : World) (left : ℕ) → Effect A
  Jumps : (activation : ℕ) (label : Label) (world : World) (left : ℕ) → Effect A
  Fails : (ending : RunEnd) (world : World) → Effect A
  Spent : (world : World) → Effect A
  Lost : Effect A
  Short : Effect A

-- how a statement goes on: to the next one; or out of its procedure, with a value if it is a function, once
-- so many BEGIN blocks around it are left
pub data Flow : Type 0 where
  Next : Flow
  Returned : (outward : ℕ) (value : Option Value) → Flow

-- what is done from a world with so many steps left
abbrev pub Doing : Type 0 → Type 0
Doing A = World → (left : ℕ) → Effect A

-- goes on with the result
abbrev pub and_then : {A B : Type 0} → Effect A → (A → Doing B) → Effect B
and_then (Gives x w left) go = go x w left
and_then (Jumps h k w left) go = Jumps h k w left
and_then (Fails e w) go = Fails e w
and_then (Spent w) go = Spent w
and_then Lost go = Lost
and_then Short go = Short

infixl 10 ◌>>=◌
-- one thing is done, and then another with what it has given
abbrev pub ◌>>=◌ : {A B : Type 0} → Doing A → (A → Doing B) → Doing B
go >>= next = λ w left. and_then (go w left) next

-- this is given, and nothing is done
abbrev pub gives : {A : Type 0} → A → Doing A
gives x w left = Gives x w left

-- nothing is done
abbrev pub nothing_done : Doing Flow
nothing_done w left = Gives Next w left

-- what is there; to nothing there is no meaning
abbrev pub there : {A : Type 0} → Option A → Doing A
there None w left = Lost
there (Some x) w left = Gives x w left

-- only where this holds; elsewhere there is no meaning
abbrev pub provided : {A : Type 0} → Bool → Doing A → Doing A
provided holds go w left = if holds then go w left else Lost

-- goes on with the next statement, unless the procedure is being left
abbrev pub after_flow : Doing Flow → Flow → Doing Flow
after_flow go Next w left = go w left
after_flow go (Returned outward v) w left = Gives (Returned outward v) w left

infixl 10 ◌>>◌
-- one thing is done, and then the next, unless the procedure is being left
abbrev pub ◌>>◌ : Doing Flow → Doing Flow → Doing Flow
go >> next = go >>= after_flow next

-- this is done with one thing after the other
abbrev pub each : {X : Type 0} → (X → Doing Flow) → List X → Doing Flow
each go [] = nothing_done
each go (x ∷ xs) = go x >> each go xs

-- what an operation gives that raises no condition; to what is wrong the language gives no meaning
abbrev pub answered : {A : Type 0} → Answer A → (left : ℕ) → Effect A
answered (Yields x w) left = Gives x w left
answered (Raises e w) left = Fails (error_at e w) w
answered Wrong left = Lost

-- that is done
abbrev pub performed : {A : Type 0} → (World → Answer A) → Doing A
performed operation w left = answered (operation w) left

-- that and no more, and then the next statement
abbrev pub just : {A : Type 0} → (World → Answer A) → Doing Flow
just operation = performed operation >>= λ _. nothing_done

-- conditions

-- an ON-unit gives no value, nor does a procedure that is no function; after its return this is done
abbrev pub without_value : {A : Type 0} → (after : Doing A) → Option Value → Doing A
without_value after None w left = after w left
without_value after (Some v) w left = Lost

-- an error ends the run, unless it is a condition, which is raised so; and after that this is done
abbrev pub erring : {A : Type 0} → (raise : Condition → Doing (Option Value)) → (after : Doing A) → RunError
    → Option Condition → Doing A
erring raise after e None w left = Fails (error_at e w) w
erring raise after e (Some c) w left = and_then (raise c w left) (without_value after)

-- what an operation gives that may raise a condition, after which this is done
abbrev pub handled : {A : Type 0} → (raise : Condition → Doing (Option Value)) → (after : Doing A) → Answer A
    → (left : ℕ) → Effect A
handled raise after (Yields x w) left = Gives x w left
handled raise after (Raises e w) left = erring raise after e (condition_of e) w left
handled raise after Wrong left = Lost

-- takes a step, if one is left
abbrev pub as_step : {A : Type 0} → Doing A → Doing A
as_step go w zero = Spent w
as_step go w (suc left) = go (stepped w) left

-- begins a statement, or a turn of a group, which is a step
abbrev pub as_statement : {A : Type 0} → (number : ℕ) → Doing A → Doing A
as_statement s go = as_step (λ w left. go (at_statement s w) left)

-- at a statement, with no step: what belongs to a group after its list has run
abbrev pub back_at : {A : Type 0} → (number : ℕ) → Doing A → Doing A
back_at s go w left = go (at_statement s w) left

-- a condition is a string of bits, and true if one of them is
abbrev pub truth : Value → Doing Bool
truth (Bits bits) w left = Gives (is_true bits) w left
truth v w left = Lost

-- a group's turns: the test; while it holds, the list, then what comes between two turns, and the test again
abbrev pub turns : (level : ℕ) → (test : Doing Bool) → (list between : Doing Flow) → Doing Flow
turns zero test list between w left = Short
turns (suc level) test list between w left =
    (test >>= λ b. if b then list >> (between >> turns level test list between) else nothing_done) w left

-- a jump to a label of the newest activation that a list holds goes on there; the calls that the activation
-- prepares are given up. Any other goes on out
abbrev pub on_jump : (held : Label → Bool) → Effect Flow → (Label → Doing Flow) → Effect Flow
on_jump held (Jumps h k w left) go =
    if nat_eq h (height w) && held k then go k (cleared w) left else Jumps h k w left
on_jump held other go = other

-- a list runs from its front or from a label, and again from a label as often as a jump leads to one that it
-- holds
abbrev pub caught : (level : ℕ) → (held : Label → Bool) → (Option Label → Doing Flow) → Option Label
    → Doing Flow
caught zero held run from w left = Short
caught (suc level) held run from w left =
    on_jump held (run from w left) (λ k. caught level held run (Some k))

-- unless there are as many activations as there may be
abbrev pub unless_full : {A : Type 0} → Doing A → Doing A
unless_full go w left =
    if nat_lt (height w) activation_limit then go w left else Fails (error_at TooManyActivations w) w

-- the newest activation ends; a jump to a label of it is lost, as none of its lists has held it, and any
-- other goes on outside
abbrev pub leaving : {A B : Type 0} → Effect A → (A → Doing B) → Effect B
leaving (Gives x w left) go = go x w left
leaving (Jumps h k w left) go = if nat_eq h (height w) then Lost else Jumps h k (left_by w) left
leaving (Fails e w) go = Fails e w
leaving (Spent w) go = Spent w
leaving Lost go = Lost
leaving Short go = Short

-- a BEGIN block ends after its last statement, or by the RETURN of its procedure
abbrev pub block_end : Flow → Doing Flow
block_end Next w left = Gives Next (left_by w) left
block_end (Returned zero v) w left = Lost
block_end (Returned (suc outward) v) w left = Gives (Returned outward v) (left_by w) left

-- a procedure ends by RETURN, or after its last statement with no value; a function that reaches its END is
-- in error there
abbrev pub procedure_end : (function_end : Option ℕ) → Flow → Doing (Option Value)
procedure_end None Next w left = Gives None (left_by w) left
procedure_end (Some s) Next w left =
    Fails (error_at NoReturnedValue (at_statement s w)) (at_statement s w)
procedure_end function_end (Returned zero v) w left = Gives v (left_by w) left
procedure_end function_end (Returned (suc outward) v) w left = Lost
