-- The machine does what operations mean that may raise a condition, from what it does where one is raised.
use Rattle.std.specs.Prelude.{◌≡◌, ℕ, Bool, false, Option, Some, None, List, slice_get}
use Rattle.std.proofs.Common.{ap}
use Rattle.pli_base.specs.declared.statement.Condition.{Condition}
use Rattle.pli_run.specs.declared.ending.RunError.{RunError}
use Rattle.pli_world.specs.Conditions.{condition_of, handler}
use Rattle.pli_world.specs.World.{World, Answer, Yields, Raises, Wrong}
use Rattle.pli_value.specs.Value.{Value}
use Rattle.pli_program.specs.Program.{Instruction, UnitCode, Program}
use Rattle.pli_machine_step.specs.Machine as machine
use Rattle.pli_machine_step.specs.Machine.{Operand, Locals, Frame, At, Goes, raises, act, resume}
use Rattle.pli_meaning_tree.specs.Effects as effect
use Rattle.pli_meaning_tree.specs.Effects.{Label, Gives, Doing, without_value}
use Rattle.pli_meaning_tree.specs.Parts.{resolved}
use Rattle.pli_meaning_simulation.specs.CodeStands.{Context, Is}
use Rattle.pli_meaning_simulation.proofs.ReachesLemmas.{Fine, Kept, Target, stays, waiting, frame, resumes, Reaches, gives, then_reaches, bound, goes}

module _ (p : Program) (number : ℕ) (u : UnitCode) (at : Label → ℕ) where
  -- a condition that is raised does what it means, while a frame of the unit waits
  abbrev pub RaisesRun : (Condition → Doing (Option Value)) → Type 0
  RaisesRun raise =
      (k : Condition) (c : Context) (b : ℕ) (ops : List Operand) (l : Locals) (again : Bool) (fs : List Frame) → Fine c l → (w : World) (left : ℕ)
      → Reaches p number u at c (resume (raises p k (handler k w.activations) (waiting p number u b ops l again) fs w) left) l (resumes p number u b ops again fs) fs (raise k w left)

  module _ (raise : Condition → Doing (Option Value)) (raises_run : RaisesRun raise) where
    -- an error ends the run, or is raised as a condition, and then the frame goes on
    erring_run : {A : Type 0} {c : Context} (b : ℕ) (ops : List Operand) (again : Bool) {l : Locals} {to : Target A} (after : Doing A) (e : RunError) (k : Option Condition) → Fine c l
        → (fs : List Frame) (w : World) (left : ℕ)
        → ((m : Locals) → Fine c m → (w : World) (left : ℕ) → Reaches p number u at c (resumes p number u b ops again fs m None w left) m to fs (after w left))
        → Reaches p number u at c (resume (machine.erring p e k (waiting p number u b ops l again) fs w) left) l to fs (effect.erring raise after e k w left)
    erring_run b ops again after e None fine fs w left f = record { by = stays p _ }
    erring_run {c = c} b ops again {l} {to} after e (Some k) fine fs w left f =
        bound p number u at {to = resumes p number u b ops again fs} {to2 = to} (raise k w left) (without_value after) (raises_run k c b ops l again fs fine w left) later
      where
        later : (m : Locals) → Kept c l m → (x : Option Value) (w : World) (left : ℕ) → Reaches p number u at c (resumes p number u b ops again fs m x w left) m to fs (without_value after x w left)
        later m kept None w left = f m kept.fine w left
        later m kept (Some v) w left = record { by = tt }

    module _ (there : slice_get p.units number ≡ Some u) where
      -- an instruction that asks for an operation which may raise a condition; the frame waits elsewhere
      pub handled_run : {A : Type 0} {c : Context} {i : Instruction} {a b : ℕ} {old : List Operand} {l : Locals} {fs : List Frame} (place : ℕ) (ops : List Operand) (again : Bool) (after : Doing A)
          (f : A → List Operand) (o : Answer A) → Is u i a b → Fine c l → (w : World) (left : ℕ)
          → act p u (Some i) (frame p number u b old l) fs w ≡ machine.handled p w (waiting p number u place ops l again) fs o (λ x v. Goes (frame p number u b (f x) l) fs v)
          → ((m : Locals) → Fine c m → (w : World) (left : ℕ)
          → Reaches p number u at c (resumes p number u place ops again fs m None w left) m (λ n x w left. At (frame p number u b (f x) n) fs w left) fs (after w left))
          → Reaches p number u at c (At (frame p number u a old l) fs w left) l (λ m x w left. At (frame p number u b (f x) m) fs w left) fs (effect.handled raise after o left)
      handled_run place ops again after f (Yields x v) is fine w left h later = gives p number u at x v left fine (goes p number u at there is (ap (λ m. resume m left) h))
      handled_run {b = b} {fs = fs} place ops again after f (Raises e v) is fine w left h later =
          then_reaches p number u at (goes p number u at there is (ap (λ m. resume m left) h))
          (erring_run place ops again {to = λ m x w left. At (frame p number u b (f x) m) fs w left} after e (condition_of e) fine fs v left later)
      handled_run place ops again after f Wrong is fine w left h later = record { by = tt }

      -- the frame waits after the instruction, as if the operation had given this result
      pub resolved_run : {A : Type 0} {c : Context} {i : Instruction} {a b : ℕ} {old : List Operand} {l : Locals} {fs : List Frame} (f : A → List Operand) (x : A) (o : Answer A) → Is u i a b → Fine c l
          → (w : World) (left : ℕ)
          → act p u (Some i) (frame p number u b old l) fs w ≡ machine.handled p w (frame p number u b (f x) l) fs o (λ y v. Goes (frame p number u b (f y) l) fs v)
          → Reaches p number u at c (At (frame p number u a old l) fs w left) l (λ m y w left. At (frame p number u b (f y) m) fs w left) fs (resolved raise x o left)
      resolved_run {b = b} f x o is fine w left h =
          handled_run b (f x) false (λ w left. Gives x w left) f o is fine w left h (λ m fine w left. gives p number u at x w left fine (stays p _))
