-- The machine keeps values in temporaries.
use Rattle.std.specs.Prelude.{◌≡◌, ℕ, zero, suc, ◌<◌, ◌≤◌, Option, Some, List, [], ◌∷◌, length, slice_get, slice_set, if◌then◌else◌, refl}
use Rattle.std.proofs.Common.{ap, ◌∙◌, arith}
use Rattle.std.proofs.lemmas.Bool.{lt-ltb}
use Rattle.pli_world.specs.World.{World}
use Rattle.pli_value.specs.Value.{Value}
use Rattle.pli_program.specs.declared.instruction.Instruction.TheVariants as op
use Rattle.pli_program.specs.Program.{UnitCode, Program}
use Rattle.pli_machine_step.specs.Machine.{Operand, OfValue, Locals, Frame, At, Goes, faulty, taken, resume}
use Rattle.pli_meaning_tree.specs.Effects.{Label, Effect}
use Rattle.pli_meaning_simulation.specs.CodeStands.{Context, using, Is}
use Rattle.pli_meaning_simulation.proofs.ReachesLemmas.{Fine, Kept, Target, WithinContext, Comes, frame, Reaches, then_reaches, keeping, reach_out, goes}

-- what a list has after a change at a place
set_here : (ts : List (Option Value)) (k : ℕ) (x : Option Value) → k < length ts → slice_get (slice_set ts k x) k ≡ Some x
set_here [] k x less = absurd (omega arith)
set_here (t ∷ ts) zero x less = refl
set_here (t ∷ ts) (suc k) x less = set_here ts k x (omega arith)

set_below : (ts : List (Option Value)) (k : ℕ) (x : Option Value) (j : ℕ) → j < k → slice_get (slice_set ts k x) j ≡ slice_get ts j
set_below [] k x j less = refl
set_below (t ∷ ts) zero x j less = absurd (omega arith)
set_below (t ∷ ts) (suc k) x zero less = refl
set_below (t ∷ ts) (suc k) x (suc j) less = set_below ts k x j (omega arith)

set_long : (ts : List (Option Value)) (k : ℕ) (x : Option Value) → length (slice_set ts k x) ≡ length ts
set_long [] k x = refl
set_long (t ∷ ts) zero x = refl
set_long (t ∷ ts) (suc k) x = ap suc (set_long ts k x)

-- a frame's own part with a temporary set
abbrev with_set : (temporary : ℕ) → Value → Locals → Locals
with_set k v l = record { temporaries = slice_set l.temporaries k (Some v); jumps = l.jumps; stamp = l.stamp }

pub using_fine : (n : ℕ) (c : Context) (l : Locals) → Fine c l → Fine (using n c) l
using_fine n c l fine = record { room = fine.room; few = fine.few; some = fine.some }

-- one that is not in use is set
set_kept : (t : ℕ) (c : Context) (v : Value) (m : Locals) → Fine (using t c) m → Kept (using t c) m (with_set t v m)
set_kept t c v m fine =
    record {
      agree = λ k less. set_below m.temporaries t (Some v) k less;
      fine = record { room = set_long m.temporaries t (Some v) ∙ fine.room; few = fine.few; some = fine.some };
    }

module _ (p : Program) (number : ℕ) (u : UnitCode) (at : Label → ℕ) (there : slice_get p.units number ≡ Some u) where
  -- what runs after it has one more in use
  pub set_run : {A : Type 0} {to : Target A} {a b : ℕ} (c : Context) (t : ℕ) (v : Value) → Is u (op.SetTemporary t) a b → (ops : List Operand) (m : Locals)
      → Fine (using t c) m → suc t ≤ c.size → (fs : List Frame) (w : World) (left : ℕ) (o : Effect A)
      → ((n : Locals) → Kept (using t c) m n → slice_get n.temporaries t ≡ Some (Some v) → Reaches p number u at (using (suc t) c) (At (frame p number u b ops n) fs w left) n to fs o)
      → Reaches p number u at (using t c) (At (frame p number u a (OfValue v ∷ ops) m) fs w left) m to fs o
  set_run {to = to} {b = b} c t v is ops m fine room fs w left o run =
      let n = with_set t v m in
      let less : t < length m.temporaries = let z = fine.room in omega arith in
      let kept = set_kept t c v m fine in
      let inner : WithinContext (using (suc t) c) (using t c) = record { size = refl; depth = omega arith; bound = omega arith; some = fine.some } in
      then_reaches p number u at
      (goes p number u at there is (ap (λ y. resume (if y then Goes (frame p number u b ops n) fs w else faulty w) left) (lt-ltb t (length m.temporaries) less)))
      (keeping p number u at kept
      (record { by = reach_out p number u at (using (suc t) c) (using t c) (At (frame p number u b ops n) fs w left) n to fs o inner (run n kept (set_here m.temporaries t (Some v) less)).by }))

  -- what one keeps is taken
  pub taken_run : (t : ℕ) (v : Value) {a b : ℕ} → Is u (op.TakeTemporary t) a b → (ops : List Operand) (l : Locals) → slice_get l.temporaries t ≡ Some (Some v)
      → (fs : List Frame) (w : World) (left : ℕ)
      → Comes p (At (frame p number u a ops l) fs w left) (At (frame p number u b (OfValue v ∷ ops) l) fs w left)
  taken_run t v {a} {b} is ops l keeps fs w left =
      goes p number u at there is (ap (λ o. resume (taken o (frame p number u b ops l) fs w) left) keeps)
