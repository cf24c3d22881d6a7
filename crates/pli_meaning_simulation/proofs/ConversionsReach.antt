-- The machine does what conversions mean, on a value above a place and other operands.
use Rattle.std.specs.Prelude.{◌≡◌, ℕ, pos, Some, List, [], ◌∷◌, slice_get, refl}
use Rattle.std.proofs.Common.{subst}
use Rattle.pli_world.specs.Locating.{offset_made, pointer_within}
use Rattle.pli_world.specs.Storage.{Place}
use Rattle.pli_world.specs.Strings.{string_as}
use Rattle.pli_world.specs.World.{World, calculation}
use Rattle.pli_value.specs.Value.{Value, Number}
use Rattle.pli_program.specs.Program.{UnitCode, Program}
use Rattle.pli_machine_step.specs.Machine.{Operand, OfValue, AtPlace, Locals, Frame, At}
use Rattle.pli_type_tree.specs.TypedOperations.{comes_to}
use Rattle.pli_type_tree.specs.TypedTree.{TypedOperation, Conversion, ByOperations, AsPointerIn, AsOffsetIn, ToPlace}
use Rattle.pli_meaning_tree.specs.Effects.{Label}
use Rattle.pli_meaning_tree.specs.TreeMeaning.{Calls, place_of, operated_by, converted}
use Rattle.pli_meaning_tree.specs.Parts.{resolved, fitted_at}
use Rattle.pli_program.specs.declared.instruction.Instruction.TheVariants as op
use Rattle.pli_meaning_simulation.specs.CodeStands.{Context, Is, OperationsStand, ConversionStands}
use Rattle.pli_meaning_simulation.proofs.ReachesLemmas.{Fine, Comes, stays, frame, pushes, Reaches, gives, bound, answers}
use Rattle.pli_meaning_simulation.proofs.ConditionsReach.{resolved_run}
use Rattle.pli_meaning_simulation.proofs.ExpressionsReach.{CallsRun, operation_run, place_run}

module _ (p : Program) (number : ℕ) (u : UnitCode) (at : Label → ℕ) (there : slice_get p.units number ≡ Some u) (call : Calls) (calls_run : CallsRun p number u at call) where
  operations_run : (operations : List TypedOperation) {a b : ℕ} → OperationsStand u operations a b → {c : Context} (v : Value) (ops : List Operand) (l : Locals) → Fine c l → (fs : List Frame) (w : World) (left : ℕ)
      → Reaches p number u at c (At (frame p number u a (OfValue v ∷ ops) l) fs w left) l (pushes p number u OfValue b ops fs) fs (operated_by p.greatest call operations v w left)
  operations_run [] {a} {b} is {c} v ops l fine fs w left =
      gives p number u at v w left fine
      (subst (λ m. Comes p (At (frame p number u a (OfValue v ∷ ops) l) fs w left) (At (frame p number u m (OfValue v ∷ ops) l) fs w left)) is (stays p _))
  operations_run (operation ∷ more) is {c} v ops l fine fs w left =
      bound p number u at (resolved call.condition (Number (pos 0)) (calculation (comes_to p.greatest operation (v ∷ [])) w) left) _
      (operation_run p number u at there call calls_run c operation is.fst (v ∷ []) ops l fine fs w left)
      (λ m k x w left. operations_run more is.snd x ops m k.fine fs w left)

  -- a string is fitted to the place below it
  pub fitted_run : {a b : ℕ} → Is u op.FitToPlace a b → {c : Context} (q : Place) (v : Value) (ops : List Operand) (l : Locals) → Fine c l → (fs : List Frame) (w : World) (left : ℕ)
      → Reaches p number u at c (At (frame p number u a (OfValue v ∷ AtPlace q ∷ ops) l) fs w left) l (pushes p number u OfValue b (AtPlace q ∷ ops) fs) fs (fitted_at p.greatest call q v w left)
  fitted_run is q v ops l fine fs w left =
      resolved_run p number u at call.condition calls_run.conditions there (λ x. OfValue x ∷ AtPlace q ∷ ops) (Number (pos 0)) (string_as q v w) is fine w left refl

  pub converted_run : (conversion : Conversion) {a b : ℕ} → ConversionStands u conversion a b → {c : Context} (q : Place) (v : Value) (ops : List Operand) (l : Locals) → Fine c l
      → (fs : List Frame) (w : World) (left : ℕ)
      → Reaches p number u at c (At (frame p number u a (OfValue v ∷ AtPlace q ∷ ops) l) fs w left) l (pushes p number u OfValue b (AtPlace q ∷ ops) fs) fs
      (converted p.greatest call conversion q v w left)
  converted_run (ByOperations operations) is q v ops l fine fs w left = operations_run operations is v (AtPlace q ∷ ops) l fine fs w left
  converted_run (AsPointerIn area) is {c} q v ops l fine fs w left =
      bound p number u at (place_of p.greatest call area w left) _ (place_run p number u at there call calls_run c area is.fst (OfValue v ∷ AtPlace q ∷ ops) l fine fs w left)
      (λ m k x w left. answers p number u at there (λ x. OfValue x ∷ AtPlace q ∷ ops) (pointer_within x v w) is.snd k.fine w left refl)
  converted_run (AsOffsetIn area) is {c} q v ops l fine fs w left =
      bound p number u at (place_of p.greatest call area w left) _ (place_run p number u at there call calls_run c area is.fst (OfValue v ∷ AtPlace q ∷ ops) l fine fs w left)
      (λ m k x w left. answers p number u at there (λ x. OfValue x ∷ AtPlace q ∷ ops) (offset_made x v w) is.snd k.fine w left refl)
  converted_run (ToPlace operations) is q v ops l fine fs w left =
      bound p number u at (operated_by p.greatest call operations v w left) _ (operations_run operations is.fst v (AtPlace q ∷ ops) l fine fs w left)
      (λ m k x w left. fitted_run is.snd q x ops m k.fine fs w left)
