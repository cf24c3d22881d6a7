-- Instructions that halt: the run stops, or a condition is raised.
use Rattle.std.proofs.Common.{◌≡◌, ℕ, Option, Some, None, Result, Err, IfOk, List, refl, sym, ap, subst, ◌∙◌}
use Rattle.pli_base.specs.declared.statement.Condition.{Condition}
use Rattle.pli_run.specs.declared.ending.RunError.{RunError}
use Rattle.pli_program.specs.Program as programs
use Rattle.pli_program.specs.Program.{Program}
use Rattle.std.specs.Prelude.{option_map}
use Rattle.pli_world.specs.Conditions.{condition_of}
use Rattle.pli_world.specs.Ends as end
use Rattle.pli_world.specs.World.{World, Answer}
use Rattle.pli_store.specs.answers.Answered.{Answered}
use Rattle.pli_store.specs.declared.fault.StoreFault.{StoreFault}
use Rattle.pli_store.specs.declared.fault.StoreFault.TheVariants as fault
use Rattle.pli_store.specs.declared.storage.Storage.{Storage}
use Rattle.pli_store.specs.views.StorageView.{SameStorage, storage_view, made_count, with_storage}
use Rattle.pli_machine_step.specs.Machine.{Frame, Move, erring, handled}
use Rattle.pli_machine_activations.specs.declared.machine.Machine.{Machine}
use Rattle.pli_machine_activations.specs.declared.machine.Stop.{Stop}
use Rattle.pli_machine_activations.specs.declared.machine.Stop.TheVariants as stop
use Rattle.pli_machine_activations.specs.views.Image.{Image}
use Rattle.pli_machine_activations.specs.views.MachineView.{Finished, leads}
use Rattle.pli_machine_perform.specs.declared.halting.Halt.{Halt}
use Rattle.pli_machine_perform.specs.views.HaltView.{HaltsAs, DoesIn, DoesFoundIn, halt_of, halted}

pub same_with : (before after : Storage) (w : World) → SameStorage before after → with_storage before w ≡ with_storage after w
same_with before after w same =
    sym
    (ap (λ s. record w { storage = s; made = made_count after }) same.storage
    ∙ ap (λ n. record w { storage = storage_view before; made = n }) same.made)

-- an answer that is a fault, where that may be a condition
module _ (p : Program) (wait : Frame → Frame) (here : Frame) (frames : List Frame) (left : ℕ) where
  erring_halts : (e : RunError) (o : Option Condition) (v : World)
      → leads (erring p e o (wait here) frames v) left ≡ halted p wait left (Some (halt_of e o)) here frames v
  erring_halts e None v = refl
  erring_halts e (Some c) v = refl

  pub answer_halts : {T A : Type 0} (view : T → A) (f : StoreFault) (h : Halt) (before after : Storage) (w other : World) (a : Answer A)
      (go : A → World → Move)
      → HaltsAs f h → SameStorage before after → Answered view (Err f) (with_storage before w) other a
      → leads (handled p (with_storage before w) (wait here) frames a go) left ≡ halted p wait left (Some h) here frames (with_storage after w)
  answer_halts view (fault.Raised e) h before after w other a go halts same is =
      ap (λ b. leads (handled p (with_storage before w) (wait here) frames b go) left) is
      ∙ erring_halts e (condition_of e) (with_storage before w)
      ∙ ap (λ x. halted p wait left (Some x) here frames (with_storage before w)) (sym halts)
      ∙ ap (halted p wait left (Some h) here frames) (same_with before after w same)
  answer_halts view fault.NoRule h before after w other a go halts same is =
      ap (λ b. leads (handled p (with_storage before w) (wait here) frames b go) left) is
      ∙ ap (λ x. halted p wait left (Some x) here frames (with_storage after w)) (sym halts)
  answer_halts view fault.OutOfMemory h before after w other a go halts same is = absurd halts

-- the same in whatever world the answer is given, where nothing was printed between
module _ (p : Program) (wait : Frame → Frame) (here : Frame) (frames : List Frame) (left : ℕ) where
  pub refused_halts : {T A : Type 0} (view : T → A) (f : StoreFault) (h : Halt) (w v other : World) (a : Answer A) (go : A → World → Move)
      → HaltsAs f h → w.output ≡ v.output → w.column ≡ v.column → Answered view (Err f) v other a
      → leads (handled p w (wait here) frames a go) left ≡ halted p wait left (Some h) here frames v
  refused_halts view (fault.Raised e) h w v other a go halts output column is =
      ap (λ b. leads (handled p w (wait here) frames b go) left) is
      ∙ erring_halts p wait here frames left e (condition_of e) v
      ∙ ap (λ x. halted p wait left (Some x) here frames v) (sym halts)
  refused_halts view fault.NoRule h w v other a go halts output column is =
      ap (λ b. leads (handled p w (wait here) frames b go) left) is
      ∙ ap (λ o. Finished (record { output = o; ending = end.MachineFault; column = w.column })) output
      ∙ ap (λ k. Finished (record { output = v.output; ending = end.MachineFault; column = k })) column
      ∙ ap (λ x. halted p wait left (Some x) here frames v) (sym halts)
  refused_halts view fault.OutOfMemory h w v other a go halts output column is = absurd halts

-- an instruction that names an entry of a table does what it does with the entry
pub done_found : {X E : Type 0} (with : X → programs.Instruction) (image : Image) (o : Option X) (x : X) (old new : Machine) (r : Result (Option Stop) E)
    → o ≡ Some x → IfOk r (DoesIn image (with x) old new) → IfOk r (DoesFoundIn image (option_map with o) old new)
done_found with image o x old new r e does = subst (λ o. IfOk r (DoesFoundIn image (option_map with o) old new)) (sym e) does

-- where the table has none, it is a fault
pub done_none : {X : Type 0} (with : X → programs.Instruction) (image : Image) (o : Option X) (m : Machine)
    → o ≡ None → DoesFoundIn image (option_map with o) m m (Some stop.Fault)
done_none with image o m e = subst (λ o. DoesFoundIn image (option_map with o) m m (Some stop.Fault)) (sym e) (λ u put. refl)
