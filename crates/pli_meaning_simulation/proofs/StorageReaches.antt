-- The machine does what ALLOCATE and FREE mean.
use Rattle.std.specs.Prelude.{◌≡◌, ℕ, zero, suc, true, Some, List, [], ◌∷◌, slice_get, refl}
use Rattle.std.proofs.Common.{◌∙◌, arith}
use Rattle.pli_world.specs.Locating.{freed_by, pointer_made, block_made}
use Rattle.pli_world.specs.Stacks.{generation_stacked, generation_unstacked}
use Rattle.pli_world.specs.World.{World, stored, stepped}
use Rattle.pli_value.specs.Value.{Value}
use Rattle.pli_program.specs.declared.instruction.Instruction.TheVariants as op
use Rattle.pli_program.specs.Program.{UnitCode, Program}
use Rattle.pli_machine_step.specs.Machine.{OfValue, AtPlace, Locals, Frame, At, Goes}
use Rattle.pli_type_tree.specs.Templates.{Template, variable_of}
use Rattle.pli_type_tree.specs.TypedTree.{TypedReference, Conversion, AllocatedItem, AllocatesControlled, AllocatesBased, AllocatesInArea, FreedItem, FreesControlled, FreesBased}
use Rattle.pli_meaning_tree.specs.Effects.{Label, Gives, Flow, Next, Doing, and_then, answered, as_step}
use Rattle.pli_meaning_tree.specs.TreeMeaning.{Calls, value_of, place_of, converted, block_allocated, allocates_item, frees_item}
use Rattle.pli_meaning_tree.specs.Parts.{allocates, frees}
use Rattle.pli_meaning_simulation.specs.CodeStands.{Context, using, HasTemporary, Is, PlaceStands, AllocationStands, AllocationsStand, FreeingStands, FreeingsStand}
use Rattle.pli_meaning_simulation.proofs.ReachesLemmas.{Fine, stays, frame, pushes, flows, Reaches, gives, passes, then_reaches, reach_out, bound, goes_on, answers}
use Rattle.pli_meaning_simulation.proofs.ConditionsReach.{handled_run}
use Rattle.pli_meaning_simulation.proofs.ControlReaches.{step_run}
use Rattle.pli_meaning_simulation.proofs.ConversionsReach.{converted_run}
use Rattle.pli_meaning_simulation.proofs.ExpressionsReach.{CallsRun, value_run, place_run}
use Rattle.pli_meaning_simulation.proofs.FormsReach.{Runs}
use Rattle.pli_meaning_simulation.proofs.TemporariesReach.{using_fine, set_run, taken_run}

module _ (p : Program) (number : ℕ) (u : UnitCode) (at : Label → ℕ) (there : slice_get p.units number ≡ Some u) (call : Calls) (calls_run : CallsRun p number u at call) (level : ℕ) where
  -- what is left to do with a pointer
  abbrev goes_into : TypedReference → Value → Doing Flow
  goes_into target v w left =
      and_then (place_of p.greatest call target w left)
      (λ q w left. and_then (answered (stored q v w) left) (λ _ w left. Gives Next w left))

  -- a generation of a BASED variable, the pointer to which is kept till the target's place is known
  based_run : (template : Template) (t : ℕ) (target : TypedReference) {c : Context} {a b : ℕ} → AllocationStands u (AllocatesBased template t target) c a b
      → (l : Locals) → Fine (using t c) l → (fs : List Frame) (w : World) (left : ℕ)
      → Reaches p number u at (using t c) (At (frame p number u a [] l) fs w left) l (flows p number u b fs) fs (allocates_item p.greatest call level (AllocatesBased template t target) w left)
  based_run template t target {c} {b = b} is l fine fs w left =
      let made = pointer_made (variable_of template) w in
      bound p number u at {to = pushes p number u OfValue is.1.middle [] fs} {to2 = flows p number u b fs} (answered made left) _
      (answers p number u at there (λ v. OfValue v ∷ []) made is.1.fst fine w left refl)
      (λ m k v w left. set_run p number u at there {to = flows p number u b fs} c t v is.1.snd.fst [] m k.fine is.0.room fs w left (goes_into target v w left)
      (λ n kept here. bound p number u at {to2 = flows p number u b fs} (place_of p.greatest call target w left) _
      (place_run p number u at there call calls_run (using (suc t) c) target is.1.snd.snd.fst [] n (using_fine (suc t) (using t c) n kept.fine) fs w left)
      (λ o k q w left. then_reaches p number u at
      (taken_run p number u at there t v is.1.snd.snd.snd.fst (AtPlace q ∷ []) o (k.agree t (omega arith) ∙ here) fs w left)
      (bound p number u at {to2 = flows p number u b fs} (answered (stored q v w) left) _
      (answers p number u at there (λ _. []) (stored q v w) is.1.snd.snd.snd.snd k.fine w left refl)
      (λ m k _ w left. gives p number u at Next w left k.fine (stays p _))))))

  -- and with one that is converted first
  abbrev goes_converted : TypedReference → Conversion → Value → Doing Flow
  goes_converted target conversion v w left =
      and_then (place_of p.greatest call target w left)
      (λ q w left. and_then (converted p.greatest call conversion q v w left)
      (λ x w left. and_then (answered (stored q x w) left) (λ _ w left. Gives Next w left)))

  -- a block of an area; where there is no room, the frame waits at the beginning
  allocated_run : (n : ℕ) (area : TypedReference) (template : Template) {c : Context} {a m b : ℕ} → PlaceStands u area a m → Is u (op.AllocateInArea template a) m b
      → (l : Locals) → Fine c l → (fs : List Frame) (w : World) (left : ℕ)
      → Reaches p number u at c (At (frame p number u a [] l) fs w left) l (pushes p number u OfValue b [] fs) fs (block_allocated p.greatest call n area (variable_of template) w left)
  allocated_run zero area template place is l fine fs w left = record { by = tt }
  allocated_run (suc n) area template {c} {a} {b = b} place is l fine fs w left =
      bound p number u at {to2 = pushes p number u OfValue b [] fs} (place_of p.greatest call area w left) _
      (place_run p number u at there call calls_run c area place [] l fine fs w left)
      (λ m k q w left. handled_run p number u at call.condition calls_run.conditions there a [] true (as_step (block_allocated p.greatest call n area (variable_of template)))
      (λ v. OfValue v ∷ []) (block_made q (variable_of template) w) is k.fine w left refl
      (λ o fine w left. step_run p number u at {to = pushes p number u OfValue b [] fs} (block_allocated p.greatest call n area (variable_of template)) (Goes (frame p number u a [] o) fs (stepped w)) w left
      (λ left. allocated_run n area template place is o fine fs (stepped w) left)))

  -- the pointer to it is kept till the target's place is known
  block_run : (area : TypedReference) (template : Template) (t : ℕ) (target : TypedReference) (conversion : Conversion) {c : Context} {a b : ℕ}
      → AllocationStands u (AllocatesInArea area template t target conversion) c a b
      → (l : Locals) → Fine (using t c) l → (fs : List Frame) (w : World) (left : ℕ)
      → Reaches p number u at (using t c) (At (frame p number u a [] l) fs w left) l (flows p number u b fs) fs
      (allocates_item p.greatest call level (AllocatesInArea area template t target conversion) w left)
  block_run area template t target conversion {c} {b = b} is l fine fs w left =
      bound p number u at {to = pushes p number u OfValue is.1.snd.middle [] fs} {to2 = flows p number u b fs} (block_allocated p.greatest call level area (variable_of template) w left) _
      (allocated_run level area template is.1.fst is.1.snd.fst l fine fs w left)
      (λ m k v w left. set_run p number u at there {to = flows p number u b fs} c t v is.1.snd.snd.fst [] m k.fine is.0.room fs w left (goes_converted target conversion v w left)
      (λ n kept here. bound p number u at {to2 = flows p number u b fs} (place_of p.greatest call target w left) _
      (place_run p number u at there call calls_run (using (suc t) c) target is.1.snd.snd.snd.fst [] n (using_fine (suc t) (using t c) n kept.fine) fs w left)
      (λ o k q w left. then_reaches p number u at
      (taken_run p number u at there t v is.1.snd.snd.snd.snd.fst (AtPlace q ∷ []) o (k.agree t (omega arith) ∙ here) fs w left)
      (bound p number u at {to2 = flows p number u b fs} (converted p.greatest call conversion q v w left) _
      (converted_run p number u at there call calls_run conversion is.1.snd.snd.snd.snd.snd.fst q v [] o k.fine fs w left)
      (λ m k x w left. bound p number u at {to2 = flows p number u b fs} (answered (stored q x w) left) _
      (answers p number u at there (λ _. []) (stored q x w) is.1.snd.snd.snd.snd.snd.snd k.fine w left refl)
      (λ m k _ w left. gives p number u at Next w left k.fine (stays p _)))))))

  -- what runs with a temporary in use runs where it is free
  kept_free : (item : AllocatedItem) (t : ℕ) (c : Context) {a b : ℕ} → HasTemporary t c → (l : Locals) → Fine c l → (fs : List Frame) (w : World) (left : ℕ)
      → Reaches p number u at (using t c) (At (frame p number u a [] l) fs w left) l (flows p number u b fs) fs (allocates_item p.greatest call level item w left)
      → Reaches p number u at c (At (frame p number u a [] l) fs w left) l (flows p number u b fs) fs (allocates_item p.greatest call level item w left)
  kept_free item t c {a} {b} has l fine fs w left runs =
      record {
        by = reach_out p number u at (using t c) c (At (frame p number u a [] l) fs w left) l (flows p number u b fs) fs (allocates_item p.greatest call level item w left)
            (record { size = refl; depth = has.free; bound = omega arith; some = fine.some }) runs.by;
      }

  allocation_run : (item : AllocatedItem) {c : Context} {a b : ℕ} → AllocationStands u item c a b → Runs p number u at there c (allocates_item p.greatest call level item) a b
  allocation_run (AllocatesControlled n) is l fine fs w left =
      bound p number u at (answered (generation_stacked n w) left) _ (answers p number u at there (λ _. []) (generation_stacked n w) is fine w left refl)
      (λ m k _ w left. gives p number u at Next w left k.fine (stays p _))
  allocation_run (AllocatesBased template t target) {c} {a} {b} is l fine fs w left =
      kept_free (AllocatesBased template t target) t c {a = a} {b = b} is.0 l fine fs w left (based_run template t target is l (using_fine t c l fine) fs w left)
  allocation_run (AllocatesInArea area template t target conversion) {c} {a} {b} is l fine fs w left =
      kept_free (AllocatesInArea area template t target conversion) t c {a = a} {b = b} is.0 l fine fs w left
      (block_run area template t target conversion is l (using_fine t c l fine) fs w left)

  pub allocations_run : (items : List AllocatedItem) {c : Context} {a b : ℕ} → AllocationsStand u items c a b → Runs p number u at there c (allocates p.greatest call level items) a b
  allocations_run [] is l fine fs w left = passes p number u at is fine w left
  allocations_run (item ∷ items) is l fine fs w left =
      goes_on p number u at (allocates_item p.greatest call level item w left) _ (allocation_run item is.fst l fine fs w left) (λ m k w left. allocations_run items is.snd m k.fine fs w left)

  freeing_run : (item : FreedItem) {c : Context} {a b : ℕ} → FreeingStands u item a b → Runs p number u at there c (frees_item p.greatest call item) a b
  freeing_run (FreesControlled n) is l fine fs w left =
      bound p number u at (answered (generation_unstacked n w) left) _ (answers p number u at there (λ _. []) (generation_unstacked n w) is fine w left refl)
      (λ m k _ w left. gives p number u at Next w left k.fine (stays p _))
  freeing_run (FreesBased e d) {c} is l fine fs w left =
      bound p number u at (value_of p.greatest call e w left) _ (value_run p number u at there call calls_run c e is.fst [] l fine fs w left)
      (λ m k v w left. bound p number u at (answered (freed_by d v w) left) _ (answers p number u at there (λ _. []) (freed_by d v w) is.snd k.fine w left refl)
      (λ m k _ w left. gives p number u at Next w left k.fine (stays p _)))

  pub freeings_run : (items : List FreedItem) {c : Context} {a b : ℕ} → FreeingsStand u items a b → Runs p number u at there c (frees p.greatest call items) a b
  freeings_run [] is l fine fs w left = passes p number u at is fine w left
  freeings_run (item ∷ items) is l fine fs w left =
      goes_on p number u at (frees_item p.greatest call item w left) _ (freeing_run item is.fst l fine fs w left) (λ m k w left. freeings_run items is.snd m k.fine fs w left)
