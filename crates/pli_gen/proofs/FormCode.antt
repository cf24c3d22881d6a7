-- Code of forms in which no other stands: no statement begins in it, and it leads no further than it goes.
use Rattle.std.proofs.Common.{◌≡◌, ℕ, ◌≤◌, List, [], ◌∷◌, ◌++◌, refl, ◌∙◌, arith}
use Rattle.std.specs.List.{AllByRecursion}
use Rattle.pli_program.specs.Program as programs
use Rattle.pli_program.specs.declared.instruction.Instruction.TheVariants as op
use Rattle.pli_type_tree.specs.TypedTree.{Called, AllocatedItem, AllocatesControlled, AllocatesBased, AllocatesInArea}
use Rattle.pli_type_tree.specs.TypedTree.{Form, Null, Assign, AssignString, AssignAggregate, AssignArea, EmptyArea, Put, If, Begin, Group, While, Iterate, Call, Goto, Return, ReturnValue, Stop, On, Revert, Signal, Allocate, Free}
use Rattle.pli_gen_emit.specs.TreeTranslation.{value_code, place_code, skip_code, items_code, conversion_code, allocation_code, allocations_code, place_after}
use Rattle.pli_gen_emit.specs.answers.Pieces.{simple_code}
use Rattle.pli_gen_emit.specs.answers.Instructions.{step_place}
use Rattle.pli_gen.specs.answers.Pieces.{Fits}
use Rattle.pli_gen.proofs.CodeEnds.{grows, both_within}
use Rattle.pli_gen.proofs.SimpleCode.{AllSimple, all_both, simple_both, both_then, value_simple, place_simple, conversion_simple, items_simple, freeings_simple, skip_simple, simple_fits, none_begins, step_place_after}

abbrev Passes : (limit : ℕ) → List programs.Instruction → Type 0
Passes n is = AllByRecursion (Fits n) is × ((p m d : ℕ) → step_place is p m d ≡ d)

simple_passes : (is : List programs.Instruction) (n : ℕ) → AllSimple is → Passes n is
simple_passes is n h = (simple_fits is n h, λ p m d. none_begins is p m d h)

passes_both : (xs ys : List programs.Instruction) (n : ℕ) → Passes n xs → Passes n ys → Passes n (xs ++ ys)
passes_both xs ys n a b = (
  all_both (Fits n) xs ys a.0 b.0,
  λ p m d. step_place_after xs ys p m d ∙ a.1 p m (step_place ys (place_after xs p) m d) ∙ b.1 (place_after xs p) m d,
)

-- an item of ALLOCATE leads to where it begins
allocation_passes : (item : AllocatedItem) (p n : ℕ) → p ≤ n → Passes n (allocation_code item p)
allocation_passes (AllocatesControlled number) p n h = ((tt, tt), λ q m d. refl)
allocation_passes (AllocatesBased t temporary target) p n h =
    let rest = op.TakeTemporary temporary ∷ op.Store ∷ [] in
    simple_passes (allocation_code (AllocatesBased t temporary target) p) n (tt, (tt, simple_both (place_code target) rest (place_simple target) (tt, (tt, tt))))
allocation_passes (AllocatesInArea area t temporary target conversion) p n h =
    let store = conversion_code conversion ++ op.Store ∷ [] in
    let kept = op.SetTemporary temporary ∷ (place_code target ++ (op.TakeTemporary temporary ∷ store)) in
    let stores : AllSimple store = simple_both (conversion_code conversion) (op.Store ∷ []) (conversion_simple conversion) (tt, tt) in
    let keeps : AllSimple kept = (tt, simple_both (place_code target) (op.TakeTemporary temporary ∷ store) (place_simple target) (tt, stores)) in
    passes_both (place_code area) (op.AllocateInArea t p ∷ kept) n (simple_passes (place_code area) n (place_simple area))
    (passes_both (op.AllocateInArea t p ∷ []) kept n ((h, tt), λ q m d. refl) (simple_passes kept n keeps))

allocations_pass : (items : List AllocatedItem) (p n : ℕ) → place_after (allocations_code items p) p ≤ n → Passes n (allocations_code items p)
allocations_pass [] p n h = (tt, λ q m d. refl)
allocations_pass (item ∷ items) p n h =
    let code = allocation_code item p in
    let q = place_after code p in
    let g : p ≤ q = grows code p in
    let w = both_within code (allocations_code items q) p n h in
    let k = w.0 in
    passes_both code (allocations_code items q) n (allocation_passes item p n (omega (arith, g, k))) (allocations_pass items q n w.1)

all_pass : (f : Form) (p n : ℕ) → AllSimple (simple_code f p) → Passes n (simple_code f p)
all_pass f p n h = simple_passes (simple_code f p) n h

form_passes : (f : Form) (p n : ℕ) → place_after (simple_code f p) p ≤ n → Passes n (simple_code f p)
form_passes (Assign target value) p n h = all_pass (Assign target value) p n (both_then (place_code target) (value_code value) op.Store (place_simple target) (value_simple value) tt)
form_passes (AssignString target value) p n h =
    let rest = op.FitToPlace ∷ op.Store ∷ [] in
    all_pass (AssignString target value) p n
    (simple_both (place_code target ++ value_code value) rest (simple_both (place_code target) (value_code value) (place_simple target) (value_simple value)) (tt, (tt, tt)))
form_passes (AssignAggregate target source) p n h = all_pass (AssignAggregate target source) p n (both_then (place_code target) (place_code source) op.Copy (place_simple target) (place_simple source) tt)
form_passes (AssignArea target source) p n h = all_pass (AssignArea target source) p n (both_then (place_code target) (place_code source) op.AssignArea (place_simple target) (place_simple source) tt)
form_passes (EmptyArea target) p n h = all_pass (EmptyArea target) p n (simple_both (place_code target) (op.EmptyArea ∷ []) (place_simple target) (tt, tt))
form_passes (Put skip items) p n h = all_pass (Put skip items) p n (simple_both (skip_code skip) (items_code items) (skip_simple skip) (items_simple items))
form_passes (Call callee arguments) p n h = all_pass (Call callee arguments) p n (value_simple (Called callee arguments))
form_passes (ReturnValue outward value) p n h = all_pass (ReturnValue outward value) p n (simple_both (value_code value) (op.ReturnValue outward ∷ []) (value_simple value) (tt, tt))
form_passes (Begin head statements) p n h = ((tt, tt), λ q m d. refl)
form_passes (Goto outward label) p n h = ((tt, tt), λ q m d. refl)
form_passes (Return outward) p n h = ((tt, tt), λ q m d. refl)
form_passes Stop p n h = ((tt, tt), λ q m d. refl)
form_passes (On condition block) p n h = ((tt, tt), λ q m d. refl)
form_passes (Revert condition) p n h = ((tt, tt), λ q m d. refl)
form_passes (Signal condition) p n h = ((tt, tt), λ q m d. refl)
form_passes (Allocate items) p n h = allocations_pass items p n h
form_passes (Free items) p n h = all_pass (Free items) p n (freeings_simple items)
form_passes Null p n h = (tt, λ q m d. refl)
form_passes (If condition consequence alternative) p n h = (tt, λ q m d. refl)
form_passes (Group statements) p n h = (tt, λ q m d. refl)
form_passes (While condition statements) p n h = (tt, λ q m d. refl)
form_passes (Iterate iteration statements) p n h = (tt, λ q m d. refl)

pub simple_form_fits : (f : Form) (p n : ℕ) → place_after (simple_code f p) p ≤ n → AllByRecursion (Fits n) (simple_code f p)
simple_form_fits f p n h = (form_passes f p n h).0

pub none_in_form : (f : Form) (p m d : ℕ) → step_place (simple_code f p) p m d ≡ d
none_in_form f p m d = (form_passes f p (place_after (simple_code f p) p) (omega arith)).1 p m d
