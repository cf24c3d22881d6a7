-- Instructions that were emitted, unless memory was wanting.
use Rattle.std.proofs.Common.{◌≡◌, ◌<◌, ◌+◌, ◌++◌, ◌∷◌, [], ℕ, suc, List, false, length, drop, get_or, refl, ap, ◌∙◌, sym, add-one}
use Rattle.std.proofs.lemmas.List.{at_drop_more, length-append}
use Rattle.pli_program.specs.Program.{Instruction}
use Rattle.pli_gen_emit.specs.TreeTranslation.{place_after}
use Rattle.pli_gen_emit.specs.answers.Emitting.{Emission, emission, emitted, with_instruction, extended, Emits}
use Rattle.pli_gen_emit.specs.declared.emitter.Emitter.{Emitter}

-- one part after the other
pub extended_both : (e : Emission) (xs ys : List Instruction) → extended e (xs ++ ys) ≡ extended (extended e xs) ys
extended_both e [] ys = refl
extended_both e (x ∷ xs) ys = extended_both (with_instruction e x) xs ys

-- how far the code goes
pub one_longer : (e : Emission) (i : Instruction) → length (with_instruction e i).code ≡ suc (length e.code)
unfolding with_instruction
one_longer e i = length-append e.code (emitted e.tables i ∷ []) ∙ add-one (length e.code)

pub counted : (e : Emission) (is : List Instruction) → length (extended e is).code ≡ place_after is (length e.code)
counted e [] = refl
counted e (i ∷ is) = counted (with_instruction e i) is ∙ ap (place_after is) (one_longer e i)

pub longer : (old new : Emission) (part : List Instruction) → new ≡ extended old part → length new.code ≡ place_after part (length old.code)
longer old new part is = ap (λ (e : Emission). length e.code) is ∙ counted old part

-- the same instructions in other words
pub emits_as : (old new : Emitter) (part whole : List Instruction) → Emits old new part → part ≡ whole → Emits old new whole
emits_as old new part whole e is = (e.0, λ h. e.1 h ∙ ap (extended (emission old)) is)

pub emits_both : (old mid new : Emitter) (first second : List Instruction) → Emits old mid first → Emits mid new second → Emits old new (first ++ second)
emits_both old mid new first second e f =
    (λ h. e.0 (f.0 h), λ h. f.1 h ∙ ap (λ s. extended s second) (e.1 (f.0 h)) ∙ sym (extended_both (emission old) first second))

pub then_emits : (old mid new : Emitter) (first second whole : List Instruction) → Emits old mid first → Emits mid new second → first ++ second ≡ whole → Emits old new whole
then_emits old mid new first second whole e f is = emits_as old new (first ++ second) whole (emits_both old mid new first second e f) is

-- in a loop: what was emitted so far and what is left come to the whole
abbrev pub IsAmid : (initial now : Emitter) → (left whole : List Instruction) → Type 0
IsAmid initial now left whole =
    (now.tables.lacks_memory ≡ false → initial.tables.lacks_memory ≡ false)
    × (now.tables.lacks_memory ≡ false → extended (emission now) left ≡ extended (emission initial) whole)

pub amid_more : (initial now new : Emitter) (here rest left whole : List Instruction) → Emits now new here → left ≡ here ++ rest
    → IsAmid initial now left whole → IsAmid initial new rest whole
amid_more initial now new here rest left whole e splits was = (
  λ h. was.0 (e.0 h),
  λ h. ap (λ s. extended s rest) (e.1 h) ∙ sym (extended_both (emission now) here rest) ∙ ap (extended (emission now)) (sym splits) ∙ was.1 (e.0 h),
)

-- and the next element
pub amid_next : {X : Type 0} (all : List X → List Instruction) (each : X → List Instruction) (initial now new : Emitter) (xs : List X) (i : ℕ) (d : X) (whole : List Instruction)
    → ((x : X) (ys : List X) → all (x ∷ ys) ≡ each x ++ all ys)
    → i < length xs → d ≡ get_or xs i d → Emits now new (each d) → IsAmid initial now (all (drop i xs)) whole → IsAmid initial new (all (drop (i + 1) xs)) whole
amid_next all each initial now new xs i d whole splits lt read e was =
    amid_more initial now new (each (get_or xs i d)) (all (drop (i + 1) xs)) (all (drop i xs)) whole (emits_as now new (each d) (each (get_or xs i d)) e (ap each read))
    (at_drop_more all xs i d lt ∙ splits (get_or xs i d) (drop (i + 1) xs)) was
