-- Code that depends on its place, one part after the other.
use Rattle.std.proofs.Common.{◌≡◌, ◌<◌, ◌+◌, ◌++◌, ◌∷◌, ℕ, List, length, drop, get_or, ap, ◌∙◌, sym}
use Rattle.std.proofs.lemmas.List.{at_drop_more}
use Rattle.pli_program.specs.Program.{Instruction}
use Rattle.pli_gen_emit.specs.TreeTranslation.{place_after}
use Rattle.pli_gen_emit.specs.answers.Emitting.{Emission, emission, extended, Emits}
use Rattle.pli_gen_emit.specs.declared.emitter.Emitter.{Emitter}
use Rattle.pli_gen_emit.proofs.EmitLemmas.{extended_both, longer, IsAmid}

module _ {X : Type 0} (all : List X → ℕ → List Instruction) (each : X → ℕ → List Instruction)
    (splits : (x : X) (xs : List X) (p : ℕ) → all (x ∷ xs) p ≡ each x p ++ all xs (place_after (each x p) p)) where
  -- one part more
  pub more_placed : (xs : List X) (i : ℕ) (d : X) (old new whole : Emission) → i < length xs
      → new ≡ extended old (each (get_or xs i d) (length old.code))
      → extended old (all (drop i xs) (length old.code)) ≡ whole
      → extended new (all (drop (i + 1) xs) (length new.code)) ≡ whole
  more_placed xs i d old new whole lt added was =
      let p = length old.code in
      let x = get_or xs i d in
      let here = each x p in
      let left = drop (i + 1) xs in
      let rest = all left (place_after here p) in
      let step : extended old (all (drop i xs) p) ≡ extended old (all (x ∷ left) p) = at_drop_more (λ ys. extended old (all ys p)) xs i d lt in
      ap (λ n. extended new (all left n)) (longer old new here added) ∙ ap (λ s. extended s rest) added
      ∙ sym (extended_both old here rest) ∙ ap (extended old) (sym (splits x left p)) ∙ sym step ∙ was

  -- in a loop
  pub placed_amid : (initial now new : Emitter) (xs : List X) (i : ℕ) (d : X) (whole : List Instruction) → i < length xs → d ≡ get_or xs i d
      → Emits now new (each d (length now.code.items))
      → IsAmid initial now (all (drop i xs) (length now.code.items)) whole
      → IsAmid initial new (all (drop (i + 1) xs) (length new.code.items)) whole
  placed_amid initial now new xs i d whole lt read e was = (
    λ h. was.0 (e.0 h),
    λ h. more_placed xs i d (emission now) (emission new) _ lt
        (e.1 h ∙ ap (λ x. extended (emission now) (each x (length now.code.items))) read) (was.1 (e.0 h)),
  )
