-- Scalars keep their values where their bytes stay.
use Rattle.std.proofs.Common.{◌≡◌, ℕ, ◌+◌, ◌≤◌, List, [], ◌∷◌, map, take, drop, refl, ap, sym, ◌∙◌, arith}
use Rattle.std.proofs.lemmas.List.{drop-drop}
use Rattle.pli_map.specs.Parts.{PlacedPart, moved}
use Rattle.pli_map.specs.Sizes.{size_of}
use Rattle.pli_value.specs.Value.{Value}
use Rattle.pli_bytes.specs.Contents.{value_of, value_in}
use Rattle.pli_bytes.proofs.PutBytes.{same_front, same_back}
use Rattle.pli_bytes.proofs.Rising.{Rise, rise_ends}

-- what bytes hold at places
abbrev pub values_at : List PlacedPart → List ℕ → List Value
values_at ss bytes = map (value_in bytes) ss

-- those that end no later than a byte, where no byte before it changes
pub kept_before : (low : ℕ) (ss : List PlacedPart) (high : ℕ) (xs ys : List ℕ) → Rise low ss high → take high xs ≡ take high ys → values_at ss xs ≡ values_at ss ys
kept_before low [] high xs ys h same = refl
kept_before low (s ∷ ss) high xs ys h same =
    let size = size_of s.description in
    let one = ap (value_of s.description) (same_front s.offset size high xs ys (rise_ends (s.offset + size) ss high h.1) same) in
    ap (λ v. v ∷ values_at ss xs) one ∙ ap (λ vs. value_in ys s ∷ vs) (kept_before (s.offset + size) ss high xs ys h.1 same)

-- those that begin no earlier than a byte, where no byte from it on changes
pub kept_after : (low first : ℕ) (ss : List PlacedPart) (high : ℕ) (xs ys : List ℕ) → low ≤ first → Rise first ss high → drop low xs ≡ drop low ys
    → values_at ss xs ≡ values_at ss ys
kept_after low first [] high xs ys before h same = refl
kept_after low first (s ∷ ss) high xs ys before h same =
    let size = size_of s.description in
    let one = ap (value_of s.description) (same_back s.offset size low xs ys (omega (arith, before, h.0)) same) in
    ap (λ v. v ∷ values_at ss xs) one ∙ ap (λ vs. value_in ys s ∷ vs) (kept_after low (s.offset + size) ss high xs ys (omega (arith, before, h.0)) h.1 same)

-- places that are moved, and bytes that begin so much later
pub values_moved : (m : ℕ) (ss : List PlacedPart) (bytes : List ℕ) → values_at (map (moved m) ss) bytes ≡ values_at ss (drop m bytes)
values_moved m [] bytes = refl
values_moved m (s ∷ ss) bytes =
    let size = size_of s.description in
    ap (λ b. value_of s.description (take size b) ∷ values_at (map (moved m) ss) bytes) (sym (drop-drop s.offset m bytes))
    ∙ ap (λ vs. value_in (drop m bytes) s ∷ vs) (values_moved m ss bytes)
