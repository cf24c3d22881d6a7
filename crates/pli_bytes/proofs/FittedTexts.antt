-- Characters written where a string of a description lies that is fitted to them.
use Rattle.std.proofs.Common.{◌≡◌, ℕ, ◌+◌, ◌-◌, ◌≤◌, true, List, [], ◌∷◌, ◌++◌, length, take, drop, replicate, get_or, set, refl, ap, sym, ◌∙◌, subst, arith, eq-eqb, append_assoc, length-append}
use Rattle.std.proofs.lemmas.Bool.{le-leb}
use Rattle.std.proofs.lemmas.List.{drop-drop, length-replicate, length-take, take_at}
use Rattle.std.proofs.Math.Seq.{drop-append-add}
use Rattle.pli_map.specs.Description.{Character, Varying}
use Rattle.pli_map.specs.Values.{holds}
use Rattle.pli_value.specs.Strings.{fitted}
use Rattle.pli_value.specs.Value.{Characters}
use Rattle.pli_bytes.specs.Changes.{IsPut}
use Rattle.pli_bytes.specs.Contents.{with_bytes_at}

-- a string that is fitted is as long as it is to be
fitted_long : (size : ℕ) (text : List ℕ) → length (fitted 32 size text) ≡ size
fitted_long size text =
    omega (arith, length-append (take size text) (replicate (size - length text) 32), length-take size text, length-replicate {A = ℕ} (size - length text) 32)

-- so its description holds it
pub fixed_held : (size : ℕ) (text : List ℕ) → holds (Character size) (Characters (fitted 32 size text)) ≡ true
fixed_held size text = eq-eqb _ _ (fitted_long size text)

pub varying_held : (greatest : ℕ) (text : List ℕ) → holds (Varying greatest) (Characters (take greatest text)) ≡ true
varying_held greatest text = le-leb _ _ (omega (arith, length-take greatest text))

-- as many of the characters as there is room for, and blanks after them
pub fitted_put : (size : ℕ) (text front old first new : List ℕ) → size ≤ length old → front ≡ take size text → first ≡ front ++ drop (length front) old
    → new ≡ with_bytes_at (length front) (replicate (size - length front) 32) first → IsPut (Character size) (Characters (fitted 32 size text)) 0 old new
fitted_put size text front old first new inside front_is first_is new_is =
    let n = length front in
    let blanks : List ℕ = replicate (size - n) 32 in
    let short : n ≤ size = omega (arith, ap length front_is, length-take size text) in
    let count : length blanks ≡ size - n = length-replicate {A = ℕ} (size - n) 32 in
    let left : size - length text ≡ size - n = omega (arith, ap length front_is, length-take size text) in
    let whole : fitted 32 size text ≡ front ++ blanks =
    ap (λ l. l ++ replicate (size - length text) 32) (sym front_is) ∙ ap (λ k. front ++ replicate k 32) left in
    let end : n + length blanks ≡ size = omega (arith, count, short) in
    let before : take n first ≡ front = ap (take n) first_is ∙ take_at front (drop n old) n refl in
    let after : drop (n + length blanks) first ≡ drop size old =
    ap (drop (n + length blanks)) first_is ∙ drop-append-add front (drop n old) (length blanks) ∙ drop-drop (length blanks) n old ∙ ap (λ k. drop k old) end in
    let is : new ≡ fitted 32 size text ++ drop size old =
    new_is ∙ ap (λ l. l ++ (blanks ++ drop (n + length blanks) first)) before ∙ ap (λ l. front ++ (blanks ++ l)) after
    ∙ sym (append_assoc front blanks (drop size old)) ∙ ap (λ l. l ++ drop size old) (sym whole) in
    let reach : 0 + length (fitted 32 size text) ≡ size = omega (arith, fitted_long size text) in
    record { bytes = fitted 32 size text; size = fitted_long size text; hold = refl; put = is ∙ ap (λ k. fitted 32 size text ++ drop k old) (sym reach) }

-- one byte alone in the place of the first
pub one_written : (front bytes : List ℕ) → length front ≡ 1 → 1 ≤ length bytes → set bytes 0 (get_or front 0 0) ≡ front ++ drop (length front) bytes
one_written [] bytes one room = absurd (omega (arith, one))
one_written (x ∷ []) [] one room = absurd (omega (arith, room))
one_written (x ∷ []) (b ∷ bs) one room = refl
one_written (x ∷ y ∷ xs) bytes one room = absurd (omega (arith, one))
