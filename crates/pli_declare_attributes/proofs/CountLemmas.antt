-- Counts of elements that stop at a limit.
use Rattle.std.proofs.Common.{◌≡◌, ℕ, zero, suc, ◌*◌, ◌≤◌, ◌<◌, min, arith, ap, sym, ◌∙◌, inl, inr, refl, subst}
use Rattle.std.specs.Prelude.{Option, Some, None}
use Rattle.std.proofs.lemmas.Bool.{cases_lt}
use Rattle.pli_map.specs.Layouts.{IsLayout}
use Rattle.pli_map.specs.declared.layout.Layout.{Layout}

cut_below : (limit a m : ℕ) → a ≤ limit → min (min a limit * m) limit ≡ min (a * m) limit
cut_below limit a m h =
    let e : min a limit ≡ a = omega arith in
    rw e

cut_above : (limit a m : ℕ) → limit ≤ a → min (min a limit * suc m) limit ≡ min (a * suc m) limit
cut_above limit a m h =
    let e : min a limit ≡ limit = omega arith in
    rw e (omega arith)

-- a factor that was cut at the limit changes nothing up to it
pub cut_factor : (limit a m : ℕ) → min (min a limit * m) limit ≡ min (a * m) limit
cut_factor limit a zero = omega arith
cut_factor limit a (suc m) = elim (cases_lt limit a) [ inl h ↦ cut_above limit a m (omega arith) | inr h ↦ cut_below limit a (suc m) (omega arith) ]

-- a count so far, with one dimension more
pub count_left : (limit whole count extent others left next : ℕ) → next ≡ min (count * extent) limit → left ≡ extent * others
    → min (count * left) limit ≡ whole → min (next * others) limit ≡ whole
count_left limit whole count extent others left next next_is left_is so_far =
    let cut = cut_factor limit (count * extent) others in
    let same : count * extent * others ≡ count * left = rw left_is (omega arith) in
    let plain : min (count * extent) limit * others ≡ next * others = rw next_is (omega arith) in
    ap (λ n. min n limit) (sym plain) ∙ cut ∙ ap (λ n. min n limit) same ∙ so_far

-- a count that is over the limit of bytes makes any size but 0 so
over : (whole size : ℕ) → 1000001 ≤ whole → 0 < size → 1000000 < whole * size
over whole zero far positive = absurd (omega arith)
over whole (suc size) far positive = omega (arith, far)

nothing : (whole cut size : ℕ) → size ≡ 0 → cut * size ≡ whole * size
nothing whole cut size none = rw none (omega arith)

is_over : (answer : Option Layout) (cut whole alignment : ℕ) → 1000000 < cut → 1000000 < whole → IsLayout answer cut alignment → IsLayout answer whole alignment
is_over None cut whole alignment p q h = q
is_over (Some l) cut whole alignment p q h = absurd (omega (arith, h.0, p))

-- a layout of a size that was cut over the limit is that of the whole size
pub as_whole : (answer : Option Layout) (cut whole alignment : ℕ) → (whole ≤ 1000000 → cut ≡ whole) → (1000000 < whole → 1000000 < cut)
    → IsLayout answer cut alignment → IsLayout answer whole alignment
as_whole answer cut whole alignment near far h = elim (cases_lt 1000000 whole) [
  | inl over ↦ is_over answer cut whole alignment (far over) over h
  | inr within ↦ subst (λ n. IsLayout answer n alignment) (near within) h
]

-- a layout of a count that was cut far over the limit is that of the whole count
pub enough : (answer : Option Layout) (whole cut size alignment : ℕ) → cut ≡ min (min (1 * whole) 340282366920938463463374607431768211455) 18446744073709551615
    → IsLayout answer (cut * size) alignment → IsLayout answer (whole * size) alignment
enough answer whole cut zero alignment is h = subst (λ n. IsLayout answer n alignment) (nothing whole cut zero refl) h
enough answer whole cut (suc size) alignment is h = elim (cases_lt whole 1000001) [
  | inl near ↦ subst (λ n. IsLayout answer (n * suc size) alignment) (omega (arith, is, near)) h
  | inr far ↦ is_over answer (cut * suc size) (whole * suc size) alignment (over cut (suc size) (omega (arith, is, far)) (omega arith)) (over whole (suc size) far (omega arith)) h
]
