-- Marks as bits of words: how many there are, which one stands where, and what other words make of them.
use Rattle.std.proofs.Common.{◌≡◌, ◌≢◌, ℕ, zero, suc, ◌+◌, ◌-◌, ◌*◌, ◌/◌, ◌%◌, ◌<◌, ◌≤◌, ◌^◌, Bool, false, nat_eq, List, [], ◌∷◌, ◌++◌, length, take, replicate, get_or, set, min, bit_and, refl, sym, ap, ◌∙◌, inl, inr, arith, length-append, length-take, length-set}
use Rattle.std.proofs.lemmas.Bool.{cases_lt, cases_eq}
use Rattle.std.proofs.lemmas.List.{get_or-set_same, get_or-set_other, get_or_append_left, get_or-append_right, get_or-take, get_or-replicate, length-replicate}
use Rattle.std.proofs.lemmas.Nat.Bits.{bit_at-zero, bit_at-lt, bit_at_and, bit_at_ones, bit_at_ones_above}
use Rattle.std.proofs.lemmas.Nat.{one_shl}
use Rattle.std.specs.Int.{bit_at}
use Rattle.pli_area.specs.MarkBits.{has_bit, marks_of}

-- an element is what it is by any default
pub by_default : (xs : List ℕ) (i x : ℕ) → i < length xs → x ≡ get_or xs i x → x ≡ get_or xs i 0
by_default [] i x lt e = absurd (omega arith)
by_default (y ∷ ys) zero x lt e = e
by_default (y ∷ ys) (suc i) x lt e = by_default ys i x (omega arith) e

pub long : (ws : List ℕ) (from n : ℕ) → length (marks_of ws from n) ≡ n
long ws from zero = refl
long ws from (suc n) = ap suc (long ws (suc from) n)

-- the mark of a number
abbrev pub mark : List ℕ → ℕ → Bool
mark ws i = has_bit (get_or ws (i / 64) 0) (i % 64)

mark_at : (ws : List ℕ) (from n i : ℕ) → i < n → get_or (marks_of ws from n) i false ≡ mark ws (from + i)
mark_at ws from zero i lt = absurd (omega arith)
mark_at ws from (suc n) zero lt = let same : from ≡ from + 0 = omega arith in ap (mark ws) same
mark_at ws from (suc n) (suc i) lt = let same : suc from + i ≡ from + suc i = omega arith in mark_at ws (suc from) n i (omega arith) ∙ ap (mark ws) same

pub mark_of : (ws : List ℕ) (n i : ℕ) → i < n → get_or (marks_of ws 0 n) i false ≡ mark ws i
mark_of ws n i lt = let same : 0 + i ≡ i = omega arith in mark_at ws 0 n i lt ∙ ap (mark ws) same

marks_are : (ws : List ℕ) (from : ℕ) (bs : List Bool) → ((i : ℕ) → i < length bs → mark ws (from + i) ≡ get_or bs i false) → marks_of ws from (length bs) ≡ bs
marks_are ws from [] h = refl
marks_are ws from (b ∷ bs) h =
    let first : from ≡ from + 0 = omega arith in
    let now : mark ws from ≡ b = ap (mark ws) first ∙ h 0 (omega arith) in
    let then : marks_of ws (suc from) (length bs) ≡ bs = marks_are ws (suc from) bs (λ i lt. let same : suc from + i ≡ from + suc i = omega arith in ap (mark ws) same ∙ h (suc i) (omega arith)) in
    λ j. now j ∷ then j

-- the same at a number that is the length
pub marks_as : (ws : List ℕ) (n : ℕ) (bs : List Bool) → length bs ≡ n → ((i : ℕ) → i < n → mark ws i ≡ get_or bs i false) → marks_of ws 0 n ≡ bs
marks_as ws n bs e h = ap (marks_of ws 0) (sym e) ∙ marks_are ws 0 bs (λ i lt. let same : 0 + i ≡ i = omega arith in ap (mark ws) same ∙ h i (omega arith))

no_bit : (k : ℕ) → has_bit 0 k ≡ false
no_bit k = ap (λ (b : ℕ). nat_eq b 1) (bit_at-zero k)

pub none_set : (m n : ℕ) → n < m * 64 → marks_of (replicate m 0) 0 n ≡ replicate n false
none_set m n le = marks_as (replicate m 0) n (replicate n false) (length-replicate n false) (λ i lt.
    ap (λ (w : ℕ). has_bit w (i % 64)) (get_or-replicate m (i / 64) 0 0 (omega arith)) ∙ no_bit (i % 64) ∙ sym (get_or-replicate n i false false lt))

module _ (ws : List ℕ) (n number w : ℕ) (is_set : Bool) (inside : number < n) (room : number / 64 < length ws)
    (same : has_bit w (number % 64) ≡ is_set) (others : (k : ℕ) → k < 64 → k ≢ number % 64 → has_bit w k ≡ has_bit (get_or ws (number / 64) 0) k) where
  abbrev place : ℕ
  place = number / 64

  abbrev new : List ℕ
  new = set ws place w

  beside : (i : ℕ) → i ≢ number → mark new i ≡ mark ws i
  beside i ne = elim (cases_eq (i / 64) place) [
    | inl e ↦ let there : get_or new (i / 64) 0 ≡ w = ap (λ (k : ℕ). get_or new k 0) e ∙ get_or-set_same ws place w 0 room in
        ap (λ (v : ℕ). has_bit v (i % 64)) there ∙ others (i % 64) (omega arith) (λ r. ne (omega (arith, e, r))) ∙ ap (λ (k : ℕ). has_bit (get_or ws k 0) (i % 64)) (sym e)
    | inr d ↦ ap (λ (v : ℕ). has_bit v (i % 64)) (get_or-set_other ws place (i / 64) w 0 d)
  ]

  pub marks_set : marks_of new 0 n ≡ set (marks_of ws 0 n) number is_set
  marks_set = marks_as new n (set (marks_of ws 0 n) number is_set) (length-set (marks_of ws 0 n) number is_set ∙ long ws 0 n) (λ i lt. elim (cases_eq i number) [
    | inl e ↦ ap (mark new) e ∙ ap (λ (v : ℕ). has_bit v (number % 64)) (get_or-set_same ws place w 0 room) ∙ same
        ∙ sym (get_or-set_same (marks_of ws 0 n) number is_set false (omega (arith, long ws 0 n))) ∙ ap (λ (k : ℕ). get_or (set (marks_of ws 0 n) number is_set) k false) (sym e)
    | inr d ↦ beside i d ∙ sym (mark_of ws n i lt) ∙ sym (get_or-set_other (marks_of ws 0 n) number i is_set false d)
  ])

module _ (new ws : List ℕ) (n m count : ℕ) (short : count ≤ n) (far : count ≤ m)
    (before : (k : ℕ) → k < count / 64 → get_or new k 0 ≡ get_or ws k 0)
    (kept : (k : ℕ) → k < count % 64 → has_bit (get_or new (count / 64) 0) k ≡ has_bit (get_or ws (count / 64) 0) k)
    (gone : (k : ℕ) → count % 64 ≤ k → has_bit (get_or new (count / 64) 0) k ≡ false)
    (after : (k : ℕ) → count / 64 < k → get_or new k 0 ≡ 0) where
  low : (i : ℕ) → i < count → mark new i ≡ mark ws i
  low i lt = elim (cases_lt (i / 64) (count / 64)) [
    | inl l ↦ ap (λ (v : ℕ). has_bit v (i % 64)) (before (i / 64) l)
    | inr g ↦ let e : i / 64 ≡ count / 64 = omega arith in
        ap (λ (k : ℕ). has_bit (get_or new k 0) (i % 64)) e ∙ kept (i % 64) (omega (arith, e, lt)) ∙ ap (λ (k : ℕ). has_bit (get_or ws k 0) (i % 64)) (sym e)
  ]

  high : (i : ℕ) → count ≤ i → mark new i ≡ false
  high i le = elim (cases_lt (count / 64) (i / 64)) [
    | inl l ↦ ap (λ (v : ℕ). has_bit v (i % 64)) (after (i / 64) l) ∙ no_bit (i % 64)
    | inr g ↦ let e : i / 64 ≡ count / 64 = omega arith in ap (λ (k : ℕ). has_bit (get_or new k 0) (i % 64)) e ∙ gone (i % 64) (omega (arith, e, le))
  ]

  pub marks_taken : marks_of new 0 n ≡ take count (marks_of ws 0 m) ++ replicate (n - count) false
  marks_taken =
      let firsts = take count (marks_of ws 0 m) in let rest = replicate (n - count) false in
      let many : length firsts ≡ count = omega (arith, length-take count (marks_of ws 0 m), long ws 0 m) in
      marks_as new n (firsts ++ rest) (omega (arith, length-append firsts rest, many, length-replicate (n - count) false)) (λ i lt. elim (cases_lt i count) [
        | inl l ↦ low i l ∙ sym (mark_of ws m i (omega arith)) ∙ sym (get_or-take count (marks_of ws 0 m) i false l) ∙ sym (get_or_append_left firsts rest false i (omega arith))
        | inr g ↦ high i g ∙ sym (get_or-replicate (n - count) (i - count) false false (omega arith)) ∙ sym (get_or-append_right firsts rest count i false many g)
      ])

-- ---- the lowest bits of a word
min_one : (b : ℕ) → b < 2 → min b 1 ≡ b
min_one b lt = omega arith

min_none : (b : ℕ) → min b 0 ≡ 0
min_none b = omega arith

fits : (bits : ℕ) → bits < 64 → 1 * 2 ^ bits % 2 ^ 64 ≡ 2 ^ bits
fits bits lt = one_shl bits 64 lt

pub low_bit : (word bits k : ℕ) → bits < 64 → k < bits → has_bit (bit_and word (1 * 2 ^ bits % 2 ^ 64 - 1)) k ≡ has_bit word k
low_bit word bits k lt below =
    ap (λ (m : ℕ). has_bit (bit_and word (m - 1)) k) (fits bits lt) ∙ ap (λ (b : ℕ). nat_eq b 1) (bit_at_and word (2 ^ bits - 1) k ∙ ap (λ (m : ℕ). min (bit_at word k) m) (bit_at_ones bits k below) ∙ min_one (bit_at word k) (bit_at-lt word k))

pub high_bit : (word bits k : ℕ) → bits < 64 → bits ≤ k → has_bit (bit_and word (1 * 2 ^ bits % 2 ^ 64 - 1)) k ≡ false
high_bit word bits k lt le =
    ap (λ (m : ℕ). has_bit (bit_and word (m - 1)) k) (fits bits lt) ∙ ap (λ (b : ℕ). nat_eq b 1) (bit_at_and word (2 ^ bits - 1) k ∙ ap (λ (m : ℕ). min (bit_at word k) m) (bit_at_ones_above bits k le) ∙ min_none (bit_at word k))
