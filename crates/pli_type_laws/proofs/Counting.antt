-- How often numbers stand in lists, and blocks by their numbers.
use Rattle.std.specs.Prelude.{◌≡◌, ℕ, zero, suc, ◌+◌, ◌≤◌, ◌<◌, nat_eq, Bool, true, false, ◌||◌, Some}
use Rattle.std.specs.Prelude.{List, [], ◌∷◌, ◌++◌, length, filter, slice_get, refl}
use Rattle.std.specs.List.{flat_map, list_any, range_with_len, AllByRecursion}
use Rattle.std.proofs.Common.{arith, sym, ap, ◌∙◌, eq-eqb}
use Rattle.std.proofs.lemmas.Bool.{eqb-true}
use Rattle.pli_gen_emit.specs.TreeTranslation.{BlockTree, has_number, by_number}
use Rattle.pli_gen.specs.WellNumbered.{AreDistinct, numbers_among, numbers_of}

-- 1 where two numbers are one, and 1 where one is below another
abbrev pub same : ℕ → ℕ → ℕ
same zero zero = 1
same zero (suc m) = 0
same (suc n) zero = 0
same (suc n) (suc m) = same n m

abbrev pub below : ℕ → ℕ → ℕ
below n zero = 0
below zero (suc b) = 1
below (suc n) (suc b) = below n b

pub below_next : (n k : ℕ) → same n k + below n k ≡ below n (suc k)
below_next zero zero = refl
below_next zero (suc k) = refl
below_next (suc n) zero = below_zero n
  where
    below_zero : (n : ℕ) → 0 + 0 ≡ below n 0
    below_zero n = refl
below_next (suc n) (suc k) = below_next n k

same_self : (n : ℕ) → same n n ≡ 1
same_self zero = refl
same_self (suc n) = same_self n

pub same_bound : (n m : ℕ) → same n m ≤ 1
same_bound zero zero = omega arith
same_bound zero (suc m) = omega arith
same_bound (suc n) zero = omega arith
same_bound (suc n) (suc m) = same_bound n m

pub below_bound : (n b : ℕ) → below n b ≤ 1
below_bound n zero = omega arith
below_bound zero (suc b) = omega arith
below_bound (suc n) (suc b) = below_bound n b

below_less : (n b : ℕ) → 1 ≤ below n b → n < b
below_less n zero h = absurd (omega (arith, h))
below_less zero (suc b) h = omega arith
below_less (suc n) (suc b) h = omega (arith, below_less n b h)

differ : (n m : ℕ) → same n m ≡ 0 → nat_eq n m ≡ false
differ n m e = by (nat_eq n m) refl
  where
    by : (b : Bool) → nat_eq n m ≡ b → b ≡ false
    by true is = absurd (omega (arith, e, same_self n, ap (same n) (eqb-true n m is)))
    by false is = refl

equal : (n m : ℕ) → same n m ≡ 1 → n ≡ m
equal zero zero e = refl
equal zero (suc m) e = absurd (omega (arith, e))
equal (suc n) zero e = absurd (omega (arith, e))
equal (suc n) (suc m) e = ap suc (equal n m e)

false_true : {b : Bool} → b ≡ false → b ≡ true → ⊥
false_true e f = absurd (cc)

not_same : (n m : ℕ) → nat_eq m n ≡ false → same n m ≡ 0
not_same n m e = by (same n m) refl
  where
    turned : same n m ≡ 1 → nat_eq m n ≡ true
    turned f = eq-eqb m n (sym (equal n m f))

    by : (k : ℕ) → same n m ≡ k → same n m ≡ 0
    by zero f = f
    by (suc zero) f = absurd (false_true e (turned f))
    by (suc (suc k)) f = absurd (omega (arith, same_bound n m, f))

-- how often a number stands in a list
abbrev pub times : ℕ → List ℕ → ℕ
times n [] = 0
times n (m ∷ ms) = same n m + times n ms

pub times_both : (n : ℕ) (xs ys : List ℕ) → times n (xs ++ ys) ≡ times n xs + times n ys
times_both n [] ys = omega arith
times_both n (x ∷ xs) ys = omega (arith, times_both n xs ys)

absent : (n : ℕ) (xs : List ℕ) → times n xs ≡ 0 → list_any (nat_eq n) xs ≡ false
absent n [] e = refl
absent n (x ∷ xs) e =
    ap (λ b. b || list_any (nat_eq n) xs) (differ n x (omega (arith, e))) ∙ absent n xs (omega (arith, e))

pub once_distinct : (xs : List ℕ) → ((n : ℕ) → times n xs ≤ 1) → AreDistinct xs
once_distinct [] h = tt
once_distinct (x ∷ xs) h =
    (absent x xs (omega (arith, h x, same_self x)), once_distinct xs (λ n. omega (arith, h n)))

-- ---- blocks

-- how often a number is one of a statement of blocks, and one of a block
abbrev pub in_blocks : ℕ → List BlockTree → ℕ
in_blocks n [] = 0
in_blocks n (b ∷ bs) = times n (numbers_among b.statements) + in_blocks n bs

abbrev pub of_blocks : ℕ → List BlockTree → ℕ
of_blocks n [] = 0
of_blocks n (b ∷ bs) = same n b.head.number + of_blocks n bs

pub in_both : (n : ℕ) (bs cs : List BlockTree) → in_blocks n (bs ++ cs) ≡ in_blocks n bs + in_blocks n cs
in_both n [] cs = omega arith
in_both n (b ∷ bs) cs = omega (arith, in_both n bs cs)

pub of_both : (n : ℕ) (bs cs : List BlockTree) → of_blocks n (bs ++ cs) ≡ of_blocks n bs + of_blocks n cs
of_both n [] cs = omega arith
of_both n (b ∷ bs) cs = omega (arith, of_both n bs cs)

pub numbers_counted : (n : ℕ) (bs : List BlockTree) → times n (numbers_of bs) ≡ in_blocks n bs
numbers_counted n [] = refl
numbers_counted n (b ∷ bs) =
    omega (arith, times_both n (numbers_among b.statements) (numbers_of bs), numbers_counted n bs)

-- those of one number
abbrev piece : List BlockTree → ℕ → List BlockTree
piece bs n = filter (has_number n) bs

number_is : (n : ℕ) (b : BlockTree) → has_number n b ≡ true → b.head.number ≡ n
number_is n b e = eqb-true b.head.number n e

same_turned : (n m : ℕ) → same n m ≡ same m n
same_turned zero zero = refl
same_turned zero (suc m) = refl
same_turned (suc n) zero = refl
same_turned (suc n) (suc m) = same_turned n m

is_numbered : (n : ℕ) (b : BlockTree) → same n b.head.number ≡ 0 → has_number n b ≡ false
is_numbered n b e = differ b.head.number n (sym (same_turned n b.head.number) ∙ e)

piece_without : (n : ℕ) (b : BlockTree) (bs : List BlockTree) → has_number n b ≡ false → piece (b ∷ bs) n ≡ piece bs n
piece_without n b bs e = rw e refl

piece_with : (n : ℕ) (b : BlockTree) (bs : List BlockTree) → has_number n b ≡ true → piece (b ∷ bs) n ≡ b ∷ piece bs n
piece_with n b bs e = rw e refl

piece_none : (n : ℕ) (bs : List BlockTree) → of_blocks n bs ≡ 0 → piece bs n ≡ []
piece_none n [] e = refl
piece_none n (b ∷ bs) e = piece_without n b bs (is_numbered n b (omega (arith, e))) ∙ piece_none n bs (omega (arith, e))

piece_one : (n : ℕ) (bs : List BlockTree) → of_blocks n bs ≡ 1 → (b : BlockTree) × (piece bs n ≡ b ∷ [])
piece_one n [] e = absurd (omega (arith, e))
piece_one n (b ∷ bs) e = by (has_number n b) refl (λ f. piece_one n bs f)
  where
    one : b.head.number ≡ n → same n b.head.number ≡ 1
    one is = ap (same n) is ∙ same_self n

    further : has_number n b ≡ false → (c : BlockTree) × (piece bs n ≡ c ∷ []) → (c : BlockTree) × (piece (b ∷ bs) n ≡ c ∷ [])
    further is (c, f) = (c, piece_without n b bs is ∙ f)

    by : (c : Bool) → has_number n b ≡ c → (of_blocks n bs ≡ 1 → (c : BlockTree) × (piece bs n ≡ c ∷ []))
        → (c : BlockTree) × (piece (b ∷ bs) n ≡ c ∷ [])
    by true is rest =
        (b, piece_with n b bs is ∙ ap (λ cs. b ∷ cs) (piece_none n bs (omega (arith, e, one (number_is n b is)))))
    by false is rest = further is (rest (omega (arith, e, not_same n b.head.number is)))

-- ---- blocks in the order of their numbers

-- what stands at a number, where each number from one on has one thing
at_number : (A : Type 0) (f : ℕ → List A) (from count i : ℕ) (x : A)
    → ((j : ℕ) → from ≤ j → j < from + count → (y : A) × (f j ≡ y ∷ [])) → i < count → f (from + i) ≡ x ∷ []
    → slice_get (flat_map f (range_with_len from count)) i ≡ Some x
at_number A f from zero i x each lt e = absurd (omega (arith, lt))
at_number A f from (suc count) zero x each lt e = ap (λ xs. slice_get (xs ++ flat_map f (range_with_len (from + 1) count)) 0) here
  where
    start : from ≡ from + 0
    start = omega arith

    here : f from ≡ x ∷ []
    here = ap f start ∙ e
at_number A f from (suc count) (suc i) x each lt e =
    first (each from (omega arith) (omega arith))
    (at_number A f (from + 1) count i x (λ j low high. each j (omega (arith, low)) (omega (arith, high))) (omega (arith, lt))
    (ap f next ∙ e))
  where
    next : from + 1 + i ≡ from + suc i
    next = omega arith

    first : (y : A) × (f from ≡ y ∷ []) → slice_get (flat_map f (range_with_len (from + 1) count)) i ≡ Some x
        → slice_get (flat_map f (range_with_len from (suc count))) (suc i) ≡ Some x
    first (y, is) g = ap (λ xs. slice_get (xs ++ flat_map f (range_with_len (from + 1) count)) (suc i)) is ∙ g

-- each block stands among those of its number
counts_itself : (bs : List BlockTree) → AllByRecursion (λ b. 1 ≤ of_blocks b.head.number bs) bs
counts_itself [] = tt
counts_itself (b ∷ bs) =
    (omega (arith, same_self b.head.number), more bs (counts_itself bs))
  where
    more : (cs : List BlockTree) → AllByRecursion (λ c. 1 ≤ of_blocks c.head.number bs) cs
        → AllByRecursion (λ c. 1 ≤ of_blocks c.head.number (b ∷ bs)) cs
    more [] h = tt
    more (c ∷ cs) h = (omega (arith, h.0), more cs h.1)

abbrev IsAlone : List BlockTree → BlockTree → Type 0
IsAlone bs b = of_blocks b.head.number bs ≡ 1 → piece bs b.head.number ≡ b ∷ []

alone : (bs : List BlockTree) → AllByRecursion (IsAlone bs) bs
alone [] = tt
alone (b ∷ bs) = (here, more bs (counts_itself bs) (alone bs))
  where
    own : has_number b.head.number b ≡ true
    own = eq-eqb b.head.number b.head.number refl

    here : IsAlone (b ∷ bs) b
    here e =
        piece_with b.head.number b bs own
        ∙ ap (λ cs. b ∷ cs) (piece_none b.head.number bs (omega (arith, e, same_self b.head.number)))

    other : (c : BlockTree) → 1 ≤ of_blocks c.head.number bs → IsAlone bs c → IsAlone (b ∷ bs) c
    other c h is e =
        piece_without c.head.number b bs (is_numbered c.head.number b (omega (arith, h, e))) ∙ is (omega (arith, h, e))

    more : (cs : List BlockTree) → AllByRecursion (λ c. 1 ≤ of_blocks c.head.number bs) cs → AllByRecursion (IsAlone bs) cs
        → AllByRecursion (IsAlone (b ∷ bs)) cs
    more [] h k = tt
    more (c ∷ cs) h k = (other c h.0 k.0, more cs h.1 k.1)

module _ (bs : List BlockTree) (each : (n : ℕ) → of_blocks n bs ≡ below n (length bs)) where
  below_one : (n b : ℕ) → n < b → below n b ≡ 1
  below_one n zero lt = absurd (omega (arith, lt))
  below_one zero (suc b) lt = refl
  below_one (suc n) (suc b) lt = below_one n b (omega (arith, lt))

  one_there : (j : ℕ) → 0 ≤ j → j < 0 + length bs → (b : BlockTree) × (piece bs j ≡ b ∷ [])
  one_there j low high = piece_one j bs (each j ∙ below_one j (length bs) (omega (arith, high)))

  placed : (b : BlockTree) → 1 ≤ of_blocks b.head.number bs → IsAlone bs b → slice_get (by_number bs) b.head.number ≡ Some b
  placed b there is =
      let lt : b.head.number < length bs = below_less b.head.number (length bs) (omega (arith, there, each b.head.number)) in
      at_number BlockTree (piece bs) 0 (length bs) b.head.number b one_there lt
      (zero_after b.head.number ∙ is (each b.head.number ∙ below_one b.head.number (length bs) lt))
    where
      zero_after : (n : ℕ) → piece bs (0 + n) ≡ piece bs n
      zero_after n =
          let e : 0 + n ≡ n = omega arith in
          ap (piece bs) e

  all_placed : (cs : List BlockTree) → AllByRecursion (λ b. 1 ≤ of_blocks b.head.number bs) cs → AllByRecursion (IsAlone bs) cs
      → AllByRecursion (λ b. slice_get (by_number bs) b.head.number ≡ Some b) cs
  all_placed [] h k = tt
  all_placed (c ∷ cs) h k = (placed c h.0 k.0, all_placed cs h.1 k.1)

  pub blocks_placed : AllByRecursion (λ b. slice_get (by_number bs) b.head.number ≡ Some b) bs
  blocks_placed = all_placed bs (counts_itself bs) (alone bs)

-- ---- the numbers of statements, in that order

module _ (n : ℕ) where
  abbrev Sum : List BlockTree → (from count : ℕ) → ℕ
  Sum bs from count = in_blocks n (flat_map (piece bs) (range_with_len from count))

  sum_next : (bs : List BlockTree) (from count : ℕ)
      → Sum bs from (suc count) ≡ in_blocks n (piece bs from) + Sum bs (from + 1) count
  sum_next bs from count = in_both n (piece bs from) (flat_map (piece bs) (range_with_len (from + 1) count))

  sum_none : (from count : ℕ) → Sum [] from count ≡ 0
  sum_none from zero = refl
  sum_none from (suc count) = sum_none (from + 1) count

  -- a block of a lower number is met no more
  sum_past : (c : BlockTree) (cs : List BlockTree) (from count : ℕ) → c.head.number < from
      → Sum (c ∷ cs) from count ≡ Sum cs from count
  sum_past c cs from zero lt = refl
  sum_past c cs from (suc count) lt =
      omega (
        arith,
        sum_next (c ∷ cs) from count,
        sum_next cs from count,
        ap (in_blocks n) (piece_without from c cs (past (has_number from c) refl)),
        sum_past c cs (from + 1) count (omega (arith, lt)),
      )
    where
      past : (b : Bool) → has_number from c ≡ b → has_number from c ≡ false
      past true e = absurd (omega (arith, lt, number_is from c e))
      past false e = e

  sum_first : (c : BlockTree) (cs : List BlockTree) (from count : ℕ)
      → Sum (c ∷ cs) from count ≤ times n (numbers_among c.statements) + Sum cs from count
  sum_first c cs from zero = omega arith
  sum_first c cs from (suc count) = by (has_number from c) refl (sum_first c cs (from + 1) count)
    where
      by : (b : Bool) → has_number from c ≡ b
          → Sum (c ∷ cs) (from + 1) count ≤ times n (numbers_among c.statements) + Sum cs (from + 1) count
          → Sum (c ∷ cs) from (suc count) ≤ times n (numbers_among c.statements) + Sum cs from (suc count)
      by true e rest =
          omega (
            arith,
            sum_next (c ∷ cs) from count,
            sum_next cs from count,
            ap (in_blocks n) (piece_with from c cs e),
            sum_past c cs (from + 1) count (omega (arith, number_is from c e)),
          )
      by false e rest =
          omega (arith, sum_next (c ∷ cs) from count, sum_next cs from count, ap (in_blocks n) (piece_without from c cs e), rest)

  sum_most : (bs : List BlockTree) (from count : ℕ) → Sum bs from count ≤ in_blocks n bs
  sum_most [] from count = omega (arith, sum_none from count)
  sum_most (b ∷ bs) from count = omega (arith, sum_first b bs from count, sum_most bs from count)

pub ordered_distinct : (bs : List BlockTree) → ((n : ℕ) → in_blocks n bs ≤ 1) → AreDistinct (numbers_of (by_number bs))
ordered_distinct bs h =
    once_distinct (numbers_of (by_number bs))
    (λ n. omega (arith, numbers_counted n (by_number bs), sum_most n bs 0 (length bs), h n))
