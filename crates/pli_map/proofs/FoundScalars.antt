-- What the function that finds scalars computes.
use Rattle.std.proofs.Common.{◌≡◌, ℕ, ◌+◌, ◌-◌, ◌*◌, ◌/◌, ◌%◌, ◌<◌, ◌≤◌, min, Bool, true, false, nat_lt, ◌⊎◌, inl, inr, List, Option, Some, None, option_map, if◌then◌else◌, refl, ap, sym, mul_comm, suc, zero, ◌∙◌, arith}
use Rattle.std.specs.Int.{next_multiple_of}
use Rattle.std.proofs.lemmas.Bool.{cases_lt, lt-ltb, le-ltb}
use Rattle.std.proofs.lemmas.Option.{same_Some, none-some}
use Rattle.std.proofs.Math.Nat.{div-eq_of_lt, mod-eq_of_lt}
use Rattle.std.proofs.lemmas.Nat.{div-mul-add, mul-le}
use Rattle.pli_map.specs.declared.description.Bounds.{Bounds}
use Rattle.pli_map.specs.Description.{Description, FixedBinary, Character, Varying, Bit, Pointer, Offset, Area, Array, Structure, Members, MemberThen}
use Rattle.pli_map.specs.Scalars.{scalars_in, stands_here, first_scalar, scalar_after}
use Rattle.pli_map.specs.Sizes.{count_of, alignment_of, size_of, stride_of}
use Rattle.pli_map.proofs.FarSizes.{cut_second}

-- ---- what stands at the beginning

chosen : (b : Bool) (rest : Option ℕ) → b ≡ true → (if b then Some 0 else rest) ≡ Some 0
chosen b rest e = rw e

pub found_here : (d : Description) (o : ℕ) (part : Description) → stands_here d o part ≡ true → first_scalar d o part ≡ Some 0
found_here (FixedBinary p) o part e = chosen _ None e
found_here (Character n) o part e = chosen _ None e
found_here (Varying n) o part e = chosen _ None e
found_here (Bit n) o part e = chosen _ None e
found_here Pointer o part e = chosen _ None e
found_here Offset o part e = chosen _ None e
found_here (Area n) o part e = chosen _ None e
found_here (Array bs element) o part e = chosen _ _ e
found_here (Structure _) o part e = chosen _ _ e

others : (b : Bool) (rest : Option ℕ) → b ≡ false → (if b then Some 0 else rest) ≡ rest
others b rest e = rw e

pub found_in_array : (bs : List Bounds) (element : Description) (o : ℕ) (part : Description) → stands_here (Array bs element) o part ≡ false
    → first_scalar (Array bs element) o part
    ≡ (if nat_lt (o / stride_of element) (count_of bs) then option_map (λ k. o / stride_of element * scalars_in element + k)
    (first_scalar element (o % stride_of element) part) else None)
found_in_array bs element o part e = others (stands_here (Array bs element) o part) _ e

pub found_in_structure : (members : Members) (o : ℕ) (part : Description) → stands_here (Structure members) o part ≡ false
    → first_scalar (Structure members) o part ≡ scalar_after 0 members o part
found_in_structure members o part e = others (stands_here (Structure members) o part) _ e

-- ---- elements

quotient_at : (o s far : ℕ) → o < far → (far ≤ s) ⊎ (s ≤ far) → (o / min s far ≡ o / s) × (o % min s far ≡ o % s)
quotient_at o s far below (inl h) =
    let cut : min s far ≡ far = omega arith in
    let past : o < s = omega arith in
    (rw (cut, div-eq_of_lt {n = o} {m = far} below, div-eq_of_lt {n = o} {m = s} past), rw (cut, mod-eq_of_lt {n = o} {m = far} below, mod-eq_of_lt {n = o} {m = s} past))
quotient_at o s far below (inr h) =
    let cut : min s far ≡ s = omega arith in
    (rw cut, rw cut)

le_cases : (a b : ℕ) → (a ≤ b) ⊎ (b ≤ a)
le_cases a b = elim (cases_lt a b) [ inl h ↦ inl (omega arith) | inr h ↦ inr (omega arith) ]

-- a stride that was cut where no offset comes is passed as often, and as much is left
pub quotient_cut : (o s far : ℕ) → o < far → (o / min s far ≡ o / s) × (o % min s far ≡ o % s)
quotient_cut o s far below = quotient_at o s far below (le_cases far s)

-- a size over the number of elements is the stride, also where that number is cut
pub stride_found : (count stride size n : ℕ) → size ≡ count * stride → size ≤ 18446744073709551615 → n ≡ min count 18446744073709551615 → 0 < n
    → size / n ≡ stride
stride_found count zero size n is small cut some =
    let none : size ≡ 0 = omega (arith, is) in
    rw none (div-eq_of_lt {n = 0} {m = n} some)
stride_found count (suc k) size n is small cut some =
    let more = mul-le count 1 count (suc k) (omega arith) (omega arith) in
    let all : n ≡ count = omega (arith, is, small, cut, more) in
    let turned : size ≡ suc k * n + 0 = omega (arith, is ∙ mul_comm count (suc k) ∙ ap (λ m. suc k * m) (sym all)) in
    rw turned (div-mul-add (suc k) n 0 some)

-- the same of the stride of a description, where that is cut to a number of 33 binary digits
pub quotient_is : (offset : ℕ) (d : Description) (stride : ℕ) → offset < 4294967296 → stride ≡ min (stride_of d) 4294967296
    → (offset / stride ≡ offset / stride_of d) × (offset % stride ≡ offset % stride_of d)
quotient_is offset d stride below is =
    let cut = quotient_cut offset (stride_of d) 4294967296 below in
    (ap (λ n. offset / n) is ∙ cut.0, ap (λ n. offset % n) is ∙ cut.1)

-- there is no such element
pub no_element : (limit index q count c : ℕ) (f : ℕ → ℕ) (rest : Option ℕ) → index ≡ q → index < limit → count ≡ min c limit → count ≤ index
    → None ≡ option_map (λ k. min k limit) (if nat_lt q c then option_map f rest else None)
no_element limit index q count c f rest index_is below count_is past =
    let none : nat_lt q c ≡ false = le-ltb q c (omega arith) in
    rw none

in_element : (limit index q count c : ℕ) (f : ℕ → ℕ) (rest : Option ℕ) → index ≡ q → count ≡ min c limit → index < count
    → (if nat_lt q c then option_map f rest else None) ≡ option_map f rest
in_element limit index q count c f rest index_is count_is below =
    let some : nat_lt q c ≡ true = lt-ltb q c (omega arith) in
    rw some

none_of : (limit : ℕ) (f : ℕ → ℕ) (rest : Option ℕ) → None ≡ option_map (λ k. min k limit) rest → None ≡ option_map (λ k. min k limit) (option_map f rest)
none_of limit f None e = refl
none_of limit f (Some k) e = absurd (none-some _ e)

-- nothing is found in the element
pub none_in_element : (limit index q count c : ℕ) (f : ℕ → ℕ) (rest : Option ℕ) → index ≡ q → count ≡ min c limit → index < count
    → None ≡ option_map (λ k. min k limit) rest
    → None ≡ option_map (λ k. min k limit) (if nat_lt q c then option_map f rest else None)
none_in_element limit index q count c f rest index_is count_is below inner =
    none_of limit f rest inner ∙ ap (option_map (λ k. min k limit)) (sym (in_element limit index q count c f rest index_is count_is below))

summed : (limit before q n j : ℕ) → before ≡ min (q * min n limit) limit → min (before + min j limit) limit ≡ min (q * n + j) limit
summed limit before q n j before_is =
    let product = cut_second limit q n in
    omega (arith, before_is, product)

found_after : (limit before q n inner : ℕ) (rest : Option ℕ) → before ≡ min (q * min n limit) limit → Some inner ≡ option_map (λ k. min k limit) rest
    → Some (min (before + inner) limit) ≡ option_map (λ k. min k limit) (option_map (λ k. q * n + k) rest)
found_after limit before q n inner None before_is e = absurd (none-some _ (sym e))
found_after limit before q n inner (Some j) before_is e =
    ap Some (ap (λ m. min (before + m) limit) (same_Some _ _ e) ∙ summed limit before q n j before_is)

-- something is found in the element, after the scalars of those before it
pub some_in_element : (limit index q count c before n inner found : ℕ) (rest : Option ℕ) → index ≡ q → count ≡ min c limit → index < count
    → before ≡ min (q * min n limit) limit → found ≡ min (before + inner) limit → Some inner ≡ option_map (λ k. min k limit) rest
    → Some found ≡ option_map (λ k. min k limit) (if nat_lt q c then option_map (λ k. q * n + k) rest else None)
some_in_element limit index q count c before n inner found rest index_is count_is below before_is found_is e =
    ap Some found_is ∙ found_after limit before q n inner rest before_is e
    ∙ ap (option_map (λ k. min k limit)) (sym (in_element limit index q count c (λ k. q * n + k) rest index_is count_is below))

-- ---- members

abbrev start_of : ℕ → Description → ℕ
start_of at d = next_multiple_of at (alignment_of d)

before_it : (in_it before : Bool) (rest further : Option ℕ) → in_it ≡ true → before ≡ true → (if in_it then (if before then None else rest) else further) ≡ None
before_it in_it before rest further p q = rw (p, q)

in_member : (in_it before : Bool) (rest further : Option ℕ) → in_it ≡ true → before ≡ false → (if in_it then (if before then None else rest) else further) ≡ rest
in_member in_it before rest further p q = rw (p, q)

after_it : (in_it before : Bool) (rest further : Option ℕ) → in_it ≡ false → (if in_it then (if before then None else rest) else further) ≡ further
after_it in_it before rest further p = rw p

-- what the scalars of what is left are among all: so many stand before them
abbrev pub counted : (limit before : ℕ) → Option ℕ → Option ℕ
counted limit before found = option_map (λ k. min (before + k) limit) found

pub counted_from_none : (limit : ℕ) (found : Option ℕ) → option_map (λ k. min k limit) found ≡ counted limit 0 found
counted_from_none limit None = refl
counted_from_none limit (Some k) = let e : min k limit ≡ min (0 + k) limit = omega arith in ap Some e

module _ (limit : ℕ) (whole : Option ℕ) (at before o : ℕ) (left ds : Members) (d part : Description) (start : ℕ)
    (left_is : left ≡ MemberThen d ds) (start_is : start ≡ start_of at d) (so_far : whole ≡ counted limit before (scalar_after at left o part)) where
  here_is : whole ≡ counted limit before (scalar_after at (MemberThen d ds) o part)
  here_is = so_far ∙ ap (λ l. counted limit before (scalar_after at l o part)) left_is

  -- nothing stands in the bytes before a member
  pub none_before_member : o < start → None ≡ whole
  none_before_member h =
      sym (here_is ∙ ap (counted limit before)
      (before_it (nat_lt o (start_of at d + size_of d)) (nat_lt o (start_of at d)) (first_scalar d (o - start_of at d) part) _
      (lt-ltb _ _ (omega (arith, start_is))) (lt-ltb _ _ (omega (arith, start_is)))))

  -- what stands in a member
  in_it : (size : ℕ) → size ≡ min (size_of d) 4294967296 → start ≤ o → o < start + size → whole ≡ counted limit before (first_scalar d (o - start) part)
  in_it size size_is low high =
      here_is ∙ ap (counted limit before)
      (in_member (nat_lt o (start_of at d + size_of d)) (nat_lt o (start_of at d)) (first_scalar d (o - start_of at d) part) _
      (lt-ltb _ _ (omega (arith, start_is, size_is))) (le-ltb _ _ (omega (arith, start_is)))
      ∙ ap (λ n. first_scalar d (o - n) part) (sym start_is))

  none_of_it : (found : Option ℕ) → None ≡ option_map (λ k. min k limit) found → None ≡ counted limit before found
  none_of_it None e = refl
  none_of_it (Some k) e = absurd (none-some _ e)

  some_of_it : (found : Option ℕ) (inner : ℕ) → Some inner ≡ option_map (λ k. min k limit) found → Some (min (before + inner) limit) ≡ counted limit before found
  some_of_it None inner e = absurd (none-some _ (sym e))
  some_of_it (Some k) inner e =
      let inner_is : inner ≡ min k limit = same_Some _ _ e in
      let same : min (before + inner) limit ≡ min (before + k) limit = omega arith in
      ap Some same

  pub none_in_member : (size inner_offset : ℕ) → size ≡ min (size_of d) 4294967296 → start ≤ o → o < start + size → inner_offset ≡ o - start
      → None ≡ option_map (λ k. min k limit) (first_scalar d inner_offset part) → None ≡ whole
  none_in_member size inner_offset size_is low high offset_is e =
      none_of_it (first_scalar d (o - start) part) (e ∙ ap (λ n. option_map (λ k. min k limit) (first_scalar d n part)) offset_is) ∙ sym (in_it size size_is low high)

  pub some_in_member : (size inner_offset inner found : ℕ) → size ≡ min (size_of d) 4294967296 → start ≤ o → o < start + size → inner_offset ≡ o - start
      → Some inner ≡ option_map (λ k. min k limit) (first_scalar d inner_offset part) → found ≡ min (before + inner) limit → Some found ≡ whole
  some_in_member size inner_offset inner found size_is low high offset_is e found_is =
      ap Some found_is
      ∙ some_of_it (first_scalar d (o - start) part) inner (e ∙ ap (λ n. option_map (λ k. min k limit) (first_scalar d n part)) offset_is)
      ∙ sym (in_it size size_is low high)

  more : (found : Option ℕ) (next n : ℕ) → next ≡ min (before + min n limit) limit → counted limit before (option_map (λ k. n + k) found) ≡ counted limit next found
  more None next n next_is = refl
  more (Some k) next n next_is =
      let same : min (before + (n + k)) limit ≡ min (next + k) limit = omega arith in
      ap Some same

  -- a member that ends before the offset is passed
  pub after_member : (size next : ℕ) → size ≡ min (size_of d) 4294967296 → o < 4294967296 → start + size ≤ o → next ≡ min (before + min (scalars_in d) limit) limit
      → whole ≡ counted limit next (scalar_after (start + size) ds o part)
  after_member size next size_is far past next_is =
      let end : start_of at d + size_of d ≡ start + size = omega (arith, start_is, size_is) in
      here_is ∙ ap (counted limit before)
      (after_it (nat_lt o (start_of at d + size_of d)) (nat_lt o (start_of at d)) (first_scalar d (o - start_of at d) part)
      (option_map (λ k. scalars_in d + k) (scalar_after (start_of at d + size_of d) ds o part)) (le-ltb _ _ (omega arith)))
      ∙ more (scalar_after (start_of at d + size_of d) ds o part) next (scalars_in d) next_is
      ∙ ap (λ n. counted limit next (scalar_after n ds o part)) end
