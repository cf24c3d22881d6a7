-- Scalars that stand among the members of a structure.
use Rattle.std.proofs.Common.{◌≡◌, ℕ, ◌+◌, ◌-◌, ◌*◌, ◌/◌, ◌%◌, ◌<◌, ◌≤◌, min, Bool, true, false, nat_lt, List, [], ◌∷◌, length, get_or, Option, Some, None, option_map, if◌then◌else◌, lt-ltb, refl, ap, subst, sym, ◌∙◌, arith}
use Rattle.std.specs.Int.{next_multiple_of}
use Rattle.std.specs.Option.{is_some}
use Rattle.pli_map.specs.declared.description.Bounds.{Bounds}
use Rattle.pli_map.specs.Description.{Description, FixedBinary, Bit, Array, Structure, Members, MemberThen}
use Rattle.pli_map.specs.Scalars.{first_scalar, scalar_after, scalars_in, stands_here}
use Rattle.pli_map.specs.Sizes.{alignment_of, count_of, extent_of, size_of, stride_of}
use Rattle.std.proofs.Math.Nat.{mod_self, sub-zero, zero-mod}
use Rattle.std.proofs.lemmas.Nat.{div-mul-add, mod-mul-add}
use Rattle.pli_map.proofs.Alignments.{alignment_positive}
use Rattle.pli_map.proofs.FoundScalars.{stride_found}
use Rattle.pli_map.proofs.ScalarLawsHold.{whole_found}
use Rattle.pli_map.proofs.ScalarParts.{structure_finds, first_finds, others_find}
use Rattle.pli_map.proofs.ScalarPlaces.{start_of}

some_of : (o : Option ℕ) → is_some o ≡ true → (k : ℕ) × (o ≡ Some k)
some_of None e = cc
some_of (Some k) e = (k, refl)

-- what is found among the members of a structure is found in it
pub found_among : (members : Members) (o : ℕ) (part : Description) → is_some (scalar_after 0 members o part) ≡ true → is_some (first_scalar (Structure members) o part) ≡ true
found_among members o part e =
    let found = some_of (scalar_after 0 members o part) e in
    ap is_some (structure_finds members o part found.0 found.1)

module _ (at : ℕ) (d : Description) (ds left : Members) (o : ℕ) (part : Description) (left_is : left ≡ MemberThen d ds) where
  -- what is found after a member is found after those before it
  pub some_after : (next : ℕ) → next ≡ start_of at d + size_of d → is_some (scalar_after next ds o part) ≡ true → is_some (scalar_after at left o part) ≡ true
  some_after next next_is e =
      let found = some_of (scalar_after next ds o part) e in
      ap (λ l. is_some (scalar_after at l o part)) left_is
      ∙ ap is_some (others_find at d ds o part found.0 (sym (ap (λ n. scalar_after n ds o part) next_is) ∙ found.1))

  -- a member is found where it begins
  pub some_first : o ≡ start_of at d → 0 < size_of d → d ≡ part → is_some (scalar_after at left o part) ≡ true
  some_first begins sized same =
      let here : o ≡ start_of at d + 0 = omega (arith, begins) in
      ap (λ l. is_some (scalar_after at l o part)) left_is
      ∙ ap (λ n. is_some (scalar_after at (MemberThen d ds) n part)) here
      ∙ ap (λ p. is_some (scalar_after at (MemberThen d ds) (start_of at d + 0) p)) (sym same)
      ∙ ap is_some (first_finds at d ds 0 d 0 sized (whole_found d))

-- ---- in an array of structures

pub is_some_mapped : (rest : Option ℕ) (f : ℕ → ℕ) → is_some (option_map f rest) ≡ is_some rest
is_some_mapped None f = refl
is_some_mapped (Some k) f = refl

some_there : (stands test : Bool) (rest : Option ℕ) (f : ℕ → ℕ) → test ≡ true → is_some rest ≡ true
    → is_some (if stands then Some 0 else if test then option_map f rest else None) ≡ true
some_there true test rest f t r = refl
some_there false test rest f t r = rw t (is_some_mapped rest f ∙ r)

-- what is found in the element that an offset leads to is found in the array
pub some_in_array : (bounds : List Bounds) (e : Description) (o index inner count : ℕ) (part : Description) → index ≡ o / stride_of e → inner ≡ o % stride_of e
    → count ≡ min (count_of bounds) 18446744073709551615 → index < count → is_some (first_scalar e inner part) ≡ true
    → is_some (first_scalar (Array bounds e) o part) ≡ true
some_in_array bounds e o index inner count part index_is inner_is count_is below found =
    some_there (stands_here (Array bounds e) o part) (nat_lt (o / stride_of e) (count_of bounds)) (first_scalar e (o % stride_of e) part)
    (λ k. o / stride_of e * scalars_in e + k) (lt-ltb _ _ (omega (arith, index_is, count_is, below)))
    (ap (λ n. is_some (first_scalar e n part)) (sym inner_is) ∙ found)

-- two strides of as many elements, which take as many bytes
same_stride : (count stride other size index : ℕ) → size ≡ count * stride → size ≡ count * other → size ≤ 18446744073709551615 → index < count → other ≡ stride
same_stride count stride other size index is too small below =
    let n = min count 18446744073709551615 in
    let some : 0 < n = omega (arith, below) in
    sym (stride_found count other size n too small refl some) ∙ stride_found count stride size n is small refl some

-- what is found in an element is found in the array, whose elements are so far from one another
pub some_in_row : (bounds : List Bounds) (e : Description) (size stride index inner : ℕ) (part : Description) → size ≡ count_of bounds * stride_of e → size ≡ count_of bounds * stride
    → size ≤ 18446744073709551615 → index < count_of bounds → index < 18446744073709551615 → inner < stride → is_some (first_scalar e inner part) ≡ true
    → is_some (first_scalar (Array bounds e) (index * stride + inner) part) ≡ true
some_in_row bounds e size stride index inner part is too small below few inside found =
    let same : stride ≡ stride_of e = same_stride (count_of bounds) (stride_of e) stride size index is too small below in
    let o = index * stride + inner in
    some_in_array bounds e o index inner (min (count_of bounds) 18446744073709551615) part
    (sym (div-mul-add index stride inner inside) ∙ ap (λ s. o / s) same)
    (sym (mod-mul-add index stride inner inside) ∙ ap (λ s. o % s) same)
    refl (omega (arith, below, few)) found

-- an array of one dimension has as many elements as that has subscripts
pub one_dimension : (bounds : List Bounds) (b : Bounds) → length bounds ≡ 1 → count_of bounds ≡ extent_of (get_or bounds 0 b)
one_dimension [] b one = absurd (omega (arith, one))
one_dimension (a ∷ []) b one = omega arith
one_dimension (a ∷ c ∷ bs) b one = absurd (omega (arith, one))

-- a string of one bit stands at each byte of an array of such
pub bit_in_array : (bounds : List Bounds) (o size : ℕ) → size ≡ size_of (Array bounds (Bit 1)) → size ≤ 18446744073709551615 → o < size
    → is_some (first_scalar (Array bounds (Bit 1)) o (Bit 1)) ≡ true
bit_in_array bounds o size is small below =
    let all : size ≡ count_of bounds * 1 = is in
    let alone : o * 1 + 0 ≡ o = omega arith in
    subst (λ n. is_some (first_scalar (Array bounds (Bit 1)) n (Bit 1)) ≡ true) alone
    (some_in_row bounds (Bit 1) size 1 o 0 (Bit 1) is all small (omega (arith, all, below)) (omega (arith, small, below)) (omega arith) refl)

-- nothing stands before what begins a structure
begins : (a : ℕ) → 0 < a → 0 ≡ next_multiple_of 0 a
begins a some =
    let none : (a - 0 % a) % a ≡ 0 = ap (λ n. (a - n) % a) (zero-mod a) ∙ ap (λ n. n % a) (sub-zero a) ∙ mod_self a in
    omega (arith, none)

-- a number is found where a structure begins with it
pub first_number : (members : Members) (d : Description) (ds : Members) (precision : ℕ) → members ≡ MemberThen d ds → d ≡ FixedBinary precision
    → is_some (first_scalar (Structure members) 0 (FixedBinary precision)) ≡ true
first_number members d ds precision is number =
    found_among members 0 (FixedBinary precision)
    (some_first 0 d ds members 0 (FixedBinary precision) is (begins (alignment_of d) (alignment_positive d)) (sized precision d number) number)
  where
    sized : (n : ℕ) (d : Description) → d ≡ FixedBinary n → 0 < size_of d
    sized n d e = subst (λ x. 0 < size_of x) (sym e) (alignment_positive (FixedBinary n))
