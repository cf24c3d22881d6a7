-- Where members and elements are laid: within the whole, and each with fewer descriptions in it.
use Rattle.std.proofs.Common.{◌≡◌, ℕ, zero, suc, ◌+◌, ◌*◌, ◌/◌, ◌<◌, ◌≤◌, min, List, [], ◌∷◌, length, take, get_or, sym, ap, ◌∙◌, arith}
use Rattle.std.specs.Int.{next_multiple_of}
use Rattle.std.proofs.Math.Nat.{le-mul_of_pos_right, mul-div_right}
use Rattle.pli_map.specs.Description as tree
use Rattle.pli_map.specs.declared.description.Description.{Description}
use Rattle.pli_map.specs.Scalars.{scalars_in}
use Rattle.pli_map.specs.Sizes.{alignment_of, size_of, end_after, stride_of}
use Rattle.pli_map.specs.views.DescriptionView.{description_view, members_view}
use Rattle.pli_map.proofs.FarSizes.{cut_stride}
use Rattle.pli_map.proofs.Members.{end_of_first}
use Rattle.pli_map.proofs.Places.{element_inside, fits_stride}
use Rattle.pli_map.proofs.ScalarPlaces.{nodes, nodes_among}
use Rattle.pli_bytes.proofs.Laid.{end_more}

module _ (xs : List Description) (i : ℕ) (x : Description) (within : i < length xs) (is : x ≡ get_or xs i x) (end alignment : ℕ)
    (end_is : end ≡ end_after 0 (members_view (take i xs))) (alignment_is : alignment ≡ alignment_of (description_view x)) where
  -- where a member stands, after those before it
  pub member_start : next_multiple_of end alignment ≡ next_multiple_of (end_after 0 (members_view (take i xs))) (alignment_of (description_view x))
  member_start = ap (λ n. next_multiple_of n alignment) end_is ∙ ap (next_multiple_of (end_after 0 (members_view (take i xs)))) alignment_is

  -- and ends
  pub member_end : next_multiple_of end alignment + size_of (description_view x) ≡ end_after 0 (members_view (take (i + 1) xs))
  member_end = ap (λ n. n + size_of (description_view x)) member_start ∙ sym (end_more 0 xs i x within is)

  pub member_inside : next_multiple_of end alignment + size_of (description_view x) ≤ end_after 0 (members_view xs)
  member_inside = omega (arith, member_end, end_of_first 0 xs (i + 1))

pub nodes_of_member : (xs : List Description) (i : ℕ) (x : Description) → i < length xs → x ≡ get_or xs i x → nodes (description_view x) ≤ nodes_among (members_view xs)
nodes_of_member [] i x within is = absurd (omega (arith, within))
nodes_of_member (y ∷ ys) zero x within is = omega (arith, ap (λ z. nodes (description_view z)) is)
nodes_of_member (y ∷ ys) (suc i) x within is = omega (arith, nodes_of_member ys i x (omega (arith, within)) is)

-- as many elements as scalars, of which each has so many, where these were not cut
pub elements_counted : (scalars each count inner limit : ℕ) → 0 < scalars → scalars < limit → scalars ≡ min (count * inner) limit → each ≡ min inner limit
    → (scalars / each ≡ count) × (0 < each)
elements_counted scalars each count zero limit some below scalars_are each_is =
    let none : count * zero ≡ 0 = omega arith in
    absurd (omega (arith, some, scalars_are, none))
elements_counted scalars each zero (suc inner) limit some below scalars_are each_is = absurd (omega (arith, some, scalars_are))
elements_counted scalars each (suc count) (suc inner) limit some below scalars_are each_is =
    let turned : suc count * suc inner ≡ suc inner * suc count = omega arith in
    let all : scalars ≡ suc inner * suc count = omega (arith, below, scalars_are, turned) in
    let more : suc inner ≤ suc inner * suc count = le-mul_of_pos_right (suc inner) (omega arith) in
    let one : each ≡ suc inner = omega (arith, below, all, more, each_is) in
    (ap (λ n. n / each) all ∙ ap (λ n. suc inner * suc count / n) one ∙ mul-div_right (suc count) (omega arith), omega (arith, one))

-- the distance between elements, where there are some
pub whole_stride : (element : tree.Description) (count size alignment stride : ℕ) → 0 < count → count * stride_of element ≤ 16777216
    → size ≡ min (size_of element) 4294967296 → alignment ≡ alignment_of element → stride ≡ next_multiple_of size alignment → stride ≡ stride_of element
whole_stride element count size alignment stride some limit size_is alignment_is stride_is =
    let wide = stride_of element in
    let turned : wide * count ≡ count * wide = omega arith in
    let one : wide ≤ wide * count = le-mul_of_pos_right wide some in
    omega (arith, stride_is, cut_stride element size alignment size_is alignment_is, one, turned, limit)

-- an element's place: before the last, as far from the first as the elements before it take, and within the array
pub record ElementPlace (element : tree.Description) (count made stride : ℕ) : Type 0 where
  pub below : made < count
  pub stride_is : stride ≡ stride_of element
  pub inside : made * stride + size_of element ≤ count * stride_of element

pub element_placed : (element : tree.Description) (count made scalars each size alignment stride : ℕ) → count * stride_of element ≤ 16777216
    → 0 < scalars → scalars < 18446744073709551615 → scalars ≡ min (count * scalars_in element) 18446744073709551615 → each ≡ min (scalars_in element) 18446744073709551615
    → made < scalars / each → size ≡ min (size_of element) 4294967296 → alignment ≡ alignment_of element → stride ≡ next_multiple_of size alignment
    → ElementPlace element count made stride
element_placed element count made scalars each size alignment stride limit some few scalars_are each_is next size_is alignment_is stride_is =
    let wide = stride_of element in
    let below : made < count = omega (arith, next, (elements_counted scalars each count (scalars_in element) 18446744073709551615 some few scalars_are each_is).0) in
    let same : stride ≡ wide = whole_stride element count size alignment stride (omega (arith, below)) limit size_is alignment_is stride_is in
    record {
      below = below;
      stride_is = same;
      inside = omega (arith, ap (λ n. made * n) same, element_inside made count wide (size_of element) below (fits_stride element));
    }

-- how often a distance goes into as many bytes as so many elements take
pub divided_by_stride : (size count wide : ℕ) → 0 < wide → size ≡ count * wide → size / wide ≡ count
divided_by_stride size count wide some is =
    let turned : count * wide ≡ wide * count = omega arith in
    ap (λ n. n / wide) (is ∙ turned) ∙ mul-div_right count some

-- a product that is something has a first factor that is
pub some_factor : (a b : ℕ) → 0 < a * b → 0 < a
some_factor zero b h = absurd (omega (arith, h))
some_factor (suc a) b h = omega arith
