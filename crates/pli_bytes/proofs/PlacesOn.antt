-- Where the function that finds the scalar on a byte goes on: in the element or the member that has the byte.
use Rattle.std.proofs.Common.{◌≡◌, ℕ, ◌+◌, ◌-◌, ◌*◌, ◌/◌, ◌%◌, ◌<◌, ◌≤◌, min, List, length, drop, get_or, option_map, None, sym, subst, ap, ◌∙◌, arith}
use Rattle.std.specs.Int.{next_multiple_of}
use Rattle.pli_map.specs.declared.description.Bounds.{Bounds}
use Rattle.pli_map.specs.declared.description.Description.{Description}
use Rattle.pli_map.specs.Description as tree
use Rattle.pli_map.specs.Parts.{moved}
use Rattle.pli_map.specs.Sizes.{alignment_of, count_of, size_of, stride_of}
use Rattle.pli_map.specs.views.DescriptionView.{description_view, members_view}
use Rattle.pli_map.proofs.Members.{next_member}
use Rattle.pli_map.proofs.Places.{element_inside, fits_stride}
use Rattle.pli_bytes.specs.Contents.{scalar_on, scalars_at, scalars_after}
use Rattle.pli_bytes.proofs.LaidPlaces.{whole_stride}
use Rattle.pli_bytes.proofs.ScalarsOn.{on_in_array, on_before, on_first, on_others}

-- ---- elements

-- the scalar on a byte of an array is one of the element that has the byte
pub record OnElement (bounds : List Bounds) (element : tree.Description) (offset stride : ℕ) : Type 0 where
  pub some : 0 < stride
  pub inside : offset / stride * stride + size_of element ≤ count_of bounds * stride_of element
  pub narrow : stride ≤ 16777216
  pub there : scalar_on offset (scalars_at (tree.Array bounds element)) ≡ option_map (moved (offset / stride * stride)) (scalar_on (offset % stride) (scalars_at element))

pub on_element_of : (bounds : List Bounds) (element : tree.Description) (offset whole size alignment stride : ℕ) → count_of bounds * stride_of element ≤ 16777216
    → whole ≡ min (count_of bounds * stride_of element) 4294967296 → offset < whole → size ≡ min (size_of element) 4294967296 → alignment ≡ alignment_of element
    → stride ≡ next_multiple_of size alignment → OnElement bounds element offset stride
on_element_of bounds element offset whole size alignment stride limit whole_is below size_is alignment_is stride_is =
    let w = stride_of element in
    let here = on_in_array bounds element offset (omega (arith, whole_is, below)) in
    let wide = whole_stride element (count_of bounds) size alignment stride (omega (arith, here.below)) limit size_is alignment_is stride_is in
    let inside = element_inside (offset / w) (count_of bounds) w (size_of element) here.below (fits_stride element) in
    let one = element_inside (offset / w) (count_of bounds) w w here.below (omega arith) in
    subst (OnElement bounds element offset) (sym wide) (record {
      some = here.some;
      inside = inside;
      narrow = omega (arith, one, limit);
      there = here.there;
    })

-- ---- members

module _ (xs : List Description) (i : ℕ) (x : Description) (offset end alignment start : ℕ) (within : i < length xs) (is : x ≡ get_or xs i x)
    (alignment_is : alignment ≡ alignment_of (description_view x)) (start_is : start ≡ next_multiple_of end alignment) where
  start_of : start ≡ next_multiple_of end (alignment_of (description_view x))
  start_of = start_is ∙ ap (next_multiple_of end) alignment_is

  -- it is before this member
  pub before_member : offset < start → scalar_on offset (scalars_after end (members_view (drop i xs))) ≡ None
  before_member less =
      ap (λ ms. scalar_on offset (scalars_after end ms)) (next_member xs i x within is)
      ∙ on_before offset end (description_view x) (members_view (drop (i + 1) xs)) (omega (arith, less, start_of))

  -- in it
  pub in_this_member : start ≤ offset → offset < start + size_of (description_view x)
      → scalar_on offset (scalars_after end (members_view (drop i xs))) ≡ option_map (moved start) (scalar_on (offset - start) (scalars_at (description_view x)))
  in_this_member from less =
      ap (λ ms. scalar_on offset (scalars_after end ms)) (next_member xs i x within is)
      ∙ on_first offset end (description_view x) (members_view (drop (i + 1) xs)) (omega (arith, from, start_of)) (omega (arith, less, start_of))
      ∙ ap (λ n. option_map (moved n) (scalar_on (offset - n) (scalars_at (description_view x)))) (sym start_of)

  -- or after it
  pub in_later_member : (next : ℕ) → next ≡ start + size_of (description_view x) → next ≤ offset
      → scalar_on offset (scalars_after end (members_view (drop i xs))) ≡ scalar_on offset (scalars_after next (members_view (drop (i + 1) xs)))
  in_later_member next next_is past =
      let place : next_multiple_of end (alignment_of (description_view x)) + size_of (description_view x) ≡ next = omega (arith, next_is, start_of) in
      ap (λ ms. scalar_on offset (scalars_after end ms)) (next_member xs i x within is)
      ∙ on_others offset end (description_view x) (members_view (drop (i + 1) xs)) (omega (arith, place, past))
      ∙ ap (λ n. scalar_on offset (scalars_after n (members_view (drop (i + 1) xs)))) place
