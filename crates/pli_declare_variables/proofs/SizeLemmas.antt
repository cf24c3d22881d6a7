-- Members one after the other, and arrays, as far as what they take is known.
use Rattle.std.proofs.Common.{◌≡◌, ℕ, zero, suc, ◌+◌, ◌*◌, ◌≤◌, max, Bool, true, false, ◌&&◌, Option, Some, None, option_map, List, [], ◌∷◌, refl, ap, sym, ◌∙◌, arith}
use Rattle.std.specs.Prelude.{int_le}
use Rattle.std.specs.Int.{next_multiple_of}
use Rattle.std.specs.List.{list_all}
use Rattle.pli_base.specs.declared.declaration.WrittenBounds.{WrittenBounds}
use Rattle.pli_base.specs.declared.declaration.WrittenBounds.TheVariants as limits
use Rattle.pli_map.specs.Description.{Description, Structure, Members, NoMembers}
use Rattle.pli_map.specs.Layouts.{IsLayout}
use Rattle.pli_map.specs.Sizes.{size_of, alignment_of, end_after, greatest_alignment, count_of, extent_of}
use Rattle.pli_map.specs.declared.layout.Layout.{Layout}
use Rattle.pli_map.proofs.Members.{later}
use Rattle.pli_map.proofs.Alignments.{members_positive}
use Rattle.pli_base.specs.Declarations.{integer_of}
use Rattle.pli_declare.specs.Extents.{low_of, are_good, are_bad_bounds, all_bounds, bounds_of}
use Rattle.pli_declare.specs.Faults.{with_bounds}
use Rattle.pli_declare.proofs.ShapeLemmas.{bounds_good}
use Rattle.pli_declare.specs.Descriptions.{member_then, members_made, inside}
use Rattle.pli_declare_variables.specs.answers.Measures.{of_layout, IsMeasured, IsFront}
use Rattle.pli_declare_variables.specs.declared.sizes.Measured.{Measured}
use Rattle.pli_declare_variables.specs.declared.sizes.Measured.TheVariants.{Unknown, TooLarge, Takes}

-- what is left of a layout and members after it
layout_then : (answer : Option Layout) (bytes alignment : ℕ) → IsLayout answer bytes alignment → (others : Members) (whole : Members)
    → end_after bytes others ≡ end_after 0 whole → max alignment (greatest_alignment others) ≡ greatest_alignment whole
    → IsFront (of_layout answer) (Some others) (Some whole)
layout_then None bytes alignment h others whole p q = omega (arith, h, later bytes others, p)
layout_then (Some l) bytes alignment h others whole p q = (ap (λ n. end_after n others) h.1 ∙ p, ap (λ n. max n (greatest_alignment others)) h.2 ∙ q)

none_then : (answer : Option Layout) (whole : Option Members) → whole ≡ None → IsFront (of_layout answer) None whole
none_then None whole h = h
none_then (Some l) whole h = h

-- one member more, where both are known
pub both_known : (before member : Layout) (answer : Option Layout)
    → IsLayout answer (next_multiple_of before.bytes member.alignment + member.bytes) (max before.alignment member.alignment)
    → (d : Option Description) (others whole : Option Members) → IsMeasured (Takes member) d → IsFront (Takes before) (member_then d others) whole
    → IsFront (of_layout answer) others whole
both_known before member answer h None others whole m f = absurd m
both_known before member answer h (Some x) None whole m f = none_then answer whole f
both_known before member answer h (Some x) (Some os) None m f = absurd f
both_known before member answer h (Some x) (Some os) (Some w) m f =
    let e : next_multiple_of before.bytes member.alignment + member.bytes ≡ next_multiple_of before.bytes (alignment_of x) + size_of x = rw (m.1, m.2) refl in
    layout_then answer _ _ h os w (ap (λ n. end_after n os) e ∙ f.0) (omega (arith, f.1, m.2))

-- one member more, which is too large
pub over_member : (before : Layout) (d : Option Description) (others whole : Option Members) → IsMeasured TooLarge d
    → IsFront (Takes before) (member_then d others) whole → IsFront TooLarge others whole
over_member before None others whole m f = absurd m
over_member before (Some x) None whole m f = f
over_member before (Some x) (Some os) None m f = f
over_member before (Some x) (Some os) (Some w) m f = omega (arith, m, later (next_multiple_of before.bytes (alignment_of x) + size_of x) os, f.0)

-- all members stand after none
pub begins : (l : Layout) → l.bytes ≡ 0 → l.alignment ≡ 1 → (ms : Option Members) → IsFront (Takes l) ms ms
begins l p q None = refl
begins l p q (Some ms) = (ap (λ n. end_after n ms) p, omega (arith, q, members_positive ms))

-- and none after all
pub ends : (front : Measured) (whole : Option Members) → IsFront front (Some NoMembers) whole → IsMeasured front (option_map Structure whole)
ends Unknown None f = tt
ends Unknown (Some w) f = cc
ends TooLarge None f = absurd f
ends TooLarge (Some w) f = f
ends (Takes l) None f = absurd f
ends (Takes l) (Some w) f = (omega (arith, f.0, l.in_limit), f.0, omega (arith, f.1, l.positive))

both : (a b c : Bool) → (a && b && c) ≡ true → b ≡ true
both true true c h = refl
both true false c h = cc
both false true c h = refl
both false false c h = cc

first : (a b : Bool) → (a && b) ≡ true → a ≡ true
first true b h = refl
first false b h = cc

second : (a b : Bool) → (a && b) ≡ true → b ≡ true
second true b h = h
second false b h = cc

extent_positive : (b : WrittenBounds) → are_good b ≡ true → 1 ≤ extent_of (bounds_of b)
extent_positive (limits.Stated low high) h = rw (both _ (int_le (low_of low) (integer_of high)) _ h) (omega arith)
extent_positive limits.Any h = omega arith

product_positive : (m n : ℕ) → 1 ≤ m → 1 ≤ n → 1 ≤ m * n
product_positive zero n p q = absurd (omega arith)
product_positive (suc m) n p q = omega (arith, q)

count_positive : (dimensions : List WrittenBounds) → list_all are_good dimensions ≡ true → 1 ≤ count_of (all_bounds dimensions)
count_positive [] h = omega arith
count_positive (b ∷ bs) h = product_positive _ _ (extent_positive b (first _ _ h)) (count_positive bs (second _ _ h))

at_least : (m n : ℕ) → 1 ≤ m → n ≤ m * n
at_least zero n p = absurd (omega arith)
at_least (suc m) n p = omega arith

-- an array has an element, so it is no smaller
bounded_size : (dimensions : List WrittenBounds) → list_all are_good dimensions ≡ true → (d : Description) → size_of d ≤ size_of (with_bounds (all_bounds dimensions) d)
bounded_size [] h d = omega arith
bounded_size (b ∷ bs) h d =
    omega (arith, at_least (count_of (all_bounds (b ∷ bs))) (next_multiple_of (size_of d) (alignment_of d)) (count_positive (b ∷ bs) h))

-- an array of what is too large, or is not known
pub bounded_over : (dimensions : List WrittenBounds) → are_bad_bounds dimensions ≡ false → (m : Measured) → ((l : Layout) → m ≡ Takes l → ⊥) → (d : Option Description)
    → IsMeasured m d → IsMeasured m (option_map (with_bounds (all_bounds dimensions)) d)
bounded_over dimensions good Unknown other None m = m
bounded_over dimensions good Unknown other (Some d) m = absurd m
bounded_over dimensions good TooLarge other None m = m
bounded_over dimensions good TooLarge other (Some d) m = omega (arith, m, bounded_size dimensions (bounds_good dimensions good) d)
bounded_over dimensions good (Takes l) other d m = absurd (other l refl)

-- an array of what is known
array_known : (b : WrittenBounds) (bs : List WrittenBounds) (l : Layout) (answer : Option Layout) → IsLayout answer (count_of (all_bounds (b ∷ bs)) * next_multiple_of l.bytes l.alignment) l.alignment
    → (d : Description) → IsMeasured (Takes l) (Some d) → IsMeasured (of_layout answer) (Some (with_bounds (all_bounds (b ∷ bs)) d))
array_known b bs l None h d m = rw (sym m.1, sym m.2) h
array_known b bs l (Some a) h d m =
    let e : count_of (all_bounds (b ∷ bs)) * next_multiple_of l.bytes l.alignment ≡ count_of (all_bounds (b ∷ bs)) * next_multiple_of (size_of d) (alignment_of d) = rw (m.1, m.2) refl in
    (omega (arith, e, h.0), h.1 ∙ e, h.2 ∙ m.2)

pub bounded_known : (dimensions : List WrittenBounds) → (dimensions ≡ [] → ⊥) → (l : Layout) (answer : Option Layout)
    → IsLayout answer (count_of (all_bounds dimensions) * next_multiple_of l.bytes l.alignment) l.alignment
    → (d : Option Description) → IsMeasured (Takes l) d → IsMeasured (of_layout answer) (option_map (with_bounds (all_bounds dimensions)) d)
bounded_known dimensions some l answer h None m = absurd m
bounded_known [] some l answer h (Some d) m = absurd (some refl)
bounded_known (b ∷ bs) some l answer h (Some d) m = array_known b bs l answer h d m

-- an item without members
pub of_scalar : (answer : Option Layout) (d : Description) → IsLayout answer (size_of d) (alignment_of d) → IsMeasured (of_layout answer) (Some d)
of_scalar None d h = h
of_scalar (Some l) d h = h

-- an item with some
pub inside_some : (describe : ℕ → Option Description) (scalar : Description) (ks : List ℕ) → (ks ≡ [] → ⊥)
    → option_map Structure (members_made describe ks) ≡ inside describe scalar ks
inside_some describe scalar [] some = absurd (some refl)
inside_some describe scalar (k ∷ ks) some = refl
