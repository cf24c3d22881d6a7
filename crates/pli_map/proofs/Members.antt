-- Members one after the other.
use Rattle.std.proofs.Common.{◌≡◌, ℕ, zero, suc, ◌+◌, ◌<◌, ◌≤◌, max, List, [], ◌∷◌, length, get_or, take, drop, Some, None, slice_get, refl, ap, sym, ◌∙◌, arith}
use Rattle.std.specs.Int.{next_multiple_of}
use Rattle.std.proofs.lemmas.List.{at_drop_more}
use Rattle.std.proofs.lemmas.Option.{none-some, same_Some}
use Rattle.pli_map.specs.Description as tree
use Rattle.pli_map.specs.views.DescriptionView.{description_view, members_view}
use Rattle.pli_map.specs.Parts.{PlacedPart, member_after}
use Rattle.pli_map.specs.Sizes.{alignment_of, greatest_alignment, size_of, end_after}
use Rattle.pli_map.specs.declared.description.Description.{Description}

-- members end no earlier than they begin
pub later : (at : ℕ) (ds : tree.Members) → at ≤ end_after at ds
later at tree.NoMembers = omega arith
later at (tree.MemberThen d ds) = omega (arith, later (next_multiple_of at (alignment_of d) + size_of d) ds)

-- the first members end no later than all
pub end_of_first : (at : ℕ) (xs : List Description) (i : ℕ) → end_after at (members_view (take i xs)) ≤ end_after at (members_view xs)
end_of_first at [] zero = omega arith
end_of_first at [] (suc i) = omega arith
end_of_first at (x ∷ xs) zero = later at (members_view (x ∷ xs))
end_of_first at (x ∷ xs) (suc i) = end_of_first (next_multiple_of at (alignment_of (description_view x)) + size_of (description_view x)) xs i

abbrev pub standing : ℕ → tree.Description → PlacedPart
standing at d = record { offset = next_multiple_of at (alignment_of d); description = d }

-- a member stands after those before it
pub member_within : (at : ℕ) (xs : List Description) (i : ℕ) (x : Description) → i < length xs → x ≡ get_or xs i x
    → member_after at (members_view xs) i ≡ Some (standing (end_after at (members_view (take i xs))) (description_view x))
member_within at [] i x within is = absurd (omega arith)
member_within at (y ∷ xs) zero x within is = ap (λ z. Some (standing at (description_view z))) (sym is)
member_within at (y ∷ xs) (suc i) x within is =
    member_within (next_multiple_of at (alignment_of (description_view y)) + size_of (description_view y)) xs i x (omega arith) is

pub member_past : (at : ℕ) (xs : List Description) (i : ℕ) → length xs ≤ i → member_after at (members_view xs) i ≡ None
member_past at [] i past = refl
member_past at (y ∷ xs) zero past = absurd (omega arith)
member_past at (y ∷ xs) (suc i) past = member_past (next_multiple_of at (alignment_of (description_view y)) + size_of (description_view y)) xs i (omega arith)

-- members are measured up to one whose size alone is over the limit, or whose end is
pub over_by_member : (at : ℕ) (left : tree.Members) (d : tree.Description) (ds : tree.Members) (whole : ℕ) → left ≡ tree.MemberThen d ds
    → end_after at left ≡ whole → 1000000 < next_multiple_of at (alignment_of d) + size_of d → 1000000 < whole
over_by_member at left d ds whole left_is end over =
    let e : end_after (next_multiple_of at (alignment_of d) + size_of d) ds ≡ whole = sym (ap (end_after at) left_is) ∙ end in
    omega (arith, later (next_multiple_of at (alignment_of d) + size_of d) ds, e)

-- after one more member, what is left ends where it ended before
pub end_by_member : (at next : ℕ) (left : tree.Members) (d : tree.Description) (ds : tree.Members) (whole bytes alignment : ℕ) → left ≡ tree.MemberThen d ds
    → end_after at left ≡ whole → bytes ≡ size_of d → alignment ≡ alignment_of d → next ≡ next_multiple_of at alignment + bytes → end_after next ds ≡ whole
end_by_member at next left d ds whole bytes alignment left_is end bytes_are alignment_is next_is =
    let place : next ≡ next_multiple_of at (alignment_of d) + size_of d =
    next_is ∙ ap (λ n. next_multiple_of at n + bytes) alignment_is ∙ ap (λ n. next_multiple_of at (alignment_of d) + n) bytes_are in
    ap (λ n. end_after n ds) place ∙ sym (ap (end_after at) left_is) ∙ end

-- with one more member, the greatest alignment is that of all
pub alignment_by_member : (before now : ℕ) (left : tree.Members) (d : tree.Description) (ds : tree.Members) (greatest alignment : ℕ) → left ≡ tree.MemberThen d ds
    → max before (greatest_alignment left) ≡ greatest → alignment ≡ alignment_of d → now ≡ max before alignment → max now (greatest_alignment ds) ≡ greatest
alignment_by_member before now left d ds greatest alignment left_is all alignment_is now_is =
    let first : greatest_alignment left ≡ max (alignment_of d) (greatest_alignment ds) = ap greatest_alignment left_is in
    omega arith

-- what is left of members begins with the current one
pub next_member : (xs : List Description) (i : ℕ) (x : Description) → i < length xs → x ≡ get_or xs i x
    → members_view (drop i xs) ≡ tree.MemberThen (description_view x) (members_view (drop (i + 1) xs))
next_member xs i x within is = at_drop_more members_view xs i x within ∙ ap (λ y. members_view (y ∷ drop (i + 1) xs)) (sym is)

-- the first member, and those after it
pub first_member : (xs : List Description) (x : Description) → slice_get xs 0 ≡ Some x → members_view xs ≡ tree.MemberThen (description_view x) (members_view (drop 1 xs))
first_member [] x is = absurd (none-some x is)
first_member (y ∷ ys) x is = ap (λ z. tree.MemberThen (description_view z) (members_view ys)) (same_Some y x is)
