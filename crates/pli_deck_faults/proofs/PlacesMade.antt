-- How the places of a description are put together.
use Rattle.std.proofs.Common.{◌≡◌, ℕ, zero, suc, ◌+◌, ◌*◌, ◌<◌, ◌≤◌, List, [], ◌∷◌, ◌++◌, refl, sym, ap, ◌∙◌, append_assoc, inl, inr, arith}
use Rattle.std.specs.Int.{next_multiple_of}
use Rattle.pli_map.specs.Description as tree
use Rattle.pli_map.specs.Sizes.{alignment_of, size_of, stride_of, count_of, end_after}
use Rattle.pli_map.proofs.Members.{later}
use Rattle.pli_map.proofs.MultipleLemmas.{IsAlignment}
use Rattle.pli_map.proofs.PlaceLaws.{four_alignments}
use Rattle.pli_map.specs.declared.description.Bounds.{Bounds}
use Rattle.pli_deck_faults.specs.Places.{Places, PlacesThen, places_of, places_among, list_of_places}

stride_covers : (s a : ℕ) → IsAlignment a → s ≤ next_multiple_of s a
stride_covers s a (inl e) = rw e (omega arith)
stride_covers s a (inr (inl e)) = rw e (omega arith)
stride_covers s a (inr (inr (inl e))) = rw e (omega arith)
stride_covers s a (inr (inr (inr e))) = rw e (omega arith)

factor_fits : (count stride size bytes : ℕ) → bytes ≡ count * stride → 0 < bytes → bytes ≤ 1000000 → size ≤ stride → size ≤ 1000000
factor_fits zero stride size bytes is some most covers = absurd (omega (arith, is, some))
factor_fits (suc n) stride size bytes is some most covers =
    let parts : suc n * stride ≡ stride + n * stride = omega arith in
    omega (arith, is, parts, most, covers)

-- an element is no larger than an array that has bytes
pub element_fits : (bs : List Bounds) (e : tree.Description) (bytes : ℕ) → bytes ≡ size_of (tree.Array bs e) → 0 < bytes → bytes ≤ 1000000
    → size_of e ≤ 1000000
element_fits bs e bytes is some most =
    factor_fits (count_of bs) (stride_of e) (size_of e) bytes is some most (stride_covers (size_of e) (alignment_of e) (four_alignments e))

-- a member is no larger than what ends after it
pub member_fits : (at whole : ℕ) (left ds : tree.Members) (d : tree.Description) → left ≡ tree.MemberThen d ds → end_after at left ≡ whole → whole ≤ 1000000
    → next_multiple_of at (alignment_of d) + size_of d ≤ 1000000
member_fits at whole left ds d left_is end most =
    let e : end_after (next_multiple_of at (alignment_of d) + size_of d) ds ≡ whole = sym (ap (end_after at) left_is) ∙ end in
    omega (arith, later (next_multiple_of at (alignment_of d) + size_of d) ds, e, most)

-- one more, put after those so far
pub one_more : {X : Type 0} (so_far left rest whole : List X) (x y : X) → so_far ++ left ≡ whole → left ≡ x ∷ rest → y ≡ x → (so_far ++ y ∷ []) ++ rest ≡ whole
one_more so_far left rest whole x y e left_is same = rw (same, append_assoc, ← left_is) e

-- the places of members as a list
abbrev pub listed_places : tree.Members → List Places
listed_places tree.NoMembers = []
listed_places (tree.MemberThen d ds) = places_of d ∷ listed_places ds

pub listed : (ms : tree.Members) → list_of_places (listed_places ms) ≡ places_among ms
listed tree.NoMembers = refl
listed (tree.MemberThen d ds) = ap (PlacesThen (places_of d)) (listed ds)
