-- The first of values laid down, for a scalar, one member more and one element more, and those that are left.
use Rattle.std.proofs.Common.{◌≡◌, ℕ, suc, ◌+◌, ◌-◌, ◌*◌, ◌<◌, ◌≤◌, Bool, true, ◌&&◌, ◌==◌, map, List, [], ◌∷◌, ◌++◌, length, take, drop, get_or, refl, sym, ap, ◌∙◌, subst, arith, append-nil, append_assoc, length-append}
use Rattle.std.specs.Int.{next_multiple_of}
use Rattle.std.proofs.lemmas.Bool.{eqb-true, false_from_ne_true}
use Rattle.std.proofs.lemmas.List.{nil_from_length}
use Rattle.pli_map.specs.Description as tree
use Rattle.pli_map.specs.declared.description.Bounds.{Bounds}
use Rattle.pli_map.specs.declared.description.Description.{Description}
use Rattle.pli_map.specs.Parts.{moved}
use Rattle.pli_map.specs.Scalars.{is_scalar, scalars_in, scalars_of, scalars_of_members}
use Rattle.pli_map.specs.Sizes.{alignment_of, size_of, end_after, stride_of, count_of}
use Rattle.pli_map.specs.Values.{holds, are_held}
use Rattle.pli_map.specs.views.DescriptionView.{description_view, members_view}
use Rattle.pli_map.proofs.FirstHeld.{held_on}
use Rattle.pli_value.specs.Value.{Value}
use Rattle.pli_bytes.specs.answers.Laying.{Taken, NoneTaken, LaidAt, LaidFront}
use Rattle.pli_bytes.specs.Changes.{IsPut}
use Rattle.pli_bytes.specs.Contents.{scalars_at, value_in, values_of}
use Rattle.pli_bytes.proofs.HeldValues.{all_taken, held_length, not_after, not_before, some_left}
use Rattle.pli_bytes.proofs.Laid.{laid_scalar, laid_none, laid_whole, LaidElements, laid_element, laid_member}
use Rattle.pli_bytes.proofs.PartLists.{repeated, one_repeated, repeated_split, scalars_more, scalars_split}
use Rattle.pli_bytes.proofs.Scalars.{counted, described, descriptions, scalar_itself}

-- fewer values than scalars
pub too_few : (ds : List tree.Description) (vs : List Value) → length vs < length ds → NoneTaken ds vs
too_few ds vs fewer es =
    false_from_ne_true (are_held (ds ++ es) vs) (λ e. absurd (omega (arith, fewer, held_length (ds ++ es) vs e, length-append ds es)))

-- ---- a scalar

pub front_scalar : (at : ℕ) (d : tree.Description) (v : Value) (rest : List Value) (old new : List ℕ) → is_scalar d ≡ true → holds d v ≡ true
    → at + size_of d ≤ length old → IsPut d v at old new → LaidFront at d (v ∷ rest) rest old new
front_scalar at d v rest old new scalar held inside put = record {
  taken = record { used = v ∷ []; is = refl; held = ap (λ ds. are_held ds (v ∷ [])) (scalar_itself d scalar) ∙ ap (λ b. b && true) held };
  laid = laid_scalar at d v old new scalar inside put;
}

-- ---- members

pub no_members : (at : ℕ) (vs : List Value) (bytes : List ℕ) → LaidFront at (tree.Structure tree.NoMembers) vs vs bytes bytes
no_members at vs bytes = record {
  taken = record { used = []; is = refl; held = refl };
  laid = laid_none at (at + 0) bytes;
}

module _ (at : ℕ) (xs : List Description) (i : ℕ) (x : Description) (vs left : List Value) (old between : List ℕ) (within : i < length xs) (is : x ≡ get_or xs i x)
    (before : LaidFront at (tree.Structure (members_view (take i xs))) vs left old between) where
  pub front_member : (start : ℕ) (rest : List Value) (new : List ℕ) → start ≡ next_multiple_of (end_after 0 (members_view (take i xs))) (alignment_of (description_view x))
      → LaidFront (at + start) (description_view x) left rest between new → LaidFront at (tree.Structure (members_view (take (i + 1) xs))) vs rest old new
  front_member start rest new start_is one =
      let used = before.taken.used in
      let more = one.taken.used in
      let ds = scalars_of_members (members_view (take i xs)) in
      let es = scalars_of (description_view x) in
      record {
        taken = record {
          used = used ++ more;
          is = before.taken.is ∙ ap (λ l. used ++ l) one.taken.is ∙ sym (append_assoc used more rest);
          held = ap (λ fs. are_held fs (used ++ more)) (scalars_more xs i x within is) ∙ held_on ds es used more before.taken.held ∙ one.taken.held;
        };
        laid = laid_member at xs i x used more old between new within is before.laid
            (subst (λ n. LaidAt (at + n) (description_view x) more between new) start_is one.laid);
      }

  pub none_in_member : NoneTaken (scalars_of (description_view x)) left → NoneTaken (scalars_of_members (members_view xs)) vs
  none_in_member none =
      let ds = scalars_of_members (members_view (take i xs)) in
      let es = scalars_of (description_view x) in
      let fs = scalars_of_members (members_view (drop (i + 1) xs)) in
      subst (λ gs. NoneTaken gs vs) (sym (scalars_split xs i x within is)) (not_after ds (es ++ fs) vs left before.taken (not_before es fs left none))

-- ---- elements

-- so many elements hold the first values now, and these are left
pub record ElementsFront (at : ℕ) (element : tree.Description) (count : ℕ) (vs rest : List Value) (old new : List ℕ) : Type 0 where
  pub taken : Taken (repeated count (scalars_of element)) vs rest
  pub laid : LaidElements at element count taken.used old new

pub no_elements : (at : ℕ) (element : tree.Description) (vs : List Value) (bytes : List ℕ) → ElementsFront at element 0 vs vs bytes bytes
no_elements at element vs bytes = record {
  taken = record { used = []; is = refl; held = refl };
  laid = laid_none at (at + 0 * stride_of element) bytes;
}

pub front_element : (at : ℕ) (element : tree.Description) (count : ℕ) (vs left rest : List Value) (old between new : List ℕ) → ElementsFront at element count vs left old between
    → LaidFront (at + count * stride_of element) element left rest between new → ElementsFront at element (count + 1) vs rest old new
front_element at element count vs left rest old between new before one =
    let used = before.taken.used in
    let more = one.taken.used in
    let ds = scalars_of element in
    record {
      taken = record {
        used = used ++ more;
        is = before.taken.is ∙ ap (λ l. used ++ l) one.taken.is ∙ sym (append_assoc used more rest);
        held = ap (λ fs. are_held fs (used ++ more)) (one_repeated count ds) ∙ held_on (repeated count ds) ds used more before.taken.held ∙ one.taken.held;
      };
      laid = laid_element at element count used more old between new before.laid one.laid;
    }

pub none_in_element : (at : ℕ) (element : tree.Description) (made count : ℕ) (vs left : List Value) (old between : List ℕ) → made < count → ElementsFront at element made vs left old between
    → NoneTaken (scalars_of element) left → NoneTaken (repeated count (scalars_of element)) vs
none_in_element at element made count vs left old between below before none =
    let ds = scalars_of element in
    let rest = repeated (count - suc made) ds in
    subst (λ gs. NoneTaken gs vs) (sym (repeated_split made count ds below)) (not_after (repeated made ds) (ds ++ rest) vs left before.taken (not_before ds rest left none))

-- all elements are the array
pub all_elements : (at : ℕ) (bounds : List Bounds) (element : tree.Description) (count : ℕ) (vs rest : List Value) (old new : List ℕ) → count ≡ count_of bounds
    → ElementsFront at element count vs rest old new → LaidFront at (tree.Array bounds element) vs rest old new
all_elements at bounds element count vs rest old new all front =
    let f = subst (λ n. ElementsFront at element n vs rest old new) all front in
    record { taken = f.taken; laid = f.laid }

-- ---- the whole

-- values are held where none is left
pub whole_held : {X : Type 0} (at : ℕ) (d : tree.Description) (view : X → Value) (vs : List Value) (left : List X) (old new : List ℕ) (empty : Bool)
    → empty ≡ (length left == 0) → LaidFront at d vs (map view left) old new → empty ≡ are_held (scalars_of d) vs
whole_held at d view vs [] old new empty is front = is ∙ sym (all_taken (scalars_of d) vs front.taken)
whole_held at d view vs (x ∷ left) old new empty is front =
    is ∙ false_from_ne_true (suc (length left) == 0) (λ e. absurd (omega (arith, eqb-true (suc (length left)) 0 e))) ∙ sym (some_left (scalars_of d) vs (view x) (map view left) front.taken)

-- and laid
pub whole_laid : {X : Type 0} (d : tree.Description) (view : X → Value) (vs : List Value) (left : List X) (old new : List ℕ) (empty : Bool)
    → empty ≡ (length left == 0) → LaidFront 0 d vs (map view left) old new → empty ≡ true → values_of d new ≡ vs
whole_laid d view vs [] old new empty is front e =
    laid_whole d front.taken.used old new front.laid ∙ sym (append-nil front.taken.used) ∙ sym front.taken.is
whole_laid d view vs (x ∷ left) old new empty is front e = absurd (omega (arith, eqb-true (suc (length left)) 0 (sym is ∙ e)))

-- a description without scalars
pub no_scalars : (at : ℕ) (d : tree.Description) (vs : List Value) (bytes : List ℕ) → scalars_in d ≡ 0 → LaidFront at d vs vs bytes bytes
no_scalars at d vs bytes none =
    let places : scalars_at d ≡ [] = nil_from_length (scalars_at d) (counted d ∙ none) in
    record {
      taken = record { used = []; is = refl; held = ap (λ ds. are_held ds []) (sym (described d) ∙ ap descriptions places) };
      laid = record { values = ap (λ ss. map (value_in bytes) (map (moved at) ss)) places; front = refl; back = refl; size = refl };
    }
