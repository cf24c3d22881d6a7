-- Equality of descriptions, level by level.
use Rattle.std.proofs.Common.{◌≡◌, ℕ, ◌<◌, refl, sym, ap, ◌∙◌, List, [], ◌∷◌, map, length, get_or, arith}
use Rattle.std.proofs.lemmas.List.{get_or-map}
use Rattle.pli_map.specs.Description as tree
use Rattle.pli_map.specs.views.DescriptionView.{description_view, members_of, members_view}
use Rattle.pli_map.specs.declared.description.Description.{Description}

-- two lists of members that are equal have equal members
pub members_of-injective : (xs ys : List tree.Description) → members_of xs ≡ members_of ys → xs ≡ ys
members_of-injective [] [] e = refl
members_of-injective [] (y ∷ ys) e = cc
members_of-injective (x ∷ xs) [] e = cc
members_of-injective (x ∷ xs) (y ∷ ys) e =
    let first : x ≡ y = cc in
    let others : members_of xs ≡ members_of ys = cc in
    let same = members_of-injective xs ys others in
    cc

same_lengths : (xs ys : List Description) → map description_view xs ≡ map description_view ys → length xs ≡ length ys
same_lengths [] [] e = refl
same_lengths [] (y ∷ ys) e = cc
same_lengths (x ∷ xs) [] e = cc
same_lengths (x ∷ xs) (y ∷ ys) e =
    let others : map description_view xs ≡ map description_view ys = cc in
    let same = same_lengths xs ys others in
    cc

-- members of other lengths are not equal
pub other_lengths : (xs ys : List Description) → members_view xs ≡ members_view ys → length xs ≡ length ys
other_lengths xs ys e = same_lengths xs ys (members_of-injective _ _ e)

-- members that are equal are equal at each place
pub same_at : (xs ys : List Description) (i : ℕ) (x y : Description) → i < length xs → x ≡ get_or xs i x → y ≡ get_or ys i y → members_view xs ≡ members_view ys → description_view x ≡ description_view y
same_at xs ys i x y within here there e =
    let lengths = other_lengths xs ys e in
    ap description_view here ∙ sym (get_or-map description_view xs i x (description_view x) within)
    ∙ ap (λ vs. get_or vs i (description_view x)) (members_of-injective _ _ e)
    ∙ get_or-map description_view ys i y (description_view x) (omega arith) ∙ sym (ap description_view there)
