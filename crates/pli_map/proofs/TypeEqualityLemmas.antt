-- Equality of types, level by level.
use Rattle.std.proofs.Common.{◌≡◌, ℕ, ◌<◌, refl, sym, ap, ◌∙◌, List, [], ◌∷◌, map, length, get_or, arith}
use Rattle.std.proofs.lemmas.List.{get_or-map}
use Rattle.pli_map.specs.ParameterTypes as tree
use Rattle.pli_map.specs.ParameterTypes.{types_of}
use Rattle.pli_map.specs.views.ParameterView.{type_view, types_view}
use Rattle.pli_map.specs.declared.parameter.ParameterType.{ParameterType}

-- two lists of members that are equal have equal members
pub types_of-injective : (xs ys : List tree.ParameterType) → types_of xs ≡ types_of ys → xs ≡ ys
types_of-injective [] [] e = refl
types_of-injective [] (y ∷ ys) e = cc
types_of-injective (x ∷ xs) [] e = cc
types_of-injective (x ∷ xs) (y ∷ ys) e =
    let first : x ≡ y = cc in
    let others : types_of xs ≡ types_of ys = cc in
    let same = types_of-injective xs ys others in
    cc

same_lengths : (xs ys : List ParameterType) → map type_view xs ≡ map type_view ys → length xs ≡ length ys
same_lengths [] [] e = refl
same_lengths [] (y ∷ ys) e = cc
same_lengths (x ∷ xs) [] e = cc
same_lengths (x ∷ xs) (y ∷ ys) e =
    let others : map type_view xs ≡ map type_view ys = cc in
    let same = same_lengths xs ys others in
    cc

-- members of other lengths are not equal
pub other_lengths : (xs ys : List ParameterType) → types_view xs ≡ types_view ys → length xs ≡ length ys
other_lengths xs ys e = same_lengths xs ys (types_of-injective _ _ e)

-- members that are equal are equal at each place
pub same_at : (xs ys : List ParameterType) (i : ℕ) (x y : ParameterType) → i < length xs → x ≡ get_or xs i x → y ≡ get_or ys i y → types_view xs ≡ types_view ys → type_view x ≡ type_view y
same_at xs ys i x y within here there e =
    let lengths = other_lengths xs ys e in
    ap type_view here ∙ sym (get_or-map type_view xs i x (type_view x) within)
    ∙ ap (λ vs. get_or vs i (type_view x)) (types_of-injective _ _ e)
    ∙ get_or-map type_view ys i y (type_view x) (omega arith) ∙ sym (ap type_view there)
