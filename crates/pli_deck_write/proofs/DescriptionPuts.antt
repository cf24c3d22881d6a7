-- The bytes of descriptions and of types, level by level, which are the same in each version.
use Rattle.std.proofs.Common.{◌≡◌, ℕ, zero, suc, ◌-◌, ◌<◌, List, [], ◌∷◌, ◌++◌, length, map, Vec, refl, sym, ap, ◌∙◌, arith}
use Rattle.std.specs.Global.{Global, Box}
use Rattle.std.specs.List.{flat_map}
use Rattle.std.specs.Int.{next_multiple_of}
use Rattle.byteorder.specs.Endian.{big_bytes}
use Rattle.std.proofs.lemmas.List.{length-map}
use Rattle.pli_map.specs.Description as tree
use Rattle.pli_map.specs.ParameterTypes as types
use Rattle.pli_map.specs.ParameterTypes.{Stated, listed_types, types_of}
use Rattle.pli_map.specs.declared.description.Bounds.{Bounds}
use Rattle.pli_map.specs.declared.description.Description as program
use Rattle.pli_map.specs.declared.description.Description.TheVariants as made
use Rattle.pli_map.specs.declared.description.Description.TheFolds as folds
use Rattle.pli_map.specs.declared.parameter.StringForm.{StringForm}
use Rattle.pli_map.specs.declared.parameter.ParameterType as open_program
use Rattle.pli_map.specs.declared.parameter.ParameterType.TheVariants as typed
use Rattle.pli_map.specs.views.DescriptionView.{description_view, level_view, members_of}
use Rattle.pli_map.specs.views.ParameterView.{type_view}
use Rattle.pli_code.specs.Fields.{list}
use Rattle.pli_code.specs.Versions.{written}
use Rattle.pli_code.specs.declared.version.Version.{Version}
use Rattle.pli_deck_write.specs.Descriptions.{any_string_tag, type_form, dimensions, description_within, description}
use Rattle.pli_map.specs.Description.{listed}
use Rattle.pli_deck_write.proofs.DescriptionViews.{fixed_said, character_said, varying_said, bit_said, pointer_said, offset_said, array_said, structure_said, stated_said, any_string_said, any_array_said, array_of_said, structure_of_said}
use Rattle.pli_deck_write.proofs.TypeLemmas.{listed-types_of}

flat_same : {X : Type 0} (f g : X → List ℕ) → ((x : X) → f x ≡ g x) → (xs : List X) → flat_map f xs ≡ flat_map g xs
flat_same f g same [] = refl
flat_same f g same (x ∷ xs) = ap (λ bs. bs ++ flat_map f xs) (same x) ∙ ap (λ bs. g x ++ bs) (flat_same f g same xs)

pub same_description : (v w : Version) (n : ℕ) (t : types.ParameterType) → (description_within v n).bytes_of t ≡ (description_within w n).bytes_of t
unfolding description_within
same_description v w zero t = refl
same_description v w (suc n) (types.Stated (tree.Array bs element)) = ap (λ inside. 8 ∷ (dimensions.bytes_of bs ++ inside)) (same_description v w n (types.Stated element))
same_description v w (suc n) (types.Stated (tree.Structure ds)) =
    let ts = map Stated (listed ds) in
    ap (λ inside. 9 ∷ (big_bytes 2 (length ts) ++ inside)) (flat_same (description_within v n).bytes_of (description_within w n).bytes_of (λ t. same_description v w n t) ts)
same_description v w (suc n) (types.Stated scalar) = refl
same_description v w (suc n) (types.AnyString f) = refl
same_description v w (suc n) (types.AnyArray k element) = ap (λ inside. 13 ∷ (k ∷ inside)) (same_description v w n element)
same_description v w (suc n) (types.ArrayOf bs element) = ap (λ inside. 8 ∷ (dimensions.bytes_of bs ++ inside)) (same_description v w n element)
same_description v w (suc n) (types.StructureOf ts) =
    ap (λ inside. 9 ∷ (big_bytes 2 (length (listed_types ts)) ++ inside)) (flat_same (description_within v n).bytes_of (description_within w n).bytes_of (λ t. same_description v w n t) (listed_types ts))

-- types that were put are put as any version has them
pub descriptions_put : (v : Version) (old new : List ℕ) (ts : List types.ParameterType) → new ≡ old ++ (list (description written)).bytes_of ts → new ≡ old ++ (list (description v)).bytes_of ts
descriptions_put v old new ts put =
    put ∙ ap (λ bs. old ++ (big_bytes 2 (length ts) ++ bs)) (flat_same (description written).bytes_of (description v).bytes_of (same_description written v 512) ts)

abbrev type_bytes : ℕ → types.ParameterType → List ℕ
type_bytes n = (description_within written n).bytes_of

abbrev bytes_within : ℕ → tree.Description → List ℕ
bytes_within n d = type_bytes n (Stated d)

pub too_deep_bytes : (n : ℕ) (t : types.ParameterType) → n ≡ 0 → type_bytes n t ≡ 0 ∷ []
unfolding description_within
too_deep_bytes zero t none = refl
too_deep_bytes (suc n) t none = absurd (omega (arith, none))

abbrev tag_first : ℕ → types.ParameterType → List ℕ
tag_first n t = (type_form written (description_within written n) t).tag ∷ (type_form written (description_within written n) t).bytes

bytes_inside : (n : ℕ) (t : types.ParameterType) → 0 < n → type_bytes n t ≡ tag_first (n - 1) t
unfolding description_within
bytes_inside zero t some = absurd (omega (arith, some))
bytes_inside (suc n) t some =
    let one_less : suc n - 1 ≡ n = omega arith in
    ap (λ m. tag_first m t) (sym one_less)

-- a description of the program that says this
pub bytes_said : (n : ℕ) (d : program.Description) (said : tree.Description) → 0 < n → description_view d ≡ said → bytes_within n (description_view d) ≡ tag_first (n - 1) (Stated said)
bytes_said n d said some is = ap (bytes_within n) is ∙ bytes_inside n (Stated said) some

area_rounded : (n : ℕ) → description_view (made.Area n) ≡ tree.Area (next_multiple_of n 8)
area_rounded n = ap description_view (sym (made.rolls-Area n)) ∙ folds.fold-roll-Description tree.Description level_view (program.Description-F.Area n)

pub fixed_bytes : (n : ℕ) (d : program.Description) (p : ℕ) → 0 < n → d ≡ made.FixedBinary p → bytes_within n (description_view d) ≡ 1 ∷ p ∷ []
fixed_bytes n d p some is = bytes_said n d (tree.FixedBinary p) some (ap description_view is ∙ fixed_said p)

pub character_bytes : (n : ℕ) (d : program.Description) (k : ℕ) → 0 < n → d ≡ made.Character k → bytes_within n (description_view d) ≡ 2 ∷ big_bytes 2 k
character_bytes n d k some is = bytes_said n d (tree.Character k) some (ap description_view is ∙ character_said k)

pub varying_bytes : (n : ℕ) (d : program.Description) (k : ℕ) → 0 < n → d ≡ made.Varying k → bytes_within n (description_view d) ≡ 3 ∷ big_bytes 2 k
varying_bytes n d k some is = bytes_said n d (tree.Varying k) some (ap description_view is ∙ varying_said k)

pub bit_bytes : (n : ℕ) (d : program.Description) (k : ℕ) → 0 < n → d ≡ made.Bit k → bytes_within n (description_view d) ≡ 4 ∷ big_bytes 2 k
bit_bytes n d k some is = bytes_said n d (tree.Bit k) some (ap description_view is ∙ bit_said k)

pub pointer_bytes : (n : ℕ) (d : program.Description) → 0 < n → d ≡ made.Pointer → bytes_within n (description_view d) ≡ 5 ∷ []
pointer_bytes n d some is = bytes_said n d tree.Pointer some (ap description_view is ∙ pointer_said)

pub offset_bytes : (n : ℕ) (d : program.Description) → 0 < n → d ≡ made.Offset → bytes_within n (description_view d) ≡ 6 ∷ []
offset_bytes n d some is = bytes_said n d tree.Offset some (ap description_view is ∙ offset_said)

pub area_bytes : (n : ℕ) (d : program.Description) (k : ℕ) → 0 < n → d ≡ made.Area k → bytes_within n (description_view d) ≡ 7 ∷ big_bytes 4 (next_multiple_of k 8)
area_bytes n d k some is = bytes_said n d (tree.Area (next_multiple_of k 8)) some (ap description_view is ∙ area_rounded k)

pub array_bytes : (n : ℕ) (d : program.Description) (bounds : Vec Bounds Global) (element : Box program.Description) → 0 < n → d ≡ made.Array bounds element
    → bytes_within n (description_view d) ≡ 8 ∷ (dimensions.bytes_of bounds.items ++ bytes_within (n - 1) (description_view element.value))
array_bytes n d bounds element some is = bytes_said n d (tree.Array bounds.items (description_view element.value)) some (ap description_view is ∙ array_said bounds element)

listed_back : (ds : List tree.Description) → listed (members_of ds) ≡ ds
listed_back [] = refl
listed_back (d ∷ ds) = ap (λ es. d ∷ es) (listed_back ds)

-- members are put as descriptions, each of which is a type that is stated
flat_stated : (n : ℕ) (ds : List tree.Description) → flat_map (type_bytes n) (map Stated ds) ≡ flat_map (bytes_within n) ds
flat_stated n [] = refl
flat_stated n (d ∷ ds) = ap (λ bs. bytes_within n d ++ bs) (flat_stated n ds)

abbrev counted : ℕ → ℕ → List types.ParameterType → List ℕ
counted n count ts = 9 ∷ (big_bytes 2 count ++ flat_map (type_bytes n) ts)

pub structure_bytes : (n : ℕ) (d : program.Description) (members : Vec program.Description Global) → 0 < n → d ≡ made.Structure members
    → bytes_within n (description_view d) ≡ 9 ∷ (big_bytes 2 (length members.items) ++ flat_map (bytes_within (n - 1)) (map description_view members.items))
structure_bytes n d members some is =
    let ds = map description_view members.items in
    bytes_said n d (tree.Structure (members_of ds)) some (ap description_view is ∙ structure_said members)
    ∙ ap (λ es. counted (n - 1) (length (map Stated es)) (map Stated es)) (listed_back ds)
    ∙ ap (λ k. counted (n - 1) k (map Stated ds)) (length-map ds Stated ∙ length-map members.items description_view)
    ∙ ap (λ bs. 9 ∷ (big_bytes 2 (length members.items) ++ bs)) (flat_stated (n - 1) ds)

-- ---- types

-- a type of the program that says this
type_said : (n : ℕ) (t : open_program.ParameterType) (said : types.ParameterType) → 0 < n → type_view t ≡ said → type_bytes n (type_view t) ≡ tag_first (n - 1) said
type_said n t said some is = ap (type_bytes n) is ∙ bytes_inside n said some

pub stated_bytes : (n : ℕ) (t : open_program.ParameterType) (d : program.Description) → t ≡ typed.Stated d → type_bytes n (type_view t) ≡ bytes_within n (description_view d)
stated_bytes n t d is = ap (type_bytes n) (ap type_view is ∙ stated_said d)

pub any_string_bytes : (n : ℕ) (t : open_program.ParameterType) (f : StringForm) → 0 < n → t ≡ typed.AnyString f → type_bytes n (type_view t) ≡ any_string_tag f ∷ []
any_string_bytes n t f some is = type_said n t (types.AnyString f) some (ap type_view is ∙ any_string_said f)

pub any_array_bytes : (n : ℕ) (t : open_program.ParameterType) (k : ℕ) (element : Box open_program.ParameterType) → 0 < n → t ≡ typed.AnyArray k element
    → type_bytes n (type_view t) ≡ 13 ∷ (k ∷ type_bytes (n - 1) (type_view element.value))
any_array_bytes n t k element some is = type_said n t (types.AnyArray k (type_view element.value)) some (ap type_view is ∙ any_array_said k element)

pub array_of_bytes : (n : ℕ) (t : open_program.ParameterType) (bounds : Vec Bounds Global) (element : Box open_program.ParameterType) → 0 < n → t ≡ typed.ArrayOf bounds element
    → type_bytes n (type_view t) ≡ 8 ∷ (dimensions.bytes_of bounds.items ++ type_bytes (n - 1) (type_view element.value))
array_of_bytes n t bounds element some is = type_said n t (types.ArrayOf bounds.items (type_view element.value)) some (ap type_view is ∙ array_of_said bounds element)

pub structure_of_bytes : (n : ℕ) (t : open_program.ParameterType) (members : Vec open_program.ParameterType Global) → 0 < n → t ≡ typed.StructureOf members
    → type_bytes n (type_view t) ≡ 9 ∷ (big_bytes 2 (length members.items) ++ flat_map (type_bytes (n - 1)) (map type_view members.items))
structure_of_bytes n t members some is =
    let ts = map type_view members.items in
    type_said n t (types.StructureOf (types_of ts)) some (ap type_view is ∙ structure_of_said members)
    ∙ ap (λ us. counted (n - 1) (length us) us) (listed-types_of ts)
    ∙ ap (λ k. counted (n - 1) k ts) (length-map members.items type_view)
