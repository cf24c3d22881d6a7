-- Tables: what the program finds among its descriptions is what is found among what they say.
use Rattle.std.proofs.Common.{◌≡◌, ℕ, ◌+◌, ◌<◌, ◌≤◌, Bool, true, false, true≢false, not, cond, ◌||◌, List, [], ◌∷◌, ◌++◌, map, length, take, get_or, slice_get, Option, Some, None, option_map, if◌then◌else◌, refl, sym, ap, ◌∙◌, arith, inl, inr}
use Rattle.std.specs.List.{list_any, position_or_len, IsDistinct}
use Rattle.std.specs.Ordering.{on}
use Rattle.std.proofs.lemmas.Bool.{cases_lt}
use Rattle.std.proofs.lemmas.List.{get_or-take, get_or_default, length-append, length-take, map-append, take_more}
use Rattle.std.proofs.lemmas.List.Folds.{list_any_none}
use Rattle.std.proofs.lemmas.Map.Keys.{apart_from_distinct}
use Rattle.std.proofs.lemmas.Option.{same_Some, none-some, slice_get-map, slice_get_within, get_or_from_slice_get}
use Rattle.pli_map.specs.declared.description.Description.{Description}
use Rattle.pli_map.specs.Description as tree
use Rattle.pli_map.specs.Same.{same}
use Rattle.pli_map.specs.laws.SameLaws.{same_decides}
use Rattle.pli_map.specs.Tables.{number_in, with_description, AreDistinct}
use Rattle.pli_map.specs.views.DescriptionView.{description_view}

module _ {A B : Type 0} (f : A → B) (p : B → Bool) where
  any_said : (xs : List A) → list_any (λ x. p (f x)) xs ≡ list_any p (map f xs)
  any_said [] = refl
  any_said (x ∷ xs) = ap (λ b. p (f x) || b) (any_said xs)

  place_said : (xs : List A) → position_or_len (λ x. p (f x)) xs ≡ position_or_len p (map f xs)
  place_said [] = refl
  place_said (x ∷ xs) = ap (λ n. cond (not (p (f x))) (1 + n) 0) (place_said xs)

chosen : {A B : Type 0} (f : A → B) (b c : Bool) (xs : List A) (x : A) → b ≡ c
    → map f (if b then xs else xs ++ x ∷ []) ≡ (if c then map f xs else map f xs ++ f x ∷ [])
chosen f true c xs x e = ap (λ t. if t then map f xs else map f xs ++ f x ∷ []) e
chosen f false c xs x e = map-append f xs (x ∷ []) ∙ ap (λ t. if t then map f xs else map f xs ++ f x ∷ []) e

said : List Description → List tree.Description
said ds = map description_view ds

-- whether an equal description stands there
abbrev pub stands_in : List Description → Description → Bool
stands_in ds d = list_any (on description_view same d) ds

-- its place, or the length
abbrev pub place_in : List Description → Description → ℕ
place_in ds d = position_or_len (on description_view same d) ds

pub numbered : (ds : List Description) (d : Description) → place_in ds d ≡ number_in (map description_view ds) (description_view d)
numbered ds d = place_said description_view (same (description_view d)) ds

-- a description is put in
pub put_in : (ds new : List Description) (d : Description) → new ≡ (if stands_in ds d then ds else ds ++ d ∷ [])
    → map description_view new ≡ with_description (map description_view ds) (description_view d)
put_in ds new d is = ap (map description_view) is ∙ chosen description_view _ _ ds d (any_said description_view (same (description_view d)) ds)

-- there is at most one more
pub one_at_most : (table : List tree.Description) (d : tree.Description) → length (with_description table d) ≤ length table + 1
one_at_most table d = by (list_any (same d) table)
  where
    by : (b : Bool) → length (if b then table else table ++ d ∷ []) ≤ length table + 1
    by true = omega arith
    by false = omega (arith, length-append table (d ∷ []))

-- ---- no two are equal

some_said : (o : Option Description) (t : tree.Description) → option_map description_view o ≡ Some t → (d : Description) × (o ≡ Some d) × (description_view d ≡ t)
some_said None t e = absurd (none-some t e)
some_said (Some d) t e = (d, refl, same_Some _ _ e)

differ : (ds : List Description) (i j : ℕ) (t : tree.Description) → IsDistinct (on description_view same) ds → i < j
    → slice_get (map description_view ds) i ≡ Some t → slice_get (map description_view ds) j ≡ Some t → ⊥
differ ds i j t apart before at_i at_j =
    let a = some_said (slice_get ds i) t (sym (slice_get-map description_view ds i) ∙ at_i) in
    let b = some_said (slice_get ds j) t (sym (slice_get-map description_view ds j) ∙ at_j) in
    let inside : j < length ds = slice_get_within ds j b.0 b.1 in
    let first : get_or ds i a.0 ≡ a.0 = get_or_from_slice_get ds i a.0 a.0 a.1 in
    let second : get_or ds j a.0 ≡ b.0 = get_or_from_slice_get ds j b.0 a.0 b.1 in
    let other : same (description_view a.0) (description_view b.0) ≡ false =
    ap (λ d. same (description_view d) (description_view b.0)) (sym first) ∙ ap (λ d. same (description_view (get_or ds i a.0)) (description_view d)) (sym second)
    ∙ apart_from_distinct (on description_view same) ds i j a.0 apart before inside in
    absurd (true≢false (sym ((same_decides (description_view a.0) (description_view b.0)).1 (a.2 ∙ sym b.2)) ∙ other))

pub distinct : (ds : List Description) → IsDistinct (on description_view same) ds → AreDistinct (map description_view ds)
distinct ds apart i j t at_i at_j = elim (cases_lt i j) [
  | inl before ↦ absurd (differ ds i j t apart before at_i at_j)
  | inr past ↦ elim (cases_lt j i) [
    | inl after ↦ absurd (differ ds j i t apart after at_j at_i)
    | inr same_place ↦ omega (arith, past, same_place)
  ]
]

-- ---- a table copied

true_or_false : (b : Bool) → (b ≡ true → ⊥) → b ≡ false
true_or_false true other = absurd (other refl)
true_or_false false other = refl

-- none of the first is equal to one after them
pub none_before : (ds : List Description) (i : ℕ) (d : Description) → IsDistinct (on description_view same) ds → i < length ds → d ≡ get_or ds i d
    → list_any (same (description_view d)) (map description_view (take i ds)) ≡ false
none_before ds i d apart inside is =
    sym (any_said description_view (same (description_view d)) (take i ds))
    ∙ list_any_none (λ e. same (description_view d) (description_view e)) (take i ds) (λ k e below.
    let before : k < i = omega (arith, below, length-take i ds) in
    let there : get_or (take i ds) k e ≡ get_or ds k e = get_or-take i ds k e before in
    true_or_false _ (λ equal.
    let one : description_view d ≡ description_view (get_or (take i ds) k e) = (same_decides _ _).0 equal in
    let two = apart_from_distinct (on description_view same) ds k i e apart before inside in
    let three : get_or ds i e ≡ d = get_or_default ds i e d inside ∙ sym is in
    absurd (true≢false (sym ((same_decides (description_view (get_or ds k e)) (description_view (get_or ds i e))).1
    (ap description_view (sym there) ∙ sym one ∙ ap description_view (sym three))) ∙ two))))

-- one more is copied
pub one_more : (ds made new : List Description) (i : ℕ) (d copied : Description) → IsDistinct (on description_view same) ds → i < length ds → d ≡ get_or ds i d
    → map description_view made ≡ map description_view (take i ds) → description_view copied ≡ description_view d
    → map description_view new ≡ with_description (map description_view made) (description_view copied)
    → map description_view new ≡ map description_view (take (i + 1) ds)
one_more ds made new i d copied apart inside is so_far same_said put =
    let front = map description_view (take i ds) in
    put
    ∙ ap (λ ts. with_description ts (description_view copied)) so_far
    ∙ ap (with_description front) same_said
    ∙ ap (λ b. if b then front else front ++ description_view d ∷ []) (none_before ds i d apart inside is)
    ∙ sym (map-append description_view (take i ds) (d ∷ []))
    ∙ ap (λ e. map description_view (take i ds ++ e ∷ [])) is
    ∙ ap (map description_view) (sym (take_more ds i d inside))
