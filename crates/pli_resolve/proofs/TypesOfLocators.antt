-- What the attributes of an item without faults say, where POINTER, OFFSET or AREA is one of them.
use Rattle.std.proofs.Common.{◌≡◌, ℕ, ◌==◌, ◌+◌, ◌&&◌, ◌||◌, Bool, true, false, not, if◌then◌else◌, Option, Some, None, List, [], ◌∷◌, map, bit_and, refl, sym, ap, ◌∙◌, subst}
use Rattle.std.specs.List.{list_any}
use Rattle.pli_base.specs.declared.declaration.WrittenBounds.{WrittenBounds}
use Rattle.std.proofs.lemmas.Bool.{eqb-true}
use Rattle.std.proofs.lemmas.Nat.{and_assoc}
use Rattle.pli_base.specs.Declarations.{Item, DescribedAttribute, Plain}
use Rattle.pli_base.specs.Declarations as tree
use Rattle.pli_base.specs.declared.code.Code.{Code}
use Rattle.pli_base.specs.declared.code.Code.TheVariants.{AreaNotAllowedHere, AttributesConflict, AttributesMissing, BadPrecision, BadLength, BadBounds}
use Rattle.pli_map.specs.Description as described
use Rattle.pli_map.specs.Description.{Description}
use Rattle.pli_map.specs.ParameterTypes.{ParameterType}
use Rattle.pli_declare.specs.Sets.{fixed, character, varying, bit, pointer, offset, area, based, automatic, controlled, static, internal, external, built_in, entry, returns, data_attributes, storage_attributes, scope_attributes, has, none_of, is_one_of, outermost, kind_of, set_of, each_once}
use Rattle.pli_declare.specs.Agreement.{data_types, excluded_at, is_member, may_be_open, may_have_members, set_agrees, is_missing, agrees_as_variable}
use Rattle.pli_declare.specs.Types.{number_of, number_or, scalar_of, is_bad_precision, is_bad_length, is_bad_star, described_star}
use Rattle.pli_declare.specs.Types as types
use Rattle.pli_declare.specs.Extents.{is_array, are_bad_bounds, are_bad_stars}
use Rattle.pli_declare.specs.Faults.{first_of, is_bad_area, area_fault, own_fault, shape_fault, attributes_fault, item_fault, entry_fault, parameters_in}
use Rattle.pli_declare.specs.Completed.{Variable, OfVariable, OfEntry, OfBuiltIn, open_type, storage_at, variable_of, completed_of}
use Rattle.pli_declare.specs.declared.completed.DeclaredStorage.TheVariants as storage
use Rattle.pli_declare.specs.declared.place.ItemPlace.{ItemPlace}
use Rattle.pli_declare.specs.declared.place.Position.{Position}
use Rattle.pli_declare.specs.declared.place.Position.TheVariants.{AtLevelOne, Member, Parameter, Result}
use Rattle.pli_declare.proofs.BitLemmas.{has_all}
use Rattle.pli_declare.proofs.ShapeLemmas.{or_none, parts_none}
use Rattle.pli_declare.specs.Symbols.{class_of}
use Rattle.pli_resolve.specs.laws.LocatorLaws.{IsLocating, IsNotBased}
use Rattle.pli_declare.specs.declared.symbol.SymbolKey.{SymbolKey}
use Rattle.pli_resolve.proofs.BuiltInNames.{agrees_so}
use Rattle.pli_resolve.proofs.MarksStand.{Each}

-- one of some sets
among : (P : ℕ → Type 0) (m : ℕ) (sets : List ℕ) → list_any (λ c. c == m) sets ≡ true → Each P sets → P m
among P m [] h each = cc
among P m (c ∷ cs) h each = by (c == m) refl h (λ k. among P m cs k each.1)
  where
    by : (b : Bool) → (c == m) ≡ b → (b || list_any (λ c. c == m) cs) ≡ true → (list_any (λ c. c == m) cs ≡ true → P m) → P m
    by true e k rest = subst P (eqb-true c m e) each.0
    by false e k rest = rest k

-- a data attribute is seen among the data attributes alone
apart : (s k : ℕ) → bit_and data_attributes k ≡ k → has (bit_and s data_attributes) k ≡ has s k
apart s k e = ap (λ m. m == k) (and_assoc k s data_attributes ∙ ap (bit_and s) e)

-- no other type stands beside a POINTER, an OFFSET and an AREA
abbrev NoneBefore : ℕ → Type 0
NoneBefore m = (has m fixed ≡ false) × (has m varying ≡ false) × (has m character ≡ false) × (has m bit ≡ false)

abbrev BesidePointer : ℕ → Type 0
BesidePointer m = has m pointer ≡ true → NoneBefore m

abbrev BesideOffset : ℕ → Type 0
BesideOffset m = has m offset ≡ true → NoneBefore m × (has m pointer ≡ false)

abbrev BesideArea : ℕ → Type 0
BesideArea m = has m area ≡ true → NoneBefore m × (has m pointer ≡ false) × (has m offset ≡ false)

pointers : Each BesidePointer data_types
pointers = (λ h. cc, (λ h. cc, (λ h. cc, (λ h. cc, (λ h. cc, (λ h. cc, (λ h. cc, (λ h. (refl, refl, refl, refl), (λ h. cc, (λ h. cc, tt))))))))))

offsets : Each BesideOffset data_types
offsets = (λ h. cc, (λ h. cc, (λ h. cc, (λ h. cc, (λ h. cc, (λ h. cc, (λ h. cc, (λ h. cc, (λ h. ((refl, refl, refl, refl), refl), (λ h. cc, tt))))))))))

areas : Each BesideArea data_types
areas = (λ h. cc, (λ h. cc, (λ h. cc, (λ h. cc, (λ h. cc, (λ h. cc, (λ h. cc, (λ h. cc, (λ h. cc, (λ h. ((refl, refl, refl, refl), refl, refl), tt))))))))))

-- the type that is chosen
after_four : {A : Type 0} (a b c d : Bool) (v w x y z : A) → a ≡ false → b ≡ false → c ≡ false → d ≡ false
    → (if a then v else if b then w else if c then x else if d then y else z) ≡ z
after_four true b c d v w x y z h k l m = cc
after_four false true c d v w x y z h k l m = cc
after_four false false true d v w x y z h k l m = cc
after_four false false false true v w x y z h k l m = cc
after_four false false false false v w x y z h k l m = refl

-- the type that is chosen where neither of these stands and no locator
abbrev area_type : ℕ → Option ℕ → Description
area_type s n = if has s area then described.area (number_or 1000 n) else described.area 1000

area_alone_type : (n : Option ℕ) → described.area (number_or 1000 n) ≡ scalar_of area n
unfolding scalar_of
area_alone_type n = refl

module _ (s : ℕ) (n : Option ℕ) (one : is_one_of (bit_and s data_attributes) data_types ≡ true) where
  abbrev m : ℕ
  m = bit_and s data_attributes

  after_those : NoneBefore m → scalar_of s n ≡ (if has s pointer then described.Pointer else if has s offset then described.Offset else area_type s n)
  unfolding scalar_of
  after_those none =
      after_four (has s fixed) (has s varying) (has s character) (has s bit) _ _ _ _ _
      (sym (apart s fixed refl) ∙ none.0) (sym (apart s varying refl) ∙ none.1) (sym (apart s character refl) ∙ none.2) (sym (apart s bit refl) ∙ none.3)

  pub pointer_of : has s pointer ≡ true → scalar_of s n ≡ described.Pointer
  pointer_of h =
      after_those (among BesidePointer m data_types one pointers (apart s pointer refl ∙ h))
      ∙ ap (λ (b : Bool). if b then described.Pointer else if has s offset then described.Offset else area_type s n) h

  pub offset_of : has s offset ≡ true → scalar_of s n ≡ described.Offset
  offset_of h =
      let none = among BesideOffset m data_types one offsets (apart s offset refl ∙ h) in
      after_those none.0
      ∙ ap (λ (b : Bool). if b then described.Pointer else if has s offset then described.Offset else area_type s n) (sym (apart s pointer refl) ∙ none.1)
      ∙ ap (λ (b : Bool). if b then described.Offset else area_type s n) h

  pub area_of : has s area ≡ true → scalar_of s n ≡ scalar_of area n
  area_of h =
      let none = among BesideArea m data_types one areas (apart s area refl ∙ h) in
      after_those none.0
      ∙ ap (λ (b : Bool). if b then described.Pointer else if has s offset then described.Offset else area_type s n) (sym (apart s pointer refl) ∙ none.1)
      ∙ ap (λ (b : Bool). if b then described.Offset else area_type s n) (sym (apart s offset refl) ∙ none.2)
      ∙ ap (λ (b : Bool). if b then described.area (number_or 1000 n) else described.area 1000) h ∙ area_alone_type n

  pub locating : (has s pointer || has s offset) ≡ true → IsLocating (scalar_of s n)
  locating h = by (has s pointer) refl h
    where
      by : (b : Bool) → has s pointer ≡ b → (b || has s offset) ≡ true → IsLocating (scalar_of s n)
      by true e k = subst IsLocating (sym (pointer_of e)) tt
      by false e k = subst IsLocating (sym (offset_of k)) tt

-- an area says how many bytes
pub area_bytes : (n : Option ℕ) → (bytes : ℕ) × (scalar_of area n ≡ described.Area bytes)
unfolding scalar_of
area_bytes n = (_, refl)

-- a variable's attributes
types_one : (a b c d e f g h : Bool) → (a && b && c && d && e && f && g && h) ≡ true → (b ≡ true) × (h ≡ true)
types_one true true true true true true true h k = (refl, k)
types_one false b c d e f g h k = cc
types_one true false c d e f g h k = cc
types_one true true false d e f g h k = cc
types_one true true true false e f g h k = cc
types_one true true true true false f g h k = cc
types_one true true true true true false g h k = cc
types_one true true true true true true false h k = cc

no_more : (a b c : Bool) → (not a || b && c) ≡ true → c ≡ false → a ≡ false
no_more false b c h k = refl
no_more true true true h k = cc
no_more true true false h k = cc
no_more true false c h k = cc

not_all : (b : Bool) → (b ≡ true → ⊥) → b ≡ false
not_all true h = absurd (h refl)
not_all false h = refl

-- an attribute of these stands, so not none of them
some_data : (s k : ℕ) → bit_and data_attributes k ≡ k → has s k ≡ true → has 0 k ≡ false → none_of s data_attributes ≡ false
some_data s k e h z = not_all (none_of s data_attributes) (λ none.
    let it : bit_and s data_attributes ≡ 0 = eqb-true (bit_and s data_attributes) 0 none in
    let other : false ≡ true = sym z ∙ ap (λ x. has x k) (sym it) ∙ apart s k e ∙ h in
    absurd (differ other))
  where
    differ : false ≡ true → ⊥
    differ f = cc

-- what agrees as a variable has one data type, and none beside members
agrees_parts : (p : ItemPlace) (s : ℕ) → agrees_as_variable p s ≡ true
    → (is_one_of (bit_and s data_attributes) data_types ≡ true) × ((not p.has_members || may_have_members p.position && none_of s data_attributes) ≡ true)
agrees_parts p s h =
    types_one (none_of s (entry + built_in)) (is_one_of (bit_and s data_attributes) data_types)
    (is_one_of (bit_and s storage_attributes) (0 ∷ automatic ∷ static ∷ based ∷ controlled ∷ [])) (is_one_of (bit_and s scope_attributes) (0 ∷ internal ∷ external ∷ []))
    (none_of s external || none_of s (automatic + based)) (none_of s returns || none_of s data_attributes && not p.has_members) (none_of s (excluded_at p.position))
    (not p.has_members || may_have_members p.position && none_of s data_attributes) h

pub type_of : (p : ItemPlace) (i : Item) → item_fault p i ≡ None → none_of (set_of (map outermost i.attributes)) (entry + built_in) ≡ true
    → is_one_of (bit_and (set_of (map outermost i.attributes)) data_attributes) data_types ≡ true
type_of p i h none = (agrees_parts p (set_of (map outermost i.attributes)) (agrees_so p i h none)).0

pub no_members : (p : ItemPlace) (i : Item) (k : ℕ) → item_fault p i ≡ None → none_of (set_of (map outermost i.attributes)) (entry + built_in) ≡ true
    → bit_and data_attributes k ≡ k → has (set_of (map outermost i.attributes)) k ≡ true → has 0 k ≡ false → p.has_members ≡ false
no_members p i k h none e there z =
    let s = set_of (map outermost i.attributes) in
    no_more p.has_members (may_have_members p.position) (none_of s data_attributes) (agrees_parts p s (agrees_so p i h none)).1 (some_data s k e there z)

-- where a length is `*`, characters, bits or an area are said
both_false : (a b : Bool) → (a || b) ≡ false → (a ≡ false) × (b ≡ false)
both_false true b h = cc
both_false false b h = (refl, h)

abbrev IsOf : ℕ → DescribedAttribute → Bool
IsOf k a = has (kind_of a) k

no_star_in : (a : DescribedAttribute) → IsOf character a ≡ false → IsOf bit a ≡ false → IsOf area a ≡ false → described_star a ≡ false
no_star_in (Plain (tree.Character n)) c b r = cc
no_star_in (Plain (tree.Bit n)) c b r = cc
no_star_in (Plain (tree.Area n)) c b r = cc
no_star_in other c b r = refl

no_star_among : (xs : List DescribedAttribute) → list_any (IsOf character) xs ≡ false → list_any (IsOf bit) xs ≡ false → list_any (IsOf area) xs ≡ false → types.has_star xs ≡ false
no_star_among [] c b r = refl
no_star_among (a ∷ xs) c b r =
    let cs = both_false (IsOf character a) (list_any (IsOf character) xs) c in
    let bs = both_false (IsOf bit a) (list_any (IsOf bit) xs) b in
    let rs = both_false (IsOf area a) (list_any (IsOf area) xs) r in
    ap (λ x. x || types.has_star xs) (no_star_in a cs.0 bs.0 rs.0) ∙ no_star_among xs cs.1 bs.1 rs.1

no_star : (xs : List DescribedAttribute) → has (set_of xs) character ≡ false → has (set_of xs) bit ≡ false → has (set_of xs) area ≡ false → types.has_star xs ≡ false
no_star xs c b r = no_star_among xs (sym (has_all xs 2) ∙ c) (sym (has_all xs 4) ∙ b) (sym (has_all xs 7) ∙ r)

-- a length that is `*` is no area's
star_cleared : (star parameter is_area : Bool) → (star && (not parameter || is_area)) ≡ false → (is_area ≡ false → star ≡ false) → star ≡ false
star_cleared false parameter is_area h of = refl
star_cleared true true true h of = cc
star_cleared true false true h of = cc
star_cleared true parameter false h of = of refl

fourth_none : (a b c d star e : Bool) (t u v w x : Code) → first_of ((a, t) ∷ (b, u) ∷ (c, v) ∷ (d || star, w) ∷ (e, x) ∷ []) ≡ None → star ≡ false
fourth_none true b c d star e t u v w x h = cc
fourth_none false true c d star e t u v w x h = cc
fourth_none false false true d star e t u v w x h = cc
fourth_none false false false true star e t u v w x h = cc
fourth_none false false false false true e t u v w x h = cc
fourth_none false false false false false e t u v w x h = refl

-- neither POINTER and OFFSET nor AREA have a `*`
pub starless : (p : ItemPlace) (i : Item) → item_fault p i ≡ None → none_of (set_of (map outermost i.attributes)) (entry + built_in) ≡ true
    → (has (set_of (map outermost i.attributes)) pointer || has (set_of (map outermost i.attributes)) offset || has (set_of (map outermost i.attributes)) area) ≡ true
    → types.has_star (map outermost i.attributes) ≡ false
unfolding item_fault own_fault shape_fault
starless p i h none locates =
    let attributes = map outermost i.attributes in
    let s = set_of attributes in
    let own = (parts_none p i (or_none (attributes_fault p i) (entry_fault (parameters_in i.attributes)) h).0).0 in
    star_cleared (types.has_star attributes) (may_be_open p) (has s area) (fourth_none (not (each_once 0 attributes && set_agrees p (is_array i.dimensions) s)) (is_missing p s) (is_bad_precision s (number_of attributes)) (is_bad_length s (number_of attributes)) (is_bad_star (may_be_open p) (types.has_star attributes) s)
    (are_bad_bounds i.dimensions || are_bad_stars (may_be_open p) i.dimensions) AttributesConflict AttributesMissing BadPrecision BadLength BadBounds (or_none _ _ own).0)
    (λ no_area. let before = beside (has s pointer) refl (has s offset) refl locates no_area in no_star attributes before.0 before.1 no_area)
  where
    one : is_one_of (bit_and (set_of (map outermost i.attributes)) data_attributes) data_types ≡ true
    one = type_of p i h none

    set : ℕ
    set = set_of (map outermost i.attributes)

    parts : NoneBefore (bit_and set data_attributes) → (has set character ≡ false) × (has set bit ≡ false)
    parts x = (sym (apart set character refl) ∙ x.2, sym (apart set bit refl) ∙ x.3)

    beside : (a : Bool) → has set pointer ≡ a → (b : Bool) → has set offset ≡ b → (has set pointer || has set offset || has set area) ≡ true → has set area ≡ false
        → (has set character ≡ false) × (has set bit ≡ false)
    beside true e b f g clear = parts (among BesidePointer (bit_and set data_attributes) data_types one pointers (apart set pointer refl ∙ e))
    beside false e true f g clear = parts (among BesideOffset (bit_and set data_attributes) data_types one offsets (apart set offset refl ∙ f)).0
    beside false e false f g clear =
        let other : false ≡ true = sym (ap (λ x. x || has set offset || has set area) e ∙ ap (λ x. x || has set area) f ∙ clear) ∙ g in
        cc

-- what has no `*` is not open
closed : (parameter : Bool) (dimensions : List WrittenBounds) (s : ℕ) (n : Option ℕ) (star : Bool) → star ≡ false → dimensions ≡ [] → open_type parameter dimensions s n star ≡ None
closed parameter (d ∷ ds) s n star h k = cc
closed true [] s n true h k = cc
closed true [] s n false h k = refl
closed false [] s n star h k = refl

pub not_open : (p : ItemPlace) (i : Item) → types.has_star (map outermost i.attributes) ≡ false → i.dimensions ≡ [] → (variable_of p i).taken ≡ None
unfolding variable_of
not_open p i h k =
    let attributes = map outermost i.attributes in
    closed (may_be_open p) i.dimensions (set_of attributes) (number_of attributes) (types.has_star attributes) h k

-- an area is no member
bad_area : (a b c d e : Bool) → first_of ((a && (b || c || d || e), AreaNotAllowedHere) ∷ []) ≡ None → a ≡ true → b ≡ false
bad_area true true c d e h k = cc
bad_area true false c d e h k = refl
bad_area false b c d e h k = cc

pub area_alone : (p : ItemPlace) (i : Item) → item_fault p i ≡ None → has (set_of (map outermost i.attributes)) area ≡ true → is_member p.position ≡ false
unfolding item_fault own_fault is_bad_area
area_alone p i h there =
    let s = set_of (map outermost i.attributes) in
    let own = (parts_none p i (or_none (attributes_fault p i) (entry_fault (parameters_in i.attributes)) h).0).0 in
    let fault : area_fault p i.dimensions s ≡ None = (or_none _ _ (or_none _ _ own).1).1 in
    bad_area (has s area) (is_member p.position) (is_array i.dimensions) p.in_array (has s based) fault there

-- the storage of a variable
variable_same : (e b : Bool) (ps : List ParameterType) (r : Option Description) (w v : Variable) → (if e then OfEntry ps r else if b then OfBuiltIn else OfVariable w) ≡ OfVariable v → w ≡ v
variable_same true b ps r w v h = cc
variable_same false true ps r w v h = cc
variable_same false false ps r w v h = cc

pub storage_so : (p : ItemPlace) (i : Item) (v : Variable) → completed_of p i ≡ OfVariable v → v.storage ≡ storage_at p.position (set_of (map outermost i.attributes))
unfolding completed_of variable_of
storage_so p i v h =
    let s = set_of (map outermost i.attributes) in
    ap (λ (x : Variable). x.storage) (sym (variable_same (has s entry) (has s built_in) _ _ (variable_of p i) v h))

pub not_based : (position : Position) (s slot : ℕ) (locator : Option SymbolKey) → none_of s based ≡ true → IsNotBased (class_of (storage_at position s) slot locator)
not_based AtLevelOne s slot locator h =
    let none : bit_and s based ≡ 0 = eqb-true (bit_and s based) 0 h in
    by (has s controlled) (has s based) (has s static) (has s external) (ap (λ m. m == based) none)
  where
    by : (c b t x : Bool) → b ≡ false
        → IsNotBased (class_of (Some (if c then storage.Controlled else if b then storage.Based else if t then storage.Static else if x then storage.Static else storage.Automatic)) slot locator)
    by true b t x e = tt
    by false true t x e = cc
    by false false true x e = tt
    by false false false true e = tt
    by false false false false e = tt
not_based Member s slot locator h = tt
not_based Parameter s slot locator h = tt
not_based Result s slot locator h = tt
