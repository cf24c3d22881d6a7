-- The descriptions of items without a fault are within the limits.
use Rattle.std.proofs.Common.{◌≡◌, ℕ, zero, suc, ◌+◌, ◌*◌, ◌%◌, ◌<◌, ◌≤◌, ◌==◌, ◌&&◌, ◌||◌, not, Bool, true, false, true≢false, IsTrue, ℤ, pos, negsuc, int_le, nat_lt, unsigned_abs, if◌then◌else◌, Option, Some, None, IfSome, option_map, is_none, List, [], ◌∷◌, map, length, get_or, refl, sym, ap, subst, ◌∙◌, arith}
use Rattle.std.specs.Int.{next_multiple_of}
use Rattle.std.specs.Int.RustNames.{bit_and}
use Rattle.std.specs.List.{AllByRecursion, list_all, list_any}
use Rattle.std.specs.Option.{unwrap_or}
use Rattle.std.proofs.lemmas.Bool.{and_parts, eqb-true}
use Rattle.std.proofs.Math.Bool.{and-false}
use Rattle.std.proofs.lemmas.Int.{ints}
use Rattle.std.proofs.lemmas.List.{length-map}
use Rattle.std.proofs.lemmas.Bool.Decides.{nat_tests}
use Rattle.std.proofs.lemmas.Nat.{and_assoc}
use Rattle.pli_base.specs.Declarations as tree
use Rattle.pli_base.specs.Name.{Name}
use Rattle.pli_base.specs.Words.{same_name}
use Rattle.pli_base.specs.declared.code.Code.{Code}
use Rattle.pli_base.specs.declared.code.Code.TheVariants.{AttributesConflict, AttributesMissing, BadPrecision, BadLength, BadBounds}
use Rattle.pli_base.specs.declared.declaration.WrittenBounds as written
use Rattle.pli_base.specs.declared.declaration.WrittenBounds.TheVariants as limits
use Rattle.pli_map.specs.Description.{Description, FixedBinary, Character, Varying, Bit, Pointer, Offset, Area, Array, Structure, Members, NoMembers, MemberThen}
use Rattle.pli_map.specs.declared.description.Bounds.{Bounds}
use Rattle.pli_declare.specs.Agreement.{agrees_as_entry, agrees_as_built_in, agrees_as_variable, is_at_level_one, is_missing, is_plain, may_be_open, set_agrees}
use Rattle.pli_base.specs.Declarations.{integer_of}
use Rattle.pli_declare.specs.Extents.{low_of, bounds_of, are_good, are_bad_bounds, are_bad_stars, all_bounds, is_array}
use Rattle.pli_declare.specs.Faults.{first_of, shape_fault, own_fault, item_fault, entry_fault, parameters_in, with_bounds, described_scalar}
use Rattle.pli_declare.specs.Sets.{outermost, set_of, each_once, has, none_of, entry, returns, external, built_in, within}
use Rattle.pli_declare.specs.Types.{number_of, number_or, is_bad_precision, is_bad_length, is_bad_star, scalar_of}
use Rattle.pli_declare.specs.Types as types
use Rattle.pli_declare_attributes.specs.laws.Laws.{IsScalar}
use Rattle.pli_declare.specs.declared.place.ItemPlace.{ItemPlace}
use Rattle.pli_declare.specs.declared.place.Position.TheVariants.{Member}
use Rattle.pli_declare_attributes.proofs.LimitLemmas.{variable_whole, scalar_whole}
use Rattle.pli_declare.proofs.ShapeLemmas.{shape_sound, own_sound, parts_none, or_none, bounds_good}
use Rattle.pli_declare.specs.Tables.{Entity, AsItem, AsLabel, AsProcedure, Entry, no_entry}
use Rattle.pli_declare.specs.Resolution.{is_item}
use Rattle.pli_declare.specs.Declarations.{IsGood, AreGood, whole_description}
use Rattle.pli_declare.specs.Descriptions.{is_of_shape, scalar_at, member_then, members_made, inside, described, own_codes, description_of}
use Rattle.pli_declare.specs.Places.{item_of, owner_is, members_of, place_in, own_code, position_of, item_in, set_in, is_variable, is_bad_level}
use Rattle.pli_declare_variables.proofs.NumberLemmas.{mapped_at}
use Rattle.pli_declare.proofs.NumberListLemmas.{filtered}
use Rattle.pli_deck_laws.specs.Limits.{IfThere, AreBounds, IsDescribed, AreDescribed, IsDescription}
use Rattle.pli_resolve_bounds.proofs.LevelsOfEntries.{level_in, entry_level, IsLevel, AreRanked}

some_is : {A : Type 0} (x y : A) → Some x ≡ Some y → x ≡ y
some_is x y e = cc

-- ---- scalars

-- an area's size is a multiple of 8
abbrev IsEightfold : Description → Type 0
IsEightfold (Area k) = k % 8 ≡ 0
IsEightfold other = Unit {0}

eightfold : (n : ℕ) → next_multiple_of n 8 % 8 ≡ 0
eightfold n = omega arith

one_of : (f v c b p o a : Bool) (n : Option ℕ)
    → IsEightfold (if f then FixedBinary (number_or 15 n) else if v then Varying (number_or 1 n) else if c then Character (number_or 1 n) else if b then Bit (number_or 1 n) else if p then Pointer else if o then Offset else if a then Area (next_multiple_of (number_or 1000 n) 8) else Area (next_multiple_of 1000 8))
one_of true v c b p o a n = tt
one_of false true c b p o a n = tt
one_of false false true b p o a n = tt
one_of false false false true p o a n = tt
one_of false false false false true o a n = tt
one_of false false false false false true a n = tt
one_of false false false false false false true n = eightfold (number_or 1000 n)
one_of false false false false false false false n = refl

scalar_eightfold : (s : ℕ) (n : Option ℕ) → IsEightfold (scalar_of s n)
unfolding scalar_of
scalar_eightfold s n = one_of (has s 1) (has s 8) (has s 4) (has s 16) (has s 32) (has s 64) (has s 128) n

described_as : (d : Description) (m : ℕ) → 1 ≤ m → IsScalar d → IsEightfold d → IsDescribed m d
described_as d zero some h e = absurd (omega (arith, some))
described_as (FixedBinary p) (suc m) some h e = h
described_as (Character k) (suc m) some h e = h
described_as (Varying k) (suc m) some h e = h
described_as (Bit k) (suc m) some h e = h
described_as Pointer (suc m) some h e = tt
described_as Offset (suc m) some h e = tt
described_as (Area k) (suc m) some h e = (h.0, h.1, e)
described_as (Array bounds element) (suc m) some h e = absurd h
described_as (Structure ds) (suc m) some h e = absurd h

-- a type that attributes say
pub scalar_described : (attributes : List tree.DescribedAttribute) (m : ℕ) → 1 ≤ m → IsScalar (described_scalar attributes) → IsDescribed m (described_scalar attributes)
scalar_described attributes m some h =
    described_as (described_scalar attributes) m some h (scalar_eightfold (set_of attributes) (number_of attributes))

-- ---- bounds

near : (low high : ℤ) → (int_le (negsuc 32766) low && int_le low high && int_le high (pos 32767)) ≡ true
    → IsTrue (int_le low high) × (unsigned_abs low ≤ 32767) × (unsigned_abs high ≤ 32767)
near low high h =
    let p = and_parts (int_le (negsuc 32766) low && int_le low high) (int_le high (pos 32767)) h in
    let q = and_parts (int_le (negsuc 32766) low) (int_le low high) p.0 in
    (q.1, omega (arith, ints, p.1, q.0, q.1), omega (arith, ints, p.1, q.0, q.1))

pub bounds_near : (bs : List written.WrittenBounds) → list_all are_good bs ≡ true → AllByRecursion AreBounds (all_bounds bs)
bounds_near [] h = tt
bounds_near (limits.Stated low high ∷ bs) h =
    let p = and_parts (are_good (limits.Stated low high)) (list_all are_good bs) h in
    (near (low_of low) (integer_of high) p.0, bounds_near bs p.1)
bounds_near (limits.Any ∷ bs) h = (near (pos 1) (pos 1) refl, bounds_near bs h)

few : (n : ℕ) (b : Bool) → (nat_lt 8 n || b) ≡ false → n ≤ 8
few n b h = grind (arith, nat_tests, h)

pub bounds_few : (bs : List written.WrittenBounds) → are_bad_bounds bs ≡ false → length (all_bounds bs) ≤ 8
unfolding are_bad_bounds
bounds_few bs h = omega (arith, few (length bs) (not (list_all are_good bs)) h, length-map bs bounds_of)

with_described : (bs : List Bounds) (d : Description) (m : ℕ) → length bs ≤ 8 → AllByRecursion AreBounds bs → IsDescribed m d → IsDescribed (suc m) d
    → IsDescribed (suc m) (with_bounds bs d)
with_described [] d m least near h k = k
with_described (b ∷ bs) d m least near h k = (omega arith, least, near, h)

-- a type with bounds
pub bounded : (bs : List written.WrittenBounds) (d : Description) (m : ℕ) → are_bad_bounds bs ≡ false → IsDescribed m d → IsDescribed (suc m) d
    → IsDescribed (suc m) (with_bounds (all_bounds bs) d)
bounded bs d m good h k = with_described (all_bounds bs) d m (bounds_few bs good) (bounds_near bs (bounds_good bs good)) h k

-- ---- which items are variables

first_pair : (a b c d e : Bool) (t u v w x : Code) → first_of ((not a, t) ∷ (b, u) ∷ (c, v) ∷ (d, w) ∷ (e, x) ∷ []) ≡ None → (a ≡ true) × (b ≡ false)
first_pair false b c d e t u v w x h = cc
first_pair true true c d e t u v w x h = cc
first_pair true false c d e t u v w x h = (refl, refl)

pub shape_agrees : (p : ItemPlace) (dimensions : List written.WrittenBounds) (once : Bool) (s : ℕ) (n : Option ℕ) (star : Bool) → shape_fault p dimensions once s n star ≡ None
    → (set_agrees p (is_array dimensions) s ≡ true) × (is_missing p s ≡ false)
unfolding shape_fault
shape_agrees p dimensions once s n star h =
    let two =
    first_pair (once && set_agrees p (is_array dimensions) s) (is_missing p s) (is_bad_precision s n) (is_bad_length s n || is_bad_star (may_be_open p) star s)
    (are_bad_bounds dimensions || are_bad_stars (may_be_open p) dimensions)
    AttributesConflict AttributesMissing BadPrecision BadLength BadBounds h in
    ((and_parts once (set_agrees p (is_array dimensions) s) two.0).1, two.1)

-- what agrees as a variable, where it agrees at all
abbrev pub IsVariableSet : ItemPlace → (is_array : Bool) → (s : ℕ) → Type 0
IsVariableSet p is_array s = set_agrees p is_array s ≡ true → agrees_as_variable p s ≡ true

pub scalar_here : (p : ItemPlace) (i : tree.Item) → item_fault p i ≡ None → p.has_members ≡ false
    → IsVariableSet p (is_array i.dimensions) (set_of (map outermost i.attributes)) → IsScalar (described_scalar (map outermost i.attributes))
unfolding item_fault own_fault
scalar_here p i h alone agrees =
    let attributes = map outermost i.attributes in
    let s = set_of attributes in
    let n = number_of attributes in
    let own = (parts_none p i (or_none _ (entry_fault (parameters_in i.attributes)) h).0).0 in
    let star = types.has_star attributes in
    let shape = (or_none (shape_fault p i.dimensions (each_once 0 attributes) s n star) _ own).0 in
    let two = shape_agrees p i.dimensions (each_once 0 attributes) s n star shape in
    let sound = shape_sound p i.dimensions (each_once 0 attributes) s n star shape in
    scalar_whole s n (variable_whole p s (agrees two.0) two.1 alone) sound.precision sound.length_of

third : (a b c : Bool) → (a || b || c) ≡ true → a ≡ false → b ≡ false → c ≡ true
third a b c h k l = sym (ap (λ x. x || b || c) k ∙ ap (λ x. x || c) l) ∙ h

-- neither ENTRY nor BUILTIN stands
stands_not : (s k : ℕ) → none_of s 98304 ≡ true → bit_and 98304 k ≡ k → has s k ≡ has 0 k
stands_not s k none is =
    ap (λ m. m == k) (ap (bit_and s) (sym is) ∙ sym (and_assoc k s 98304) ∙ ap (λ m. bit_and m k) (eqb-true (bit_and s 98304) 0 none))

middle_false : (a b c : Bool) → b ≡ false → (a && b && c) ≡ false
middle_false true true c h = cc
middle_false true false c h = refl
middle_false false b c h = refl

last_false : (a b : Bool) → b ≡ false → (a && b) ≡ false
last_false a b h = ap (λ x. a && x) h ∙ and-false a

not_alone : (s : ℕ) (b : Bool) → (s == 32768) ≡ b → has s 32768 ≡ false → b ≡ false
not_alone s true e h = let same : s ≡ 32768 = eqb-true s 32768 e in absurd (true≢false (subst (λ m. has m 32768 ≡ false) same h))
not_alone s false e h = refl

plainly_variable : (p : ItemPlace) (array : Bool) (s : ℕ) → none_of s (entry + built_in) ≡ true → IsVariableSet p array s
unfolding set_agrees
plainly_variable p array s none agrees =
    third (agrees_as_entry p array s) (agrees_as_built_in p array s) (agrees_as_variable p s) agrees
    (middle_false (is_plain p array) (has s entry) _ (stands_not s 65536 none refl))
    (last_false (is_plain p array && p.built_in_name) (s == 32768) (not_alone s (s == 32768) refl (stands_not s 32768 none refl)))

pub inner_variable : (p : ItemPlace) (array : Bool) (s : ℕ) → is_at_level_one p.position ≡ false → IsVariableSet p array s
unfolding set_agrees
inner_variable p array s inner agrees =
    third (agrees_as_entry p array s) (agrees_as_built_in p array s) (agrees_as_variable p s) agrees
    (ap (λ b. b && not p.has_members && not array && has s entry && within s (entry + returns + external)) inner)
    (ap (λ b. b && not p.has_members && not array && p.built_in_name && s == built_in) inner)

member_variable : (p : ItemPlace) (array : Bool) (s : ℕ) → p.position ≡ Member → IsVariableSet p array s
member_variable p array s member = inner_variable p array s (ap is_at_level_one member)

-- ---- items with their members

no_members : (entries : List Entry) (parameters : List Name) (n : ℕ) → members_of entries n ≡ [] → (place_in entries parameters n).has_members ≡ false
no_members entries parameters n none = ap (λ (ks : List ℕ). not (length ks == 0)) none

owner_named : (x : Option ℕ) (n : ℕ) → unwrap_or (option_map (λ o. o == n) x) false ≡ true → x ≡ Some n
owner_named None n h = cc
owner_named (Some o) n h = ap Some (eqb-true o n h)

members_are : (entries : List Entry) (n i : ℕ) → i < length (members_of entries n)
    → (get_or (members_of entries n) i 0 < length entries) × ((get_or entries (get_or (members_of entries n) i 0) no_entry).owner ≡ Some n)
members_are entries n =
    filtered (λ k. owner_is n (get_or entries k no_entry)) (λ k. (k < length entries) × ((get_or entries k no_entry).owner ≡ Some n)) 0 (length entries)
    (λ k from to e. (omega (arith, to), owner_named (get_or entries k no_entry).owner n e))

-- each of these items is described within so many levels
made_within : (f : ℕ → Option Description) (ks : List ℕ) (m : ℕ)
    → ((i : ℕ) → i < length ks → (d : Description) → f (get_or ks i 0) ≡ Some d → IsDescribed m d)
    → (ds : Members) → members_made f ks ≡ Some ds → AreDescribed m ds
made_within f [] m each ds e = subst (AreDescribed m) (some_is NoMembers ds e) tt
made_within f (k ∷ ks) m each ds e = first (f k) refl (members_made f ks) refl e (made_within f ks m (λ i lt. each (suc i) (omega (arith, lt))))
  where
    first : (x : Option Description) → f k ≡ x → (y : Option Members) → members_made f ks ≡ y → member_then x y ≡ Some ds
        → ((others : Members) → members_made f ks ≡ Some others → AreDescribed m others) → AreDescribed m ds
    first None is y more e rest = cc
    first (Some d) is None more e rest = cc
    first (Some d) is (Some others) more e rest =
        subst (AreDescribed m) (some_is (MemberThen d others) ds e) (each 0 (omega arith) d is, rest others more)

-- an item without a fault
item_good : (entries : List Entry) (parameters : List Name) (k : ℕ) (x : Entity) → is_item x ≡ true → IsGood entries parameters k x → IsLevel x
    → (own_code entries parameters k ≡ None) × (level_in x ≤ 255)
item_good entries parameters k (AsItem item is_bad) is good level = (good.1, level good.0)
item_good entries parameters k (AsLabel region) is good level = cc
item_good entries parameters k (AsProcedure heading region) is good level = cc

has_level : (x : Entity) → 0 < level_in x → is_item x ≡ true
has_level (AsItem item is_bad) some = refl
has_level (AsLabel region) some = absurd (omega (arith, some))
has_level (AsProcedure heading region) some = absurd (omega (arith, some))

is_variable_item : (x : Entity) → is_variable x ≡ true → is_item x ≡ true
is_variable_item (AsItem item is_bad) h = refl
is_variable_item (AsLabel region) h = cc
is_variable_item (AsProcedure heading region) h = cc

-- an item that is a variable has neither ENTRY nor BUILTIN
variable_set : (x : Entity) → is_variable x ≡ true → none_of (set_of (map outermost (item_in x).attributes)) (entry + built_in) ≡ true
variable_set (AsItem item is_bad) h = h
variable_set (AsLabel region) h = cc
variable_set (AsProcedure heading region) h = cc

module _ (entries : List Entry) (parameters : List Name) where
  abbrev code_list : List (Option Code)
  code_list = own_codes entries parameters

  -- an item without a fault, of a level within the limit, that is a variable or a member
  pub record IsFaultlessVariable (n : ℕ) : Type 0 where
    pub within : n < length entries
    pub code : own_code entries parameters n ≡ None
    pub level : entry_level entries n ≤ 255
    pub variable : IsVariableSet (place_in entries parameters n) (is_array (item_of entries n).dimensions) (set_in entries n)

  shapeless : (n : ℕ) → IsFaultlessVariable n → is_of_shape (get_or code_list n None) ≡ false
  shapeless n h = ap is_of_shape (mapped_at (own_code entries parameters) (length entries) n None h.within ∙ h.code)

  bounds_sound : (n : ℕ) → IsFaultlessVariable n → are_bad_bounds (item_of entries n).dimensions ≡ false
  unfolding item_fault
  bounds_sound n h =
      let p = place_in entries parameters n in
      let i = item_of entries n in
      (own_sound p i (parts_none p i (or_none _ (entry_fault (parameters_in i.attributes)) h.code).0).0).bounds

  -- the members of an item are described, by that function
  abbrev MembersWithin : (ℕ → Option Description) → ℕ → Type 0
  MembersWithin f n =
      (k : ℕ) → k < length entries → (get_or entries k no_entry).owner ≡ Some n → (d : Description) → f k ≡ Some d
      → (m : ℕ) → 512 ≤ m + 2 * entry_level entries k → IsDescribed m d

  module _ (ranked : AreRanked entries) where
    member_level : (n k : ℕ) → k < length entries → (get_or entries k no_entry).owner ≡ Some n → entry_level entries n < entry_level entries k
    member_level n k lt is =
        let under = (ranked k lt).0 in
        (subst (λ owner. IfSome owner (λ o. (o < length entries) × (entry_level entries o < entry_level entries k))) is under).1

    structure_within : (f : ℕ → Option Description) (n : ℕ) → MembersWithin f n → (ds : Members) → members_made f (members_of entries n) ≡ Some ds
        → (m : ℕ) → 510 ≤ m + 2 * entry_level entries n → AreDescribed m ds
    structure_within f n each ds e m room =
        made_within f (members_of entries n) m
        (λ i lt d is.
        let there = members_are entries n i lt in
        let k = get_or (members_of entries n) i 0 in
        each k there.0 there.1 d is m (omega (arith, room, member_level n k there.0 there.1)))
        ds e

    inside_within : (f : ℕ → Option Description) (n : ℕ) → IsFaultlessVariable n → MembersWithin f n → (ks : List ℕ) → members_of entries n ≡ ks
        → (d : Description) → inside f (scalar_at entries n) ks ≡ Some d → (m : ℕ) → 511 ≤ m + 2 * entry_level entries n → IsDescribed m d
    inside_within f n h each [] are d e m room =
        subst (IsDescribed m) (some_is (scalar_at entries n) d e)
        (scalar_described (map outermost (item_of entries n).attributes) m (omega (arith, room, h.level))
        (scalar_here (place_in entries parameters n) (item_of entries n) h.code (no_members entries parameters n are) h.variable))
    inside_within f n h each (k ∷ ks) are d e m room = by (members_made f (k ∷ ks)) refl e
      where
        filled : (ds : Members) → members_made f (k ∷ ks) ≡ Some ds → (m : ℕ) → 510 ≤ m + 2 * entry_level entries n → AreDescribed m ds → IsDescribed (suc m) (Structure ds)
        filled NoMembers is m room all = absurd (no_made (f k) (members_made f ks) is)
          where
            no_made : (x : Option Description) (y : Option Members) → member_then x y ≡ Some NoMembers → ⊥
            no_made None y e = cc
            no_made (Some d) None e = cc
            no_made (Some d) (Some ds) e = cc
        filled (MemberThen first others) is m room all = all

        at_level : (ds : Members) → members_made f (k ∷ ks) ≡ Some ds → (m : ℕ) → 511 ≤ m + 2 * entry_level entries n → IsDescribed m (Structure ds)
        at_level ds is zero room = absurd (omega (arith, room, h.level))
        at_level ds is (suc m) room =
            filled ds is m (omega (arith, room))
            (structure_within f n each ds (ap (members_made f) are ∙ is) m (omega (arith, room)))

        by : (x : Option Members) → members_made f (k ∷ ks) ≡ x → option_map Structure x ≡ Some d → IsDescribed m d
        by None is e = cc
        by (Some ds) is e = subst (IsDescribed m) (some_is (Structure ds) d e) (at_level ds is m room)

    one_level : (f : ℕ → Option Description) (n : ℕ) → IsFaultlessVariable n → MembersWithin f n → (d : Description)
        → option_map (with_bounds (all_bounds (item_of entries n).dimensions)) (inside f (scalar_at entries n) (members_of entries n)) ≡ Some d
        → (m : ℕ) → 512 ≤ m + 2 * entry_level entries n → IsDescribed m d
    one_level f n h each d e zero room = absurd (omega (arith, room, h.level))
    one_level f n h each d e (suc m) room = by (inside f (scalar_at entries n) (members_of entries n)) refl e
      where
        by : (x : Option Description) → inside f (scalar_at entries n) (members_of entries n) ≡ x
            → option_map (with_bounds (all_bounds (item_of entries n).dimensions)) x ≡ Some d → IsDescribed (suc m) d
        by None is e = cc
        by (Some y) is e =
            subst (IsDescribed (suc m)) (some_is (with_bounds (all_bounds (item_of entries n).dimensions) y) d e)
            (bounded (item_of entries n).dimensions y m (bounds_sound n h)
            (inside_within f n h each (members_of entries n) refl y is m (omega (arith, room)))
            (inside_within f n h each (members_of entries n) refl y is (suc m) (omega (arith, room))))

    module _ (good : AreGood entries parameters) where
      position_member : (n k : ℕ) → (get_or entries k no_entry).owner ≡ Some n → (place_in entries parameters k).position ≡ Member
      position_member n k is =
          let e = get_or entries k no_entry in
          ap (λ owner. position_of (is_none owner) (list_any (same_name e.identifier.name) parameters) (is_bad_level e.entity)) is

      faultless : (k : ℕ) → k < length entries → is_item (get_or entries k no_entry).entity ≡ true
          → IsVariableSet (place_in entries parameters k) (is_array (item_of entries k).dimensions) (set_in entries k) → IsFaultlessVariable k
      faultless k lt item variable =
          let two = item_good entries parameters k (get_or entries k no_entry).entity item (good k lt) (ranked k lt).1 in
          record { within = lt; code = two.0; level = two.1; variable = variable }

      member_faultless : (n k : ℕ) → k < length entries → (get_or entries k no_entry).owner ≡ Some n → IsFaultlessVariable k
      member_faultless n k lt is =
          faultless k lt (has_level (get_or entries k no_entry).entity (omega (arith, member_level n k lt is)))
          (member_variable (place_in entries parameters k) (is_array (item_of entries k).dimensions) (set_in entries k) (position_member n k is))

      described_within : (bound n : ℕ) → IsFaultlessVariable n → (d : Description) → described bound entries code_list n ≡ Some d
          → (m : ℕ) → 512 ≤ m + 2 * entry_level entries n → IsDescribed m d
      described_within zero n h d e m room = cc
      described_within (suc b) n h d e m room =
          one_level (described b entries code_list) n h
          (λ k lt is. described_within b k (member_faultless n k lt is))
          d (sym (ap (λ t. if t then None else option_map (with_bounds (all_bounds (item_of entries n).dimensions)) (inside (described b entries code_list) (scalar_at entries n) (members_of entries n))) (shapeless n h)) ∙ e) m room

      -- a variable of its own
      variable_described : (n : ℕ) → n < length entries → is_variable (get_or entries n no_entry).entity ≡ true → (d : Description)
          → description_of entries parameters n ≡ Some d → IsDescription d
      variable_described n lt is d e =
          let x = (get_or entries n no_entry).entity in
          described_within (length entries) n
          (faultless n lt (is_variable_item x is)
          (plainly_variable (place_in entries parameters n) (is_array (item_of entries n).dimensions) (set_in entries n) (variable_set x is)))
          d e 512 (omega arith)

      pub whole_described : (n : ℕ) → n < length entries → IfThere IsDescription (whole_description entries parameters n)
      whole_described n lt = by (is_none (get_or entries n no_entry).owner) (is_variable (get_or entries n no_entry).entity) refl (description_of entries parameters n) refl
        where
          by : (a b : Bool) → is_variable (get_or entries n no_entry).entity ≡ b → (x : Option Description) → description_of entries parameters n ≡ x
              → IfThere IsDescription (if a && b then x else None)
          by false b is x e = tt
          by true false is x e = tt
          by true true is None e = tt
          by true true is (Some d) e = variable_described n lt is d e
