-- What a type takes: a description, whose strings and bounds are those that it states.
use Rattle.std.specs.Prelude.{◌≡◌, ℕ, zero, suc, ◌≤◌, ◌<◌, ◌^◌, ◌==◌, unsigned_abs, Bool, true, false, Some, None}
use Rattle.std.specs.Prelude.{List, [], ◌∷◌, length, slice_get, refl}
use Rattle.std.proofs.Common.{arith, sym, ap, ◌∙◌, subst, true≢false}
use Rattle.std.proofs.lemmas.Bool.{eqb-true, and_parts}
use Rattle.pli_map.specs.Description.{Description, Character, Varying, Bit, Area, Array}
use Rattle.pli_map.specs.Dimensions.{bound_of}
use Rattle.pli_map.specs.ParameterTypes.{ParameterType, Stated, AnyString, AnyArray, ArrayOf, StructureOf, is_string_of, agrees, type_if, element_type}
use Rattle.pli_map.specs.Same.{same_bounds}
use Rattle.pli_map.specs.Scalars.{is_area}
use Rattle.pli_map.specs.declared.description.Bounds.{Bounds}
use Rattle.pli_map.specs.declared.dimension.WhichBound.{WhichBound}
use Rattle.pli_map.specs.declared.dimension.WhichBound.TheVariants.{Low, High}
use Rattle.pli_map.specs.declared.parameter.StringForm.{StringForm}
use Rattle.pli_map.specs.declared.parameter.StringForm.TheVariants as forms
use Rattle.pli_map.specs.laws.ParameterLaws.{agrees_through}
use Rattle.pli_map.specs.laws.SameLaws.{all_bounds-Decides, same_decides}
use Rattle.pli_value.specs.Value.{Value}
use Rattle.pli_type_tree.specs.ValueTypes.{OfCharacters, OfBits, ValueType, Strings, longest, type_held, type_kept, IsOf}
use Rattle.pli_type_tree.specs.WellTyped.{AreNear, IsNarrowDescription, IsNarrow, is_area_type}
use Rattle.pli_meaning_typed.specs.SoundWorlds.{Takes}

some_same : {A : Type 0} {x y : A} → Some x ≡ Some y → x ≡ y
some_same e = cc

none_some : {A : Type 0} {x : A} → None ≡ Some x → ⊥
none_some e = absurd (cc)

-- ---- agreement

-- what agrees with a type is taken by it
pub takes_agreed : (t : ParameterType) (e : Description) → agrees t (Stated e) ≡ true → IsNarrowDescription e → Takes t e
takes_agreed (Stated d) e h narrow = sym ((same_decides d e).0 h)
takes_agreed (AnyString f) e h narrow = (h, narrow)
takes_agreed (AnyArray k t) e h narrow = (h, narrow)
takes_agreed (ArrayOf bs t) e h narrow = (h, narrow)
takes_agreed (StructureOf ts) e h narrow = (h, narrow)

-- and what is taken agrees, and is narrow where what is stated is
taken_agrees : (t : ParameterType) (e : Description) → Takes t e → agrees t (Stated e) ≡ true
taken_agrees (Stated d) e taken = (same_decides d e).1 (sym taken)
taken_agrees (AnyString f) e taken = taken.0
taken_agrees (AnyArray k t) e taken = taken.0
taken_agrees (ArrayOf bs t) e taken = taken.0
taken_agrees (StructureOf ts) e taken = taken.0

taken_narrow : (t : ParameterType) (e : Description) → IsNarrow t → Takes t e → IsNarrowDescription e
taken_narrow (Stated d) e narrow taken = subst (λ d. IsNarrowDescription d) (sym taken) narrow
taken_narrow (AnyString f) e narrow taken = taken.1
taken_narrow (AnyArray k t) e narrow taken = taken.1
taken_narrow (ArrayOf bs t) e narrow taken = taken.1
taken_narrow (StructureOf ts) e narrow taken = taken.1

-- a type takes what one takes that agrees with it
pub takes_through : (t u : ParameterType) (e : Description) → agrees t u ≡ true → IsNarrow u → Takes u e → Takes t e
takes_through t u e h narrow taken =
    takes_agreed t e (agrees_through t u e h (taken_agrees u e taken)) (taken_narrow u e narrow taken)

-- an area is taken by an area only
no_string : (f : StringForm) (e : Description) → is_string_of f e ≡ true → is_area e ≡ true → ⊥
no_string forms.Character (Area n) h is = absurd (true≢false (sym h))
no_string forms.Varying (Area n) h is = absurd (true≢false (sym h))
no_string forms.Bit (Area n) h is = absurd (true≢false (sym h))
no_string f e h is = absurd (true≢false (sym is))

pub area_taken : (t : ParameterType) (e : Description) → Takes t e → is_area e ≡ true → is_area_type t ≡ true
area_taken (Stated d) e taken is = subst (λ d. is_area d ≡ true) taken is
area_taken (AnyString f) e taken is = absurd (no_string f e taken.0 is)
area_taken (AnyArray k t) (Area n) taken is = absurd (true≢false (sym taken.0))
area_taken (ArrayOf bs t) (Area n) taken is = absurd (true≢false (sym taken.0))
area_taken (StructureOf ts) e taken is = absurd (true≢false (sym taken.0))
area_taken t e taken is = absurd (true≢false (sym is))

-- ---- values

-- what a variable holds that a type takes is of the type that it keeps
pub record HeldType (t : ValueType) (e : Description) : Type 0 where
  pub held : ValueType
  pub is : type_held e ≡ Some held
  pub wider : (v : Value) → IsOf held v → IsOf t v

pub held_taken : (type : ParameterType) (t : ValueType) (e : Description) → type_kept type ≡ Some t → Takes type e → HeldType t e
held_taken (Stated d) t e kept taken = record { held = t; is = ap type_held taken ∙ kept; wider = λ v is. is }
held_taken (AnyString forms.Character) t (Character n) kept taken = record {
  held = Strings OfCharacters n n;
  is = refl;
  wider = λ v is. let few : n ≤ longest = taken.1 in subst (λ t. IsOf t v) (some_same kept) (is.0, is.1, omega arith, omega (arith, is.3, few));
}
held_taken (AnyString forms.Varying) t (Varying n) kept taken = record {
  held = Strings OfCharacters 0 n;
  is = refl;
  wider = λ v is. let few : n ≤ longest = taken.1 in subst (λ t. IsOf t v) (some_same kept) (is.0, is.1, omega arith, omega (arith, is.3, few));
}
held_taken (AnyString forms.Bit) t (Bit n) kept taken = record {
  held = Strings OfBits n n;
  is = refl;
  wider = λ v is. let few : n ≤ longest = taken.1 in subst (λ t. IsOf t v) (some_same kept) (is.0, is.1, omega arith, omega (arith, is.3, few));
}
held_taken (AnyString f) t e kept taken = absurd (true≢false (sym taken.0))
held_taken type t e kept taken = absurd (none_some kept)

-- the string that a type of any length takes is of a kind
pub string_taken : (f : StringForm) (e : Description) → Takes (AnyString f) e → is_string_of f e ≡ true
string_taken f e taken = taken.0

-- ---- arrays

-- what a type of an array takes: bounds, and an element
pub record ArrayTaken (dimensions : ℕ) (element : ParameterType) (e : Description) : Type 0 where
  pub bounds : List Bounds
  pub of : Description
  pub is : e ≡ Array bounds of
  pub count : length bounds ≡ dimensions
  pub near : AreNear bounds
  pub takes : Takes element of

pub any_taken : (k : ℕ) (element : ParameterType) (e : Description) → Takes (AnyArray k element) e → ArrayTaken k element e
any_taken k element (Array bs d) taken =
    let both = and_parts (length bs == k) (agrees element (Stated d)) taken.0 in
    record { bounds = bs; of = d; is = refl; count = eqb-true (length bs) k both.0; near = taken.1.0; takes = takes_agreed element d both.1 taken.1.1 }
any_taken k element e taken = absurd (true≢false (sym taken.0))

bounded_taken : (cs : List Bounds) (element : ParameterType) (e : Description) → Takes (ArrayOf cs element) e → ArrayTaken (length cs) element e
bounded_taken cs element (Array bs d) taken =
    let both = and_parts (same_bounds cs bs) (agrees element (Stated d)) taken.0 in
    record {
      bounds = bs;
      of = d;
      is = refl;
      count = ap (λ (bs : List Bounds). length bs) (sym ((all_bounds-Decides cs bs).0 both.0));
      near = taken.1.0;
      takes = takes_agreed element d both.1 taken.1.1;
    }
bounded_taken cs element e taken = absurd (true≢false (sym taken.0))

-- with its element's type
counted : (b : Bool) (t u : ParameterType) → type_if b t ≡ Some u → (b ≡ true) × (t ≡ u)
counted true t u e = (refl, some_same e)
counted false t u e = absurd (none_some e)

pub element_taken : (k : ℕ) (array element : ParameterType) (e : Description) → element_type k array ≡ Some element → Takes array e → ArrayTaken k element e
element_taken k (AnyArray j t) element e is taken =
    let c = counted (j == k) t element is in
    subst (λ t. ArrayTaken k t e) c.1 (subst (λ n. ArrayTaken n t e) (eqb-true j k c.0) (any_taken j t e taken))
element_taken k (ArrayOf bs t) element e is taken =
    let c = counted (length bs == k) t element is in
    subst (λ t. ArrayTaken k t e) c.1 (subst (λ n. ArrayTaken n t e) (eqb-true (length bs) k c.0) (bounded_taken bs t e taken))
element_taken k array element e is taken = absurd (none_some is)

-- ---- bounds

-- the bounds of a number are near
pub record NearBounds (bs : List Bounds) (k : ℕ) : Type 0 where
  pub bounds : Bounds
  pub there : slice_get bs k ≡ Some bounds
  pub low : unsigned_abs bounds.low ≤ 32768
  pub high : unsigned_abs bounds.high ≤ 32768

pub near_at : (bs : List Bounds) (k : ℕ) → k < length bs → AreNear bs → NearBounds bs k
near_at [] k below near = absurd (omega (arith, below))
near_at (b ∷ bs) zero below near = record { bounds = b; there = refl; low = near.0; high = near.1 }
near_at (b ∷ bs) (suc k) below near =
    let r = near_at bs k (omega (arith, below)) near.2 in
    record { bounds = r.bounds; there = r.there; low = r.low; high = r.high }

pub bound_small : (which : WhichBound) (b : Bounds) → unsigned_abs b.low ≤ 32768 → unsigned_abs b.high ≤ 32768 → unsigned_abs (bound_of which b) < 2 ^ 16
bound_small Low b low high = omega (arith, low)
bound_small High b low high = omega (arith, high)
