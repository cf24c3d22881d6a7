-- What well-typed expressions and references mean.
use Rattle.std.specs.Prelude.{◌≡◌, ℕ, zero, suc, ◌+◌, ◌*◌, ◌≤◌, ◌<◌, ◌^◌, Bool, true, false, ◌&&◌, IsTrue, ℤ, ◌-ℤ◌, int_le, unsigned_abs, Option, Some, None}
use Rattle.std.specs.Prelude.{pos, List, [], ◌∷◌, ◌⊎◌, length, drop, slice_get, option_map, ◌==◌, if◌then◌else◌, refl}
use Rattle.std.proofs.Common.{arith, sym, ap, ◌∙◌, subst, inl, inr, add_assoc, eq-zero-or-pos, ltb-true, lt-ltb, leb-true, le-leb, true≢false}
use Rattle.std.proofs.lemmas.Bool.{eqb-true, eq-eqb}
use Rattle.std.proofs.lemmas.Int.{ints}
use Rattle.std.proofs.Common.{pow_mono, lt_of_lt_of_le}
use Rattle.pli_base.specs.declared.statement.Condition.{Condition}
use Rattle.pli_run.specs.declared.ending.RunError.TheVariants.{SubscriptRange, FixedOverflow, ZeroDivide, StringRange}
use Rattle.pli_map.specs.Description.{Description, FixedBinary, Character, Varying, Bit, Pointer, Offset, Array}
use Rattle.pli_map.specs.Dimensions.{left_by, dimension_before, dimension_at, bound_of}
use Rattle.pli_map.specs.ParameterTypes.{ParameterType, Stated, AnyString, AnyArray, is_string_of}
use Rattle.pli_map.specs.Sizes.{extent_of, count_of, stride_of}
use Rattle.pli_map.specs.declared.description.Bounds.{Bounds}
use Rattle.pli_map.specs.declared.dimension.WhichBound.{WhichBound}
use Rattle.pli_map.specs.declared.parameter.StringForm.{StringForm}
use Rattle.pli_map.specs.declared.parameter.StringForm.TheVariants as forms
use Rattle.pli_map.proofs.ScalarLawsHold.{whole_found}
use Rattle.pli_map.specs.Scalars.{first_scalar, is_area, is_scalar}
use Rattle.pli_operation.specs.Operations.{Calculation, Calculates, RaisesCondition, OutOfString, Misfits, fitted_to, string_fitted_to}
use Rattle.pli_world.specs.Storage.{Place, field_of, offset_limit}
use Rattle.pli_map.specs.Values.{holds}
use Rattle.pli_world.specs.World.{World, Answer, Yields, Raises, Wrong, held, led_on, slot_place, static_place, calculation, dummy_of}
use Rattle.pli_world.specs.Conditions.{condition_of}
use Rattle.pli_world.specs.Strings.{dummy_length, greatest_length, dummy_with, unless_long, string_dummy, made_dummy, string_dummy_of, subscripted_in, subscripted_by, bound_at, bound_of_place, string_as}
use Rattle.pli_value.specs.Strings.{fitted}
use Rattle.pli_world.specs.Locating.{place_by, address_of, offset_made, pointer_within}
use Rattle.pli_world.specs.Stacks.{generations_counted}
use Rattle.pli_world.specs.laws.OperationLaws.{led_near}
use Rattle.pli_value.specs.Value.{Value, Number, Characters, Bits, Located as Locates}
use Rattle.pli_value.specs.declared.number.Raised.TheVariants as raised
use Rattle.pli_program.specs.declared.kind.VariableKind.TheVariants.{Static, Controlled}
use Rattle.pli_type_tree.specs.TypedOperations.{comes_to}
use Rattle.pli_type_tree.specs.TypedTree.{TypedOperation, Fit, Root, InSlot, OfProgram, NewestOf, Located, Callee, Global, TypedUnit, Stride, TypedExpression, Literal, Held, Calculated, Called, Generations, Address, AsPointer, AsOffset, Bounded, TypedReference}
use Rattle.pli_type_tree.specs.TypedTree.{Whole, Part, ElementOf, Operands, NoOperand, OperandThen, Subscripts, NoSubscript, SubscriptThen}
use Rattle.pli_type_tree.specs.TypedTree.{TypedArguments, NoArgument, ByPlace, ByDummy, ByString}
use Rattle.pli_type_tree.specs.ValueTypes.{OfCharacters, OfBits, ValueType, Numbers, Strings, Pointers, Offsets, longest, kind_of_form, type_held, type_kept, count_precision, bound_precision, IsOf, AreOf, IsWithin, IsHeldBy, IsFitted, Operates}
use Rattle.pli_type_tree.specs.WellTyped.{BlockAround, KnownProcedure, TypingContext, slot_of, parameters_in, BeginsWhole, IsUnlocated, LeadTo, IsCallee, IsTyped, IsRooted, IsAddressed, IsAreaReference, IsPlaced, AreTyped}
use Rattle.pli_map.specs.Scalars.{scalars_of}
use Rattle.pli_type_tree.specs.WellTyped.{operand_count, AreSubscripts, AreNumbers, ArePassed}
use Rattle.pli_meaning_tree.specs.Effects.{Effect, Gives as Results, Doing, and_then, answered, without_value, erring, handled}
use Rattle.pli_meaning_tree.specs.TreeMeaning.{Calls, in_order, root_place, value_of, operated, place_of, element_at, element_by, called_with}
use Rattle.pli_meaning_tree.specs.Parts.{resolved, a_value, fitted_at, element_of, dimension_of}
use Rattle.pli_meaning_typed.specs.SoundWorlds.{IsPartAt, IsNear, HasPart, IsGood, IsWhole, IsOwn, IsVariable, Takes, IsPassed, AreGood, Known, Shape, Stand, IsSound, IsLater, Answers}
use Rattle.pli_meaning_typed.proofs.AreaLaws.{offset_answers, within_answers}
use Rattle.pli_meaning_typed.proofs.MeansLemmas.{Means, means_as, then_means, answer_means, lower_means}
use Rattle.pli_meaning_typed.proofs.OnUnits.{Holds}
use Rattle.pli_meaning_typed.proofs.ElementsReached.{element_reached, within_distance, further, within_total, none_left, front_of_drop}
use Rattle.pli_meaning_typed.proofs.OperationsFit.{IsCalculated, fitted_length, operated_fits}
use Rattle.pli_meaning_typed.proofs.PartsWithin.{parts_within}
use Rattle.pli_meaning_typed.proofs.ContextLaws.{IsUnit, slot_there, static_answers}
use Rattle.pli_meaning_typed.proofs.PointerLaws.{place_answers, address_answers}
use Rattle.pli_meaning_typed.proofs.RaisesLaws.{RaisesIn}
use Rattle.pli_meaning_typed.proofs.StackLaws.{counted_answers, counted_raises}
use Rattle.pli_meaning_typed.proofs.TypesTaken.{takes_through, area_taken, held_taken, any_taken, element_taken, near_at, bound_small}
use Rattle.pli_meaning_typed.proofs.WorldLaws.{later_same, later_then, part_later, goods_later, error_named, held_answers, dummy_answers}

some_same : {A : Type 0} {x y : A} → Some x ≡ Some y → x ≡ y
some_same e = cc

none_some : {A : Type 0} {x : A} → None ≡ Some x → ⊥
none_some e = absurd (cc)

-- what a variable holds is of its type
equal_lengths : (n m : ℕ) → IsTrue (n == m) → (m ≤ n) × (n ≤ m)
equal_lengths n m e = let h = eqb-true n m e in (omega (arith, h), omega (arith, h))

pub held_is_of : (d : Description) (t : ValueType) (v : Value) → type_held d ≡ Some t → IsTrue (holds d v) → IsOf t v
held_is_of (FixedBinary p) t (Number x) e h = subst (λ t. IsOf t (Number x)) (some_same e) (x, refl, ltb-true (unsigned_abs x) (2 ^ p) h)
held_is_of (Character n) t (Characters s) e h =
    let l = equal_lengths (length s) n h in subst (λ t. IsOf t (Characters s)) (some_same e) (s, refl, l.0, l.1)
held_is_of (Varying n) t (Characters s) e h =
    subst (λ t. IsOf t (Characters s)) (some_same e) (s, refl, omega arith, leb-true (length s) n h)
held_is_of (Bit n) t (Bits s) e h =
    let l = equal_lengths (length s) n h in subst (λ t. IsOf t (Bits s)) (some_same e) (s, refl, l.0, l.1)
held_is_of Pointer t (Locates l) e h = subst (λ t. IsOf t (Locates l)) (some_same e) (l, refl, h)
held_is_of Offset t (Locates l) e h = subst (λ t. IsOf t (Locates l)) (some_same e) (l, refl, h)
held_is_of d t v e h = absurd (cc)

-- and a value of a narrower type is held
narrow_in : (d : Description) (t wide : ValueType) (v : Value) → type_held d ≡ Some wide → IsWithin t wide → IsOf t v → IsTrue (holds d v)
narrow_in (FixedBinary p) (Numbers q) wide v e le is =
    let l : q ≤ p = subst (λ u. IsWithin (Numbers q) u) (sym (some_same e)) le in
    subst (λ v. IsTrue (holds (FixedBinary p) v)) (sym is.1)
    (lt-ltb (unsigned_abs is.0) (2 ^ p) (lt_of_lt_of_le is.2 (pow_mono l)))
narrow_in (FixedBinary p) (Strings OfCharacters a b) wide v e le is =
    absurd (subst (λ u. IsWithin (Strings OfCharacters a b) u) (sym (some_same e)) le)
narrow_in (FixedBinary p) (Strings OfBits a b) wide v e le is =
    absurd (subst (λ u. IsWithin (Strings OfBits a b) u) (sym (some_same e)) le)
narrow_in (FixedBinary p) Pointers wide v e le is = absurd (subst (λ u. IsWithin Pointers u) (sym (some_same e)) le)
narrow_in (FixedBinary p) Offsets wide v e le is = absurd (subst (λ u. IsWithin Offsets u) (sym (some_same e)) le)
narrow_in (Character n) (Numbers q) wide v e le is = absurd (subst (λ u. IsWithin (Numbers q) u) (sym (some_same e)) le)
narrow_in (Character n) (Strings OfCharacters a b) wide v e le is =
    let l : (n ≤ a) × (b ≤ n) = subst (λ u. IsWithin (Strings OfCharacters a b) u) (sym (some_same e)) le in
    subst (λ v. IsTrue (holds (Character n) v)) (sym is.1) (eq-eqb (length is.0) n (omega (arith, is.2, is.3, l.0, l.1)))
narrow_in (Character n) (Strings OfBits a b) wide v e le is =
    absurd (subst (λ u. IsWithin (Strings OfBits a b) u) (sym (some_same e)) le)
narrow_in (Character n) Pointers wide v e le is = absurd (subst (λ u. IsWithin Pointers u) (sym (some_same e)) le)
narrow_in (Character n) Offsets wide v e le is = absurd (subst (λ u. IsWithin Offsets u) (sym (some_same e)) le)
narrow_in (Varying n) (Numbers q) wide v e le is = absurd (subst (λ u. IsWithin (Numbers q) u) (sym (some_same e)) le)
narrow_in (Varying n) (Strings OfCharacters a b) wide v e le is =
    let l : (0 ≤ a) × (b ≤ n) = subst (λ u. IsWithin (Strings OfCharacters a b) u) (sym (some_same e)) le in
    subst (λ v. IsTrue (holds (Varying n) v)) (sym is.1) (le-leb (length is.0) n (omega (arith, is.3, l.1)))
narrow_in (Varying n) (Strings OfBits a b) wide v e le is =
    absurd (subst (λ u. IsWithin (Strings OfBits a b) u) (sym (some_same e)) le)
narrow_in (Varying n) Pointers wide v e le is = absurd (subst (λ u. IsWithin Pointers u) (sym (some_same e)) le)
narrow_in (Varying n) Offsets wide v e le is = absurd (subst (λ u. IsWithin Offsets u) (sym (some_same e)) le)
narrow_in (Bit n) (Numbers q) wide v e le is = absurd (subst (λ u. IsWithin (Numbers q) u) (sym (some_same e)) le)
narrow_in (Bit n) (Strings OfCharacters a b) wide v e le is =
    absurd (subst (λ u. IsWithin (Strings OfCharacters a b) u) (sym (some_same e)) le)
narrow_in (Bit n) (Strings OfBits a b) wide v e le is =
    let l : (n ≤ a) × (b ≤ n) = subst (λ u. IsWithin (Strings OfBits a b) u) (sym (some_same e)) le in
    subst (λ v. IsTrue (holds (Bit n) v)) (sym is.1) (eq-eqb (length is.0) n (omega (arith, is.2, is.3, l.0, l.1)))
narrow_in (Bit n) Pointers wide v e le is = absurd (subst (λ u. IsWithin Pointers u) (sym (some_same e)) le)
narrow_in (Bit n) Offsets wide v e le is = absurd (subst (λ u. IsWithin Offsets u) (sym (some_same e)) le)
narrow_in Pointer (Numbers q) wide v e le is = absurd (subst (λ u. IsWithin (Numbers q) u) (sym (some_same e)) le)
narrow_in Pointer (Strings OfCharacters a b) wide v e le is =
    absurd (subst (λ u. IsWithin (Strings OfCharacters a b) u) (sym (some_same e)) le)
narrow_in Pointer (Strings OfBits a b) wide v e le is =
    absurd (subst (λ u. IsWithin (Strings OfBits a b) u) (sym (some_same e)) le)
narrow_in Pointer Pointers wide v e le is = subst (λ v. IsTrue (holds Pointer v)) (sym is.1) is.2
narrow_in Pointer Offsets wide v e le is = absurd (subst (λ u. IsWithin Offsets u) (sym (some_same e)) le)
narrow_in Offset (Numbers q) wide v e le is = absurd (subst (λ u. IsWithin (Numbers q) u) (sym (some_same e)) le)
narrow_in Offset (Strings OfCharacters a b) wide v e le is =
    absurd (subst (λ u. IsWithin (Strings OfCharacters a b) u) (sym (some_same e)) le)
narrow_in Offset (Strings OfBits a b) wide v e le is =
    absurd (subst (λ u. IsWithin (Strings OfBits a b) u) (sym (some_same e)) le)
narrow_in Offset Pointers wide v e le is = absurd (subst (λ u. IsWithin Pointers u) (sym (some_same e)) le)
narrow_in Offset Offsets wide v e le is = subst (λ v. IsTrue (holds Offset v)) (sym is.1) is.2
narrow_in d t wide v e le is = absurd (none_some e)

pub narrow_held : (d : Description) (t : ValueType) (v : Value) → IsHeldBy d t → IsOf t v → IsTrue (holds d v)
narrow_held d t v h is = narrow_in d t h.0 v h.1 h.2 is

-- a scalar
pub one_scalar : (d : Description) (t : ValueType) → type_held d ≡ Some t → (is_scalar d ≡ true) × (scalars_of d ≡ d ∷ [])
one_scalar (FixedBinary p) t e = (refl, refl)
one_scalar (Character n) t e = (refl, refl)
one_scalar (Varying n) t e = (refl, refl)
one_scalar (Bit n) t e = (refl, refl)
one_scalar Pointer t e = (refl, refl)
one_scalar Offset t e = (refl, refl)
one_scalar d t e = absurd (none_some e)

-- the value of a function, or none
abbrev pub IsReturned : Option Description → Option Value → Type 0
IsReturned None None = Unit {0}
IsReturned None (Some v) = ⊥
IsReturned (Some d) None = ⊥
IsReturned (Some d) (Some v) = IsTrue (holds d v)

abbrev pub OfType : ValueType → Value → World → Type 0
OfType t v w = IsOf t v

abbrev pub AtPlace : Description → Place → World → Type 0
AtPlace d p w = IsGood w d p

abbrev OwnPlace : Description → Place → World → Type 0
OwnPlace d p w = IsOwn w d p

abbrev VariablePlace : Description → Place → World → Type 0
VariablePlace d p w = IsVariable w d p

abbrev PassedPlace : ParameterType → Place → World → Type 0
PassedPlace t p w = IsPassed w t p

-- a value that a variable of a description holds
abbrev pub HeldBy : Description → Value → World → Type 0
HeldBy d v w = IsTrue (holds d v)

abbrev WholePlace : Place → World → Type 0
WholePlace p w = (d : Description) × IsOwn w d p

abbrev pub AreaPlace : Place → World → Type 0
AreaPlace p w = (d : Description) × IsVariable w d p × (is_area d ≡ true)

abbrev pub Gives : Option Description → Option Value → World → Type 0
Gives d v w = IsReturned d v

-- a place of what a type takes
abbrev pub TakenPlace : ParameterType → Place → World → Type 0
TakenPlace t p w = (e : Description) × Takes t e × IsGood w e p

-- a dummy for a string is no longer than a string may be, and has room for it
dummy_short : (n : ℕ) → n ≤ longest → dummy_length n ≤ longest
dummy_short n few = omega (arith, few)

dummy_long : (n : ℕ) → n ≤ dummy_length n
dummy_long n = omega arith

-- what is called means something, and so does a condition that is raised
pub record CallsMean (greatest : ℕ) (units : List TypedUnit) (unit : ℕ) (globals : List Global) (procedures : ℕ → Option KnownProcedure) (level : ℕ) (call : Calls) : Type 0 where
  pub procedure :
      (callee : Callee) (parameters : List ParameterType) (value : Option Description) (known : Known) (x : Shape) (ss : List Shape) (blocks : List BlockAround)
      → IsCallee globals procedures blocks callee parameters value
      → Stand unit known (x ∷ ss) (suc (length ss)) blocks → Holds greatest units known (x ∷ ss)
      → (places : List Place) (w : World) (left : ℕ) → IsSound units (x ∷ ss) w → AreGood w parameters places
      → Means units level left known (x ∷ ss) w (Gives value) (call.procedure callee places w left)
  pub condition :
      (c : Condition) (known : Known) (x : Shape) (ss : List Shape) → Holds greatest units known (x ∷ ss)
      → (w : World) (left : ℕ) → IsSound units (x ∷ ss) w → Means units level left known (x ∷ ss) w (Gives None) (call.condition c w left)

-- a part of a unit's text, which the newest activation runs
pub record IsInside (units : List TypedUnit) (unit : ℕ) (globals : List Global) (procedures : ℕ → Option KnownProcedure) (x : Shape) : Type 0 where
  pub own : IsUnit units unit globals
  pub top : x.unit ≡ unit
  pub knows : x.procedures ≡ procedures

-- values and places in their order
ordered_of : (done ts : List ValueType) (before vs : List Value) → AreOf done before → AreOf ts vs → AreOf (in_order done ts) (in_order before vs)
ordered_of [] ts [] vs h g = g
ordered_of [] ts (v ∷ before) vs h g = absurd h
ordered_of (t ∷ done) ts [] vs h g = absurd h
ordered_of (t ∷ done) ts (v ∷ before) vs h g = ordered_of done (t ∷ ts) before (v ∷ vs) h.1 (h.0, g)

ordered_good : (w : World) (done ds : List ParameterType) (before ps : List Place) → AreGood w done before → AreGood w ds ps
    → AreGood w (in_order done ds) (in_order before ps)
ordered_good w [] ds [] ps h g = g
ordered_good w [] ds (p ∷ before) ps h g = absurd h
ordered_good w (d ∷ done) ds [] ps h g = absurd h
ordered_good w (d ∷ done) ds (p ∷ before) ps h g = ordered_good w done (d ∷ ds) before (p ∷ ps) h.1 (h.0, g)

-- a place on the way to a part: so many bytes after where the whole stands
record IsOn (w : World) (whole : Description) (offset : ℕ) (d : Description) (p : Place) : Type 0 where
  was_made : p.generation < w.made
  described : p.description ≡ d
  base : ℕ
  at : p.offset ≡ base + offset
  near : IsNear base whole
  part : HasPart w p base whole

on_later : (v w : World) (whole : Description) (offset : ℕ) (d : Description) (p : Place) → IsLater v w → IsOn v whole offset d p → IsOn w whole offset d p
on_later v w whole offset d p later h = record {
  was_made = omega (arith, h.was_made, later.more);
  described = h.described;
  base = h.base;
  at = h.at;
  near = h.near;
  part = part_later v w p h.base whole later h.was_made h.part;
}

on_first : (w : World) (whole : Description) (offset : ℕ) (d : Description) (p : Place) → IsGood w whole p → IsOn w whole offset d (field_of offset d p)
on_first w whole offset d p h = record {
  was_made = h.was_made;
  described = refl;
  base = p.offset;
  at = refl;
  near = h.near;
  part = h.part;
}

on_next : (w : World) (whole : Description) (offset more : ℕ) (d : Description) (p : Place) → IsOn w whole offset d p
    → IsOn w whole (offset + more) d (field_of more p.description p)
on_next w whole offset more d p h = record {
  was_made = h.was_made;
  described = h.described;
  base = h.base;
  at = ap (λ n. n + more) h.at ∙ add_assoc h.base offset more;
  near = h.near;
  part = h.part;
}

on_last : (w : World) (whole : Description) (offset k : ℕ) (d : Description) (p : Place) → first_scalar whole offset d ≡ Some k
    → IsOn w whole offset d p → IsGood w d p
on_last w whole offset k d p f h = record {
  was_made = h.was_made;
  described = h.described;
  near = λ more c j i. let inner = parts_within whole offset d k f more c j i in
      let outer = h.near (offset + more) c inner.0 inner.1 in
      omega (arith, h.at, outer);
  part = subst (λ n. HasPart w p n d) (sym h.at) (λ outside g e. inner_part g.description (h.part.0 outside g e), λ inside. inner_part p.whole (h.part.1 inside));
}
  where
    inner_part : (all : Description) → IsPartAt all h.base whole → IsPartAt all (h.base + offset) d
    inner_part all part more c j i =
        let inner = parts_within whole offset d k f more c j i in
        let outer = part (offset + more) c inner.0 inner.1 in
        (outer.0, subst (λ n. first_scalar all n c ≡ Some outer.0) (sym (add_assoc h.base offset more)) outer.1)

-- a place on the way to an element, after so many elements: before the subscripts of these dimensions, as many elements as these have are left
record IsAmong (w : World) (bs : List Bounds) (e : Description) (rest : List Bounds) (before : ℕ) (p : Place) : Type 0 where
  on : IsOn w (Array bs e) (before * stride_of e) (left_by (Array bs e) e rest) p
  within : p.offset ≤ offset_limit
  few : before + count_of rest ≤ count_of bs

among_later : (v w : World) (bs : List Bounds) (e : Description) (rest : List Bounds) (before : ℕ) (p : Place) → IsLater v w → IsAmong v bs e rest before p → IsAmong w bs e rest before p
among_later v w bs e rest before p later h =
    record { on = on_later v w (Array bs e) (before * stride_of e) (left_by (Array bs e) e rest) p later h.on; within = h.within; few = h.few }

-- at first none is passed
among_first : (w : World) (bs : List Bounds) (e : Description) (p : Place) → 1 ≤ length bs → IsGood w (Array bs e) p → IsAmong w bs e bs 0 p
among_first w [] e p some h = absurd (omega (arith, some))
among_first w (b ∷ bs) e p some h = record {
  on = record { was_made = h.was_made; described = h.described; base = p.offset; at = omega arith; near = h.near; part = h.part };
  within = let there = h.near 0 (Array (b ∷ bs) e) 0 (whole_found (Array (b ∷ bs) e)) in omega (arith, there);
  few = omega arith;
}

-- a subscript within its bounds does not lead too far
among_near : (w : World) (bs : List Bounds) (e : Description) (rest : List Bounds) (before d : ℕ) (c : Description) (p : Place) → IsOn w (Array bs e) (before * stride_of e) c p
    → p.offset ≤ offset_limit → before + d * count_of rest + count_of rest ≤ count_of bs → p.offset + d * (count_of rest * stride_of e) ≤ offset_limit
among_near w bs e rest before d c p on within few = by (eq-zero-or-pos (count_of rest))
  where
    by : (count_of rest ≡ 0) ⊎ (0 < count_of rest) → p.offset + d * (count_of rest * stride_of e) ≤ offset_limit
    by (inl none) = let passed = none_left d (count_of rest) (stride_of e) none in omega (arith, passed, within)
    by (inr some) =
        let there = element_reached bs e (before + d * count_of rest) (omega (arith, some, few)) in
        let near = on.near ((before + d * count_of rest) * stride_of e) e there.0 there.1 in
        let sum = further before d (count_of rest) (stride_of e) in
        let at = on.at in
        omega (arith, near, sum, at)

among_next : (w : World) (bs : List Bounds) (e : Description) (b : Bounds) (rest : List Bounds) (before d : ℕ) (p : Place) → IsAmong w bs e (b ∷ rest) before p
    → before + d * count_of rest + count_of rest ≤ count_of bs → p.offset + d * (count_of rest * stride_of e) ≤ offset_limit
    → IsAmong w bs e rest (before + d * count_of rest) (field_of (d * (count_of rest * stride_of e)) (left_by (Array bs e) e rest) p)
among_next w bs e b rest before d p h few near = record {
  on = record {
    was_made = h.on.was_made;
    described = refl;
    base = h.on.base;
    at = ap (λ n. n + d * (count_of rest * stride_of e)) h.on.at ∙ add_assoc h.on.base (before * stride_of e) (d * (count_of rest * stride_of e))
        ∙ ap (λ n. h.on.base + n) (sym (further before d (count_of rest) (stride_of e)));
    near = h.on.near;
    part = h.on.part;
  };
  within = near;
  few = few;
}

-- after the last subscript it is the element's
among_last : (w : World) (bs : List Bounds) (e : Description) (before : ℕ) (p : Place) → IsAmong w bs e [] before p → IsGood w e p
among_last w bs e before p h =
    let few = h.few in
    let there = element_reached bs e before (omega (arith, few)) in
    on_last w (Array bs e) (before * stride_of e) there.0 e p there.1 h.on

-- where the subscripts that are still to come are the lowest, there is a part, also before them
abbrev IsReached : (whole : Description) → (offset : ℕ) → Description → Type 0
IsReached whole offset d = (k : ℕ) × (first_scalar whole offset d ≡ Some k)

lowest : (x : ℤ) → int_le x x ≡ true
lowest x = grind (arith, ints)

none_passed : (x : ℤ) (offset m : ℕ) → offset + unsigned_abs (x -ℤ x) * m ≡ offset
none_passed x offset m = let none : unsigned_abs (x -ℤ x) ≡ 0 = omega (arith, ints) in ap (λ n. offset + n * m) none ∙ omega arith

reached : (subscripts : Subscripts) (whole : Description) (offset : ℕ) (d : Description) → LeadTo whole offset subscripts d → IsReached whole offset d
reached NoSubscript whole offset d lead = lead
reached (SubscriptThen stride e more) whole offset d lead =
    reached more whole offset d
    (subst (λ n. LeadTo whole n more d) (none_passed stride.low offset stride.multiplier) (lead.1 stride.low (lowest stride.low) lead.0))

module _ (units : List TypedUnit) (greatest level : ℕ) (call : Calls) (unit : ℕ) (s : TypingContext) (known : Known) (x : Shape) (ss : List Shape)
    (inside : IsInside units unit s.globals s.procedures x) (stand : Stand unit known (x ∷ ss) (suc (length ss)) s.blocks) (outlasts : Holds greatest units known (x ∷ ss))
    (calls : CallsMean greatest units unit s.globals s.procedures level call) where
  abbrev Sound : World → Type 0
  Sound w = IsSound units (x ∷ ss) w

  abbrev Here : {A : Type 0} → (left : ℕ) → World → (A → World → Type 0) → Effect A → Type 0
  Here left u Is o = Means units level left known (x ∷ ss) u Is o

  then_here : {A B : Type 0} (P : A → World → Type 0) (Q : B → World → Type 0) (left : ℕ) (u : World) (o : Effect A) (go : A → Doing B)
      → Here left u P o → ((x : A) (w : World) (l : ℕ) → P x w → Sound w → IsLater u w → Here l w Q (go x w l)) → Here left u Q (and_then o go)
  then_here P Q left u o go h f =
      then_means units P Q level left known (x ∷ ss) u o go h (λ y w l le is sound later. f y w l is sound later)

  -- an operation that may raise a condition, and what is done after it
  after_means : {A : Type 0} (P : A → World → Type 0) (n left : ℕ) (after : Doing A) (v : Option Value) (w : World) → IsReturned None v
      → Means units n left known (x ∷ ss) w P (after w left) → Means units n left known (x ∷ ss) w P (without_value after v w left)
  after_means P n left after None w is h = h
  after_means P n left after (Some v) w is h = absurd is

  pub handled_means : {A : Type 0} (P : A → World → Type 0) (n left : ℕ) → n ≤ level → (after : Doing A) (w : World) (o : Answer A) → Sound w
      → Answers units (λ y v. P y v × Sound v × IsLater w v) o → RaisesIn w o
      → ((v : World) (l : ℕ) → Sound v → Means units n l known (x ∷ ss) v P (after v l))
      → Means units n left known (x ∷ ss) w P (handled call.condition after o left)
  handled_means P n left le after w (Yields y v) sound is same f = (omega arith, is.0, is.1, is.2)
  handled_means P n left le after w (Raises e v) sound is same f =
      subst (λ v. Means units n left known (x ∷ ss) w P (erring call.condition after e (condition_of e) v left)) (sym same) (by (condition_of e))
    where
      by : (o : Option Condition) → Means units n left known (x ∷ ss) w P (erring call.condition after e o w left)
      by None = error_named units x ss w e sound
      by (Some c) =
          then_means units (Gives None) P n left known (x ∷ ss) w (call.condition c w left) (without_value after)
          (lower_means units (Gives None) level n left known (x ∷ ss) w (call.condition c w left) le (calls.condition c known x ss outlasts w left sound))
          (λ v u l le is sound later. after_means P n l after v u is (f u l sound))
  handled_means P n left le after w Wrong sound is same f = absurd is

  -- or what it comes to there
  pub resolved_means : {A : Type 0} (P : A → World → Type 0) (result : A) (left : ℕ) (w : World) (o : Answer A) → Sound w → ((v : World) → P result v)
      → Answers units (λ y v. P y v × Sound v × IsLater w v) o → RaisesIn w o → Here left w P (resolved call.condition result o left)
  resolved_means P result left w o sound is answers same =
      handled_means P level left (omega arith) (λ w left. Results result w left) w o sound answers same (λ v l sound. (omega arith, is v, sound, later_same v))

  -- where a reference begins: at the place of a whole, but where it is a parameter; and at that of a whole generation where it is an area
  abbrev AtRoot : Root → ParameterType → Place → World → Type 0
  AtRoot r t p w = (e : Description) × Takes t e × IsGood w e p × (BeginsWhole s r → IsWhole w p) × (IsUnlocated r → is_area e ≡ true → IsVariable w e p)

  -- where a reference leads
  abbrev AtReference : TypedReference → ParameterType → Place → World → Type 0
  AtReference r t p w = (e : Description) × Takes t e × IsGood w e p × (IsAreaReference greatest s r → is_area e ≡ true → IsVariable w e p)

  slot_means : (outward slot : ℕ) (t : ParameterType) (w : World) (left : ℕ) → Sound w → (o : Option BlockAround) → slice_get s.blocks outward ≡ o → slot_of o slot ≡ Some t
      → Here left w (AtRoot (InSlot outward slot) t) (answered (slot_place outward slot w) left)
  slot_means outward slot t w left sound None f e = absurd (none_some e)
  slot_means outward slot t w left sound (Some b) f e =
      let p = slot_there unit units known (x ∷ ss) s.blocks w outward slot b t sound stand f e in
      let passed = p.2 in
      subst (λ a. Here left w (AtRoot (InSlot outward slot) t) (answered a left)) (sym p.1)
      (omega arith, (passed.0, passed.1, passed.2, λ le. p.3 (subst (λ o. parameters_in o ≤ slot) f le), λ free is. passed.3 is), sound, later_same w)

  variable_means : (r : Root) (d : Description) (left : ℕ) (w : World) (o : Effect Place) → Here left w (VariablePlace d) o → Here left w (AtRoot r (Stated d)) o
  variable_means r d left w o h =
      means_as units (VariablePlace d) (AtRoot r (Stated d)) level left known (x ∷ ss) w o (λ p v own. (d, refl, own.0.0, λ is. own.0.1, λ free is. own)) h

  located_means : (locator : TypedExpression) (whole : Description) (left : ℕ) (w : World) (o : Effect Place) → Here left w (OwnPlace whole) o
      → Here left w (AtRoot (Located locator whole) (Stated whole)) o
  located_means locator whole left w o h =
      means_as units (OwnPlace whole) (AtRoot (Located locator whole) (Stated whole)) level left known (x ∷ ss) w o (λ p v own. (whole, refl, own.0, λ is. own.1, λ free. absurd free)) h

  -- of what is stated the description is known
  good_stated : (d e : Description) (p : Place) (w : World) → Takes (Stated d) e → IsGood w e p → IsGood w d p
  good_stated d e p w taken good = subst (λ e. IsGood w e p) taken good

  -- what an operation comes to
  calculation_means : (t : ValueType) (c : Calculation) (w : World) (left : ℕ) → Sound w → IsCalculated t c
      → Here left w (OfType t) (resolved call.condition (Number (pos 0)) (calculation c w) left)
  calculation_means t (Calculates v) w left sound h = (omega arith, h, sound, later_same w)
  calculation_means t (RaisesCondition raised.Overflow) w left sound h =
      resolved_means (OfType t) (Number (pos 0)) left w (Raises FixedOverflow w) sound (λ v. h) (error_named units x ss w FixedOverflow sound) refl
  calculation_means t (RaisesCondition raised.ZeroDivide) w left sound h =
      resolved_means (OfType t) (Number (pos 0)) left w (Raises ZeroDivide w) sound (λ v. h) (error_named units x ss w ZeroDivide sound) refl
  calculation_means t OutOfString w left sound h = error_named units x ss w StringRange sound
  calculation_means t Misfits w left sound h = absurd h

  pub calculated_means : (operation : TypedOperation) (ts : List ValueType) (t : ValueType) (vs : List Value)
      → Operates greatest operation ts t → AreOf ts vs → (w : World) (left : ℕ) → Sound w
      → Here left w (OfType t) (resolved call.condition (Number (pos 0)) (calculation (comes_to greatest operation vs) w) left)
  calculated_means operation ts t vs fits are w left sound =
      calculation_means t (comes_to greatest operation vs) w left sound (operated_fits greatest operation ts t vs fits are)

  -- a subscript
  abbrev OnWay : Description → ℕ → Description → Place → World → Type 0
  OnWay whole offset d p w = IsOn w whole offset d p

  -- the subscript's distance, of which one knows where it leads
  element_found : (stride : Stride) (p : ℕ) (whole : Description) (offset : ℕ) (d : Description) (q : Place) (v : Value) (w : World) (left : ℕ)
      → Sound w → IsOn w whole offset d q → IsOf (Numbers p) v → (go : Place → Doing Place)
      → ((y : ℤ) → IsTrue (int_le stride.low y) → IsTrue (int_le y stride.high) → IsReached whole (offset + unsigned_abs (y -ℤ stride.low) * stride.multiplier) d)
      → ((y : ℤ) (q : Place) (w : World) (l : ℕ) → IsTrue (int_le stride.low y) → IsTrue (int_le y stride.high) → Sound w
      → IsOn w whole (offset + unsigned_abs (y -ℤ stride.low) * stride.multiplier) d q → Here l w (AtPlace d) (go q w l))
      → Here left w (AtPlace d) (and_then (element_of stride.low stride.high stride.multiplier q v w left) go)
  element_found stride p whole offset d q v w left sound on is go reach f =
      subst (λ v. Here left w (AtPlace d) (and_then (element_of stride.low stride.high stride.multiplier q v w left) go)) (sym is.1)
      (by (int_le stride.low is.0) (int_le is.0 stride.high) refl refl)
    where
      m : ℕ
      m = unsigned_abs (is.0 -ℤ stride.low) * stride.multiplier

      by : (b c : Bool) → int_le stride.low is.0 ≡ b → int_le is.0 stride.high ≡ c
          → Here left w (AtPlace d) (and_then (answered (if b && c then led_on (unsigned_abs (is.0 -ℤ stride.low) * stride.multiplier) q.description q w else Raises SubscriptRange w) left) go)
      by true true e g =
          let part = reach is.0 e g in
          let there = on.near (offset + m) d part.0 part.1 in
          let near : q.offset + m ≤ offset_limit = omega (arith, on.at, there) in
          subst (λ a. Here left w (AtPlace d) (and_then (answered a left) go)) (sym (led_near m q.description q w near))
          (f is.0 (field_of m q.description q) w left e g sound (on_next w whole offset m d q on))
      by true false e g = error_named units x ss w SubscriptRange sound
      by false c e g = error_named units x ss w SubscriptRange sound

  -- what is held, and what a function gives, is of its type
  held_of : (d : Description) (t : ValueType) (p : Place) (w : World) → type_held d ≡ Some t → (o : Answer Value)
      → Answers units (λ v u. IsTrue (holds d v) × Sound u × IsLater w u) o → Answers units (λ v u. IsOf t v × Sound u × IsLater w u) o
  held_of d t p w e (Yields v u) h = (held_is_of d t v e h.0, h.1, h.2)
  held_of d t p w e (Raises r u) h = h
  held_of d t p w e Wrong h = h

  pub held_means : (d : Description) (t : ValueType) (p : Place) → type_held d ≡ Some t → (w : World) (left : ℕ) → Sound w
      → IsGood w d p → Here left w (OfType t) (answered (held p w) left)
  held_means d t p e w left sound good =
      let one = one_scalar d t e in
      answer_means units (OfType t) level left known (x ∷ ss) w (held p w)
      (held_of d t p w e (held p w) (held_answers units x ss d p w sound good one.0 one.1))

  -- so is what a variable holds that a type takes
  kept_means : (type : ParameterType) (t : ValueType) (e : Description) (p : Place) → type_kept type ≡ Some t → Takes type e → (w : World) (left : ℕ) → Sound w
      → IsGood w e p → Here left w (OfType t) (answered (held p w) left)
  kept_means type t e p kept taken w left sound good =
      let h = held_taken type t e kept taken in
      means_as units (OfType h.held) (OfType t) level left known (x ∷ ss) w (answered (held p w) left) (λ v u is. h.wider v is) (held_means e h.held p h.is w left sound good)

  -- a bound of an array that a type takes
  bounds_mean : (which : WhichBound) (k j : ℕ) (element : ParameterType) (e : Description) (p : Place) (w : World) (left : ℕ) → Sound w → 1 ≤ k → k ≤ j
      → Takes (AnyArray j element) e → IsGood w e p → Here left w (OfType (Numbers bound_precision)) (answered (bound_of_place which k p w) left)
  unfolding bound_of_place
  bounds_mean which zero j element e p w left sound some few taken good = absurd (omega (arith, some))
  bounds_mean which (suc i) j element e p w left sound some few taken good =
      let a = any_taken j element e taken in
      let b = near_at a.bounds i (omega (arith, few, a.count)) a.near in
      let there : dimension_at p.description (suc i) ≡ Some (dimension_before (Array a.bounds a.of) a.of (drop (suc i) a.bounds) b.bounds) =
      ap (λ d. dimension_at d (suc i)) (good.described ∙ a.is) ∙ ap (option_map (dimension_before (Array a.bounds a.of) a.of (drop (suc i) a.bounds))) b.there in
      subst (λ o. Here left w (OfType (Numbers bound_precision)) (answered (bound_at which o w) left)) (sym there)
      (omega arith, (bound_of which b.bounds, refl, bound_small which b.bounds b.low b.high), sound, later_same w)

  -- a string as a variable of any length takes it
  pub fitted_means : (form : StringForm) (a b : ℕ) (e : Description) (p : Place) (v : Value) (w : World) (left : ℕ) → Sound w → Takes (AnyString form) e → p.description ≡ e
      → IsOf (Strings (kind_of_form form) a b) v → Here left w (HeldBy e) (fitted_at greatest call p v w left)
  unfolding string_as
  fitted_means form a b e p v w left sound taken described is =
      subst (λ d. Here left w (HeldBy e) (resolved call.condition (Number (pos 0)) (calculation (string_fitted_to d v) w) left)) (sym described) (by form e taken.0 is)
    where
      -- an operation on a string that fits it
      fits : (d : Description) (u t : ValueType) → IsFitted d u → type_held d ≡ Some t → IsHeldBy d t → IsOf u v
          → Here left w (HeldBy d) (resolved call.condition (Number (pos 0)) (calculation (fitted_to d v) w) left)
      fits d u t fit held suits is =
          means_as units (OfType t) (HeldBy d) level left known (x ∷ ss) w (resolved call.condition (Number (pos 0)) (calculation (fitted_to d v) w) left) (λ y z is. narrow_held d t y suits is)
          (calculated_means (Fit d) (u ∷ []) t (v ∷ []) (u, refl, fit, held) (is, tt) w left sound)

      by : (form : StringForm) (e : Description) → is_string_of form e ≡ true → IsOf (Strings (kind_of_form form) a b) v
          → Here left w (HeldBy e) (resolved call.condition (Number (pos 0)) (calculation (string_fitted_to e v) w) left)
      by forms.Character (Character n) h is =
          fits (Character n) (Strings OfCharacters a b) (Strings OfCharacters n n) tt refl (Strings OfCharacters n n, refl, (omega arith, omega arith)) is
      by forms.Varying (Varying n) h is =
          fits (Varying n) (Strings OfCharacters a b) (Strings OfCharacters 0 n) tt refl (Strings OfCharacters 0 n, refl, (omega arith, omega arith)) is
      by forms.Bit (Bit n) h is =
          fits (Bit n) (Strings OfBits a b) (Strings OfBits n n) tt refl (Strings OfBits n n, refl, (omega arith, omega arith)) is
      by form e h is = absurd (true≢false (sym h))

  -- a dummy argument for a string, which is as long as that
  made_means : (form : StringForm) (n : ℕ) (d : Description) (v : Value) (w : World) (left : ℕ) → Sound w → n ≤ longest → IsTrue (holds d v) → is_scalar d ≡ true
      → scalars_of d ≡ d ∷ [] → Takes (AnyString form) d → Here left w (PassedPlace (AnyString form)) (answered (made_dummy (unless_long n (dummy_with d v)) w) left)
  made_means form n d v w left sound few h scalar one taken =
      subst (λ b. Here left w (PassedPlace (AnyString form)) (answered (made_dummy (if b then Some (dummy_with d v) else None) w) left)) (sym (le-leb n greatest_length few))
      (means_as units (PassedPlace (Stated d)) (PassedPlace (AnyString form)) level left known (x ∷ ss) w (answered (dummy_of d v w) left)
      (λ p u passed. (passed.0, subst (λ e. Takes (AnyString form) e) (sym passed.1) taken, passed.2, passed.3))
      (answer_means units (PassedPlace (Stated d)) level left known (x ∷ ss) w (dummy_of d v w) (dummy_answers units x ss d v w sound h scalar one)))

  string_dummy_means : (form : StringForm) (a b : ℕ) (v : Value) (w : World) (left : ℕ) → Sound w → b ≤ longest → IsOf (Strings (kind_of_form form) a b) v
      → Here left w (PassedPlace (AnyString form)) (answered (string_dummy_of form v w) left)
  unfolding string_dummy_of
  string_dummy_means forms.Character a b v w left sound few is =
      let n = length is.0 in
      let m = dummy_length n in
      subst (λ v. Here left w (PassedPlace (AnyString forms.Character)) (answered (made_dummy (string_dummy forms.Character v) w) left)) (sym is.1)
      (made_means forms.Character n (Character m) (Characters (fitted 32 m is.0)) w left sound (omega (arith, is.3, few)) (eq-eqb (length (fitted 32 m is.0)) m (fitted_length 32 m is.0))
      refl refl (refl, dummy_short n (omega (arith, is.3, few))))
  string_dummy_means forms.Varying a b v w left sound few is =
      let n = length is.0 in
      let m = dummy_length n in
      subst (λ v. Here left w (PassedPlace (AnyString forms.Varying)) (answered (made_dummy (string_dummy forms.Varying v) w) left)) (sym is.1)
      (made_means forms.Varying n (Varying m) (Characters is.0) w left sound (omega (arith, is.3, few)) (le-leb n m (dummy_long n))
      refl refl (refl, dummy_short n (omega (arith, is.3, few))))
  string_dummy_means forms.Bit a b v w left sound few is =
      let n = length is.0 in
      let m = dummy_length n in
      subst (λ v. Here left w (PassedPlace (AnyString forms.Bit)) (answered (made_dummy (string_dummy forms.Bit v) w) left)) (sym is.1)
      (made_means forms.Bit n (Bit m) (Bits (fitted false m is.0)) w left sound (omega (arith, is.3, few)) (eq-eqb (length (fitted false m is.0)) m (fitted_length false m is.0))
      refl refl (refl, dummy_short n (omega (arith, is.3, few))))

  -- a subscript of a dimension, of which one knows where it leads
  dimension_found : (p : ℕ) (bs : List Bounds) (e : Description) (b : Bounds) (rest : List Bounds) (i before : ℕ) (q : Place) (v : Value) (w : World) (left : ℕ)
      → Sound w → IsAmong w bs e (b ∷ rest) before q → IsOf (Numbers p) v → slice_get bs i ≡ Some b → drop (suc i) bs ≡ rest → (go : Place → Doing Place)
      → ((n : ℕ) (q : Place) (w : World) (l : ℕ) → Sound w → IsAmong w bs e rest n q → Here l w (AtPlace e) (go q w l))
      → Here left w (AtPlace e) (and_then (dimension_of (suc i) q v w left) go)
  unfolding subscripted_by
  dimension_found p bs e b rest i before q v w left sound among is get others go f =
      subst (λ v. Here left w (AtPlace e) (and_then (dimension_of (suc i) q v w left) go)) (sym is.1)
      (subst (λ o. Here left w (AtPlace e) (and_then (answered (subscripted_in o is.0 q w) left) go)) (sym there)
      (by (int_le b.low is.0) (int_le is.0 b.high) refl refl))
    where
      there : dimension_at q.description (suc i) ≡ Some (dimension_before (Array bs e) e rest b)
      there =
          ap (λ d. dimension_at d (suc i)) among.on.described ∙ ap (option_map (dimension_before (Array bs e) e (drop (suc i) bs))) get
          ∙ ap (λ later. Some (dimension_before (Array bs e) e later b)) others

      d : ℕ
      d = unsigned_abs (is.0 -ℤ b.low)

      m : ℕ
      m = d * (count_of rest * stride_of e)

      by : (c h : Bool) → int_le b.low is.0 ≡ c → int_le is.0 b.high ≡ h
          → Here left w (AtPlace e)
          (and_then (answered (if c && h then led_on (unsigned_abs (is.0 -ℤ b.low) * (count_of rest * stride_of e)) (left_by (Array bs e) e rest) q w else Raises SubscriptRange w) left) go)
      by true true low high =
          let few = within_total before d (extent_of b) (count_of rest) (count_of bs) (within_distance b is.0 low high) among.few in
          let near = among_near w bs e rest before d (Array bs e) q among.on among.within few in
          subst (λ a. Here left w (AtPlace e) (and_then (answered a left) go)) (sym (led_near m (left_by (Array bs e) e rest) q w near))
          (f (before + d * count_of rest) (field_of m (left_by (Array bs e) e rest) q) w left sound (among_next w bs e b rest before d q among few near))
      by true false low high = error_named units x ss w SubscriptRange sound
      by false h low high = error_named units x ss w SubscriptRange sound

  returned_means : (t : ValueType) (d : Description) (o : Option Description) (v : Option Value) (w : World) (left : ℕ) → o ≡ Some d
      → type_held d ≡ Some t → Sound w → IsReturned o v → Here left w (OfType t) (a_value v w left)
  returned_means t d None v w left e f sound is = absurd (none_some e)
  returned_means t d (Some c) None w left e f sound is = absurd is
  returned_means t d (Some c) (Some v) w left e f sound is =
      (omega arith, held_is_of d t v f (subst (λ c. IsTrue (holds c v)) (some_same e) is), sound, later_same w)

  mutual
    -- the place where a reference begins
    root_means : (r : Root) (t : ParameterType) → IsRooted greatest s r t → (w : World) (left : ℕ) → Sound w
        → Here left w (AtRoot r t) (root_place greatest call r w left)
    root_means (InSlot outward slot) t rooted w left sound = slot_means outward slot t w left sound (slice_get s.blocks outward) refl rooted
    root_means (OfProgram number) t rooted w left sound =
        let d = rooted.0 in
        subst (λ t. Here left w (AtRoot (OfProgram number) t) (answered (static_place number w) left)) (sym rooted.1)
        (variable_means (OfProgram number) d left w (answered (static_place number w) left)
        (answer_means units (VariablePlace d) level left known (x ∷ ss) w (static_place number w) (static_answers units unit s.globals x ss w number Static d inside.own inside.top sound rooted.2)))
    root_means (NewestOf number) t rooted w left sound =
        let d = rooted.0 in
        subst (λ t. Here left w (AtRoot (NewestOf number) t) (answered (static_place number w) left)) (sym rooted.1)
        (variable_means (NewestOf number) d left w (answered (static_place number w) left)
        (answer_means units (VariablePlace d) level left known (x ∷ ss) w (static_place number w) (static_answers units unit s.globals x ss w number Controlled d inside.own inside.top sound rooted.2)))
    root_means (Located locator whole) t rooted w left sound =
        subst (λ t. Here left w (AtRoot (Located locator whole) t) (root_place greatest call (Located locator whole) w left)) (sym rooted.0)
        (then_here (OfType Pointers) (AtRoot (Located locator whole) (Stated whole)) left w (value_of greatest call locator w left) _ (value_means locator Pointers rooted.1 w left sound)
        (λ v u l is sound later. located_means locator whole l u (answered (place_by whole v u) l)
        (answer_means units (OwnPlace whole) level l known (x ∷ ss) u (place_by whole v u) (place_answers units x ss whole v u is sound))))

    -- that of a whole variable to which a pointer leads
    address_means : (r : TypedReference) → IsAddressed greatest s r → (w : World) (left : ℕ) → Sound w
        → Here left w WholePlace (place_of greatest call r w left)
    address_means (Whole root) addressed w left sound =
        means_as units (AtRoot root (Stated addressed.1.0)) WholePlace level left known (x ∷ ss) w (root_place greatest call root w left)
        (λ p v h. (h.0, (h.2, h.3 addressed.0))) (root_means root (Stated addressed.1.0) addressed.1.1 w left sound)
    address_means (Part root offset part subscripts) addressed w left sound = absurd addressed
    address_means (ElementOf root subscripts) addressed w left sound = absurd addressed

    -- that of a whole area
    pub area_means : (r : TypedReference) → IsAreaReference greatest s r → (w : World) (left : ℕ) → Sound w
        → Here left w AreaPlace (place_of greatest call r w left)
    area_means (Whole root) area w left sound =
        means_as units (AtRoot root (Stated area.1.0)) AreaPlace level left known (x ∷ ss) w (root_place greatest call root w left)
        (λ p v h. let is : is_area h.0 ≡ true = ap is_area h.1 ∙ area.1.2 in (h.0, h.4 area.0 is, is)) (root_means root (Stated area.1.0) area.1.1 w left sound)
    area_means (Part root offset part subscripts) area w left sound = absurd area
    area_means (ElementOf root subscripts) area w left sound = absurd area

    pub value_means : (e : TypedExpression) (t : ValueType) → IsTyped greatest s e t → (w : World) (left : ℕ) → Sound w
        → Here left w (OfType t) (value_of greatest call e w left)
    value_means (Literal v) t typed w left sound = (omega arith, typed, sound, later_same w)
    value_means (Held r) t typed w left sound =
        let type = typed.0 in
        then_here (AtReference r type) (OfType t) left w (place_of greatest call r w left) _ (place_means r type typed.1 w left sound)
        (λ p w l at sound later. kept_means type t at.0 p typed.2 at.1 w l sound at.2)
    value_means (Calculated operation operands) t typed w left sound =
        operated_means operands typed.0 operation [] [] t typed.1 tt typed.2 w left sound
    value_means (Called callee arguments) t typed w left sound =
        then_here (Gives (Some typed.1)) (OfType t) left w (called_with greatest call callee arguments [] w left) _
        (called_means arguments typed.0 callee typed.0 (Some typed.1) [] [] typed.3 refl typed.2 w left sound tt)
        (λ v w l is sound later. returned_means t typed.1 (Some typed.1) v w l refl typed.4 sound is)
    value_means (Generations number) t typed w left sound =
        subst (λ t. Here left w (OfType t) (resolved call.condition (Number (pos 0)) (generations_counted number w) left)) (sym typed.1)
        (resolved_means (OfType (Numbers count_precision)) (Number (pos 0)) left w (generations_counted number w) sound (λ v. (pos 0, refl, omega arith))
        (counted_answers units x ss unit s.globals number inside.own inside.top typed.0 w sound)
        (counted_raises units x ss unit s.globals number inside.own inside.top typed.0 w sound))
    value_means (Address r) t typed w left sound =
        subst (λ t. Here left w (OfType t) (value_of greatest call (Address r) w left)) (sym typed.1)
        (then_here WholePlace (OfType Pointers) left w (place_of greatest call r w left) _ (address_means r typed.0 w left sound)
        (λ p u l own sound later. answer_means units (OfType Pointers) level l known (x ∷ ss) u (address_of p u) (address_answers units x ss own.0 p u own.1 sound)))
    value_means (AsPointer area e) t typed w left sound =
        subst (λ t. Here left w (OfType t) (value_of greatest call (AsPointer area e) w left)) (sym typed.2)
        (then_here (OfType Offsets) (OfType Pointers) left w (value_of greatest call e w left) _ (value_means e Offsets typed.0 w left sound)
        (λ v u l is sound later. then_here AreaPlace (OfType Pointers) l u (place_of greatest call area u l) _ (area_means area typed.1 u l sound)
        (λ p z l own sound later. answer_means units (OfType Pointers) level l known (x ∷ ss) z (pointer_within p v z) (within_answers units x ss own.0 p v z is sound own.1 own.2))))
    value_means (AsOffset area e) t typed w left sound =
        subst (λ t. Here left w (OfType t) (value_of greatest call (AsOffset area e) w left)) (sym typed.2)
        (then_here (OfType Pointers) (OfType Offsets) left w (value_of greatest call e w left) _ (value_means e Pointers typed.0 w left sound)
        (λ v u l is sound later. then_here AreaPlace (OfType Offsets) l u (place_of greatest call area u l) _ (area_means area typed.1 u l sound)
        (λ p z l own sound later. answer_means units (OfType Offsets) level l known (x ∷ ss) z (offset_made p v z) (offset_answers units x ss own.0 p v z is sound own.1 own.2))))
    value_means (Bounded which k r) t typed w left sound =
        let type = AnyArray typed.0.0 typed.0.1 in
        subst (λ t. Here left w (OfType t) (value_of greatest call (Bounded which k r) w left)) (sym typed.1)
        (then_here (AtReference r type) (OfType (Numbers bound_precision)) left w (place_of greatest call r w left) _ (place_means r type typed.0.2 w left sound)
        (λ p u l at sound later. bounds_mean which k typed.0.0 typed.0.1 at.0 p u l sound typed.0.3 typed.0.4 at.1 at.2))

    operated_means : (operands : Operands) (ts : List ValueType) (operation : TypedOperation) (before : List Value) (done : List ValueType) (t : ValueType)
        → AreTyped greatest s operands ts → AreOf done before → Operates greatest operation (in_order done ts) t
        → (w : World) (left : ℕ) → Sound w → Here left w (OfType t) (operated greatest call operation operands before w left)
    operated_means NoOperand ts operation before done t typed are fits w left sound =
        calculated_means operation (in_order done []) t (in_order before [])
        (subst (λ ts. Operates greatest operation (in_order done ts) t) typed fits) (ordered_of done [] before [] are tt) w left sound
    operated_means (OperandThen e more) ts operation before done t typed are fits w left sound =
        then_here (OfType typed.0) (OfType t) left w (value_of greatest call e w left) _ (value_means e typed.0 typed.3 w left sound)
        (λ v w l is sound later. operated_means more typed.1 operation (v ∷ before) (typed.0 ∷ done) t typed.4 (is, are)
        (subst (λ ts. Operates greatest operation (in_order done ts) t) typed.2 fits) w l sound)

    place_means : (r : TypedReference) (t : ParameterType) → IsPlaced greatest s r t → (w : World) (left : ℕ) → Sound w
        → Here left w (AtReference r t) (place_of greatest call r w left)
    place_means (Whole root) t placed w left sound =
        means_as units (AtRoot root t) (AtReference (Whole root) t) level left known (x ∷ ss) w (root_place greatest call root w left)
        (λ p v h. (h.0, h.1, h.2, λ area is. h.4 area.0 is)) (root_means root t placed w left sound)
    place_means (Part root offset part subscripts) t placed w left sound =
        let whole = placed.1.0 in
        let r = Part root offset part subscripts in
        subst (λ t. Here left w (AtReference r t) (place_of greatest call r w left)) (sym placed.0)
        (means_as units (AtPlace part) (AtReference r (Stated part)) level left known (x ∷ ss) w (place_of greatest call r w left)
        (λ p v good. (part, refl, good, λ area. absurd area))
        (then_here (AtRoot root (Stated whole)) (AtPlace part) left w (root_place greatest call root w left) _ (root_means root (Stated whole) placed.1.1 w left sound)
        (λ p w l at sound later.
        let good = good_stated whole at.0 p w at.1 at.2 in
        let first = reached subscripts whole offset part placed.1.2 in
        subst (λ a. Here l w (AtPlace part) (and_then (answered a l) (λ q w left. element_at greatest call subscripts q w left)))
        (sym (led_near offset part p w (good.near offset part first.0 first.1)))
        (subscripts_mean subscripts whole offset part (field_of offset part p) placed.1.2 placed.2 w l sound (on_first w whole offset part p good)))))
    place_means (ElementOf root subscripts) t placed w left sound =
        let array = placed.0.0 in
        let r = ElementOf root subscripts in
        then_here (AtRoot root array) (AtReference r t) left w (root_place greatest call root w left) _ (root_means root array placed.0.1 w left sound)
        (λ p w l at sound later.
        let a = element_taken (operand_count subscripts) array t at.0 placed.0.2 at.1 in
        let good : IsGood w (Array a.bounds a.of) p = subst (λ e. IsGood w e p) a.is at.2 in
        let some : 1 ≤ length a.bounds = omega (arith, a.count, placed.1) in
        means_as units (AtPlace a.of) (AtReference r t) level l known (x ∷ ss) w (element_by greatest call 1 subscripts p w l)
        (λ q v good. (a.of, a.takes, good, λ area. absurd area))
        (dimensions_mean subscripts a.bounds a.of a.bounds 0 0 p refl (sym a.count) placed.2 w l sound (among_first w a.bounds a.of p some good)))

    -- the subscripts of the dimensions from one on
    dimensions_mean : (subscripts : Operands) (bs : List Bounds) (e : Description) (rest : List Bounds) (i before : ℕ) (p : Place) → drop i bs ≡ rest
        → operand_count subscripts ≡ length rest → AreNumbers greatest s subscripts → (w : World) (left : ℕ) → Sound w → IsAmong w bs e rest before p
        → Here left w (AtPlace e) (element_by greatest call (suc i) subscripts p w left)
    dimensions_mean NoOperand bs e [] i before p at count are w left sound among = (omega arith, among_last w bs e before p among, sound, later_same w)
    dimensions_mean NoOperand bs e (b ∷ rest) i before p at count are w left sound among = absurd (omega (arith, count))
    dimensions_mean (OperandThen y more) bs e [] i before p at count are w left sound among = absurd (omega (arith, count))
    dimensions_mean (OperandThen y more) bs e (b ∷ rest) i before p at count are w left sound among =
        let front = front_of_drop bs i b rest at in
        then_here (OfType (Numbers are.0.0)) (AtPlace e) left w (value_of greatest call y w left) _ (value_means y (Numbers are.0.0) are.0.1 w left sound)
        (λ v u l is sound later. dimension_found are.0.0 bs e b rest i before p v u l sound (among_later w u bs e (b ∷ rest) before p later among) is front.0 front.1
        (λ q w left. element_by greatest call (suc (suc i)) more q w left)
        (λ n q w l sound among. dimensions_mean more bs e rest (suc i) n q front.1 (omega (arith, count)) are.1 w l sound among))

    subscripts_mean : (subscripts : Subscripts) (whole : Description) (offset : ℕ) (d : Description) (p : Place) → LeadTo whole offset subscripts d
        → AreSubscripts greatest s subscripts → (w : World) (left : ℕ) → Sound w → IsOn w whole offset d p
        → Here left w (AtPlace d) (element_at greatest call subscripts p w left)
    subscripts_mean NoSubscript whole offset d p lead are w left sound on =
        (omega arith, on_last w whole offset lead.0 d p lead.1 on, sound, later_same w)
    subscripts_mean (SubscriptThen stride e more) whole offset d p lead are w left sound on =
        then_here (OfType (Numbers are.0.0)) (AtPlace d) left w (value_of greatest call e w left) _ (value_means e (Numbers are.0.0) are.0.1 w left sound)
        (λ v u l is sound later. element_found stride are.0.0 whole offset d p v u l sound (on_later w u whole offset d p later on) is
        (λ q w left. element_at greatest call more q w left)
        (λ y low high. reached more whole (offset + unsigned_abs (y -ℤ stride.low) * stride.multiplier) d (lead.1 y low high))
        (λ y q w l low high sound on. subscripts_mean more whole (offset + unsigned_abs (y -ℤ stride.low) * stride.multiplier) d q (lead.1 y low high) are.1 w l sound on))

    pub called_means : (arguments : TypedArguments) (parameters : List ParameterType) (callee : Callee) (all : List ParameterType) (value : Option Description) (before : List Place) (done : List ParameterType)
        → ArePassed greatest s arguments parameters → in_order done parameters ≡ all → IsCallee s.globals s.procedures s.blocks callee all value
        → (w : World) (left : ℕ) → Sound w → AreGood w done before
        → Here left w (Gives value) (called_with greatest call callee arguments before w left)
    called_means NoArgument parameters callee all value before done passed same found w left sound good =
        calls.procedure callee all value known x ss s.blocks found stand outlasts (in_order before []) w left sound
        (subst (λ ds. AreGood w ds (in_order before [])) (ap (λ ds. in_order done ds) (sym passed) ∙ same) (ordered_good w done [] before [] good tt))
    called_means (ByPlace r more) parameters callee all value before done passed same found w left sound good =
        let parameter = passed.0 in
        let argument = passed.1 in
        then_here (AtReference r argument) (Gives value) left w (place_of greatest call r w left) _ (place_means r argument passed.4 w left sound)
        (λ q u l at sound later.
        let taken = takes_through parameter argument at.0 passed.5 passed.6 at.1 in
        let given : IsPassed u parameter q = (at.0, taken, at.2, λ is. at.3 (passed.7 (area_taken parameter at.0 taken is)) is) in
        called_means more passed.2 callee all value (q ∷ before) (parameter ∷ done) passed.8
        (ap (λ ds. in_order done ds) (sym passed.3) ∙ same) found u l sound (given, goods_later w u done before later good))
    called_means (ByDummy d e more) parameters callee all value before done passed same found w left sound good =
        let t = passed.2.0 in
        let held = passed.2.2 in
        let one = one_scalar d held.0 held.1 in
        then_here (OfType t) (Gives value) left w (value_of greatest call e w left) _ (value_means e t passed.2.1 w left sound)
        (λ v u l is sound later.
        then_here (PassedPlace (Stated d)) (Gives value) l u (answered (dummy_of d v u) l) _
        (answer_means units (PassedPlace (Stated d)) level l known (x ∷ ss) u (dummy_of d v u) (dummy_answers units x ss d v u sound (narrow_held d t v held is) one.0 one.1))
        (λ q z l is sound later2. called_means more passed.0 callee all value (q ∷ before) (Stated d ∷ done) passed.3
        (ap (λ ds. in_order done ds) (sym passed.1) ∙ same) found z l sound (is, goods_later w z done before (later_then w u z later later2) good)))
    called_means (ByString form e more) parameters callee all value before done passed same found w left sound good =
        let least = passed.2.0 in
        let most = passed.2.1 in
        let t = Strings (kind_of_form form) least most in
        then_here (OfType t) (Gives value) left w (value_of greatest call e w left) _ (value_means e t passed.2.2 w left sound)
        (λ v u l is sound later.
        then_here (PassedPlace (AnyString form)) (Gives value) l u (answered (string_dummy_of form v u) l) _
        (string_dummy_means form least most v u l sound passed.2.3 is)
        (λ q z l is sound later2. called_means more passed.0 callee all value (q ∷ before) (AnyString form ∷ done) passed.3
        (ap (λ ds. in_order done ds) (sym passed.1) ∙ same) found z l sound (is, goods_later w z done before (later_then w u z later later2) good)))

  -- a place, whatever leads to it
  pub good_means : (r : TypedReference) (d : Description) → IsPlaced greatest s r (Stated d) → (w : World) (left : ℕ) → Sound w
      → Here left w (AtPlace d) (place_of greatest call r w left)
  good_means r d placed w left sound =
      means_as units (AtReference r (Stated d)) (AtPlace d) level left known (x ∷ ss) w (place_of greatest call r w left) (λ p v at. good_stated d at.0 p v at.1 at.2)
      (place_means r (Stated d) placed w left sound)

  -- and one of what a type takes
  pub taken_means : (r : TypedReference) (t : ParameterType) → IsPlaced greatest s r t → (w : World) (left : ℕ) → Sound w
      → Here left w (TakenPlace t) (place_of greatest call r w left)
  taken_means r t placed w left sound =
      means_as units (AtReference r t) (TakenPlace t) level left known (x ∷ ss) w (place_of greatest call r w left) (λ p v at. (at.0, at.1, at.2)) (place_means r t placed w left sound)
