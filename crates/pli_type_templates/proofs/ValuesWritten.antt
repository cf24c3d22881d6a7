-- The values that stand in INITIAL, one value after another.
use Rattle.std.proofs.Common.{◌≡◌, ℕ, zero, suc, ◌+◌, ◌-◌, ◌^◌, ◌≤◌, ◌<◌, min, nat_le, true, false, ℤ, pos, unsigned_abs, Some, None, List, [], ◌∷◌, ◌++◌, length, replicate, take, drop, refl, ap, sym, ◌∙◌, pow_mono, arith}
use Rattle.std.specs.Option.{unwrap_or}
use Rattle.std.proofs.lemmas.Bool.{leb-false, leb-true, le-ltb}
use Rattle.std.proofs.lemmas.List.{length-append, length-replicate, take_min, drop_min, drop-drop, length-drop}
use Rattle.pli_base.specs.declared.declaration.InitialValue.{InitialValue}
use Rattle.pli_base.specs.declared.declaration.InitialValue.TheVariants as initial
use Rattle.pli_map.specs.Description.{Description, FixedBinary, Character, Varying, Bit, Pointer, Offset, Area, Array, Structure}
use Rattle.pli_map.specs.Values.{first_value}
use Rattle.pli_type_rules.specs.InitialScalars.{as_held, each_with, values_written}
use Rattle.pli_type_templates.specs.Items.{all_with, elements_of, value_of}
use Rattle.pli_type_templates.specs.Plans.{is_compiled_scalar, placed_as}
use Rattle.pli_value.specs.Numbers.{has_digits}
use Rattle.pli_value.specs.Value.{Value, Located, Number}
use Rattle.pli_value.specs.declared.locator.Locator.{Locator}

-- what stands first says its value for as many elements as it stands for
pub written_first : (x : InitialValue) (more : List InitialValue)
    → values_written (x ∷ more) ≡ replicate (elements_of x) (value_of x) ++ values_written more
written_first (initial.Integer None value) more = refl
written_first (initial.Integer (Some factor) value) more = refl
written_first (initial.Characters text) more = refl
written_first (initial.Bits bits) more = refl
written_first initial.Null more = refl

pub counted_first : (x : InitialValue) (more : List InitialValue)
    → length (values_written (x ∷ more)) ≡ elements_of x + length (values_written more)
counted_first x more = ap length (written_first x more)
    ∙ length-append (replicate (elements_of x) (value_of x)) (values_written more)
    ∙ ap (λ n. n + length (values_written more)) (length-replicate (elements_of x) (value_of x))

-- a scalar that is compiled has a value with which it begins
pub first_in_any_case : (d : Description) (v w : Value) → is_compiled_scalar d ≡ true → unwrap_or (first_value d) v ≡ unwrap_or (first_value d) w
first_in_any_case (FixedBinary p) v w h = refl
first_in_any_case (Character n) v w h = refl
first_in_any_case (Varying n) v w h = refl
first_in_any_case (Bit n) v w h = refl
first_in_any_case Pointer v w h = refl
first_in_any_case Offset v w h = refl
first_in_any_case (Area n) v w h = cc
first_in_any_case (Array bounds element) v w h = cc
first_in_any_case (Structure members) v w h = cc

-- null leaves the value with which a scalar begins
pub null_is_first : (d : Description) (l : Locator) → as_held d (Located l) ≡ unwrap_or (first_value d) (Located l)
null_is_first (FixedBinary p) l = refl
null_is_first d l = refl

-- a number of more digits than any scalar has leaves the value with which a scalar begins
pub far_is_first : (d : Description) (x : ℤ) → is_compiled_scalar d ≡ true
    → nat_le (unsigned_abs x) 9223372036854775807 ≡ false → as_held d (Number x) ≡ unwrap_or (first_value d) (Number (pos 0))
far_is_first (FixedBinary p) x h far = first (none (pow_mono (leb-true p 63 h)) (leb-false (unsigned_abs x) 9223372036854775807 far))
  where
    none : 2 ^ p ≤ 2 ^ 63 → 9223372036854775807 < unsigned_abs x → has_digits p x ≡ false
    none power great = le-ltb (unsigned_abs x) (2 ^ p) (omega (arith, power, great))

    first : has_digits p x ≡ false → as_held (FixedBinary p) (Number x) ≡ Number (pos 0)
    first e = rw e refl
far_is_first (Character n) x h far = refl
far_is_first (Varying n) x h far = refl
far_is_first (Bit n) x h far = refl
far_is_first Pointer x h far = refl
far_is_first Offset x h far = refl
far_is_first (Area n) x h far = cc
far_is_first (Array bounds element) x h far = cc
far_is_first (Structure members) x h far = cc

-- no scalars without values without values
pub no_values : (d : Description) (ns : List ℕ) → each_with (placed_as d ns) [] ≡ []
no_values d [] = refl
no_values d (n ∷ ns) = refl

-- a value for so many elements goes to as many of the scalars, if there are as many
pub copies_first : (d : Description) (v : Value) (count : ℕ) (ns : List ℕ) (vs : List Value)
    → each_with (placed_as d ns) (replicate count v ++ vs) ≡ all_with (as_held d v) (take count ns) ++ each_with (placed_as d (drop count ns)) vs
copies_first d v zero ns vs = refl
copies_first d v (suc count) [] vs = refl
copies_first d v (suc count) (n ∷ ns) vs = ap (λ is. record { offset = n; value = as_held d v } ∷ is) (copies_first d v count ns vs)

-- more scalars than values need not be made
pub wanted_are_enough : (d : Description) (ns : List ℕ) (vs : List Value)
    → each_with (placed_as d (take (length vs) ns)) vs ≡ each_with (placed_as d ns) vs
wanted_are_enough d ns [] = sym (no_values d ns)
wanted_are_enough d [] (v ∷ vs) = refl
wanted_are_enough d (n ∷ ns) (v ∷ vs) = ap (λ is. record { offset = n; value = as_held d v } ∷ is) (wanted_are_enough d ns vs)

-- the value that stands next, for as many of the scalars that are left as it goes to
pub value_given : (d : Description) (x : InitialValue) (more : List InitialValue) (ns : List ℕ) (used count : ℕ)
    → count ≡ min (elements_of x) (length ns - used)
    → each_with (placed_as d (drop used ns)) (values_written (x ∷ more))
    ≡ all_with (as_held d (value_of x)) (take count (drop used ns)) ++ each_with (placed_as d (drop (used + count) ns)) (values_written more)
value_given d x more ns used count is =
    let left = drop used ns in
    let v = as_held d (value_of x) in
    let vs = values_written more in
    let sized = is ∙ ap (λ n. min (elements_of x) n) (sym (length-drop used ns)) in
    let taken = ap (λ n. take n left) sized ∙ take_min (elements_of x) left in
    let dropped = ap (λ n. drop n left) sized ∙ drop_min (elements_of x) left in
    ap (each_with (placed_as d left)) (written_first x more)
    ∙ copies_first d (value_of x) (elements_of x) left vs
    ∙ ap (λ ms. all_with v ms ++ each_with (placed_as d (drop (elements_of x) left)) vs) (sym taken)
    ∙ ap (λ ms. all_with v (take count left) ++ each_with (placed_as d ms) vs) (sym dropped ∙ drop-drop count used ns)
