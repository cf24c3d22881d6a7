-- Calls of built-in functions.
use Rattle.std.proofs.Common.{◌≡◌, ◌⊎◌, inl, inr, ℕ, ◌<◌, ◌≤◌, ◌-◌, nat_le, ◌&&◌, Bool, true, false, List, [], ◌∷◌, length, Option, Some, None, refl, ap, ◌∙◌, sym}
use Rattle.std.proofs.Common.{arith, option_map, if◌then◌else◌, take, ◌++◌, map}
use Rattle.std.proofs.lemmas.List.{length-append, length-map}
use Rattle.std.specs.Prelude.{option_and_then}
use Rattle.std.specs.Prelude.{slice_get}
use Rattle.std.proofs.lemmas.Bool.{cases_lt, le-leb, leb-true, false≢true}
use Rattle.pli_map.specs.Dimensions.{bound_of}
use Rattle.pli_map.specs.declared.description.Bounds.{Bounds}
use Rattle.pli_map.specs.declared.dimension.WhichBound.{WhichBound}
use Rattle.pli_type_rules.specs.ExpressionTypes.{TypedValue}
use Rattle.pli_declare.specs.declared.built_in.BuiltInFunction.{BuiltInFunction}
use Rattle.pli_declare.specs.declared.built_in.BuiltInFunction.TheVariants as functions
use Rattle.pli_type_rules.specs.FunctionCalls.{Meant, OneValue, WholeAggregate, meant_as, bound_value, bound_among}
use Rattle.pli_type_rules.specs.FunctionCalls.{address_of, area_of, the_bound, value_in, divided, Argument, located_within, of_values, of_arguments}
use Rattle.pli_type_rules.specs.FunctionCalls.{values_in}
use Rattle.pli_type_rules.specs.declared.beginning.Beginning.{Beginning}
use Rattle.pli_type_operands.specs.Bounded.{bound_given, dimension_given, if_dimension, is_bound, which_bound}
use Rattle.pli_type_operands.specs.declared.argument.Argument.{Argument as Code}
use Rattle.pli_type_operands.specs.views.TypingView.{argument_view, denoted_view}
use Rattle.pli_type_operands.specs.Quotients.{precision_written, quotient_of}
use Rattle.pli_type_operands.specs.Within.{area_given, built_in, located_of, made_within}
use Rattle.pli_type_operands.specs.declared.within.LocatorFunction.{LocatorFunction}
use Rattle.pli_type_operands.specs.declared.within.LocatorFunction.TheVariants as locators

-- the bounds of a dimension, counted from 1
pub bound_found : (which : WhichBound) (number : ℕ) (bounds : List Bounds) (b : Option Bounds) → (number ≡ 0 → ⊥) → b ≡ slice_get bounds (number - 1)
    → option_map (λ b. bound_value (bound_of which b)) b ≡ bound_among which number bounds
bound_found which number bounds b stands e =
    let given : Option TypedValue = option_map (λ b. bound_value (bound_of which b)) (slice_get bounds (number - 1)) in
    let some : 1 ≤ number = elim (cases_lt 0 number) [
      | inl lt ↦ omega (arith, lt)
      | inr past ↦ absurd (stands (omega (arith, past)))
    ] in
    ap (option_map (λ b. bound_value (bound_of which b))) e
    ∙ ap (λ t. if t then given else None) (sym (le-leb 1 number some))

pub no_dimension : (which : WhichBound) (number : ℕ) (bounds : List Bounds) → number ≡ 0 → None ≡ bound_among which number bounds
no_dimension which number bounds e = ap (λ n. bound_among which n bounds) (sym e)

-- a dimension that is known where it runs
pub known_there : (v : TypedValue) (number dimensions : ℕ) → (number ≡ 0 → ⊥) → number ≤ dimensions → Some v ≡ if_dimension number dimensions v
known_there v number dimensions stands within =
    let some : 1 ≤ number = elim (cases_lt 0 number) [
      | inl lt ↦ omega (arith, lt)
      | inr past ↦ absurd (stands (omega (arith, past)))
    ] in
    ap (λ t. if t && true then Some v else None) (sym (le-leb 1 number some))
    ∙ ap (λ t. if nat_le 1 number && t then Some v else None) (sym (le-leb number dimensions within))

pub known_nowhere : (v : TypedValue) (number dimensions : ℕ) → (number ≡ 0) ⊎ (dimensions < number) → None ≡ if_dimension number dimensions v
known_nowhere v number dimensions (inl none) = ap (λ n. if_dimension n dimensions v) (sym none)
known_nowhere v number dimensions (inr over) = by (nat_le 1 number) (nat_le number dimensions) refl
  where
    by : (a b : Bool) → nat_le number dimensions ≡ b → None ≡ (if a && b then Some v else None)
    by false b e = refl
    by true false e = refl
    by true true e = absurd (omega (arith, over, leb-true number dimensions e))

-- no number says which one
pub bound_unwritten : (which : WhichBound) (m : Meant) → the_bound which m None ≡ None
bound_unwritten which (OneValue v) = refl
bound_unwritten which (WholeAggregate r) = refl

-- values alone have no bounds, and no quotient

low_of_values : (greatest : ℕ) (vs : Option (List TypedValue))
    → None ≡ option_and_then (of_values greatest functions.LowBound) vs
low_of_values greatest None = refl
low_of_values greatest (Some vs) = refl

high_of_values : (greatest : ℕ) (vs : Option (List TypedValue))
    → None ≡ option_and_then (of_values greatest functions.HighBound) vs
high_of_values greatest None = refl
high_of_values greatest (Some vs) = refl

quotient_of_values : (greatest : ℕ) (vs : Option (List TypedValue))
    → None ≡ option_and_then (of_values greatest functions.Divide) vs
quotient_of_values greatest None = refl
quotient_of_values greatest (Some vs) = refl

no_low : (greatest : ℕ) (gs : List Argument) → (length gs ≡ 2 → ⊥)
    → None ≡ of_arguments greatest functions.LowBound gs
no_low greatest [] h = refl
no_low greatest (a ∷ []) h = low_of_values greatest (values_in (a ∷ []))
no_low greatest (a ∷ b ∷ []) h = absurd (h refl)
no_low greatest (a ∷ b ∷ c ∷ gs) h = low_of_values greatest (values_in (a ∷ b ∷ c ∷ gs))

no_high : (greatest : ℕ) (gs : List Argument) → (length gs ≡ 2 → ⊥)
    → None ≡ of_arguments greatest functions.HighBound gs
no_high greatest [] h = refl
no_high greatest (a ∷ []) h = high_of_values greatest (values_in (a ∷ []))
no_high greatest (a ∷ b ∷ []) h = absurd (h refl)
no_high greatest (a ∷ b ∷ c ∷ gs) h = high_of_values greatest (values_in (a ∷ b ∷ c ∷ gs))

-- but of two arguments there may be a bound
pub no_bound : (greatest : ℕ) (f : BuiltInFunction) → is_bound f ≡ true → (gs : List Argument)
    → (length gs ≡ 2 → ⊥) → None ≡ of_arguments greatest f gs
no_bound greatest functions.LowBound p gs h = no_low greatest gs h
no_bound greatest functions.HighBound p gs h = no_high greatest gs h
no_bound greatest functions.Abs p gs h = absurd (false≢true p)
no_bound greatest functions.Max p gs h = absurd (false≢true p)
no_bound greatest functions.Min p gs h = absurd (false≢true p)
no_bound greatest functions.Mod p gs h = absurd (false≢true p)
no_bound greatest functions.Divide p gs h = absurd (false≢true p)
no_bound greatest functions.Sign p gs h = absurd (false≢true p)
no_bound greatest functions.Length p gs h = absurd (false≢true p)
no_bound greatest functions.Index p gs h = absurd (false≢true p)
no_bound greatest functions.Allocation p gs h = absurd (false≢true p)
no_bound greatest functions.Substring p gs h = absurd (false≢true p)
no_bound greatest functions.Address p gs h = absurd (false≢true p)
no_bound greatest functions.Null p gs h = absurd (false≢true p)
no_bound greatest functions.Empty p gs h = absurd (false≢true p)
no_bound greatest functions.Pointer p gs h = absurd (false≢true p)
no_bound greatest functions.Offset p gs h = absurd (false≢true p)

-- as the two arguments say
pub none_bounded : (greatest : ℕ) (f : BuiltInFunction) → is_bound f ≡ true → (gs : List Argument) → dimension_given gs ≡ None
    → None ≡ of_arguments greatest f gs
none_bounded greatest f p gs h = no_bound greatest f p gs (two gs h)
  where
    two : (gs : List Argument) → dimension_given gs ≡ None → length gs ≡ 2 → ⊥
    two [] h e = omega (arith, e)
    two (a ∷ []) h e = omega (arith, e)
    two (a ∷ b ∷ []) h e = cc
    two (a ∷ b ∷ c ∷ gs) h e = omega (arith, e)

bound_by : (greatest : ℕ) (f : BuiltInFunction) → is_bound f ≡ true → (a n : Argument)
    → the_bound (which_bound f) (meant_as a.denoted) n.written ≡ of_arguments greatest f (a ∷ n ∷ [])
bound_by greatest functions.LowBound p a n = refl
bound_by greatest functions.HighBound p a n = refl
bound_by greatest functions.Abs p a n = absurd (false≢true p)
bound_by greatest functions.Max p a n = absurd (false≢true p)
bound_by greatest functions.Min p a n = absurd (false≢true p)
bound_by greatest functions.Mod p a n = absurd (false≢true p)
bound_by greatest functions.Divide p a n = absurd (false≢true p)
bound_by greatest functions.Sign p a n = absurd (false≢true p)
bound_by greatest functions.Length p a n = absurd (false≢true p)
bound_by greatest functions.Index p a n = absurd (false≢true p)
bound_by greatest functions.Allocation p a n = absurd (false≢true p)
bound_by greatest functions.Substring p a n = absurd (false≢true p)
bound_by greatest functions.Address p a n = absurd (false≢true p)
bound_by greatest functions.Null p a n = absurd (false≢true p)
bound_by greatest functions.Empty p a n = absurd (false≢true p)
bound_by greatest functions.Pointer p a n = absurd (false≢true p)
bound_by greatest functions.Offset p a n = absurd (false≢true p)

pub bound_by_given : (greatest : ℕ) (f : BuiltInFunction) → is_bound f ≡ true → (gs : List Argument) (written : Option ℕ) → dimension_given gs ≡ Some written
    → bound_given (which_bound f) gs written ≡ of_arguments greatest f gs
bound_by_given greatest f p [] written h = cc
bound_by_given greatest f p (a ∷ []) written h = cc
bound_by_given greatest f p (a ∷ n ∷ []) written h =
    ap (λ w. the_bound (which_bound f) (meant_as a.denoted) w) (some_same (sym h)) ∙ bound_by greatest f p a n
  where
    some_same : {v w : Option ℕ} → Some v ≡ Some w → v ≡ w
    some_same e = cc
bound_by_given greatest f p (a ∷ n ∷ m ∷ gs) written h = cc

-- nor generations

generations_of_values : (greatest : ℕ) (vs : Option (List TypedValue))
    → None ≡ option_and_then (of_values greatest functions.Allocation) vs
generations_of_values greatest None = refl
generations_of_values greatest (Some vs) = refl

-- but of one argument there may be generations
pub no_generations : (greatest : ℕ) (gs : List Argument) → (length gs ≡ 1 → ⊥)
    → None ≡ of_arguments greatest functions.Allocation gs
no_generations greatest [] h = refl
no_generations greatest (a ∷ []) h = absurd (h refl)
no_generations greatest (a ∷ b ∷ gs) h = generations_of_values greatest (values_in (a ∷ b ∷ gs))

-- nor an address

address_of_values : (greatest : ℕ) (vs : Option (List TypedValue))
    → None ≡ option_and_then (of_values greatest functions.Address) vs
address_of_values greatest None = refl
address_of_values greatest (Some vs) = refl

-- but of one argument there may be one
pub no_address : (greatest : ℕ) (gs : List Argument) → (length gs ≡ 1 → ⊥)
    → None ≡ of_arguments greatest functions.Address gs
no_address greatest [] h = refl
no_address greatest (a ∷ []) h = absurd (h refl)
no_address greatest (a ∷ b ∷ gs) h = address_of_values greatest (values_in (a ∷ b ∷ gs))

-- of an argument that was taken from their end
pub address_alone : (greatest : ℕ) (all left : List Code) (a : Code) → all ≡ left ++ a ∷ [] → length left ≡ 0
    → of_arguments greatest functions.Address (map argument_view all) ≡ address_of (denoted_view a.denoted)
address_alone greatest all [] a e none = ap (λ gs. of_arguments greatest functions.Address (map argument_view gs)) e
address_alone greatest all (x ∷ xs) a e none = absurd (omega arith)

pub address_of_more : (greatest : ℕ) (all left : List Code) (a : Code) → all ≡ left ++ a ∷ [] → 0 < length left
    → None ≡ of_arguments greatest functions.Address (map argument_view all)
address_of_more greatest all left a e some =
    no_address greatest (map argument_view all)
    (λ one. omega (arith, some, one, length-map all argument_view, ap length e, length-append left (a ∷ [])))

pub address_of_none : (greatest : ℕ) (all : List Code) → length all ≡ 0
    → None ≡ of_arguments greatest functions.Address (map argument_view all)
address_of_none greatest [] none = refl
address_of_none greatest (x ∷ xs) none = absurd (omega arith)

-- NULL is there of none
null_of_values : (greatest : ℕ) (vs : Option (List TypedValue))
    → None ≡ option_and_then (of_values greatest functions.Null) vs
null_of_values greatest None = refl
null_of_values greatest (Some vs) = refl

pub no_null : (greatest : ℕ) (gs : List Argument) → (length gs ≡ 0 → ⊥)
    → None ≡ of_arguments greatest functions.Null gs
no_null greatest [] h = absurd (h refl)
no_null greatest (a ∷ gs) h = null_of_values greatest (values_in (a ∷ gs))

-- and so is EMPTY
empty_of_values : (greatest : ℕ) (vs : Option (List TypedValue))
    → None ≡ option_and_then (of_values greatest functions.Empty) vs
empty_of_values greatest None = refl
empty_of_values greatest (Some vs) = refl

pub no_empty : (greatest : ℕ) (gs : List Argument) → (length gs ≡ 0 → ⊥)
    → None ≡ of_arguments greatest functions.Empty gs
no_empty greatest [] h = absurd (h refl)
no_empty greatest (a ∷ gs) h = empty_of_values greatest (values_in (a ∷ gs))

-- and of three a quotient
pub no_quotient : (greatest : ℕ) (gs : List Argument) → (length gs ≡ 3 → ⊥)
    → None ≡ of_arguments greatest functions.Divide gs
no_quotient greatest [] h = refl
no_quotient greatest (a ∷ []) h = quotient_of_values greatest (values_in (a ∷ []))
no_quotient greatest (a ∷ b ∷ []) h = quotient_of_values greatest (values_in (a ∷ b ∷ []))
no_quotient greatest (a ∷ b ∷ c ∷ []) h = absurd (h refl)
no_quotient greatest (a ∷ b ∷ c ∷ d ∷ gs) h = quotient_of_values greatest (values_in (a ∷ b ∷ c ∷ d ∷ gs))

-- and of the values of the first two
abbrev alone : Meant → Option (List TypedValue)
alone y = option_and_then (λ v. option_map (λ vs. v ∷ vs) (Some [])) (value_in y)

quotient_by : (greatest : ℕ) (x y : Meant) (written : Option ℕ)
    → divided greatest x y written
    ≡ option_and_then (λ vs. quotient_of greatest vs written)
    (option_and_then (λ v. option_map (λ vs. v ∷ vs) (alone y)) (value_in x))
quotient_by greatest (OneValue x) (OneValue y) written = refl
quotient_by greatest (OneValue x) (WholeAggregate r) written = refl
quotient_by greatest (WholeAggregate r) (OneValue y) written = refl
quotient_by greatest (WholeAggregate r) (WholeAggregate q) written = refl

pub quotient_by_values : (greatest : ℕ) (gs : List Argument) (written : Option ℕ)
    → precision_written gs ≡ Some written
    → of_arguments greatest functions.Divide gs
    ≡ option_and_then (λ vs. quotient_of greatest vs written) (values_in (take 2 gs))
quotient_by_values greatest [] written h = cc
quotient_by_values greatest (a ∷ []) written h = cc
quotient_by_values greatest (a ∷ b ∷ []) written h = cc
quotient_by_values greatest (a ∷ b ∷ p ∷ []) written h =
    quotient_by greatest (meant_as a.denoted) (meant_as b.denoted) p.written
    ∙ ap (λ w. option_and_then (λ vs. quotient_of greatest vs w) (values_in (a ∷ b ∷ []))) (some_same h)
  where
    some_same : {v w : Option ℕ} → Some v ≡ Some w → v ≡ w
    some_same e = cc
quotient_by_values greatest (a ∷ b ∷ p ∷ q ∷ gs) written h = cc

pub no_precision : (gs : List Argument) → (length gs ≡ 3 → ⊥) → None ≡ precision_written gs
no_precision [] h = refl
no_precision (a ∷ []) h = refl
no_precision (a ∷ b ∷ []) h = refl
no_precision (a ∷ b ∷ c ∷ []) h = absurd (h refl)
no_precision (a ∷ b ∷ c ∷ d ∷ gs) h = refl

pub no_quotient_without : (greatest : ℕ) (gs : List Argument) → precision_written gs ≡ None
    → None ≡ of_arguments greatest functions.Divide gs
no_quotient_without greatest gs h = no_quotient greatest gs (three gs h)
  where
    three : (gs : List Argument) → precision_written gs ≡ None → length gs ≡ 3 → ⊥
    three [] h e = omega (arith, e)
    three (a ∷ []) h e = omega (arith, e)
    three (a ∷ b ∷ []) h e = omega (arith, e)
    three (a ∷ b ∷ c ∷ []) h e = cc
    three (a ∷ b ∷ c ∷ d ∷ gs) h e = omega (arith, e)

-- of two arguments there may be a locator within an area

located_of_values : (greatest : ℕ) (function : LocatorFunction) (vs : Option (List TypedValue))
    → None ≡ option_and_then (of_values greatest (built_in function)) vs
located_of_values greatest locators.Pointer None = refl
located_of_values greatest locators.Offset None = refl
located_of_values greatest locators.Pointer (Some vs) = refl
located_of_values greatest locators.Offset (Some vs) = refl

not_two : (greatest : ℕ) (function : LocatorFunction) (gs : List Argument) → (length gs ≡ 2 → ⊥)
    → option_and_then (of_values greatest (built_in function)) (values_in gs) ≡ of_arguments greatest (built_in function) gs
not_two greatest locators.Pointer [] h = refl
not_two greatest locators.Pointer (a ∷ []) h = refl
not_two greatest locators.Pointer (a ∷ b ∷ []) h = absurd (h refl)
not_two greatest locators.Pointer (a ∷ b ∷ c ∷ gs) h = refl
not_two greatest locators.Offset [] h = refl
not_two greatest locators.Offset (a ∷ []) h = refl
not_two greatest locators.Offset (a ∷ b ∷ []) h = absurd (h refl)
not_two greatest locators.Offset (a ∷ b ∷ c ∷ gs) h = refl

pub none_located : (greatest : ℕ) (function : LocatorFunction) (gs : List Argument) → area_given gs ≡ None
    → None ≡ of_arguments greatest (built_in function) gs
none_located greatest function gs h =
    located_of_values greatest function (values_in gs) ∙ not_two greatest function gs (two gs h)
  where
    two : (gs : List Argument) → area_given gs ≡ None → length gs ≡ 2 → ⊥
    two [] h e = omega (arith, e)
    two (a ∷ []) h e = omega (arith, e)
    two (a ∷ b ∷ []) h e = cc
    two (a ∷ b ∷ c ∷ gs) h e = omega (arith, e)

pub no_area_given : (gs : List Argument) → (length gs ≡ 2 → ⊥) → None ≡ area_given gs
no_area_given [] h = refl
no_area_given (a ∷ []) h = refl
no_area_given (a ∷ b ∷ []) h = absurd (h refl)
no_area_given (a ∷ b ∷ c ∷ gs) h = refl

-- by the value of the first
located_by : (function : LocatorFunction) (x : Meant) (area : Option Beginning)
    → located_within (made_within function) x area
    ≡ option_and_then (λ vs. located_of function vs area)
    (option_and_then (λ v. option_map (λ vs. v ∷ vs) (Some [])) (value_in x))
located_by function (OneValue v) None = refl
located_by function (OneValue v) (Some area) = refl
located_by function (WholeAggregate r) None = refl
located_by function (WholeAggregate r) (Some area) = refl

of_two : (greatest : ℕ) (function : LocatorFunction) (a b : Argument)
    → of_arguments greatest (built_in function) (a ∷ b ∷ [])
    ≡ located_within (made_within function) (meant_as a.denoted) (area_of b.denoted)
of_two greatest locators.Pointer a b = refl
of_two greatest locators.Offset a b = refl

pub located_by_values : (greatest : ℕ) (function : LocatorFunction) (gs : List Argument) (area : Option Beginning)
    → area_given gs ≡ Some area
    → of_arguments greatest (built_in function) gs ≡ option_and_then (λ vs. located_of function vs area) (values_in (take 1 gs))
located_by_values greatest function [] area h = cc
located_by_values greatest function (a ∷ []) area h = cc
located_by_values greatest function (a ∷ b ∷ []) area h =
    of_two greatest function a b
    ∙ located_by function (meant_as a.denoted) (area_of b.denoted)
    ∙ ap (λ x. option_and_then (λ vs. located_of function vs x) (values_in (a ∷ []))) (some_same h)
  where
    some_same : {v w : Option Beginning} → Some v ≡ Some w → v ≡ w
    some_same e = cc
located_by_values greatest function (a ∷ b ∷ c ∷ gs) area h = cc
