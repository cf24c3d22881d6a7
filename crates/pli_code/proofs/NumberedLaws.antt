-- Numbers stand for errors, relations, conditions, bounds and forms of strings: there and back.
use Rattle.std.proofs.Common.{◌≡◌, ◌<◌, ℕ, zero, suc, nat_le, nat_lt, true, refl, arith}
use Rattle.std.specs.Int.{is_in_range}
use Rattle.std.proofs.lemmas.Bool.{leb-true, and_parts}
use Rattle.pli_base.specs.declared.statement.Condition.{Condition}
use Rattle.pli_base.specs.declared.statement.Condition.TheVariants as conditions
use Rattle.pli_run.specs.declared.ending.RunError.{RunError}
use Rattle.pli_run.specs.declared.ending.RunError.TheVariants as errors
use Rattle.pli_operation.specs.declared.operation.Relation.{Relation}
use Rattle.pli_operation.specs.declared.operation.Relation.TheVariants as relations
use Rattle.pli_code.specs.Fields.{u1, from_to}
use Rattle.pli_map.specs.declared.dimension.WhichBound.{WhichBound}
use Rattle.pli_map.specs.declared.dimension.WhichBound.TheVariants as bounds
use Rattle.pli_map.specs.declared.parameter.StringForm.{StringForm}
use Rattle.pli_map.specs.declared.parameter.StringForm.TheVariants as forms
use Rattle.pli_code.specs.Numbered.{error_number, relation_number, condition_number, bound_number, string_number}
use Rattle.pli_code.specs.NumberReaders.{error_of, relation_of, condition_of, which_of, string_form_of}
use Rattle.pli_code.specs.Instructions.{error, relation, condition, which_bound, string_form}
use Rattle.pli_code.proofs.FieldLaws.{IsField, byte_law, shaped_law, from_to_law}

-- no number over the last one is in a range
pub over : (low high n : ℕ) → high < n → is_in_range low high n ≡ true → ⊥
over low high n more h = let le = leb-true n high (and_parts (nat_le low n) (nat_le n high) h).1 in omega (arith, more, le)

-- ---- errors

error_there : (n : ℕ) → is_in_range 1 13 n ≡ true → error_number (error_of n) ≡ n
error_there zero h = absurd cc
error_there (suc zero) h = refl
error_there (suc (suc zero)) h = refl
error_there (suc (suc (suc zero))) h = refl
error_there (suc (suc (suc (suc zero)))) h = refl
error_there (suc (suc (suc (suc (suc zero))))) h = refl
error_there (suc (suc (suc (suc (suc (suc zero)))))) h = refl
error_there (suc (suc (suc (suc (suc (suc (suc zero))))))) h = refl
error_there (suc (suc (suc (suc (suc (suc (suc (suc zero)))))))) h = refl
error_there (suc (suc (suc (suc (suc (suc (suc (suc (suc zero))))))))) h = refl
error_there (suc (suc (suc (suc (suc (suc (suc (suc (suc (suc zero)))))))))) h = refl
error_there (suc (suc (suc (suc (suc (suc (suc (suc (suc (suc (suc zero))))))))))) h = refl
error_there (suc (suc (suc (suc (suc (suc (suc (suc (suc (suc (suc (suc zero)))))))))))) h = refl
error_there (suc (suc (suc (suc (suc (suc (suc (suc (suc (suc (suc (suc (suc zero))))))))))))) h = refl
error_there (suc (suc (suc (suc (suc (suc (suc (suc (suc (suc (suc (suc (suc (suc n)))))))))))))) h = absurd (over 1 13 (suc (suc (suc (suc (suc (suc (suc (suc (suc (suc (suc (suc (suc (suc n)))))))))))))) (omega arith) h)

error_back : (x : RunError) → error_of (error_number x) ≡ x
error_back errors.SubscriptRange = refl
error_back errors.StringRange = refl
error_back errors.NullLocator = refl
error_back errors.DeadLocator = refl
error_back errors.DescriptionMismatch = refl
error_back errors.NoGeneration = refl
error_back errors.OutsideArea = refl
error_back errors.NoReturnedValue = refl
error_back errors.FixedOverflow = refl
error_back errors.ZeroDivide = refl
error_back errors.Area = refl
error_back errors.StorageLimit = refl
error_back errors.TooManyActivations = refl

pub error_law : IsField error
error_law = shaped_law error_of error_number (from_to 1 13 u1) (from_to_law 1 13 u1 byte_law) (λ n h. error_there n (and_parts (nat_lt n 256) (is_in_range 1 13 n) h).1) (λ x h. error_back x)

-- ---- relations

relation_there : (n : ℕ) → is_in_range 0 5 n ≡ true → relation_number (relation_of n) ≡ n
relation_there zero h = refl
relation_there (suc zero) h = refl
relation_there (suc (suc zero)) h = refl
relation_there (suc (suc (suc zero))) h = refl
relation_there (suc (suc (suc (suc zero)))) h = refl
relation_there (suc (suc (suc (suc (suc zero))))) h = refl
relation_there (suc (suc (suc (suc (suc (suc n)))))) h = absurd (over 0 5 (suc (suc (suc (suc (suc (suc n)))))) (omega arith) h)

relation_back : (x : Relation) → relation_of (relation_number x) ≡ x
relation_back relations.Equal = refl
relation_back relations.Unequal = refl
relation_back relations.Less = refl
relation_back relations.AtMost = refl
relation_back relations.Greater = refl
relation_back relations.AtLeast = refl

pub relation_law : IsField relation
relation_law = shaped_law relation_of relation_number (from_to 0 5 u1) (from_to_law 0 5 u1 byte_law) (λ n h. relation_there n (and_parts (nat_lt n 256) (is_in_range 0 5 n) h).1) (λ x h. relation_back x)

-- ---- conditions

condition_there : (n : ℕ) → is_in_range 0 2 n ≡ true → condition_number (condition_of n) ≡ n
condition_there zero h = refl
condition_there (suc zero) h = refl
condition_there (suc (suc zero)) h = refl
condition_there (suc (suc (suc n))) h = absurd (over 0 2 (suc (suc (suc n))) (omega arith) h)

condition_back : (x : Condition) → condition_of (condition_number x) ≡ x
condition_back conditions.FixedOverflow = refl
condition_back conditions.ZeroDivide = refl
condition_back conditions.Area = refl

pub condition_law : IsField condition
condition_law = shaped_law condition_of condition_number (from_to 0 2 u1) (from_to_law 0 2 u1 byte_law) (λ n h. condition_there n (and_parts (nat_lt n 256) (is_in_range 0 2 n) h).1) (λ x h. condition_back x)

-- ---- bounds

which_there : (n : ℕ) → is_in_range 0 1 n ≡ true → bound_number (which_of n) ≡ n
which_there zero h = refl
which_there (suc zero) h = refl
which_there (suc (suc n)) h = absurd (over 0 1 (suc (suc n)) (omega arith) h)

which_back : (x : WhichBound) → which_of (bound_number x) ≡ x
which_back bounds.Low = refl
which_back bounds.High = refl

pub which_law : IsField which_bound
which_law = shaped_law which_of bound_number (from_to 0 1 u1) (from_to_law 0 1 u1 byte_law) (λ n h. which_there n (and_parts (nat_lt n 256) (is_in_range 0 1 n) h).1) (λ x h. which_back x)

-- ---- forms of strings

form_there : (n : ℕ) → is_in_range 2 4 n ≡ true → string_number (string_form_of n) ≡ n
form_there zero h = absurd cc
form_there (suc zero) h = absurd cc
form_there (suc (suc zero)) h = refl
form_there (suc (suc (suc zero))) h = refl
form_there (suc (suc (suc (suc zero)))) h = refl
form_there (suc (suc (suc (suc (suc n))))) h = absurd (over 2 4 (suc (suc (suc (suc (suc n))))) (omega arith) h)

form_back : (x : StringForm) → string_form_of (string_number x) ≡ x
form_back forms.Character = refl
form_back forms.Varying = refl
form_back forms.Bit = refl

pub string_form_law : IsField string_form
string_form_law = shaped_law string_form_of string_number (from_to 2 4 u1) (from_to_law 2 4 u1 byte_law) (λ n h. form_there n (and_parts (nat_lt n 256) (is_in_range 2 4 n) h).1) (λ x h. form_back x)
