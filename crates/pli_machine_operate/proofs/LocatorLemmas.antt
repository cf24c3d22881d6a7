-- Locators: no operation is of one alone; they are fitted to no description, and compared only where both are pointers,
-- or both are offsets.
use Rattle.std.proofs.Common.{◌≡◌, false, refl}
use Rattle.pli_map.specs.Description.{Description, FixedBinary}
use Rattle.pli_operation.specs.Operations.{Misfits, are_comparable, calculated_from, compared, fitted_to}
use Rattle.pli_operation.specs.declared.operation.Operation.{Operation}
use Rattle.pli_operation.specs.declared.operation.Operation.TheVariants as operation
use Rattle.pli_operation.specs.declared.operation.Relation.{Relation}
use Rattle.pli_operation.specs.declared.operation.Relation.TheVariants as relation
use Rattle.pli_value.specs.Value.{Located}
use Rattle.pli_value.specs.declared.locator.Locator.{Locator}

pub none_of_one : (o : Operation) (l : Locator) → calculated_from o (Located l) ≡ Misfits
none_of_one operation.Negate l = refl
none_of_one o l = refl

pub none_fitted : (d : Description) (l : Locator) → fitted_to d (Located l) ≡ Misfits
none_fitted (FixedBinary precision) l = refl
none_fitted d l = refl

pub none_compared : (r : Relation) (left right : Locator) → are_comparable left right ≡ false → compared r left right ≡ Misfits
none_compared relation.Equal left right other = rw other
none_compared relation.Unequal left right other = rw other
none_compared r left right other = refl
