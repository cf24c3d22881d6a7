-- The trees of what stands after DECLARE, as definitions speak of them (X3.74): without where they lie in
-- memory.
use Rattle.std.specs.Prelude.{ℕ, List, Option, ℤ, pos, ◌-ℤ◌, if◌then◌else◌}
use Rattle.pli_base.specs.Name.{Name}
use Rattle.pli_base.specs.declared.syntax.Identifier.{Identifier}
use Rattle.pli_base.specs.declared.declaration.WrittenBounds.{WrittenBounds}
use Rattle.pli_base.specs.declared.declaration.WrittenLength.{WrittenLength}
use Rattle.pli_base.specs.declared.declaration.InitialValue.{InitialValue}
use Rattle.pli_base.specs.declared.declaration.Integer.{Integer}

-- the number that an integer spells
abbrev pub integer_of : Integer → ℤ
integer_of i = if i.negative then pos 0 -ℤ pos i.value else pos i.value

-- an attribute other than ENTRY and RETURNS
pub data SimpleAttribute : Type 0 where
  Fixed Binary : (precision : Option ℕ) → SimpleAttribute
  Character Bit : (length_of : Option WrittenLength) → SimpleAttribute
  Varying Pointer : SimpleAttribute
  Offset : (area : Option Name) → SimpleAttribute
  Area : (size : Option WrittenLength) → SimpleAttribute
  Based : (locator : Option (List Name)) → SimpleAttribute
  Controlled Static Automatic External Internal Builtin : SimpleAttribute
  Initial : (values : List InitialValue) → SimpleAttribute

-- an attribute in the description of a parameter or of a result; nothing is kept of what an ENTRY or RETURNS
-- there holds
pub data DescribedAttribute : Type 0 where
  Plain : (attribute : SimpleAttribute) → DescribedAttribute
  AnyEntry AnyReturns : DescribedAttribute

-- what ENTRY says of a parameter
pub record ParameterDescription : Type 0 where
  pub dimensions : List WrittenBounds
  pub attributes : List DescribedAttribute

-- an attribute of an item
pub data Attribute : Type 0 where
  Simple : (attribute : SimpleAttribute) → Attribute
  Entry : (parameters : Option (List ParameterDescription)) → Attribute
  Returns : (attributes : List DescribedAttribute) → Attribute

-- one name or more, with what they have in common
pub record Item : Type 0 where
  pub level : Option ℕ
  pub names : List Identifier
  pub dimensions : List WrittenBounds
  pub attributes : List Attribute
