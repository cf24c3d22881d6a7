-- The names of areas and locators in attributes.
use Rattle.std.specs.Prelude.{Some, List, [], ◌∷◌}
use Rattle.std.specs.List.{flat_map}
use Rattle.pli_base.specs.Name.{Name}
use Rattle.pli_base.specs.Declarations.{SimpleAttribute, Offset, Based, DescribedAttribute, Plain}
use Rattle.pli_base.specs.Declarations.{Attribute, Simple, Entry, Returns}

-- the attributes of a result
abbrev pub plain_of : DescribedAttribute → List SimpleAttribute
plain_of (Plain attribute) = attribute ∷ []
plain_of other = []

-- the simple attributes of an attribute, those of RETURNS among them
abbrev pub simple_of : Attribute → List SimpleAttribute
simple_of (Simple attribute) = attribute ∷ []
simple_of (Entry parameters) = []
simple_of (Returns attributes) = flat_map plain_of attributes

-- the first area that is named; without any there are no names
abbrev pub area_in : List SimpleAttribute → List Name
area_in [] = []
area_in (Offset (Some name) ∷ more) = name ∷ []
area_in (attribute ∷ more) = area_in more

-- the names in BASED
abbrev pub locator_in : List SimpleAttribute → List Name
locator_in [] = []
locator_in (Based (Some names) ∷ more) = names
locator_in (attribute ∷ more) = locator_in more
