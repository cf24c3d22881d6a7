use Rattle.pli_resolve.proofs.NamedLocators.{locators_and_areas_are_named}
use Rattle.pli_resolve.proofs.laws.locators_and_areas_are_named.Goals as goal

pub returns : goal.returns
returns c = locators_and_areas_are_named
