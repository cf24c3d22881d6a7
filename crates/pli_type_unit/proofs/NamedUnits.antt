-- The unit as the type checker sees it, by what its names mean.
use Rattle.pli_declare.specs.ResolvedUnits.{ResolvedUnit, meaning_at}
use Rattle.pli_type_rules.specs.Names.{NamedUnit, Naming}
use Rattle.pli_type_unit.specs.Contexts.{Context}
use Rattle.pli_type_unit.specs.UnitNames.{area_named, globals_of, is_automatic, is_based, named_as, names_based}
use Rattle.pli_type_unit.specs.UnitNames.{parameters_of, returns_at, templates_in}

-- numbers have at most 63 binary digits
abbrev pub unit_named : ResolvedUnit → NamedUnit
unit_named r = record {
  tree = r.tree;
  is_based = λ at. names_based r (meaning_at r at);
  naming = λ blocks. record {
    greatest = 63;
    based = templates_in r is_based;
    returned_area = λ block. area_named r blocks (returns_at r block).1;
    meaning = λ at. named_as r blocks (meaning_at r at);
  };
  parameters = parameters_of r;
  returned = λ block. (returns_at r block).0;
  automatic = templates_in r is_automatic;
  globals = globals_of r;
}

-- what names mean where a statement stands
abbrev pub naming : Context → Naming
naming c = (unit_named c.unit).naming c.blocks
