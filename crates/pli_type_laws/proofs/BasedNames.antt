-- It is known which names are those of BASED variables.
use Rattle.std.specs.Prelude.{[]}
use Rattle.pli_declare.specs.ResolvedUnits.{ResolvedUnit, meaning_at}
use Rattle.pli_type_rules.proofs.BasedNames.{named_anywhere}
use Rattle.pli_type_rules.specs.NamedUnits.{named_unit}
use Rattle.pli_type_laws.specs.NameFacts.{KnowsBased}

pub based_known : (r : ResolvedUnit) → KnowsBased (named_unit 63 r)
based_known r blocks at = named_anywhere 63 r blocks [] (meaning_at r at)
