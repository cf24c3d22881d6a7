use Rattle.std.proofs.Common.{◌≡◌, map, drop}
use Rattle.std.specs.Map.{lookup}
use Rattle.pli_base.specs.Name.{Name}
use Rattle.pli_base.specs.Words.{same_name}
use Rattle.pli_link.specs.Links.{number_of}
use Rattle.pli_link.specs.answers.Tables.{external_name}
use Rattle.pli_link.proofs.links.numbers_of.Given as goal

abbrev pub invariant-loop-number : goal.invariant-loop-number
invariant-loop-number l =
    (name : Name) → lookup (same_name name) l.numbers.entries ≡ number_of l.number (map external_name (drop l.number l.externals)) name
