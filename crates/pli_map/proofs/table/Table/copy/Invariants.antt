use Rattle.std.proofs.Common.{◌≡◌, map, take}
use Rattle.pli_map.specs.views.DescriptionView.{description_view}
use Rattle.pli_map.proofs.table.Table.copy.Given as goal

-- so many of the first are copied
abbrev pub invariant-loop-description : goal.invariant-loop-description
invariant-loop-description l = map description_view l.descriptions.keys ≡ map description_view (take l.description-index l.description-items)
