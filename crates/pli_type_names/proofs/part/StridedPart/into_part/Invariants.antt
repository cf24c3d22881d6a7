use Rattle.std.proofs.Common.{◌≡◌, drop}
use Rattle.pli_type_rules.specs.References.{part_on}
use Rattle.pli_type_names.specs.views.NameView.{part_view}
use Rattle.pli_type_names.proofs.part.StridedPart.into_part.Given as goal

-- the way that is left leads from here to where the whole way leads
abbrev pub invariant-loop-number : goal.invariant-loop-number
invariant-loop-number l =
    part_on (part_view l.part) (drop l.number-index l.path) ≡ part_on (part_view l.fn.self) l.path
