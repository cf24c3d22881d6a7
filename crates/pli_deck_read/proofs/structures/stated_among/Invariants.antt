use Rattle.std.proofs.Common.{◌≡◌, ◌++◌, map}
use Rattle.pli_map.specs.views.DescriptionView.{description_view}
use Rattle.pli_map.specs.views.ParameterView.{type_view}
use Rattle.pli_deck_write.specs.answers.StatedTypes.{descriptions_among}
use Rattle.pli_deck_read.proofs.structures.stated_among.Given as goal

-- the descriptions so far, and those of the types that are left
abbrev pub invariant-loop-of : goal.invariant-loop-of
invariant-loop-of l =
    map description_view l.descriptions.items ++ descriptions_among (map type_view l.of-iterator.rest.items) ≡ descriptions_among (map type_view l.fn.types.items)
