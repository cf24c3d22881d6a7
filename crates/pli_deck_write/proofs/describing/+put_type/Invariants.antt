use Rattle.std.proofs.Common.{◌≡◌, ◌++◌, map, drop}
use Rattle.std.specs.List.{flat_map}
use Rattle.pli_map.specs.views.ParameterView.{type_view}
use Rattle.pli_code.specs.Versions.{written}
use Rattle.pli_deck_write.specs.Descriptions.{description_within}
use Rattle.pli_deck_write.proofs.describing.+put_type.Given as goal

-- what was put so far, in front of what is left, is all that is put
abbrev pub invariant-put_types-loop-member : goal.invariant-put_types-loop-member
invariant-put_types-loop-member l =
    let bytes_of = (description_within written l.levels).bytes_of in
    l.out.items ++ flat_map bytes_of (map type_view (drop l.member-index l.members)) ≡ l.fn.out.items ++ flat_map bytes_of (map type_view l.members)
