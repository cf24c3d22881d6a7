use Rattle.std.proofs.Common.{◌≡◌, map, take}
use Rattle.pli_map.specs.views.ParameterView.{type_view}
use Rattle.pli_map.proofs.parameter.+copy.Given as goal

-- the copies so far say what the members so far say
abbrev pub invariant-copy_all-loop-member : goal.invariant-copy_all-loop-member
invariant-copy_all-loop-member l = map type_view l.copies.items ≡ map type_view (take l.member-index l.members)
