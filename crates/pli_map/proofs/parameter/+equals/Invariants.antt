use Rattle.std.proofs.Common.{◌≡◌, length, map, take}
use Rattle.pli_map.specs.views.ParameterView.{type_view}
use Rattle.pli_map.proofs.parameter.+equals.Given as goal

-- the members so far say the same
abbrev pub invariant-all_equal-loop-i : goal.invariant-all_equal-loop-i
invariant-all_equal-loop-i l =
    record { same : map type_view (take l.i l.left) ≡ map type_view (take l.i l.right); lengths : length l.left ≡ length l.right }
