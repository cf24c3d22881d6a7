use Rattle.std.proofs.Common.{◌≡◌, length, map, take}
use Rattle.pli_map.specs.views.DescriptionView.{description_view}
use Rattle.pli_map.proofs.description.are_all_same.Given as goal

-- the members so far say the same
abbrev pub invariant-loop-i : goal.invariant-loop-i
invariant-loop-i l =
    record { same : map description_view (take l.i l.left) ≡ map description_view (take l.i l.right); lengths : length l.left ≡ length l.right }
