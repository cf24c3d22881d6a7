use Rattle.std.proofs.Common.{◌≡◌, ◌≤◌}
use Rattle.std.specs.List.{flat_map}
use Rattle.std.specs.Map.{values_of}
use Rattle.pli_link.specs.ModuleSize.{shared_in}
use Rattle.pli_link.specs.answers.Counting.{counted}
use Rattle.pli_link.specs.views.NameView.{externals_view}
use Rattle.pli_link.proofs.ByteCountLemmas.{shown}
use Rattle.pli_link.proofs.sizes.with_externals.Given as goal

-- the bytes so far, with those of the variables that are left, are those of all
abbrev pub invariant-loop-external : goal.invariant-loop-external
invariant-loop-external l =
    (goal.iterator-loop-external).can_next l.external-iterator × (goal.iterator-loop-external).is_finite l.external-iterator
    × (l.bytes ≤ 16777216)
    × (counted l.bytes (shown l.external-iterator)
    ≡ counted l.initial.bytes (flat_map shared_in (values_of (externals_view l.externals.entries))))
