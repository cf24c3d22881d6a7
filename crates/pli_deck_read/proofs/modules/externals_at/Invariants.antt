use Rattle.std.proofs.Common.{◌≡◌, ◌-◌, map, None}
use Rattle.pli_deck_write.specs.ModuleFields.{external_after, many_after}
use Rattle.pli_code.specs.views.CodeView.{external_view}
use Rattle.pli_deck_read.proofs.LoopLemmas.{with_front}
use Rattle.pli_deck_read.specs.Earlier.{last_of}
use Rattle.pli_deck_read.proofs.modules.externals_at.Given as goal

-- the externals that were read, in front of those that are left, are all of them
abbrev pub invariant-loop : goal.invariant-loop
invariant-loop l =
    let front = map external_view l.externals.items in
    with_front front (many_after external_after (last_of front) (l.count - l.counter) l.rest) ≡ many_after external_after None l.count l.bytes
