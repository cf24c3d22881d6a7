use Rattle.std.proofs.Common.{ℕ, List, map, drop}
use Rattle.pli_world.specs.World.{Standing, Static}
use Rattle.pli_code.specs.views.CodeView.{global_view}
use Rattle.pli_machine_loading.specs.answers.MadeGlobals.{AreKnown}
use Rattle.pli_machine_loading.proofs.LinkedGlobals.{GlobalsSoFar}
use Rattle.pli_machine_loading.proofs.linking.link_unit.Given as goal

-- the globals that are left are linked after those so far as all are after none
abbrev pub invariant-loop-global : goal.invariant-loop-global
invariant-loop-global l =
    (number : ℕ) (statics : List Static) (externals : List (ℕ × Standing)) → AreKnown l.initial.shared externals
    → GlobalsSoFar l.unit number (drop l.global-index (map global_view l.unit.deck.code.globals.items)) l.taken
    statics externals l.initial.shared l.shared l.table.items
