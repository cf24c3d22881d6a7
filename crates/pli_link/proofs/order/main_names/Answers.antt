use Rattle.std.proofs.Common.{[], ◌∷◌, map, not, if◌then◌else◌, arith}
use Rattle.pli_link.specs.Link.{mains}
use Rattle.pli_link.specs.Units.{procedure_of}
use Rattle.pli_link.specs.views.UnitView.{compiled_view}
use Rattle.pli_link.proofs.LoopLemmas.{more_joined, one_main}
use Rattle.pli_link.proofs.order.main_names.Goals as goal

pub loop-unit-preserved : goal.loop-unit-preserved
loop-unit-preserved c =
    more_joined (λ us. map procedure_of (mains (map compiled_view us))) (λ u. if not u.deck.now.is_main then [] else procedure_of (compiled_view u) ∷ []) one_main
    c.args.units.now c.loop-unit.unit-index c.unit-item.result c.loop-unit.names.items _ _ (omega (arith, c.loop-unit-test.true)) c.unit-item.is
    c.in_ok-add_unless.ensures c.loop-unit.invariant
