use Rattle.std.proofs.Common.{[], ◌∙◌, ◌-◌, ◌+◌, map, reverse, sym, ap, arith}
use Rattle.pli_store.specs.views.StorageView.{place_view}
use Rattle.pli_machine_step.specs.Machine.{places_off}
use Rattle.pli_machine_operate.specs.views.OperandView.{stack}
use Rattle.pli_machine_activations.proofs.GivenPlaces.{none_off, one_off}
use Rattle.pli_machine_activations.proofs.arguments.pop_more.Goals as goal

pub loop-taken-init : goal.loop-taken-init
loop-taken-init c =
    ap (λ k. places_off k [] (stack c.args.operands.now.items)) (omega arith)
    ∙ ap (λ ps. places_off (c.args.count - 0) (map place_view (reverse ps)) (stack c.args.operands.now.items)) (sym c.requires)

pub returns-in_default : goal.returns-in_default
returns-in_default c =
    c.loop-taken.invariant
    ∙ none_off (c.args.count - c.loop-taken._taken) (c.args.count - (c.loop-taken._taken + 1)) _ _ (omega arith) c.in_default.ensures

pub loop-taken-preserved : goal.loop-taken-preserved
loop-taken-preserved c =
    c.loop-taken.invariant
    ∙ one_off (c.args.count - c.loop-taken._taken) (c.args.count - (c.loop-taken._taken + 1)) c.loop-taken.places.items c.push.new.self.items c.in-Some.taken c.place.result
    (stack c.loop-taken.operands.items) (stack c.take_place.new.operands.items) (omega arith) c.in-Some.ensures c.place.ensures c.in_ok-push.ensures.items
