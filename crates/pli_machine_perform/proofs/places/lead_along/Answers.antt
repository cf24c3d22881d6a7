use Rattle.std.proofs.Common.{true, false, refl, sym, ap, ◌∙◌, rules, w64, SFits}
use Rattle.std.proofs.lemmas.Int.{to_z-of_z}
use Rattle.pli_run.specs.declared.ending.RunError.TheVariants.{SubscriptRange}
use Rattle.pli_world.specs.World.{Yields, Raises, Wrong}
use Rattle.pli_machine_step.specs.Machine.{At, with_operands}
use Rattle.pli_store.specs.views.DimensionSeen.{dimension_seen}
use Rattle.pli_store.specs.views.StorageView.{place_view}
use Rattle.pli_machine_operate.specs.views.OperandView.{stack}
use Rattle.pli_machine_activations.specs.views.MachineView.{Running}
use Rattle.pli_machine_perform.proofs.AlongMoves.{along_gives}
use Rattle.pli_machine_perform.proofs.places.lead_along.Goals as goal

pub along-requires : goal.along-requires
along-requires c = c.if-not-is_within.ensures.inside refl

pub returns-then-not-is_within : goal.returns-then-not-is_within
returns-then-not-is_within c = λ here frames w left.
    let number : SFits w64 c.args.number = search rules in
    let is = rw (to_z-of_z w64 c.args.number number) at c.if-not-is_within.ensures.is in
    along_gives (stack c.args.operands.now.items) here frames w left (dimension_seen c.args.dimension) c.args.number (place_view c.args.place) false
    (Raises SubscriptRange w) (sym is) refl

pub returns-in_ok-push-in-Some : goal.returns-in_ok-push-in-Some
returns-in_ok-push-in-Some c = λ here frames w left.
    let number : SFits w64 c.args.number = search rules in
    let is = rw (to_z-of_z w64 c.args.number number) at c.if-not-is_within.ensures.is in
    let on = rw (to_z-of_z w64 c.args.number number) at c.in-Some.ensures in
    along_gives (stack c.args.operands.now.items) here frames w left (dimension_seen c.args.dimension) c.args.number (place_view c.args.place) true
    (Yields (place_view c.in-Some.part) w) (sym is) (on w)
    ∙ ap (λ xs. Running (At (with_operands xs here) frames w left)) (sym c.in_ok-push-in-Some.ensures)

pub returns-in-None : goal.returns-in-None
returns-in-None c = λ here frames w left.
    let number : SFits w64 c.args.number = search rules in
    let is = rw (to_z-of_z w64 c.args.number number) at c.if-not-is_within.ensures.is in
    let on = rw (to_z-of_z w64 c.args.number number) at c.in-None.ensures in
    along_gives (stack c.args.operands.now.items) here frames w left (dimension_seen c.args.dimension) c.args.number (place_view c.args.place) true
    Wrong (sym is) (on w)
