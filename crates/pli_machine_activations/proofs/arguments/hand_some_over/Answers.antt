use Rattle.std.proofs.Common.{◌∙◌, map, sym, ap, arith}
use Rattle.std.specs.Prelude.{not, get_or}
use Rattle.std.specs.List.{filter}
use Rattle.std.proofs.lemmas.List.{take_all}
use Rattle.pli_world.specs.World.{is_given}
use Rattle.pli_store.specs.views.StorageView.{place_view}
use Rattle.pli_machine_activations.proofs.GivenPlaces.{given_as, passes_more, fails_more}
use Rattle.pli_machine_activations.proofs.arguments.hand_some_over.Goals as goal
use Rattle.pli_machine_activations.proofs.arguments.hand_some_over.Goals.{then-is_given+in_ok-push, else-is_given+in_ok-push-2}

pub loop-generation-preserved : goal.loop-generation-preserved
loop-generation-preserved c =
    let places = c.args.places.now in
    let pending = c.args.pending.now in
    let i = c.loop-generation.generation-index in
    let given = sym (given_as (get_or pending i 0) places) ∙ sym c.is_given.ensures in
    elim c.if-is_given.branch [
      | then-is_given+in_ok-push w ↦
          record {
            handed =
                passes_more (is_given (map place_view places)) pending c.loop-generation.handed.items c.if-is_given.handed.items i (omega arith) c.loop-generation.invariant.handed
                (given ∙ w.if-is_given.true) (ap (λ v. v.items) w.handed-is ∙ w.in_ok-push.ensures.items);
            others =
                fails_more (λ g. not (is_given (map place_view places) g)) pending c.loop-generation.others.items c.if-is_given.others.items i (omega arith) c.loop-generation.invariant.others
                (ap not (given ∙ w.if-is_given.true)) (ap (λ v. v.items) w.others-is);
          }
      | else-is_given+in_ok-push-2 w ↦
          record {
            handed =
                fails_more (is_given (map place_view places)) pending c.loop-generation.handed.items c.if-is_given.handed.items i (omega arith) c.loop-generation.invariant.handed
                (given ∙ w.if-is_given.false) (ap (λ v. v.items) w.handed-is);
            others =
                passes_more (λ g. not (is_given (map place_view places) g)) pending c.loop-generation.others.items c.if-is_given.others.items i (omega arith) c.loop-generation.invariant.others
                (ap not (given ∙ w.if-is_given.false)) (ap (λ v. v.items) w.others-is ∙ w.in_ok-push-2.ensures.items);
          }
    ]

pub loop-generation-init : goal.loop-generation-init
loop-generation-init c = record { handed = c.new-handed.ensures.items; others = c.new-others.ensures.items }

pub returns : goal.returns
returns c =
    let pending = c.args.pending.now in
    let given = is_given (map place_view c.args.places.now) in
    let all = take_all c.loop-generation.generation-index pending c.loop-generation-test.false in
    (c.loop-generation.invariant.handed ∙ ap (filter given) all, c.loop-generation.invariant.others ∙ ap (filter (λ g. not (given g))) all)
