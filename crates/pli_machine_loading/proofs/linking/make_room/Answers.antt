use Rattle.std.proofs.Common.{None, [], ◌∷◌, length, ap, ◌∙◌, arith}
use Rattle.std.specs.Prelude.{get_or}
use Rattle.std.proofs.lemmas.List.{length-append}
use Rattle.pli_machine_loading.proofs.ExternalPlaces.{none_more}
use Rattle.pli_machine_loading.proofs.linking.make_room.Goals as goal

pub loop-count-preserved : goal.loop-count-preserved
loop-count-preserved c =
    let before = c.loop-count.externals.items in
    let pushed = c.in_ok-push.ensures.items in
    record {
      count = ap length pushed ∙ length-append before (None ∷ []) ∙ omega (arith, c.loop-count.invariant.count);
      same = λ other. ap (λ xs. get_or xs other None) pushed ∙ none_more before other ∙ c.loop-count.invariant.same other;
    }

pub returns : goal.returns
returns c = record { room = omega (arith, c.loop-count.invariant.count, c.loop-count-test.false); same = c.loop-count.invariant.same }
