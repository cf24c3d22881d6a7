use Rattle.std.proofs.Common.{◌∷◌, [], ◌++◌, None, ap, ◌∙◌, arith}
use Rattle.std.proofs.lemmas.List.{replicate_more}
use Rattle.pli_machine_activations.proofs.entering.unset_all.Goals as goal

pub loop-unset-init : goal.loop-unset-init
loop-unset-init c = record { items = c.reserve.ensures.items ∙ c.clear.ensures.items; room = omega (arith, c.in_ok-reserve.ensures.ok) }

pub loop-unset-preserved : goal.loop-unset-preserved
loop-unset-preserved c =
    let was = c.loop-unset.invariant in
    record {
      items = c.push_reserved.ensures.items ∙ ap (λ xs. xs ++ None ∷ []) was.items ∙ replicate_more c.loop-unset._unset None;
      room = omega (arith, was.room, c.push_reserved.ensures.len, c.push_reserved.ensures.capacity);
    }
