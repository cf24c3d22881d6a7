use Rattle.std.proofs.Common.{[], ◌∷◌, ◌++◌, ◌∙◌, ap, map, arith, refl}
use Rattle.pli_link.specs.answers.Linking.{fault_of}
use Rattle.pli_link.proofs.LoopLemmas.{more_joined}
use Rattle.pli_link.proofs.linking.add_faults.Goals as goal

pub loop-name-preserved : goal.loop-name-preserved
loop-name-preserved c =
    let fault = c.args.fault in
    let before = c.loop-name.faults.items in
    more_joined (map (fault_of fault)) (λ name. fault_of fault name ∷ []) (λ x xs. refl)
    c.args.names.now c.loop-name.name-index c.name-item.result before _ _ (omega (arith, c.loop-name-test.true)) c.name-item.is
    (c.in_ok-push.ensures.items ∙ ap (λ f. before ++ f ∷ []) c.fault_of.ensures) c.loop-name.invariant
