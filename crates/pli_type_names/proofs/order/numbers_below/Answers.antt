use Rattle.std.proofs.Common.{◌≡◌, ◌+◌, ◌++◌, ◌∷◌, [], suc, ap, ◌∙◌, arith}
use Rattle.pli_type_rules.specs.TextOrder.{numbers_from}
use Rattle.pli_type_rules.proofs.TextNumbers.{numbers_more}
use Rattle.pli_type_names.proofs.order.numbers_below.Goals as goal

pub loop-number-preserved : goal.loop-number-preserved
loop-number-preserved c =
    let l = c.loop-number in
    let same : l.number ≡ 0 + l.number = omega arith in
    let next : suc l.number ≡ l.number + 1 = omega arith in
    c.in_ok-push.ensures.items
    ∙ ap (λ ns. ns ++ l.number ∷ []) l.invariant
    ∙ ap (λ n. numbers_from 0 l.number ++ n ∷ []) same
    ∙ numbers_more 0 l.number
    ∙ ap (numbers_from 0) next
