use Rattle.std.proofs.Common.{◌+◌, ◌∙◌, None, drop, sym, ap}
use Rattle.std.proofs.lemmas.List.{at_drop_more}
use Rattle.pli_declare.specs.Faults.{lesser}
use Rattle.pli_declare.proofs.LeastFaults.{lesser_grouped}
use Rattle.pli_declare.specs.Resolution.{least}
use Rattle.pli_declare_faults.proofs.least.least.Goals as goal

pub loop-code-preserved : goal.loop-code-preserved
loop-code-preserved c =
    let l = c.loop-code in
    let codes = c.args.codes.now in
    let left = least (drop (l.code-index + 1) codes) in
    let step = at_drop_more least codes l.code-index None c.loop-code-test.true in
    ap (λ a. lesser a left) c.lesser-least.ensures
    ∙ lesser_grouped l.least _ left
    ∙ ap (lesser l.least) (sym step)
    ∙ l.invariant
