use Rattle.std.proofs.Common.{◌≡◌, ◌≤◌, ◌-◌, true, sym, ap, ◌++◌, ◌∙◌, arith}
use Rattle.std.proofs.lemmas.List.{take-replicate}
use Rattle.pli_run.specs.Print.{may_begin, blank}
use Rattle.pli_print.proofs.PrintLemmas.{lead_at}
use Rattle.pli_print.proofs.printing.put_lead.Goals as goal

-- the blanks are a first part of those between two tab stops
pub returns-in_ok-extend_from_slice-in-Some-clause-printed :
    goal.returns-in_ok-extend_from_slice-in-Some-clause-printed
returns-in_ok-extend_from_slice-in-Some-clause-printed c =
    let s = c.in-Some.stop in
    let at = c.args.column in
    let near : s - at ≤ 24 = omega (arith, c.in-Some.ensures.near) in
    let blanks = take-replicate (s - at) 24 blank near in
    let is : may_begin s c.args.size ≡ true = sym c.may_begin.ensures ∙ c.if-may_begin.true in
    let lead_is = lead_at at c.args.size s (sym c.in-Some.ensures.value) is in (
      c.in_ok-extend_from_slice-in-Some.ensures.items ∙ ap (λ b. c.args.output.now.items ++ b) blanks ∙ ap (λ p. c.args.output.now.items ++ p.bytes) (sym lead_is),
      ap (λ p. p.column) (sym lead_is),
    )
