use Rattle.std.proofs.Common.{◌+◌, ◌*◌, pos, int_lt, unsigned_abs, SFits, w16, rules, sym, ap, ◌∙◌}
use Rattle.std.proofs.lemmas.Int.{to_z-of_z}
use Rattle.pli_map.proofs.MarkLemmas.{below_zero, not_below_zero}
use Rattle.pli_map.proofs.marks.bound_mark.Goals as goal

pub returns-then-bound-lt0-clause-value : goal.returns-then-bound-lt0-clause-value
returns-then-bound-lt0-clause-value c =
    let fits : SFits w16 c.args.bound = search rules in
    let whole = to_z-of_z w16 c.args.bound fits in
    let distance = c.from-distance.ensures ∙ c.unsigned_abs.ensures.value ∙ ap unsigned_abs whole in
    ap (λ n. n * 2 + 1) distance ∙ below_zero c.args.bound (sym (ap (λ z. int_lt z (pos 0)) whole) ∙ c.if-bound-lt0.true)

pub returns-else-bound-lt0-clause-value : goal.returns-else-bound-lt0-clause-value
returns-else-bound-lt0-clause-value c =
    let fits : SFits w16 c.args.bound = search rules in
    let whole = to_z-of_z w16 c.args.bound fits in
    let distance = c.from-distance.ensures ∙ c.unsigned_abs.ensures.value ∙ ap unsigned_abs whole in
    ap (λ n. n * 2) distance ∙ not_below_zero c.args.bound (sym (ap (λ z. int_lt z (pos 0)) whole) ∙ c.if-bound-lt0.false)
