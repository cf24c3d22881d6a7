use Rattle.std.proofs.Common.{min, get_or, ap, sym, ◌∙◌}
use Rattle.pli_code.specs.views.CodeView.{code_view}
use Rattle.pli_deck_faults.proofs.StaticSizes.{size_found, template_found}
use Rattle.pli_deck_faults.proofs.extent.template_bytes.Goals as goal

pub returns-in-Some : goal.returns-in-Some
returns-in-Some c =
    let k = c.in-Some.description in
    c.size_at.ensures ∙ ap (λ sizes. get_or sizes k 0) c.requires ∙ size_found c.args.code.now.descriptions.items k
    ∙ ap (λ n. min n 4294967296) (sym (template_found (code_view c.args.code.now) c.args.number k c.in-Some.ensures))
