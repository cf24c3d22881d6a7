use Rattle.std.proofs.Common.{◌&&◌, ◌∙◌, ap, sym, option_map}
use Rattle.std.specs.Option.{option_eq}
use Rattle.pli_type_keys.specs.Same.{same_template}
use Rattle.pli_type_keys.specs.views.KeyView.{templated}
use Rattle.pli_link.proofs.ClassLemmas.{same_class}
use Rattle.pli_link.proofs.mismatches.is_like_first.Goals as goal

pub returns-then-is_same_kind : goal.returns-then-is_same_kind
returns-then-is_same_kind c = λ known t class first_class.
    let first = c.args.first.now in
    let template = option_map templated first.template in
    c.eq.ensures ∙ same_class known template t first.class c.args.class first_class class
    ∙ ap (λ same. same && option_eq same_template template t) (sym c.if-is_same_kind.true ∙ c.is_same_kind.ensures)
