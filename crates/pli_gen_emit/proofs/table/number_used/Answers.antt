use Rattle.std.proofs.Common.{◌∙◌, ◌∷◌, [], ap, min}
use Rattle.pli_type_tree.specs.views.TemplateView.{template_view}
use Rattle.pli_gen_emit.specs.Encoding.{numbered, number_in}
use Rattle.pli_type_keys.specs.Same.{same_template}
use Rattle.pli_type_keys.specs.views.KeyView.{templated}
use Rattle.pli_gen_emit.specs.views.TableView.{tables_view}
use Rattle.pli_gen_emit.proofs.table.number_used.Goals as goal

pub returns-clause-numbers : goal.returns-clause-numbers
returns-clause-numbers c =
    let old = tables_view c.args.tables.now in
    let first = c.number_description.ensures.numbers in
    let second = c.number_template.ensures.numbers in
    record {
      memory = λ h. first.memory (second.memory h);
      descriptions = λ h. second.descriptions h ∙ first.descriptions (second.memory h);
      templates = λ h. second.templates h ∙ ap (λ ts. numbered same_template ts (templated c.template_key.result ∷ [])) (first.templates (second.memory h))
          ∙ ap (λ t. numbered same_template old.templates (t ∷ [])) c.template_key.ensures;
      values = λ h. second.values h ∙ first.values (second.memory h);
    }

pub returns-clause-number : goal.returns-clause-number
returns-clause-number c =
    let t = template_view c.args.template.now in
    let mid = tables_view c.number_description.new.tables in
    let second = c.number_template.ensures in
    λ h. second.number h ∙ ap (λ u. min (number_in same_template mid.templates u) 65535) c.template_key.ensures
    ∙ ap (λ ts. min (number_in same_template ts t) 65535) (c.number_description.ensures.numbers.templates (second.numbers.memory h))
