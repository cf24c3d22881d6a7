use Rattle.std.proofs.Common.{min, ap, ◌∙◌, refl}
use Rattle.pli_type_keys.specs.Same.{same_template}
use Rattle.pli_type_keys.specs.views.KeyView.{templated}
use Rattle.pli_gen_emit.proofs.KeyLemmas.{inserted}
use Rattle.pli_gen_emit.proofs.NumberLemmas.{place_is_number}
use Rattle.pli_gen_emit.proofs.table.number_template.Goals as goal

pub returns-clause-numbers : goal.returns-clause-numbers
returns-clause-numbers c = record {
  memory = λ h. h;
  descriptions = λ h. refl;
  templates = λ h. inserted templated same_template c.args.tables.now.templates.keys c.insert_full.new.self.keys (c.args.template) c.in-Ok.ensures.keys;
  values = λ h. refl;
}

pub returns-clause-number : goal.returns-clause-number
returns-clause-number c =
    λ h. c.short.ensures ∙ ap (λ n. min n 65535) (c.in-Ok.ensures.index ∙ place_is_number templated same_template c.args.tables.now.templates.keys (c.args.template))
