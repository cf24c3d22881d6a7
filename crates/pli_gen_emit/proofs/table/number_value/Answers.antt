use Rattle.std.proofs.Common.{min, ap, ◌∙◌, refl}
use Rattle.pli_type_keys.specs.Same.{same_value}
use Rattle.pli_type_keys.specs.views.KeyView.{valued}
use Rattle.pli_gen_emit.proofs.KeyLemmas.{inserted}
use Rattle.pli_gen_emit.proofs.NumberLemmas.{place_is_number}
use Rattle.pli_gen_emit.proofs.table.number_value.Goals as goal

pub returns-clause-numbers : goal.returns-clause-numbers
returns-clause-numbers c = record {
  memory = λ h. h;
  descriptions = λ h. refl;
  templates = λ h. refl;
  values = λ h. inserted valued same_value c.args.tables.now.values.keys c.insert_full.new.self.keys (record { value = c.args.value }) c.in-Ok.ensures.keys;
}

pub returns-clause-number : goal.returns-clause-number
returns-clause-number c =
    λ h. c.short.ensures ∙ ap (λ n. min n 65535) (c.in-Ok.ensures.index ∙ place_is_number valued same_value c.args.tables.now.values.keys (record { value = c.args.value }))
