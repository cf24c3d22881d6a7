use Rattle.std.proofs.Common.{min, ap, ◌∙◌, refl}
use Rattle.pli_map.specs.ParameterTypes.{same_type}
use Rattle.pli_type_keys.specs.views.KeyView.{described}
use Rattle.pli_gen_emit.proofs.KeyLemmas.{inserted}
use Rattle.pli_gen_emit.proofs.NumberLemmas.{place_is_number}
use Rattle.pli_gen_emit.proofs.table.number_type.Goals as goal

pub returns-clause-numbers : goal.returns-clause-numbers
returns-clause-numbers c = record {
  memory = λ h. h;
  descriptions = λ h. inserted described same_type c.args.tables.now.descriptions.keys c.insert_full.new.self.keys (record { of = c.args.of }) c.in-Ok.ensures.keys;
  templates = λ h. refl;
  values = λ h. refl;
}

pub returns-clause-number : goal.returns-clause-number
returns-clause-number c =
    λ h. c.short.ensures ∙ ap (λ n. min n 65535) (c.in-Ok.ensures.index ∙ place_is_number described same_type c.args.tables.now.descriptions.keys (record { of = c.args.of }))
