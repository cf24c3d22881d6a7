use Rattle.std.proofs.Common.{◌∙◌, ap, length, unwrap_or}
use Rattle.pli_map.specs.ParameterTypes.{same_type}
use Rattle.pli_type_keys.specs.views.KeyView.{described}
use Rattle.pli_gen_emit.proofs.NumberLemmas.{found_number}
use Rattle.pli_gen.proofs.numbers.Numbers.of_type.Goals as goal

pub returns : goal.returns
returns c =
    let keys = c.args.self.now.tables.now.descriptions.keys in
    c.unwrap_or.ensures ∙ ap (unwrap_or c.get_index_of.result) c.len.ensures.len ∙ ap (λ o. unwrap_or o (length keys)) c.get_index_of.ensures.index
    ∙ found_number described same_type keys (record { of = c.args.of })
