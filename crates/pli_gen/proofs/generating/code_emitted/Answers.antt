use Rattle.std.proofs.Common.{◌≡◌, ◌∙◌, true, not, ap, map, sym}
use Rattle.std.specs.Result.{is_ok}
use Rattle.pli_map.specs.views.ParameterView.{type_view}
use Rattle.pli_value.specs.Value.{value_view}
use Rattle.pli_code.specs.views.CodeView.{coded_template_view, global_view, block_view}
use Rattle.pli_gen_emit.proofs.KeyLemmas.{at_ok}
use Rattle.pli_gen.proofs.UnitLemmas.{nothing_coded}
use Rattle.pli_gen.proofs.generating.code_emitted.Goals as goal

pub encode_unit-requires-clause-empty : goal.encode_unit-requires-clause-empty
encode_unit-requires-clause-empty c =
    nothing_coded _ _ _ _ _ _ _ c.new.ensures.items (ap (map type_view) c.new-2.ensures.items) (ap (map coded_template_view) c.new-3.ensures.items)
    (ap (map value_view) c.new-4.ensures.items) (ap (map global_view) c.new-5.ensures.items) (ap (map block_view) c.new-6.ensures.items) c.new-7.ensures.items

pub returns : goal.returns
returns c =
    let ok : is_ok c.encode_unit.result ≡ true = c.is_err.ensures.negation ∙ ap not c.if-is_err.false in
    (sym c.is_too_long.ensures ∙ c.if-is_too_long.false, at_ok _ c.encode_unit.result c.encode_unit.ensures ok)
