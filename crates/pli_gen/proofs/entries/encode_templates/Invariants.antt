use Rattle.std.proofs.Common.{◌≡◌, ◌++◌, map, drop}
use Rattle.pli_code.specs.views.CodeView.{coded_template_view}
use Rattle.pli_gen_emit.specs.Encoding.{template_code}
use Rattle.pli_type_keys.specs.views.KeyView.{templated}
use Rattle.pli_gen_emit.specs.views.TableView.{tables_view}
use Rattle.pli_gen.proofs.entries.encode_templates.Given as goal

abbrev pub invariant-loop-key : goal.invariant-loop-key
invariant-loop-key l =
    let tables = tables_view l.numbers.tables.now in
    map coded_template_view l.coded.items ++ map (template_code tables) (map templated (drop l.key-index l.key-items))
    ≡ map coded_template_view l.initial.coded.items ++ map (template_code tables) tables.templates
