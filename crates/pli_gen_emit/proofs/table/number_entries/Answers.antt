use Rattle.std.proofs.Common.{[], map}
use Rattle.std.specs.List.{flat_map}
use Rattle.pli_type_tree.specs.TypedTree.{EntryPoint}
use Rattle.pli_type_tree.specs.views.GlobalView.{signature_view}
use Rattle.pli_gen_emit.specs.Encoding.{signature_descriptions, global_descriptions, global_templates}
use Rattle.pli_gen_emit.proofs.GlobalLemmas.{not_none, entries_described, entries_templated}
use Rattle.pli_gen_emit.proofs.NumberingLemmas.{numbers_like}
use Rattle.pli_gen_emit.proofs.table.number_entries.Goals as goal

pub returns : goal.returns
returns c =
    let names = c.args.names.now in
    let s = signature_view c.args.signature.now in
    let gs = map (λ name. EntryPoint name s) names in
    let some = not_none names c.is_empty.result c.is_empty.ensures c.if-is_empty.false in
    numbers_like c.args.tables.now c.number_signature.new.tables (signature_descriptions s) (flat_map global_descriptions gs) [] (flat_map global_templates gs) c.number_signature.ensures
    (λ table. entries_described s names some table) (λ table. entries_templated s names table)
