use Rattle.std.proofs.Common.{◌++◌, [], map, subst}
use Rattle.std.specs.List.{flat_map}
use Rattle.pli_map.specs.ParameterTypes.{Stated}
use Rattle.pli_type_tree.specs.views.GlobalView.{globals_view}
use Rattle.pli_type_tree.specs.views.TypedView.{unit_view}
use Rattle.pli_gen_emit.specs.views.BlockView.{block_trees}
use Rattle.pli_gen_emit.specs.Encoding.{signature_descriptions, global_descriptions, global_templates, block_templates}
use Rattle.pli_gen_emit.specs.answers.Numbering.{Numbers}
use Rattle.pli_gen_emit.proofs.NumberingLemmas.{numbers_both}
use Rattle.pli_gen_emit.proofs.table.number_unit.Goals as goal

pub returns : goal.returns
returns c =
    let u = unit_view c.args.unit.now in
    let bs = block_trees c.args.blocks.now in
    let old = c.args.tables.now in
    let one = c.number_signature.new.tables in
    let two = c.number_globals.new.tables in
    let three = c.number_block_variables.new.tables in
    let from_signature = signature_descriptions u.signature in
    let from_globals = flat_map global_descriptions u.globals in
    let from_blocks = map (λ t. Stated t.description) (block_templates bs) in
    let outside = flat_map global_templates u.globals in
    let globals : Numbers one two from_globals outside [] =
    subst (λ gs. Numbers one two (flat_map global_descriptions (globals_view gs)) (flat_map global_templates (globals_view gs)) []) c.as_slice.ensures.value c.number_globals.ensures in
    numbers_both old two three (from_signature ++ from_globals) from_blocks outside (block_templates bs) [] []
    (numbers_both old one two from_signature from_globals [] outside [] [] c.number_signature.ensures globals) c.number_block_variables.ensures
