use Rattle.std.proofs.Common.{◌≡◌, ◌++◌, [], false, List, length, map, ap, ◌∙◌, subst}
use Rattle.std.specs.List.{flat_map}
use Rattle.pli_map.specs.ParameterTypes.{Stated, same_type}
use Rattle.pli_type_keys.specs.Same.{same_template}
use Rattle.pli_type_keys.specs.views.KeyView.{described, templated, valued}
use Rattle.pli_type_tree.specs.views.TypedView.{unit_view, procedure_view}
use Rattle.pli_code.specs.CodedInstruction.{Instruction}
use Rattle.pli_gen_emit.specs.Encoding as plain
use Rattle.pli_gen_emit.specs.Encoding.{numbered, signature_descriptions, global_descriptions, global_templates, block_templates}
use Rattle.pli_gen_emit.specs.TreeTranslation.{blocks_of_procedure, by_number, blocks_code}
use Rattle.pli_gen_emit.specs.answers.Emitting.{Emission, emission, extended}
use Rattle.pli_gen_emit.specs.answers.Numbering.{Numbers}
use Rattle.pli_gen_emit.specs.answers.Pieces.{entries_of}
use Rattle.pli_gen_emit.specs.answers.Units.{before_code}
use Rattle.pli_gen_emit.specs.declared.block.BlockSource.{BlockSource}
use Rattle.pli_gen_emit.specs.declared.emitter.Emitter.{Emitter}
use Rattle.pli_gen_emit.specs.declared.emitter.LabelJump.{LabelJump}
use Rattle.pli_gen_emit.specs.declared.table.NumberedTables.{NumberedTables}
use Rattle.pli_gen_emit.specs.views.BlockView.{block_trees}
use Rattle.pli_gen_emit.proofs.KeyLemmas.{same_tables}
use Rattle.pli_gen_emit.proofs.emitting.emit_unit.Goals as goal

pub returns : goal.returns
returns c =
    let u = unit_view c.args.unit.now in
    let bs = block_trees c.in_ok-blocks.blocks.items in
    let ds = signature_descriptions u.signature ++ flat_map global_descriptions u.globals ++ map (λ t. Stated t.description) (block_templates bs) in
    let ts = flat_map global_templates u.globals ++ block_templates bs in
    let start : NumberedTables = record { descriptions = c.new.result; templates = c.new-2.result; values = c.new-3.result; lacks_memory = false } in
    let IsNumbered : List BlockSource → Type 0 = λ xs.
    Numbers start c.number_unit.new.tables
    (signature_descriptions u.signature ++ flat_map global_descriptions u.globals ++ map (λ t. Stated t.description) (block_templates (block_trees xs)))
    (flat_map global_templates u.globals ++ block_templates (block_trees xs)) [] in
    let n = subst IsNumbered c.as_slice-2.ensures.value c.number_unit.ensures in
    let mid : Emitter = record { one = c.args.one; tables = c.number_unit.new.tables; code = c.new-4.result; gotos = c.new-5.result; is_wide = false } in
    let has = c.if-emitter.false in
    let had = c.emit_blocks.ensures.code.0 has in
    let made : plain.NumberedTables → List Instruction → List LabelJump → Emission = λ t is js. record { tables = t; code = is; gotos = js; is_wide = false } in
    let begun : emission mid ≡ before_code u bs =
    ap (λ t. made t c.new-4.result.items c.new-5.result.items)
    (same_tables _ _ _ _ _ _ (n.descriptions had ∙ ap (λ ks. numbered same_type (map described ks) ds) c.new.ensures.empty)
    (n.templates had ∙ ap (λ ks. numbered same_template (map templated ks) ts) c.new-2.ensures.empty) (n.values had ∙ ap (map valued) c.new-3.ensures.empty))
    ∙ ap (λ is. made (before_code u bs).tables is c.new-5.result.items) c.new-4.ensures.items
    ∙ ap (made (before_code u bs).tables []) c.new-5.ensures.items in
    record {
      blocks = c.in_ok-blocks.ensures ∙ ap (λ ps. by_number (flat_map blocks_of_procedure (map procedure_view ps))) c.as_slice.ensures.value;
      entries = c.emit_blocks.ensures.entries has
          ∙ ap (λ xs. xs ++ entries_of (block_trees c.as_slice-3.result.now) (length c.new-4.result.items)) c.new-entries.ensures.items
          ∙ ap (λ xs. entries_of (block_trees xs) (length c.new-4.result.items)) c.as_slice-3.ensures.value
          ∙ ap (λ (is : List Instruction). entries_of bs (length is)) c.new-4.ensures.items;
      code = c.emit_blocks.ensures.code.1 has
          ∙ ap (λ xs. extended (emission mid) (blocks_code (block_trees xs) (length c.new-4.result.items))) c.as_slice-3.ensures.value
          ∙ ap (λ (is : List Instruction). extended (emission mid) (blocks_code bs (length is))) c.new-4.ensures.items
          ∙ ap (λ s. extended s (blocks_code bs 0)) begun;
    }
