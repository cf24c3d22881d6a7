use Rattle.std.proofs.Common.{ℕ, ◌<◌, ◌≤◌, ◌++◌, ◌∙◌, List, Option, ap, sym, subst, get_or, length, map, arith}
use Rattle.std.specs.List.{list_all}
use Rattle.std.proofs.lemmas.List.{length-map}
use Rattle.pli_map.specs.views.ParameterView.{type_view}
use Rattle.pli_type_tree.specs.views.GlobalView.{globals_view}
use Rattle.pli_type_tree.specs.views.TypedView.{unit_view}
use Rattle.pli_code.specs.CodeTables.{Code, CodedSignature}
use Rattle.pli_gen_emit.specs.Encoding.{description_number, template_code, global_code}
use Rattle.pli_gen_emit.specs.TreeTranslation.{instructions_of}
use Rattle.pli_gen_emit.specs.views.BlockView.{block_tree, block_trees}
use Rattle.pli_gen_emit.specs.views.TableView.{tables_view}
use Rattle.pli_type_keys.specs.views.KeyView.{described, templated}
use Rattle.pli_gen.specs.answers.Pieces.{first_step, gotos_landed, block_fits, blocks_with_entries}
use Rattle.pli_gen.proofs.CodeFits.{entries_fit, entries_counted}
use Rattle.pli_gen.proofs.UnitEmitted.{short, whole, instructions}
use Rattle.pli_gen.proofs.UnitLemmas.{unit_coded}
use Rattle.pli_gen.proofs.unit.encode_unit.Goals as goal

abbrev signed : List ℕ → Option ℕ → CodedSignature
signed ps r = record { parameters = ps; result = r }

pub invariant_of-numbers : goal.invariant_of-numbers
invariant_of-numbers c =
    let e = c.args.emitted.now in
    let s = short (unit_view c.args.unit.now) e c.requires.emitted c.requires.short in
    let d = length-map e.emitter.tables.descriptions.keys described in
    let t = length-map e.emitter.tables.templates.keys templated in
    record { few_descriptions = omega (arith, s.descriptions, d); few_templates = omega (arith, s.templates, t) }

pub encode_blocks-requires-clause-each : goal.encode_blocks-requires-clause-each
encode_blocks-requires-clause-each c =
    let e = c.args.emitted.now in
    ap length c.as_slice-entries.ensures.value ∙ ap length c.requires.emitted.entries ∙ entries_counted (block_trees e.blocks.items) 0
    ∙ length-map e.blocks.items block_tree ∙ sym (ap length c.as_slice-blocks.ensures.value)

pub encode_blocks-requires-clause-near : goal.encode_blocks-requires-clause-near
encode_blocks-requires-clause-near c =
    let e = c.args.emitted.now in
    let s = short (unit_view c.args.unit.now) e c.requires.emitted c.requires.short in
    let Near : List ℕ → Type 0 = λ es. (k : ℕ) → k < length es → get_or es k 0 ≤ 65535 in
    subst Near (sym (c.as_slice-entries.ensures.value ∙ c.requires.emitted.entries)) (λ k lt. entries_fit (block_trees e.blocks.items) k 65535 s.instructions lt)

pub encode_blocks-requires-clause-narrow : goal.encode_blocks-requires-clause-narrow
encode_blocks-requires-clause-narrow c =
    let s = short (unit_view c.args.unit.now) c.args.emitted.now c.requires.emitted c.requires.short in
    ap (λ bs. list_all block_fits (block_trees bs)) c.as_slice-blocks.ensures.value ∙ s.block_numbers

pub returns : goal.returns
returns c =
    let u = unit_view c.args.unit.now in
    let e = c.args.emitted.now in
    let t = tables_view e.emitter.tables in
    let bs = block_trees e.blocks.items in
    let none = c.requires.empty in
    let emitted = c.extend_from_slice.new.self.items in
    let number = description_number t in
    let taken = ap (λ (x : Code). x.signature.parameters ++ map number (map type_view c.as_slice-taken.result.now)) none
    ∙ ap (λ ds. map number (map type_view ds)) c.as_slice-taken.ensures.value in
    unit_coded t u bs (instructions_of bs) e.entries.items
    _ _ _ _ _ _ _ c.requires.emitted.entries
    (ap (λ ps. signed ps c.result_number-code.result) (c.in_ok-encode_types.ensures ∙ taken)
    ∙ ap (λ r. signed (map number u.signature.parameters) r) c.result_number-code.ensures)
    (c.in_ok-copy_types.ensures ∙ ap (λ (x : Code). x.descriptions ++ t.descriptions) none)
    (c.in_ok-encode_templates.ensures ∙ ap (λ (x : Code). x.templates ++ map (template_code t) t.templates) none)
    (c.in_ok-copy_values.ensures ∙ ap (λ (x : Code). x.values ++ t.values) none)
    (c.in_ok-encode_globals.ensures ∙ ap (λ (x : Code). x.globals ++ map (global_code t) (globals_view c.as_slice.result.now)) none
    ∙ ap (λ gs. map (global_code t) (globals_view gs)) c.as_slice.ensures.value)
    (c.in_ok-encode_blocks.ensures ∙ ap (λ (x : Code). x.blocks ++ blocks_with_entries t (block_trees c.as_slice-blocks.result.now) c.as_slice-entries.result.now) none
    ∙ ap (λ xs. blocks_with_entries t (block_trees xs) c.as_slice-entries.result.now) c.as_slice-blocks.ensures.value
    ∙ ap (λ es. blocks_with_entries t bs es) c.as_slice-entries.ensures.value)
    (c.in_ok-land_gotos.ensures
    ∙ ap (gotos_landed (λ n. first_step emitted 0 n 0) emitted) c.as_slice-2.ensures.value
    ∙ instructions u e c.requires.emitted emitted
    (c.in_ok-extend_from_slice.ensures.items ∙ ap (λ (x : Code). x.instructions ++ c.as_slice-instructions.result.now) none ∙ c.as_slice-instructions.ensures.value)
    c.requires.short)
    ∙ whole u e c.requires.emitted
