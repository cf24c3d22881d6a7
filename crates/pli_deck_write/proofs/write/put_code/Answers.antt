use Rattle.std.proofs.Common.{◌++◌, refl, ap, ◌∙◌}
use Rattle.std.proofs.lemmas.Result.{on_ok_weaker}
use Rattle.pli_map.specs.views.ParameterView.{type_view}
use Rattle.pli_code.specs.views.CodeView.{block_view, code_view, coded_template_view, global_view}
use Rattle.pli_value.specs.Value.{value_view}
use Rattle.pli_deck_write.specs.DeckFields.{signature, template, constant, global, block, code}
use Rattle.pli_deck_write.specs.Descriptions.{description}
use Rattle.pli_code.specs.Fields.{list}
use Rattle.pli_code.specs.Instructions.{instruction, instruction_in}
use Rattle.pli_code.specs.Versions.{written}
use Rattle.pli_code.proofs.PutLemmas.{then_put}
use Rattle.pli_deck_write.proofs.DescriptionPuts.{descriptions_put}
use Rattle.pli_deck_write.proofs.PutLemmas.{unmapped, list_put, seven_parts}
use Rattle.pli_deck_write.proofs.write.put_code.Goals as goal

pub returns : goal.returns
unfolding code
returns c =
    let out = c.args.out.now.items in
    let of = c.args.code.now in
    let v = c.args.version in
    let said = code_view of in
    let a = signature.bytes_of said.signature in
    let b = (list (description v)).bytes_of said.descriptions in
    let d = (list (template v)).bytes_of said.templates in
    let e = (list (constant v)).bytes_of said.values in
    let f = (list global).bytes_of said.globals in
    let g = (list block).bytes_of said.blocks in
    let h = (list (instruction_in v)).bytes_of said.instructions in
    let second = then_put out _ _ a b (a ++ b) c.in_ok-put_signature.ensures refl
    (descriptions_put v _ _ said.descriptions (list_put type_view (description written).bytes_of _ _ _ of.descriptions.items c.in_ok-put_list.ensures c.as_slice.ensures.value)) in
    let third = then_put out _ _ (a ++ b) d ((a ++ b) ++ d) second refl
    (list_put coded_template_view (template v).bytes_of _ _ _ of.templates.items c.in_ok-put_list-2.ensures c.as_slice-2.ensures.value) in
    let fourth = then_put out _ _ ((a ++ b) ++ d) e (((a ++ b) ++ d) ++ e) third refl
    (list_put value_view (constant v).bytes_of _ _ _ of.values.items c.in_ok-put_list-3.ensures c.as_slice-3.ensures.value) in
    let fifth = then_put out _ _ (((a ++ b) ++ d) ++ e) f ((((a ++ b) ++ d) ++ e) ++ f) fourth refl
    (list_put global_view global.bytes_of _ _ _ of.globals.items c.in_ok-put_list-4.ensures c.as_slice-4.ensures.value) in
    let sixth = then_put out _ _ ((((a ++ b) ++ d) ++ e) ++ f) g (((((a ++ b) ++ d) ++ e) ++ f) ++ g) fifth refl
    (list_put block_view block.bytes_of _ _ _ of.blocks.items c.in_ok-put_list-5.ensures c.as_slice-5.ensures.value) in
    on_ok_weaker c.put_list-6.result
    (λ put. then_put out _ _ (((((a ++ b) ++ d) ++ e) ++ f) ++ g) h _ sixth (seven_parts a b d e f g h)
    (list_put (λ i. i) instruction.bytes_of _ _ _ of.instructions.items put c.as_slice-6.ensures.value
    ∙ ap (λ is. c.put_list-5.new.out.items ++ (list instruction).bytes_of is) (unmapped of.instructions.items)))
    c.put_list-6.ensures
