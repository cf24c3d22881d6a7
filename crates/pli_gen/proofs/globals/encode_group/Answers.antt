use Rattle.std.proofs.Common.{◌++◌, ◌∙◌, ap, map, replicate, sym}
use Rattle.std.proofs.lemmas.Result.{on_ok_weaker}
use Rattle.pli_type_tree.specs.views.GlobalView.{signature_view, global_group_view}
use Rattle.pli_type_tree.specs.views.TemplateView.{template_view}
use Rattle.pli_code.specs.CodeTables as plain
use Rattle.pli_code.specs.views.CodeView.{global_view}
use Rattle.pli_gen_emit.specs.Encoding.{template_number, signature_code, global_code}
use Rattle.pli_gen_emit.specs.views.TableView.{tables_view}
use Rattle.pli_gen_emit.proofs.GlobalLemmas.{own_coded, external_coded, entries_coded}
use Rattle.pli_gen.proofs.globals.encode_group.Goals as goal

pub returns-in-OwnVariables : goal.returns-in-OwnVariables
returns-in-OwnVariables c =
    let b = c.in-OwnVariables in
    let v = b.variables in
    let t = tables_view c.args.numbers.tables.now in
    let before = map global_view c.args.globals.now.items in
    on_ok_weaker c.put_own.result (λ e. e
    ∙ ap (λ n. before ++ replicate v.count (plain.OwnVariable b.kind n)) (c.template-number.ensures ∙ ap (template_number t) c.template_key.ensures)
    ∙ ap (λ gs. before ++ gs) (own_coded t b.kind v.count (template_view v.template))
    ∙ ap (λ g. before ++ map (global_code t) (global_group_view g)) (sym b.is)) c.put_own.ensures

pub returns-in-ExternalVariables : goal.returns-in-ExternalVariables
returns-in-ExternalVariables c =
    let b = c.in-ExternalVariables in
    let t = tables_view c.args.numbers.tables.now in
    let before = map global_view c.args.globals.now.items in
    on_ok_weaker c.put_external.result (λ e. e
    ∙ ap (λ ns. before ++ map (λ name. plain.ExternalVariable name b.kind c.template-number-in-ExternalVariables.result) ns) c.as_slice.ensures.value
    ∙ ap (λ n. before ++ map (λ name. plain.ExternalVariable name b.kind n) b.names.items)
    (c.template-number-in-ExternalVariables.ensures ∙ ap (template_number t) c.template_key-in-ExternalVariables.ensures)
    ∙ ap (λ gs. before ++ gs) (external_coded t b.kind (template_view b.template) b.names.items)
    ∙ ap (λ g. before ++ map (global_code t) (global_group_view g)) (sym b.is)) c.put_external.ensures

pub returns-in-EntryPoints : goal.returns-in-EntryPoints
returns-in-EntryPoints c =
    let b = c.in-EntryPoints in
    let t = tables_view c.args.numbers.tables.now in
    let s = signature_view b.signature in
    let before = map global_view c.args.globals.now.items in
    on_ok_weaker c.encode_entries.result (λ e. e
    ∙ ap (λ ns. before ++ map (λ name. plain.EntryPoint name (signature_code t s)) ns) c.as_slice-in-EntryPoints.ensures.value
    ∙ ap (λ gs. before ++ gs) (entries_coded t s b.names.items)
    ∙ ap (λ g. before ++ map (global_code t) (global_group_view g)) (sym b.is)) c.encode_entries.ensures
