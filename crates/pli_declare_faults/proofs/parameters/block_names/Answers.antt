use Rattle.std.proofs.Common.{◌≡◌, List, sym, ap, ◌∙◌, subst, ◌<◌, ◌≤◌, length, get_or}
use Rattle.std.specs.List.{list_any}
use Rattle.std.specs.Result.{IfOk}
use Rattle.pli_base.specs.Words.{same_name}
use Rattle.pli_base.specs.Name.{Name}
use Rattle.pli_declare_outline.specs.views.OutlineView.{outline_view}
use Rattle.pli_declare.specs.Tables.{Entry, entries_in}
use Rattle.pli_declare_tables.specs.views.TableView.{entries_view}
use Rattle.pli_declare.specs.Resolution.{is_item_named}
use Rattle.pli_declare_faults.proofs.TablesOfBlocks.{table_at, none_declared}
use Rattle.pli_declare_faults.proofs.parameters.block_names.Goals as goal

pub returns-in-Some : goal.returns-in-Some
returns-in-Some c =
    let o = outline_view c.args.outline.now in
    let all = c.args.tables.now.blocks.items in
    let n = c.args.block in
    let x = c.in-Some.table.now in
    let same = c.deref.ensures.value in
    let h = c.in-Some.ensures.lookup in
    let lt = h.3.0 in
    let e : entries_view c.deref-in-Some.result.now ≡ entries_in o n =
    ap entries_view c.deref-in-Some.ensures.value
    ∙ ap (λ t. t.entries) (table_at all o n x c.requires.blocks (subst (λ ts. n < length ts) same lt) (h.1 ∙ ap (λ ts. get_or ts n x) same)) in
    subst (λ (es : List Entry). IfOk c.item_names.result (λ names. (name : Name) → list_any (same_name name) names.keys ≡ list_any (is_item_named name) es)) e c.item_names.ensures

pub returns-in-None : goal.returns-in-None
returns-in-None c =
    let o = outline_view c.args.outline.now in
    let all = c.args.tables.now.blocks.items in
    let n = c.args.block in
    let h = c.in-None.ensures.lookup in
    λ name. ap (list_any (same_name name)) c.new.ensures.empty
    ∙ sym (ap (list_any (is_item_named name)) (none_declared all o n c.requires.blocks (subst (λ ts. length ts ≤ n) c.deref.ensures.value h.3)))
