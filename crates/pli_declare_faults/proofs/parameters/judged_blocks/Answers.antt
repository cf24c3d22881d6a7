use Rattle.std.proofs.Common.{◌≡◌, ◌+◌, ◌<◌, [], ◌∷◌, map, length, get_or, sym, ap, ◌∙◌, subst, zero-add, arith}
use Rattle.std.proofs.lemmas.List.{get_or-map, length-map, map-append}
use Rattle.pli_declare_outline.specs.views.OutlineView.{outline_view}
use Rattle.pli_declare.specs.Tables.{entries_in, numbers_from}
use Rattle.pli_declare_tables.specs.views.TableView.{entries_view}
use Rattle.pli_declare.specs.answers.Owners.{AreAfterOwners}
use Rattle.pli_declare_variables.specs.Judging.{all_judged}
use Rattle.pli_declare.specs.Resolution.{parameters_of}
use Rattle.pli_declare_faults.proofs.NumberLists.{number_at, length_of_numbers, one_more}
use Rattle.pli_declare_faults.proofs.TablesOfBlocks.{how_many, table_at}
use Rattle.pli_declare_faults.proofs.parameters.judged_blocks.Goals as goal

pub judge-requires : goal.judge-requires
judge-requires c =
    let o = outline_view c.args.outline.now in
    let all = c.args.tables.now.blocks.items in
    let n = c.loop-block.block in
    let x = c.table-item.result in
    let same = c.deref-table-items.ensures.value in
    let lt : n < length all = omega (arith, ap length same) in
    let e = table_at all o n x c.requires.tabled.blocks lt (c.table-item.is ∙ ap (λ ts. get_or ts n x) same) in
    subst AreAfterOwners (sym (ap entries_view c.deref.ensures.value ∙ ap (λ t. t.entries) e)) (c.owners_stand_before.ensures o n)

pub loop-block-preserved : goal.loop-block-preserved
loop-block-preserved c =
    let o = outline_view c.args.outline.now in
    let all = c.args.tables.now.blocks.items in
    let n = c.loop-block.block in
    let x = c.table-item.result in
    let same = c.deref-table-items.ensures.value in
    let count = length o.regions + 1 in
    let lt : n < length all = omega (arith, ap length same) in
    let within : n < count = omega (arith, lt, how_many all o c.requires.tabled.blocks) in
    let e : entries_view c.deref.result.now ≡ entries_in o n =
    ap entries_view c.deref.ensures.value ∙ ap (λ t. t.entries) (table_at all o n x c.requires.tabled.blocks lt (c.table-item.is ∙ ap (λ ts. get_or ts n x) same)) in
    let ps = c.args.parameters.now in
    let y = c.index-parameters-block.result in
    let inside : n < length ps = omega (arith, within, length-map ps (λ list. list.items), ap length c.requires.parameters, length_of_numbers (parameters_of o) 0 count) in
    let p : c.deref-in-loop-block.result.now ≡ parameters_of o n =
    c.deref-in-loop-block.ensures.value ∙ ap (λ list. list.items) c.index-parameters-block.is ∙ sym (get_or-map (λ list. list.items) ps n y y.items inside)
    ∙ ap (λ ls. get_or ls n y.items) c.requires.parameters ∙ number_at (parameters_of o) 0 count n y.items within ∙ ap (parameters_of o) (zero-add n) in
    ap (map (λ list. list.items)) c.in_ok-push.ensures.items ∙ map-append (λ list. list.items) c.loop-block.judged.items (c.in_ok-judge.field-0 ∷ [])
    ∙ one_more (λ b. all_judged (entries_in o b) (parameters_of o b)) n (map (λ list. list.items) c.loop-block.judged.items) c.in_ok-judge.field-0.items c.loop-block.invariant
    (c.in_ok-judge.ensures ∙ ap (λ es. all_judged es c.deref-in-loop-block.result.now) e ∙ ap (all_judged (entries_in o n)) p)

pub returns : goal.returns
returns c =
    let o = outline_view c.args.outline.now in
    c.loop-block.invariant
    ∙ ap (λ n. map (λ b. all_judged (entries_in o b) (parameters_of o b)) (numbers_from 0 n))
    (omega (arith, how_many c.args.tables.now.blocks.items o c.requires.tabled.blocks, ap length c.deref-table-items.ensures.value))
