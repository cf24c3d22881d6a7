use Rattle.std.proofs.Common.{◌++◌, ◌∙◌, ap, arith, map, replicate}
use Rattle.pli_type_tree.specs.views.TemplateView.{group_view}
use Rattle.pli_gen_emit.specs.Encoding.{template_number}
use Rattle.pli_gen_emit.specs.views.TableView.{tables_view}
use Rattle.pli_gen_emit.proofs.NumberLemmas.{group_numbered, more_groups}
use Rattle.pli_gen.proofs.entries.encode_variables.Goals as goal

pub loop-group-preserved : goal.loop-group-preserved
loop-group-preserved c =
    let groups = c.args.groups.now in
    let i = c.loop-group.group-index in
    let g = c.group-item.result in
    let number = template_number (tables_view c.args.numbers.tables.now) in
    let before = c.loop-group.list.items in
    more_groups number groups i g before c.put_times.new.list.items _ (omega arith)
    (c.in_ok-put_times.ensures
    ∙ ap (λ n. before ++ replicate g.count n) (c.template-number.ensures ∙ ap number c.template_key.ensures)
    ∙ ap (λ ns. before ++ ns) (group_numbered number g)
    ∙ ap (λ g. before ++ map number (group_view g)) c.group-item.is)
    c.loop-group.invariant
