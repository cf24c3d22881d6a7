use Rattle.std.proofs.Common.{◌≡◌, ◌++◌, map, drop}
use Rattle.pli_type_tree.specs.views.TemplateView.{groups_view}
use Rattle.pli_gen_emit.specs.Encoding.{template_number}
use Rattle.pli_gen_emit.specs.views.TableView.{tables_view}
use Rattle.pli_gen.proofs.entries.encode_variables.Given as goal

abbrev pub invariant-loop-group : goal.invariant-loop-group
invariant-loop-group l =
    let number = template_number (tables_view l.numbers.tables.now) in
    l.list.items ++ map number (groups_view (drop l.group-index l.groups)) ≡ l.initial.list.items ++ map number (groups_view l.groups)
