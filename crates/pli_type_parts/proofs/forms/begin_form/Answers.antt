use Rattle.std.proofs.Common.{Vec, Global, option_map, ap, sym, ◌∙◌}
use Rattle.pli_type_tree.specs.TypedTree as plain
use Rattle.pli_type_tree.specs.declared.statement.TypedStatement.{TypedStatement}
use Rattle.pli_type_tree.specs.laws.TypedTreeLaws.{begin_made}
use Rattle.pli_type_tree.specs.views.TypedView.{head_view, statements_view}
use Rattle.std.proofs.Common.{Some}
use Rattle.pli_type_parts.proofs.forms.begin_form.Goals as goal

pub returns-in-Some : goal.returns-in-Some
returns-in-Some c =
    ap Some (begin_made c.args.head c.in-Some.statements)
    ∙ sym (ap (λ l. option_map (plain.Begin (head_view c.args.head)) (option_map (λ (list : Vec TypedStatement Global). statements_view list.items) l)) c.in-Some.is)

pub returns-in-None : goal.returns-in-None
returns-in-None c =
    sym (ap (λ l. option_map (plain.Begin (head_view c.args.head)) (option_map (λ (list : Vec TypedStatement Global). statements_view list.items) l)) c.in-None.is)
