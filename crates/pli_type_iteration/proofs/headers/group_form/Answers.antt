use Rattle.std.proofs.Common.{Vec, Global, Some, option_map, ap, sym, ◌∙◌}
use Rattle.pli_type_tree.specs.TypedTree as plain
use Rattle.pli_type_tree.specs.declared.statement.TypedStatement.{TypedStatement}
use Rattle.pli_type_tree.specs.laws.TypedTreeLaws.{group_made, while_made, iterate_made}
use Rattle.pli_type_tree.specs.views.TypedView.{expression_view, statements_view}
use Rattle.pli_type_iteration.specs.Headers.{group_of}
use Rattle.pli_type_parts.specs.Parts.{both}
use Rattle.pli_type_iteration.specs.views.HeaderView.{header_view}
use Rattle.pli_type_iteration.proofs.headers.group_form.Goals as goal
use Rattle.pli_type_iteration.specs.declared.headers.Header.TheVariants as headers

pub returns-in-Plain : goal.returns-in-Plain
returns-in-Plain c =
    ap Some (group_made c.in-Some-list.statements)
    ∙ sym (ap (λ h. both group_of (option_map header_view h) (option_map (λ (list : Vec TypedStatement Global). statements_view list.items) c.args.list)) (c.in-Some.is ∙ ap Some c.in-Plain.is)
    ∙ ap (λ l. both group_of (Some (header_view headers.Plain)) (option_map (λ (list : Vec TypedStatement Global). statements_view list.items) l)) c.in-Some-list.is)

pub returns-in-While : goal.returns-in-While
returns-in-While c =
    ap Some (while_made c.into_inner.result c.in-Some-list.statements
    ∙ ap (λ x. plain.While (expression_view x) (statements_view c.in-Some-list.statements.items)) c.into_inner.ensures)
    ∙ sym (ap (λ h. both group_of (option_map header_view h) (option_map (λ (list : Vec TypedStatement Global). statements_view list.items) c.args.list)) (c.in-Some.is ∙ ap Some c.in-While.is)
    ∙ ap (λ l. both group_of (Some (header_view (headers.While c.in-While.condition))) (option_map (λ (list : Vec TypedStatement Global). statements_view list.items) l)) c.in-Some-list.is)

pub returns-in-Iterate : goal.returns-in-Iterate
returns-in-Iterate c =
    ap Some (iterate_made c.in-Iterate.iteration c.in-Some-list.statements)
    ∙ sym (ap (λ h. both group_of (option_map header_view h) (option_map (λ (list : Vec TypedStatement Global). statements_view list.items) c.args.list)) (c.in-Some.is ∙ ap Some c.in-Iterate.is)
    ∙ ap (λ l. both group_of (Some (header_view (headers.Iterate c.in-Iterate.iteration))) (option_map (λ (list : Vec TypedStatement Global). statements_view list.items) l)) c.in-Some-list.is)
