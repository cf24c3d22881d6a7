use Rattle.std.proofs.Common.{◌≡◌, ◌∷◌, [], length, ap, sym, ◌∙◌}
use Rattle.std.proofs.lemmas.Bool.{eqb-true}
use Rattle.std.proofs.lemmas.List.{nil_from_length}
use Rattle.pli_base.specs.views.SyntaxView.{joined_view}
use Rattle.pli_declare_outline.specs.Outlines.{member_names}
use Rattle.pli_declare_outline.proofs.expressions.names_of.Goals as goal

pub returns-then-is_empty : goal.returns-then-is_empty
returns-then-is_empty c =
    let joined = c.args.joined.now in
    let none : joined ≡ [] = nil_from_length joined (eqb-true (length joined) 0 (sym c.is_empty.ensures ∙ c.if-is_empty.true)) in
    c.one.ensures ∙ ap (λ js. c.args.name ∷ member_names (joined_view js)) (sym none)
