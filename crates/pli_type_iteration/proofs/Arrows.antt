-- Arrows among the parts of a reference.
use Rattle.std.proofs.Common.{◌≡◌, Bool, ◌||◌, List, [], ◌∷◌, refl}
use Rattle.std.specs.List.{list_any}
use Rattle.pli_base.specs.Syntax.{Arguments, JoinedParts, Joined}
use Rattle.pli_base.specs.declared.syntax.Identifier.{Identifier}
use Rattle.pli_base.specs.declared.syntax.JoinedPart.{JoinedPart}
use Rattle.pli_base.specs.declared.syntax.Joining.{Joining}
use Rattle.pli_base.specs.declared.syntax.Joining.TheVariants.{Member, Located}
use Rattle.pli_base.specs.views.SyntaxView.{arguments_view, joined_view}
use Rattle.pli_type_rules.specs.StatementTyping.{has_arrow}
use Rattle.pli_type_iteration.specs.Iterations.{is_arrow}

one_arrow : (j : Joining) (name : Identifier) (arguments : Arguments) (more : JoinedParts) (b : Bool) → b ≡ has_arrow more
    → (is_arrow j || b) ≡ has_arrow (Joined j name arguments more)
one_arrow Member name arguments more b h = h
one_arrow Located name arguments more b h = refl

pub arrows_joined : (xs : List JoinedPart) → list_any (λ x. is_arrow x.joining) xs ≡ has_arrow (joined_view xs)
arrows_joined [] = refl
arrows_joined (x ∷ xs) =
    one_arrow x.joining x.part.name (arguments_view x.part.arguments) (joined_view xs) (list_any (λ x. is_arrow x.joining) xs) (arrows_joined xs)
