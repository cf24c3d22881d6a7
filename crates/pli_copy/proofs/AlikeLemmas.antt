-- Lists whose members say the same one by one say the same as lists of the tree.
use Rattle.std.proofs.Common.{◌≡◌, ℕ, ◌+◌, ◌<◌, List, [], ◌∷◌, ◌++◌, length, map, take, get_or, refl, ap, ◌∙◌, sym}
use Rattle.std.proofs.lemmas.List.{map_push, take_more}
use Rattle.pli_base.specs.Syntax.{Expressions, Empty, Listed, JoinedParts, Alone, Joined}
use Rattle.pli_base.specs.Syntax as syntax
use Rattle.pli_base.specs.views.SyntaxView.{expression_view, expressions_view, arguments_view, joined_view}
use Rattle.pli_base.specs.declared.syntax.Expression.{Expression}
use Rattle.pli_base.specs.declared.syntax.JoinedPart.{JoinedPart}
use Rattle.pli_copy.specs.views.PartView.{part_view}
use Rattle.pli_base.specs.Statements as tree
use Rattle.pli_base.specs.views.StatementView.{statement_view, statements_view}
use Rattle.pli_base.specs.declared.statement.Statement.{Statement}

-- one item more was copied
pub one_more : {X Y : Type 0} (view : X → Y) (new copied : List X) (x y : X) (xs : List X) (i : ℕ) → i < length xs → y ≡ get_or xs i y → new ≡ copied ++ x ∷ []
    → view x ≡ view y → map view copied ≡ map view (take i xs) → map view new ≡ map view (take (i + 1) xs)
one_more view new copied x y xs i within at made same so_far =
    let taken : take (i + 1) xs ≡ take i xs ++ y ∷ [] = take_more xs i y within ∙ ap (λ z. take i xs ++ z ∷ []) (sym at) in
    ap (map view) made ∙ map_push view copied x ∙ ap (λ vs. vs ++ view x ∷ []) so_far ∙ ap (λ v. map view (take i xs) ++ v ∷ []) same
    ∙ sym (map_push view (take i xs) y) ∙ ap (map view) (sym taken)

-- expressions
abbrev listed : List syntax.Expression → Expressions
listed [] = Empty
listed (e ∷ es) = Listed e (listed es)

in_list : (es : List Expression) → expressions_view es ≡ listed (map expression_view es)
in_list [] = refl
in_list (e ∷ es) = ap (Listed (expression_view e)) (in_list es)

pub expressions_alike : (es fs : List Expression) → map expression_view es ≡ map expression_view fs → expressions_view es ≡ expressions_view fs
expressions_alike es fs alike = in_list es ∙ ap listed alike ∙ sym (in_list fs)

-- parts of a reference
abbrev chained : List JoinedParts → JoinedParts
chained [] = Alone
chained (Alone ∷ more) = chained more
chained (Joined joining name arguments rest ∷ more) = Joined joining name arguments (chained more)

in_chain : (xs : List JoinedPart) → joined_view xs ≡ chained (map part_view xs)
in_chain [] = refl
in_chain (x ∷ xs) = ap (Joined x.joining x.part.name (arguments_view x.part.arguments)) (in_chain xs)

pub parts_alike : (xs ys : List JoinedPart) → map part_view xs ≡ map part_view ys → joined_view xs ≡ joined_view ys
parts_alike xs ys alike = in_chain xs ∙ ap chained alike ∙ sym (in_chain ys)

-- statements
abbrev sequence : List tree.Statement → tree.Statements
sequence [] = tree.Ended
sequence (s ∷ ss) = tree.Before s (sequence ss)

in_sequence : (ss : List Statement) → statements_view ss ≡ sequence (map statement_view ss)
in_sequence [] = refl
in_sequence (s ∷ ss) = ap (tree.Before (statement_view s)) (in_sequence ss)

pub statements_alike : (ss ts : List Statement) → map statement_view ss ≡ map statement_view ts → statements_view ss ≡ statements_view ts
statements_alike ss ts alike = in_sequence ss ∙ ap sequence alike ∙ sym (in_sequence ts)
