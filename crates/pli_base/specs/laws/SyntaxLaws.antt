-- A tree that was put together, as its view.
use Rattle.std.proofs.Common.{◌≡◌, Option, Vec, Global, refl, ap, ◌∙◌, sym}
use Rattle.pli_base.specs.Syntax.{Named, JoinedParts, Joined, Absent, Given, Expressions, Listed}
use Rattle.pli_base.specs.views.SyntaxView.{expression_view, reference_view, expression_row, joined_row}
use Rattle.pli_base.specs.views.SyntaxView.{expressions_view, arguments_view, joined_view}
use Rattle.pli_base.specs.declared.syntax.Expression.{Expression}
use Rattle.pli_base.specs.declared.syntax.Expression.TheBlock as block
use Rattle.pli_base.specs.declared.syntax.Identifier.{Identifier}
use Rattle.pli_base.specs.declared.syntax.Joining.{Joining}
use Rattle.pli_base.specs.declared.syntax.JoinedPart.{JoinedPart}
use Rattle.pli_base.specs.declared.syntax.Part.{Part, roll-Part, None', Some'}
use Rattle.pli_base.specs.declared.syntax.Reference.{Reference, outs-Reference', roll-Reference}
use Rattle.pli_base.specs.declared.syntax.Reference.{out-Reference, out-roll-Reference}

expressions_row : (n : _) (k : block.Row_of-Expression n) → expression_row k
    ≡ expressions_view (block.items-the_row-Expression n k)
expressions_row n block.end_of-Expression = refl
expressions_row n (block.more_of-Expression {n = m} e more) =
    ap (Listed (expression_view e)) (expressions_row m more)

joined_same : (joining : Joining) (name : Identifier) (es fs : Expressions) (xs ys : JoinedParts) → es ≡ fs
    → xs ≡ ys → Joined joining name (Given es) xs ≡ Joined joining name (Given fs) ys
joined_same joining name es fs xs ys e f =
    ap (λ gs. Joined joining name (Given gs) xs) e ∙ ap (Joined joining name (Given fs)) f

named_same : (name : Identifier) (es fs : Expressions) (xs ys : JoinedParts) → es ≡ fs → xs ≡ ys
    → Named name (Given es) xs ≡ Named name (Given fs) ys
named_same name es fs xs ys e f = ap (λ gs. Named name (Given gs) xs) e ∙ ap (Named name (Given fs)) f

parts_row : (n : _) (k : block.Row_of-JoinedPart n) → joined_row k
    ≡ joined_view (block.items-the_row-JoinedPart n k)
parts_row n block.end_of-JoinedPart = refl
parts_row n (block.more_of-JoinedPart {n = m} joining name None' more) =
    ap (Joined joining name Absent) (parts_row m more)
parts_row n (block.more_of-JoinedPart {n = m} joining name (Some' s row) more) =
    joined_same joining name _ _ _ _ (expressions_row _ row
    ∙ ap expressions_view (sym (block.items_shown-the_row-Expression-0 s row))) (parts_row m more)

shown_list : (s : _) (row : _) → expression_row row
    ≡ expressions_view (block.shown-the_row-Expression-0 s row).items
shown_list s row =
    expressions_row _ row ∙ ap expressions_view (sym (block.items_shown-the_row-Expression-0 s row))

shown_parts : (s : _) (row : _) → joined_row row ≡ joined_view (block.shown-the_row-JoinedPart-1 s row).items
shown_parts s row = parts_row _ row ∙ ap joined_view (sym (block.items_shown-the_row-JoinedPart-1 s row))

-- what a reference says, by its parts
pub reference_out : (r : Reference) → reference_view r
    ≡ Named (out-Reference r).first.name (arguments_view (out-Reference r).first.arguments)
    (joined_view (out-Reference r).joined.items)
reference_out (block.struct-Reference name None' shape joined) =
    ap (Named name Absent) (shown_parts shape joined)
    ∙ ap (λ x. Named x.first.name (arguments_view x.first.arguments) (joined_view x.joined.items))
    (sym (outs-Reference' name None' shape joined))
reference_out (block.struct-Reference name (Some' s row) shape joined) =
    named_same name _ _ _ _ (shown_list s row) (shown_parts shape joined)
    ∙ ap (λ x. Named x.first.name (arguments_view x.first.arguments) (joined_view x.joined.items))
    (sym (outs-Reference' name (Some' s row) shape joined))

-- a reference that is made of a part and of those joined to it
pub reference_joined : (first : Part) (joined : Vec JoinedPart Global)
    → reference_view (roll-Reference (record { first = first; joined = joined }))
    ≡ Named first.name (arguments_view first.arguments) (joined_view joined.items)
reference_joined first joined =
    reference_out (roll-Reference (record { first = first; joined = joined }))
    ∙ ap (λ x. Named x.first.name (arguments_view x.first.arguments) (joined_view x.joined.items))
    (out-roll-Reference (record { first = first; joined = joined }))

pub reference_made : (name : Identifier) (arguments : Option (Vec Expression Global))
    (joined : Vec JoinedPart Global)
    → reference_view (roll-Reference (record {
      first = roll-Part (record {
        name = name;
        arguments = arguments;
      });
      joined = joined;
    }))
    ≡ Named name (arguments_view arguments) (joined_view joined.items)
reference_made name arguments joined =
    reference_joined (roll-Part (record { name = name; arguments = arguments })) joined
