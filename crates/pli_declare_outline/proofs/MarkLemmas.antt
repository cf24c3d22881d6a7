-- The marks of a region, one after another.
use Rattle.std.proofs.Common.{◌≡◌, ℕ, List, [], ◌∷◌, ◌++◌, ap, ◌∙◌, sym, append_assoc}
use Rattle.std.proofs.lemmas.List.{map-append}
use Rattle.pli_base.specs.views.SyntaxView.{reference_view, arguments_view, joined_view}
use Rattle.pli_base.specs.laws.SyntaxLaws.{reference_out}
use Rattle.pli_base.specs.declared.syntax.Identifier.{Identifier}
use Rattle.pli_base.specs.declared.syntax.Reference.{Reference, out-Reference}
use Rattle.pli_declare_outline.specs.Outlines.{Mark, Used, PlacedMark, placed, member_names, reference_marks, argument_marks, joined_marks}

-- marks put after others
pub placed_more : (here : ℕ) (before : List PlacedMark) (xs ys : List Mark) → (before ++ placed here xs) ++ placed here ys ≡ before ++ placed here (xs ++ ys)
placed_more here before xs ys = append_assoc before (placed here xs) (placed here ys) ∙ ap (λ zs. before ++ zs) (sym (map-append (λ m. record { region = here; mark = m }) xs ys))

-- a reference: its names, what stands in parentheses after the first, and what is joined to it
pub reference_marked : (here : ℕ) (r : Reference) (names : List Identifier) (before named given all : List PlacedMark)
    → names ≡ (out-Reference r).first.name ∷ member_names (joined_view (out-Reference r).joined.items)
    → named ≡ before ++ placed here (Used names ∷ [])
    → given ≡ named ++ placed here (argument_marks (arguments_view (out-Reference r).first.arguments))
    → all ≡ given ++ placed here (joined_marks (joined_view (out-Reference r).joined.items))
    → all ≡ before ++ placed here (reference_marks (reference_view r))
reference_marked here r names before named given all n h k l =
    let x = out-Reference r in
    let us = Used (x.first.name ∷ member_names (joined_view x.joined.items)) ∷ [] in
    let gs = argument_marks (arguments_view x.first.arguments) in
    let js = joined_marks (joined_view x.joined.items) in
    l ∙ ap (λ ys. ys ++ placed here js) (k ∙ ap (λ ys. ys ++ placed here gs) (h ∙ ap (λ ns. before ++ placed here (Used ns ∷ [])) n))
    ∙ ap (λ ys. ys ++ placed here js) (placed_more here before us gs)
    ∙ placed_more here before (us ++ gs) js
    ∙ ap (λ v. before ++ placed here (reference_marks v)) (sym (reference_out r))
