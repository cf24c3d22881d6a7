use Rattle.std.proofs.Common.{◌≡◌, [], length, ap, sym, ◌∙◌, eqb-true}
use Rattle.std.proofs.lemmas.List.{nil_from_length}
use Rattle.pli_type_templates.specs.views.ItemView.{items_view, made_view}
use Rattle.pli_type_templates.proofs.ItemsShared.{same_template}
use Rattle.pli_type_templates.proofs.groups.is_made_alike.Goals as goal
use Rattle.pli_type_templates.proofs.groups.is_made_alike.Goals.{then-is_empty, else-is_empty, then-is_empty-2, else-is_empty-2}

pub returns-then-has_same_values : goal.returns-then-has_same_values
returns-then-has_same_values c = λ same left right.
    let l = c.args.left.now in
    let r = c.args.right.now in
    elim c.if-is_empty-2.branch [
      | then-is_empty-2 w ↦ elim c.if-is_empty.branch [
        | then-is_empty v ↦
            (let none : l.members.now ≡ [] = nil_from_length l.members.now (eqb-true (length l.members.now) 0 (sym c.is_empty.ensures ∙ v.if-is_empty.true)) in
            let no_other : r.members.now ≡ [] =
            nil_from_length r.members.now (eqb-true (length r.members.now) 0 (sym v.is_empty-then-is_empty.ensures ∙ sym v.value-is ∙ w.if-is_empty-2.true)) in
            let values = w.has_same_values.ensures (sym w.value-is ∙ c.if-has_same_values.true) left right in
            same_template (made_view l) (made_view r) (ap items_view none) (ap items_view no_other) values
            (c.equals.ensures.0 same))
        | else-is_empty v ↦ cc
      ]
      | else-is_empty-2 w ↦ cc
    ]
