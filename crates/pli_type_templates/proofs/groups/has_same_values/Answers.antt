use Rattle.pli_type_templates.specs.views.NumberView.{marks_of}
use Rattle.pli_type_templates.proofs.ItemsShared.{same_values}
use Rattle.pli_type_templates.proofs.groups.has_same_values.Goals as goal

pub returns : goal.returns
returns c = λ one left right.
    let l = c.args.left.now in
    let r = c.args.right.now in
    same_values (marks_of c.args.items.now) l.at r.at l.values.now r.values.now (c.are_of_one.ensures one) left right
