use Rattle.pli_base.specs.views.StatementView.{unit_view}
use Rattle.pli_declare_outline.specs.Outlines.{outline_of}
use Rattle.pli_type_templates.proofs.NamesNoted.{are_of_one}
use Rattle.pli_type_templates.proofs.item_numbers.ItemNumbers.are_of_one.Goals as goal

pub returns-in-Some-Some : goal.returns-in-Some-Some
returns-in-Some-Some c = λ same.
    let s = c.in-Some-Some in
    are_of_one (outline_of (unit_view c.args.self.now.unit.now)).marks c.args.left c.args.right s.left s.right (c.is_same_item.ensures same) s.ensures s.ensures'
