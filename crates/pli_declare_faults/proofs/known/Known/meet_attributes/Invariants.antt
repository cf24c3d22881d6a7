use Rattle.std.proofs.Common.{drop}
use Rattle.pli_declare_outline.specs.views.OutlineView.{outline_view}
use Rattle.pli_declare_faults.specs.answers.Meeting.{nothing_met}
use Rattle.pli_declare_faults.proofs.AttributesMet.{Leaves, item_good, item_simple}
use Rattle.pli_declare_faults.proofs.known.Known.meet_attributes.Given as goal

abbrev pub invariant-loop-attribute : goal.invariant-loop-attribute
invariant-loop-attribute l =
    let o = outline_view l.self.scopes.outline.now in
    Leaves o l.block (item_good o l.block) (item_simple o l.block) nothing_met l.met l.attributes (drop l.attribute-index l.attributes)
