use Rattle.std.proofs.Common.{drop}
use Rattle.pli_declare_outline.specs.views.OutlineView.{outline_view}
use Rattle.pli_declare_faults.proofs.AttributesMet.{Leaves, described_good, described_simple}
use Rattle.pli_declare_faults.proofs.known.Known.meet_described.Given as goal

abbrev pub invariant-loop-attribute : goal.invariant-loop-attribute
invariant-loop-attribute l =
    let o = outline_view l.self.scopes.outline.now in
    Leaves o l.block (described_good o l.block) (described_simple o l.block) l.fn.before l.met l.attributes (drop l.attribute-index l.attributes)
