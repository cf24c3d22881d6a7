use Rattle.std.proofs.Common.{refl, arith}
use Rattle.pli_declare_outline.specs.views.OutlineView.{outline_view}
use Rattle.pli_declare_faults.proofs.AttributesMet.{one_met, all_met, described_good, described_simple}
use Rattle.pli_declare_faults.proofs.known.Known.meet_described.Goals as goal

pub loop-attribute-preserved : goal.loop-attribute-preserved
loop-attribute-preserved c =
    let l = c.loop-attribute in
    let o = outline_view c.args.self.now.scopes.outline.now in
    one_met o c.args.block (described_good o c.args.block) (described_simple o c.args.block) c.args.before l.met c.meet_plain-met.result
    c.args.attributes.now l.attribute-index c.attribute-item.result _ _ (omega arith) c.attribute-item.is refl refl c.meet_plain-met.ensures l.invariant

pub returns : goal.returns
returns c =
    let l = c.loop-attribute in
    let o = outline_view c.args.self.now.scopes.outline.now in
    all_met o c.args.block (described_good o c.args.block) (described_simple o c.args.block) c.args.before l.met c.args.attributes.now l.attribute-index c.loop-attribute-test.false refl refl l.invariant
