use Rattle.std.proofs.Common.{drop}
use Rattle.pli_declare_outline.specs.views.OutlineView.{outline_view}
use Rattle.pli_declare_faults.specs.answers.Meeting.{nothing_met}
use Rattle.pli_declare_faults.proofs.AttributesMet.{Leaves, options_good, options_simple}
use Rattle.pli_declare_faults.proofs.known.Known.meet_returned.Given as goal

abbrev pub invariant-loop-option : goal.invariant-loop-option
invariant-loop-option l =
    let o = outline_view l.self.scopes.outline.now in
    Leaves o l.block (options_good o l.block) (options_simple o l.block) nothing_met l.met l.options (drop l.option-index l.options)
