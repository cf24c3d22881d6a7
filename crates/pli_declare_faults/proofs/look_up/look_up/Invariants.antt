use Rattle.pli_declare_outline.specs.views.OutlineView.{outline_view}
use Rattle.pli_declare_faults.proofs.BlocksOutwards.{IsLeft, rank}
use Rattle.pli_declare_faults.proofs.look_up.look_up.Given as goal

abbrev pub invariant-loop-here : goal.invariant-loop-here
invariant-loop-here l = IsLeft (outline_view l.scopes.outline.now) l.region l.names l.here

abbrev pub decreases-loop-here : goal.decreases-loop-here
decreases-loop-here l = rank l.here
