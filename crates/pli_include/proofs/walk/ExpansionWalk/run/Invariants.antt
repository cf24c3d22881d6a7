use Rattle.std.proofs.Common.{◌≡◌, []}
use Rattle.pli_include.specs.Expanded.{look_in}
use Rattle.pli_include.specs.answers.Walking.{IsUnderWay, going, work_left}
use Rattle.pli_include.proofs.walk.ExpansionWalk.run.Given as goal

-- going on from here is what going on from the start is
abbrev pub invariant-loop-frame : goal.invariant-loop-frame
invariant-loop-frame l = record {
  same : going 200000 (look_in l.members.entries) [] l.self.frames.items l.self.progress ≡ going 200000 (look_in l.members.entries) [] l.initial.self.frames.items l.initial.self.progress;
  under_way : IsUnderWay (look_in l.members.entries) l.self.progress.looked l.self.texts.items l.self.path.keys l.self.frames.items;
}

abbrev pub decreases-loop-frame : goal.decreases-loop-frame
decreases-loop-frame l = work_left l.self.progress l.self.frames.items
