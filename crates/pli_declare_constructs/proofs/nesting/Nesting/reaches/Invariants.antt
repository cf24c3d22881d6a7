use Rattle.std.proofs.Common.{◌≡◌, false}
use Rattle.pli_declare_outline.specs.views.OutlineView.{regions_view}
use Rattle.pli_declare_constructs.specs.Regions.{round_of}
use Rattle.pli_declare_constructs.specs.answers.ReachSteps.{reaches_through}
use Rattle.pli_declare_constructs.proofs.nesting.Nesting.reaches.Given as goal

-- from here on outwards it is as from the beginning
abbrev pub invariant-loop-here : goal.invariant-loop-here
invariant-loop-here l = reaches_through (regions_view l.self-inside.regions.items) l.left (round_of (regions_view l.self-inside.regions.items) l.here) l.label ≡ reaches_through (regions_view l.self-inside.regions.items) false (round_of (regions_view l.self-inside.regions.items) l.from) l.label

abbrev pub decreases-loop-here : goal.decreases-loop-here
decreases-loop-here l = l.here
