use Rattle.std.proofs.Common.{take}
use Rattle.std.specs.List.{All}
use Rattle.pli_type_templates.specs.Globals.{IsLike}
use Rattle.pli_type_templates.specs.views.NumberView.{marks_of}
use Rattle.pli_type_templates.specs.views.PlacedView.{HasGlobalItem, global_view}
use Rattle.pli_type_templates.proofs.global_groups.alike_after.Given as goal

-- those so far are like the first
abbrev pub invariant-loop-count : goal.invariant-loop-count
invariant-loop-count l =
    HasGlobalItem (marks_of l.items) l.first → All (HasGlobalItem (marks_of l.items)) l.more
    → All (λ p. IsLike (global_view l.first) (global_view p)) (take l.count l.more)
