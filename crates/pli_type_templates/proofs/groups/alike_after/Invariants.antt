use Rattle.std.proofs.Common.{◌≡◌, take}
use Rattle.std.specs.List.{All}
use Rattle.pli_type_templates.specs.views.ItemView.{HasMadeItem, made_template}
use Rattle.pli_type_templates.specs.views.NumberView.{marks_of}
use Rattle.pli_type_templates.proofs.groups.alike_after.Given as goal

-- those so far are made from what the first is made from
abbrev pub invariant-loop-count : goal.invariant-loop-count
invariant-loop-count l =
    HasMadeItem (marks_of l.items) l.first → All (HasMadeItem (marks_of l.items)) l.more
    → All (λ m. made_template m ≡ made_template l.first) (take l.count l.more)
