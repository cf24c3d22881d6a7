use Rattle.std.proofs.Common.{◌≡◌, map, drop}
use Rattle.pli_base.specs.views.SyntaxView.{reference_view}
use Rattle.pli_type_rules.specs.AllocationTyping.{freed, in_turn}
use Rattle.pli_type_names.specs.UnitNaming.{naming_in}
use Rattle.pli_type_tree.specs.views.TypedView.{freed_view}
use Rattle.pli_type_allocation.proofs.InTurn.{after}
use Rattle.pli_type_allocation.proofs.freeing.all_freed.Given as goal

-- those so far in front of those that are left
abbrev pub invariant-loop-reference : goal.invariant-loop-reference
invariant-loop-reference l =
    after (map freed_view l.made.items) (in_turn (freed (naming_in l.naming)) (map reference_view (drop l.reference-index l.references)))
    ≡ in_turn (freed (naming_in l.naming)) (map reference_view l.references)
