use Rattle.std.proofs.Common.{◌≡◌, ◌≤◌, ◌+◌, map}
use Rattle.pli_base.specs.views.StatementView.{allocation_view}
use Rattle.pli_type_rules.specs.AllocationTyping.{all_allocated}
use Rattle.pli_type_names.specs.UnitNaming.{naming_in}
use Rattle.pli_type_tree.specs.views.TypedView.{allocated_view}
use Rattle.pli_type_allocation.proofs.AllocatedInTurn.{left}
use Rattle.pli_type_allocation.proofs.allocating.all_allocated.Given as goal

-- those so far in front of those that are left; an item has one temporary at most
abbrev pub invariant-loop-item : goal.invariant-loop-item
invariant-loop-item l = record {
  made : left (naming_in l.naming) l.items l.item-index l.item-index (map allocated_view l.made.items) l.next
      ≡ all_allocated (naming_in l.naming) l.temporary (map allocation_view l.items);
  few : l.next ≤ l.temporary + l.item-index;
}
