use Rattle.std.proofs.Common.{◌≡◌, ◌+◌, ◌++◌, length, drop, map}
use Rattle.std.specs.List.{flat_map}
use Rattle.pli_base.specs.views.DeclarationView.{item_view}
use Rattle.pli_declare_faults.specs.answers.Walks.{name_faults}
use Rattle.pli_declare_faults.proofs.marks.tell_items.Given as goal

-- the faults so far in front of those of what is left
abbrev pub invariant-loop-item : goal.invariant-loop-item
invariant-loop-item l = record {
  number : l.number + length (flat_map (λ i. i.names) (map item_view (drop l.item-index l.items))) ≡ l.first + length (flat_map (λ i. i.names) (map item_view l.items));
  told : l.faults.items ++ name_faults l.codes l.number (flat_map (λ i. i.names) (map item_view (drop l.item-index l.items)))
      ≡ l.initial.faults.items ++ name_faults l.codes l.first (flat_map (λ i. i.names) (map item_view l.items));
}
