use Rattle.std.proofs.Common.{◌≡◌, ◌≤◌, ◌+◌, drop, map}
use Rattle.pli_base.specs.views.StatementView.{allocation_view}
use Rattle.pli_type_rules.specs.Temporaries.{based_among}
use Rattle.pli_type_names.specs.UnitNaming.{based_in}
use Rattle.pli_type_walk.proofs.temporaries.based_among.Given as goal

-- how many there are so far, with those that are left, and no more than items
abbrev pub invariant-loop-item : goal.invariant-loop-item
invariant-loop-item l = record {
  counted : l.count + based_among (based_in l.naming) (map allocation_view (drop l.item-index l.items))
      ≡ based_among (based_in l.naming) (map allocation_view l.items);
  few : l.count ≤ l.item-index;
}
