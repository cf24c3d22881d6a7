use Rattle.std.proofs.Common.{◌≡◌, ◌<◌, None, false, drop}
use Rattle.std.specs.Prelude.{IfSome}
use Rattle.pli_type_parts.specs.views.AroundView.{lists_view}
use Rattle.pli_type_parts.proofs.SearchLemmas.{searched}
use Rattle.pli_type_parts.proofs.labels.outward_to.Given as goal

-- the lists that are left give what all give; fewer links lead outward than there are lists
abbrev pub invariant-loop-list : goal.invariant-loop-list
invariant-loop-list l = record {
  left : searched l.label l.outward l.lasting l.is_inside (lists_view (drop l.list-index l.lists))
      ≡ searched l.label None None false (lists_view l.lists);
  few : IfSome l.outward (λ links. links < l.list-index);
  few_lasting : IfSome l.lasting (λ links. links < l.list-index);
}
