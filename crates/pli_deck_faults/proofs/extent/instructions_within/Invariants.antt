use Rattle.std.proofs.Common.{◌≡◌, ◌≤◌, nat_le, length, drop, map}
use Rattle.std.specs.List.{sum_by}
use Rattle.pli_code.specs.views.CodeView.{member_view}
use Rattle.pli_deck_faults.proofs.extent.instructions_within.Given as goal

-- those that are left fit into what is left as all fit into the limit
abbrev pub invariant-loop-unit : goal.invariant-loop-unit
invariant-loop-unit l =
    record {
      small : l.left ≤ 1000000;
      same : nat_le (sum_by (λ u. length u.deck.code.instructions) (map member_view (drop l.unit-index l.units))) l.left ≡ nat_le (sum_by (λ u. length u.deck.code.instructions) (map member_view l.units)) 1000000;
    }
