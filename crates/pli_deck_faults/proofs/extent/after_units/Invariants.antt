use Rattle.std.proofs.Common.{◌≡◌, ◌≤◌, ◌+◌, drop, map}
use Rattle.std.specs.List.{sum_by}
use Rattle.pli_deck_write.specs.ModuleSpelling.{static_bytes}
use Rattle.pli_code.specs.views.CodeView.{member_view}
use Rattle.pli_deck_faults.proofs.extent.after_units.Given as goal

-- what is left and all together are what there was and those that are left
abbrev pub invariant-loop-unit : goal.invariant-loop-unit
invariant-loop-unit l =
    record {
      small : l.left ≤ 16777216;
      place : l.place ≡ l.unit-index;
      same : l.left + sum_by (λ u. sum_by (static_bytes u.deck.code) u.deck.code.globals) (map member_view l.units)
          ≡ l.bytes + sum_by (λ u. sum_by (static_bytes u.deck.code) u.deck.code.globals) (map member_view (drop l.unit-index l.units));
    }
