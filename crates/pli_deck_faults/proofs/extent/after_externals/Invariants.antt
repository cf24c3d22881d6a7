use Rattle.std.proofs.Common.{◌≡◌, ◌≤◌, ◌+◌, drop, map}
use Rattle.std.specs.List.{sum_by}
use Rattle.pli_deck_write.specs.ModuleSpelling.{external_bytes}
use Rattle.pli_code.specs.views.CodeView.{external_view, member_view}
use Rattle.pli_deck_faults.proofs.extent.after_externals.Given as goal

-- what is left and all together are what there was and those that are left
abbrev pub invariant-loop-external : goal.invariant-loop-external
invariant-loop-external l =
    record {
      small : l.left ≤ 16777216;
      same : l.left + sum_by (external_bytes (map member_view l.units)) (map external_view l.externals) ≡ l.bytes + sum_by (external_bytes (map member_view l.units)) (map external_view (drop l.external-index l.externals));
    }
