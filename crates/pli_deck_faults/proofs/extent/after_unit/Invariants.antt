use Rattle.std.proofs.Common.{◌≡◌, ◌≤◌, ◌+◌, drop, map}
use Rattle.std.specs.List.{sum_by}
use Rattle.pli_code.specs.views.CodeView.{code_view, global_view}
use Rattle.pli_deck_write.specs.ModuleSpelling.{static_bytes}
use Rattle.pli_deck_faults.proofs.extent.after_unit.Given as goal

-- what is left and all together are what there was and those that are left
abbrev pub invariant-loop-global : goal.invariant-loop-global
invariant-loop-global l =
    record {
      small : l.left ≤ 16777216;
      same : l.left + sum_by (static_bytes (code_view l.code)) (map global_view l.code.globals.items) ≡ l.bytes + sum_by (static_bytes (code_view l.code)) (map global_view (drop l.global-index l.code.globals.items));
    }
