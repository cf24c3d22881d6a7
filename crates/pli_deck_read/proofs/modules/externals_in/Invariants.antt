use Rattle.std.proofs.Common.{◌≡◌, ◌≤◌, ◌+◌, length, drop, map}
use Rattle.std.specs.List.{filter}
use Rattle.pli_code.specs.views.CodeView.{global_view}
use Rattle.pli_deck_write.specs.ModuleFields.{is_external}
use Rattle.pli_deck_read.proofs.modules.externals_in.Given as goal

-- those that were counted, and those that are left, are all
abbrev pub invariant-loop-global : goal.invariant-loop-global
invariant-loop-global l =
    record {
      same : l.count + length (filter is_external (map global_view (drop l.global-index l.globals))) ≡ length (filter is_external (map global_view l.globals));
      small : l.count ≤ l.global-index;
    }
