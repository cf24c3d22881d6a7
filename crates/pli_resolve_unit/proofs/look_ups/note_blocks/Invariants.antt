use Rattle.std.proofs.Common.{◌≡◌, ◌++◌, ℕ, nat_eq, drop, map}
use Rattle.indexmap.specs.IndexMap.{get}
use Rattle.pli_declare.specs.views.BlockView.{block_view}
use Rattle.pli_declare.specs.views.DeclarationView.{declaration_view}
use Rattle.pli_declare.specs.Symbols.{found_after}
use Rattle.pli_declare.specs.ResolvedUnits as spec
use Rattle.pli_resolve_unit.proofs.look_ups.note_blocks.Given as goal

-- what was found so far, with the blocks that are left, is what all of them give
abbrev pub invariant-loop-region : goal.invariant-loop-region
invariant-loop-region l =
    (region : ℕ) → found_after (get nat_eq l.procedures region) (spec.procedures_of l.numbers l.region (map block_view (drop l.region l.blocks))) region
    ≡ found_after (get nat_eq l.fn.procedures region) (spec.procedures_from l.outermost 0 (map declaration_view l.unit) ++ spec.procedures_of l.numbers 0 (map block_view l.blocks)) region
