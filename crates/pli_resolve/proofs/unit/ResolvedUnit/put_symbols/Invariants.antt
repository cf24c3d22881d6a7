use Rattle.std.proofs.Common.{◌≡◌, ◌++◌, drop, map}
use Rattle.pli_base.specs.views.StatementView.{unit_view}
use Rattle.pli_resolve.specs.views.UnitView.{rows_view}
use Rattle.pli_resolve.proofs.SymbolsAt.{symbols_in}
use Rattle.pli_resolve.proofs.unit.ResolvedUnit.put_symbols.Given as goal

-- the symbols so far, with those of the blocks that are left
abbrev pub invariant-loop-block : goal.invariant-loop-block
invariant-loop-block l =
    rows_view l.made.items ++ map (symbols_in (unit_view l.self)) (drop l.block-index l.blocks)
    ≡ rows_view l.fn.made.items ++ map (symbols_in (unit_view l.self)) l.blocks
