use Rattle.std.proofs.Common.{◌≡◌, ◌++◌, map}
use Rattle.std.specs.Iterator.Adapters.{zip_first, zip_second}
use Rattle.std.specs.Slice.Iter.{iter_rest}
use Rattle.pli_base.specs.views.StatementView.{unit_view}
use Rattle.pli_declare.specs.ResolvedUnits.{facts_of}
use Rattle.pli_declare.specs.Symbols.{symbols_with}
use Rattle.pli_declare.specs.views.DeclarationView.{declaration_view}
use Rattle.pli_declare.specs.views.SymbolView.{symbol_view}
use Rattle.pli_resolve.specs.views.TableView.{way_view}
use Rattle.pli_resolve.proofs.unit.ResolvedUnit.symbols_among.Given as goal

-- the symbols so far, with those of the names that are left
abbrev pub invariant-loop-way : goal.invariant-loop-way
invariant-loop-way l =
    let facts = facts_of (unit_view l.self) in
    map symbol_view l.made.items
    ++ symbols_with facts l.parameters (map way_view (iter_rest (zip_first l.way-iterator))) (map declaration_view (iter_rest (zip_second l.way-iterator)))
    ≡ symbols_with facts l.parameters (map way_view l.ways) (map declaration_view l.declarations)
