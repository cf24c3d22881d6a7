use Rattle.std.proofs.Common.{◌≡◌, ◌++◌, List, drop, map}
use Rattle.std.specs.List.{All}
use Rattle.pli_declare_outline.specs.Outlines.{PlacedMark}
use Rattle.pli_declare.specs.views.SymbolView.{symbol_view}
use Rattle.pli_type_rules.specs.NamedUnits.{globals_from, globals_of}
use Rattle.pli_type_templates.specs.ItemNames.{AreOfItems}
use Rattle.pli_type_templates.specs.views.PlacedView.{HasGlobalItem, placed_view}
use Rattle.pli_type_templates.proofs.globals.put_globals.Given as goal

-- the globals so far and those of the symbols that are left are those of all; items say what they are
abbrev pub invariant-loop-number : goal.invariant-loop-number
invariant-loop-number l = record {
  globals : map placed_view l.globals.items
      ++ globals_from 63 (map symbol_view l.symbols) l.number (map symbol_view (drop l.number l.symbols))
      ≡ map placed_view l.fn.globals.items ++ globals_of 63 (map symbol_view l.symbols);
  items : (marks : List PlacedMark) → All (AreOfItems marks) (map symbol_view l.symbols)
      → All (HasGlobalItem marks) l.fn.globals.items → All (HasGlobalItem marks) l.globals.items;
}
