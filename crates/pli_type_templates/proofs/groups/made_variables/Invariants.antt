use Rattle.std.proofs.Common.{◌≡◌, ◌++◌, List, drop, map}
use Rattle.std.specs.List.{All}
use Rattle.pli_declare_outline.specs.Outlines.{PlacedMark}
use Rattle.pli_declare.specs.views.SymbolView.{symbol_view}
use Rattle.pli_type_rules.specs.NamedUnits.{templates_from, templates_of}
use Rattle.pli_type_templates.specs.Groups.{is_such}
use Rattle.pli_type_templates.specs.ItemNames.{AreOfItems}
use Rattle.pli_type_templates.specs.views.ItemView.{HasMadeItem, made_template}
use Rattle.pli_type_templates.proofs.groups.made_variables.Given as goal

-- the variables so far and those of the symbols that are left are those of all; items say what is made
abbrev pub invariant-loop-number : goal.invariant-loop-number
invariant-loop-number l = record {
  templates : map made_template l.made.items
      ++ templates_from (is_such l.wanted) (map symbol_view l.symbols) l.number (map symbol_view (drop l.number l.symbols))
      ≡ templates_of (is_such l.wanted) (map symbol_view l.symbols);
  items : (marks : List PlacedMark) → All (AreOfItems marks) (map symbol_view l.symbols) → All (HasMadeItem marks) l.made.items;
}
