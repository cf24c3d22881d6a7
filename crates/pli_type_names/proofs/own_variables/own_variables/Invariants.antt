use Rattle.std.proofs.Common.{◌≡◌, ◌+◌, ◌++◌, drop, get_or, length, map, option_map}
use Rattle.pli_declare.specs.views.SymbolView.{symbol_view}
use Rattle.pli_type_rules.specs.NamedUnits.{globals_before, is_automatic, is_based, such_before}
use Rattle.pli_type_names.specs.Numbered.{each_from}
use Rattle.pli_type_names.specs.OwnVariables as spec
use Rattle.pli_type_names.specs.views.VariableView.{own_view}
use Rattle.pli_type_names.proofs.own_variables.own_variables.Given as goal

-- which slots and numbers are taken so far; and the variables so far, with those that are left
abbrev pub invariant-loop-number : goal.invariant-loop-number
invariant-loop-number l = record {
  slots : l.free.slot ≡ length l.parameters + such_before (is_automatic 63) (map symbol_view l.symbols) l.number;
  based : l.free.based ≡ such_before (is_based 63) (map symbol_view l.symbols) l.number;
  globals : l.free.globals ≡ l.fn.globals + globals_before 63 (map symbol_view l.symbols) l.number;
  numbers : l.numbers.items
      ++ each_from (λ number s. get_or l.places (l.fn.globals + globals_before 63 (map symbol_view l.symbols) number) 0) l.number (map symbol_view (drop l.number l.symbols))
      ≡ l.fn.numbers.items
      ++ each_from (λ number s. get_or l.places (l.fn.globals + globals_before 63 (map symbol_view l.symbols) number) 0) 0 (map symbol_view l.symbols);
  variables : map (option_map own_view) l.variables.items
      ++ each_from (λ number s. spec.own_at (record { parameters = l.parameters; places = l.places; globals = l.fn.globals; symbols = map symbol_view l.symbols }) number s.kind) l.number
      (map symbol_view (drop l.number l.symbols))
      ≡ spec.own_variables (record { parameters = l.parameters; places = l.places; globals = l.fn.globals; symbols = map symbol_view l.symbols });
}
