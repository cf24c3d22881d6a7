use Rattle.std.proofs.Common.{◌≡◌, ◌++◌, drop, map, option_map}
use Rattle.std.specs.List.{All}
use Rattle.pli_declare.specs.views.SymbolView.{symbol_view}
use Rattle.pli_type_names.specs.BlockFacts.{BlockFacts}
use Rattle.pli_type_names.specs.Numbered.{each_from}
use Rattle.pli_type_names.specs.OnWays.{IsLevel}
use Rattle.pli_type_names.specs.OwnVariables.{global_at, own_variables}
use Rattle.pli_type_names.specs.Seen.{kept_symbols, kind_kept}
use Rattle.pli_type_names.specs.views.MeaningView.{meant_view}
use Rattle.pli_type_names.specs.views.VariableView.{own_view}
use Rattle.pli_type_names.proofs.meanings.symbol_meanings.Given as goal

-- the meanings so far, with those of the symbols that are left; and structures to which ways lead
abbrev pub invariant-loop-number : goal.invariant-loop-number
invariant-loop-number l =
    let f : BlockFacts = record { parameters = l.parameters; places = l.places; globals = l.fn.globals; symbols = map symbol_view l.symbols } in
    record {
      meanings : map meant_view l.meanings.items
          ++ each_from (λ number s. kind_kept f.parameters (own_variables f) number (global_at f number) s.kind) l.number (map symbol_view (drop l.number l.symbols))
          ≡ kept_symbols f;
      levels : All (IsLevel (map (option_map own_view) l.variables.items)) l.levels.items;
    }
