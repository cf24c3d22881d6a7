use Rattle.std.proofs.Common.{◌≡◌, ◌++◌, map, drop}
use Rattle.pli_declare.specs.views.SymbolView.{symbol_view}
use Rattle.pli_type_rules.specs.NamedUnits.{global_tokens}
use Rattle.pli_type_names.proofs.order.put_tokens.Given as goal

-- the tokens so far, and those of the symbols that are left, are those of all
abbrev pub invariant-loop-symbol : goal.invariant-loop-symbol
invariant-loop-symbol l =
    l.tokens.items ++ global_tokens 63 (map symbol_view (drop l.symbol-index l.symbols))
    ≡ l.fn.tokens.items ++ global_tokens 63 (map symbol_view l.symbols)
