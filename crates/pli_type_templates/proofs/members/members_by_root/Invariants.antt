use Rattle.std.proofs.Common.{◌≡◌, [], drop, map, replicate}
use Rattle.pli_declare.specs.views.SymbolView.{symbol_view}
use Rattle.pli_type_templates.specs.views.ItemView.{rows_view}
use Rattle.pli_type_templates.proofs.MembersFound.{Found}
use Rattle.pli_type_templates.proofs.members.members_by_root.Given as goal

-- there are so many symbols without members
abbrev pub invariant-loop : goal.invariant-loop
invariant-loop l = rows_view l.members.items ≡ replicate l.counter []

-- the members among the symbols passed so far are found
abbrev pub invariant-loop-symbol : goal.invariant-loop-symbol
invariant-loop-symbol l =
    Found (rows_view l.members.items) (map symbol_view (drop l.symbol-index l.symbols)) (map symbol_view l.symbols)
