use Rattle.std.proofs.Common.{◌≡◌, ◌++◌, drop}
use Rattle.pli_resolve.specs.views.UnitView.{rows_view}
use Rattle.pli_type_rules.specs.NamedUnits.{all_tokens}
use Rattle.pli_type_names.proofs.order.unit_tokens.Given as goal

-- the tokens so far, and those of the blocks that are left, are those of all
abbrev pub invariant-loop-row : goal.invariant-loop-row
invariant-loop-row l =
    l.tokens.items ++ all_tokens 63 (rows_view (drop l.row-index l.symbols)) ≡ all_tokens 63 (rows_view l.symbols)
