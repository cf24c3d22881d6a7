use Rattle.std.proofs.Common.{◌≡◌, ◌++◌, drop, map, slice_get}
use Rattle.pli_base.specs.views.StatementView.{unit_view}
use Rattle.pli_map.specs.views.ParameterView.{type_seen}
use Rattle.pli_declare.specs.ResolvedUnits.{resolved_unit_of}
use Rattle.pli_type_rules.specs.NamedUnits.{block_symbols, type_in, parameters_of}
use Rattle.pli_type_names.proofs.parameters.parameters_of.Given as goal

-- those so far, with those of the numbers that are left
abbrev pub invariant-loop-number : goal.invariant-loop-number
invariant-loop-number l =
    map type_seen l.made.items
    ++ map (λ number. type_in (slice_get (block_symbols (resolved_unit_of (unit_view l.resolved)) l.block) number)) (drop l.number-index l.numbers)
    ≡ parameters_of (resolved_unit_of (unit_view l.resolved)) l.block
