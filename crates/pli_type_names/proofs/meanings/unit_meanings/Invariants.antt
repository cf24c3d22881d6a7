use Rattle.std.proofs.Common.{◌≡◌, map, take}
use Rattle.pli_base.specs.views.StatementView.{unit_view}
use Rattle.pli_declare.specs.ResolvedUnits.{all_symbols, resolved_unit_of}
use Rattle.pli_type_rules.specs.NamedUnits.{globals_in}
use Rattle.pli_type_names.specs.views.MeaningView.{row_view}
use Rattle.pli_type_names.proofs.BlockLemmas.{rows_of}
use Rattle.pli_type_names.proofs.meanings.unit_meanings.Given as goal

-- the rows so far, and how many globals their blocks have
abbrev pub invariant-loop-block : goal.invariant-loop-block
invariant-loop-block l = record {
  rows : map row_view l.made.items ≡ take l.block (rows_of (resolved_unit_of (unit_view l.resolved)));
  globals : l.globals ≡ globals_in 63 (take l.block (all_symbols (resolved_unit_of (unit_view l.resolved))));
}
