use Rattle.std.proofs.Common.{◌≡◌, ◌≤◌, ◌+◌, ◌*◌, drop, length}
use Rattle.pli_type_rules.specs.InitialScalars.{values_written}
use Rattle.pli_type_templates.proofs.values.elements_written.Given as goal

-- those counted so far and those that are left are all
abbrev pub invariant-loop-written : goal.invariant-loop-written
invariant-loop-written l = record {
  all : l.count + length (values_written (drop l.written-index l.values)) ≡ length (values_written l.values);
  bound : l.count ≤ l.written-index * 18446744073709551615;
}
