use Rattle.std.proofs.Common.{◌≡◌, ◌++◌, map, drop}
use Rattle.pli_value.specs.Value.{value_view}
use Rattle.pli_type_keys.specs.views.KeyView.{valued}
use Rattle.pli_gen.proofs.entries.copy_values.Given as goal

abbrev pub invariant-loop-key : goal.invariant-loop-key
invariant-loop-key l =
    map value_view l.copied.items ++ map valued (drop l.key-index l.key-items) ≡ map value_view l.initial.copied.items ++ map valued l.tables.values.keys
