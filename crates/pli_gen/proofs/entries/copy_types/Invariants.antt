use Rattle.std.proofs.Common.{◌≡◌, ◌++◌, map, drop}
use Rattle.pli_map.specs.views.ParameterView.{type_view}
use Rattle.pli_type_keys.specs.views.KeyView.{described}
use Rattle.pli_gen.proofs.entries.copy_types.Given as goal

abbrev pub invariant-loop-key : goal.invariant-loop-key
invariant-loop-key l =
    map type_view l.copied.items ++ map described (drop l.key-index l.key-items) ≡ map type_view l.initial.copied.items ++ map described l.tables.descriptions.keys
