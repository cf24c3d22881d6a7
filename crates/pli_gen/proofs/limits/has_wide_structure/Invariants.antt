use Rattle.std.proofs.Common.{◌≡◌, map, drop}
use Rattle.std.specs.List.{list_any}
use Rattle.pli_gen.specs.Limits.{has_many_types}
use Rattle.pli_type_keys.specs.views.KeyView.{described}
use Rattle.pli_gen.proofs.limits.has_wide_structure.Given as goal

abbrev pub invariant-loop-key : goal.invariant-loop-key
invariant-loop-key l =
    list_any has_many_types (map described (drop l.key-index l.key-items)) ≡ list_any has_many_types (map described l.tables.descriptions.keys)
