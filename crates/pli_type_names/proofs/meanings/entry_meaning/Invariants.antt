use Rattle.std.proofs.Common.{◌≡◌, ◌++◌, drop, map}
use Rattle.pli_map.specs.views.ParameterView.{type_seen, type_view}
use Rattle.pli_type_names.proofs.meanings.entry_meaning.Given as goal

-- the parameters so far, with those that are left
abbrev pub invariant-loop-taken : goal.invariant-loop-taken
invariant-loop-taken l =
    map type_seen l.parameters.items ++ map type_view (drop l.taken-index l.described)
    ≡ map type_view l.described
