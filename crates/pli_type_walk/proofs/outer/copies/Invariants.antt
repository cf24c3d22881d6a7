use Rattle.std.proofs.Common.{◌≡◌, ◌++◌, drop, map}
use Rattle.pli_map.specs.views.ParameterView.{type_seen, type_view}
use Rattle.pli_type_walk.proofs.outer.copies.Given as goal

-- the copies so far, with those of what is left
abbrev pub invariant-loop-taken : goal.invariant-loop-taken
invariant-loop-taken l =
    map type_view l.made.items ++ map type_seen (drop l.taken-index l.types)
    ≡ map type_seen l.types
