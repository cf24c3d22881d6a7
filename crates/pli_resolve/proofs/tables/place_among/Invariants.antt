use Rattle.std.proofs.Common.{◌≡◌, ◌+◌, drop}
use Rattle.pli_declare.specs.Symbols as spec
use Rattle.pli_resolve.proofs.tables.place_among.Given as goal

-- the names so far are others
abbrev pub invariant-loop-place : goal.invariant-loop-place
invariant-loop-place l = l.place + spec.place_among (drop l.place l.names) l.name ≡ spec.place_among l.names l.name
