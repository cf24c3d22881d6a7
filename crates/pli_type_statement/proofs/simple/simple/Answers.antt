use Rattle.std.proofs.Common.{◌≡◌, length, map, ap, arith}
use Rattle.pli_base.specs.views.StatementView as source
use Rattle.pli_type_walk.specs.NumbersTaken.{taken_of}
use Rattle.pli_type_statement.proofs.simple.simple.Goals as goal

pub allocate-requires-clause-room : goal.allocate-requires-clause-room
allocate-requires-clause-room c =
    let taken : taken_of (source.body_view c.args.body.now) ≡ length (map source.allocation_view c.in-Allocate.items.items) =
    ap (λ b. taken_of (source.body_view b)) c.in-Allocate.is in
    let same = ap (λ xs. length (map source.allocation_view xs)) c.as_slice.ensures.value in
    omega (arith, c.requires.room, taken, same)
