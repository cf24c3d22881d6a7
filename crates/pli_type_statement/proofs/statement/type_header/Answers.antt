use Rattle.std.proofs.Common.{◌≤◌, ◌+◌, refl, ap, option_map, arith}
use Rattle.pli_base.specs.views.StatementView as source
use Rattle.pli_type_iteration.specs.Headers.{header_typed}
use Rattle.pli_type_iteration.specs.views.HeaderView.{header_view}
use Rattle.pli_type_walk.proofs.WalkLemmas.{own_walked}
use Rattle.pli_type_statement.proofs.statement.type_header.Goals as goal

pub overflow_add-after : goal.overflow_add-after
overflow_add-after c =
    let w = c.args.walk.now in
    let room : w.next.block + w.next.temporary + 4 ≤ 9223372036854775808 = c.requires.room in
    omega (arith, room, c.kept_by.ensures.few)

pub returns : goal.returns
returns c =
    let w = c.args.walk.now in
    own_walked w _ header_view (λ n. header_typed n w.next.temporary (option_map source.control_view c.args.control.now)) c.specified-header.result c.noted.result _
    c.requires.placed c.specified-header.ensures c.noted.ensures.part c.noted.ensures.faults c.noted.ensures.known
    (record { naming = refl; around = refl; globals = refl; placed = record { blocks = c.requires.placed.blocks; templates = c.requires.placed.templates; based = c.requires.placed.based; deep = c.requires.placed.deep } })
    refl (ap (λ k. record { block = w.next.block; temporary = w.next.temporary + k }) c.kept_by.ensures.value)
