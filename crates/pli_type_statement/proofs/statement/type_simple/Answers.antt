use Rattle.std.proofs.Common.{◌≤◌, ◌+◌, refl, ap, ◌∙◌, arith}
use Rattle.pli_base.specs.views.StatementView as source
use Rattle.pli_type_rules.specs.Temporaries.{temporaries_of}
use Rattle.pli_type_names.specs.UnitNaming.{based_in}
use Rattle.pli_type_tree.specs.views.TypedView.{form_view}
use Rattle.pli_type_walk.specs.NumbersTaken.{taken_of}
use Rattle.pli_type_simple.specs.Simple.{simple_typed}
use Rattle.pli_type_walk.specs.Walking.{around}
use Rattle.pli_type_walk.proofs.RoomLeft.{few_of}
use Rattle.pli_type_walk.proofs.WalkLemmas.{based_named, names_named, own_walked}
use Rattle.pli_type_statement.proofs.statement.type_simple.Goals as goal

pub simple-form-requires-clause-blocks : goal.simple-form-requires-clause-blocks
simple-form-requires-clause-blocks c = c.requires.placed.blocks

pub simple-form-requires-clause-based : goal.simple-form-requires-clause-based
simple-form-requires-clause-based c = λ block. c.requires.placed.based block ∙ based_named c.args.walk.now.naming block

pub simple-form-requires-clause-simple : goal.simple-form-requires-clause-simple
simple-form-requires-clause-simple c = c.requires.simple

pub overflow_add-after : goal.overflow_add-after
overflow_add-after c =
    let w = c.args.walk.now in
    let b = source.body_view c.args.body.now in
    let room : w.next.block + w.next.temporary + taken_of b ≤ 9223372036854775808 = c.requires.room in
    omega (arith, room, c.kept_in.ensures, few_of (based_in w.naming) b)

pub simple-form-requires-clause-room : goal.simple-form-requires-clause-room
simple-form-requires-clause-room c =
    let w = c.args.walk.now in
    let b = source.body_view c.args.body.now in
    let room : w.next.block + w.next.temporary + taken_of b ≤ 9223372036854775808 = c.requires.room in
    omega (arith, room)

pub returns-clause-walked : goal.returns-clause-walked
returns-clause-walked c =
    let w = c.args.walk.now in
    own_walked w _ form_view (λ n. simple_typed n (around w) w.next.temporary c.args.at (source.body_view c.args.body.now)) c.simple-form.result c.noted.result _
    c.requires.placed c.simple-form.ensures c.noted.ensures.part c.noted.ensures.faults c.noted.ensures.known
    (record { naming = refl; around = refl; globals = refl; placed = record { blocks = c.requires.placed.blocks; templates = c.requires.placed.templates; based = c.requires.placed.based; deep = c.requires.placed.deep } })
    refl (ap (λ k. record { block = w.next.block; temporary = w.next.temporary + k })
    (c.kept_in.ensures ∙ ap (λ f. temporaries_of f (source.body_view c.args.body.now)) (names_named w.naming)))
