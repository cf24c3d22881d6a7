use Rattle.std.proofs.Common.{sym, ◌∙◌, arith}
use Rattle.pli_map.specs.views.DescriptionView.{description_view}
use Rattle.pli_map.specs.views.PartView.{part_view}
use Rattle.pli_value.specs.Value.{value_view}
use Rattle.pli_bytes.specs.Contents.{scalars_at}
use Rattle.pli_bytes.proofs.ScalarsOn.{on_within}
use Rattle.pli_bytes.proofs.ValuesOn.{none_on, unheld_on, put_on_byte}
use Rattle.pli_bytes.proofs.scalar.put_on.Goals as goal

pub returns-in_default-clause-put : goal.returns-in_default-clause-put
returns-in_default-clause-put c =
    none_on c.args.offset (value_view c.args.value.now) (scalars_at (description_view c.args.description.now)) c.args.bytes.now (sym c.in_default.ensures)

pub put_value_at-requires-clause-within : goal.put_value_at-requires-clause-within
put_value_at-requires-clause-within c =
    omega (arith, c.requires.size, on_within (description_view c.args.description.now) c.args.offset (part_view c.in-Some.scalar) (sym c.in-Some.ensures))

pub returns-then-holds-clause-put : goal.returns-then-holds-clause-put
returns-then-holds-clause-put c =
    (put_on_byte (description_view c.args.description.now) c.args.offset (part_view c.in-Some.scalar) (value_view c.args.value.now) c.args.bytes.now c.put_value_at.new.bytes
    (sym c.in-Some.ensures) (sym c.holds.ensures ∙ c.if-holds.true) c.requires.size c.put_value_at.ensures).0

pub returns-else-holds-clause-put : goal.returns-else-holds-clause-put
returns-else-holds-clause-put c =
    unheld_on c.args.offset (value_view c.args.value.now) (scalars_at (description_view c.args.description.now)) (part_view c.in-Some.scalar) c.args.bytes.now
    (sym c.in-Some.ensures) (sym c.holds.ensures ∙ c.if-holds.false)
