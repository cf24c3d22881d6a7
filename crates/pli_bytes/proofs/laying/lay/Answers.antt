use Rattle.std.proofs.Common.{map, sym}
use Rattle.pli_map.specs.Scalars.{scalars_of}
use Rattle.pli_map.specs.views.DescriptionView.{description_view}
use Rattle.pli_value.specs.Value.{value_view}
use Rattle.pli_bytes.proofs.HeldValues.{none_taken}
use Rattle.pli_bytes.proofs.LaidFronts.{whole_held, whole_laid}
use Rattle.pli_bytes.proofs.laying.lay.Goals as goal

pub returns-in-Some-clause-held : goal.returns-in-Some-clause-held
returns-in-Some-clause-held c =
    whole_held 0 (description_view c.args.description.now) value_view (map value_view c.args.values.now) c.in-Some.left.now c.args.bytes.now c.lay_at.new.bytes c.is_empty.result
    c.is_empty.ensures c.in-Some.ensures

pub returns-in-Some-clause-laid : goal.returns-in-Some-clause-laid
returns-in-Some-clause-laid c =
    whole_laid (description_view c.args.description.now) value_view (map value_view c.args.values.now) c.in-Some.left.now c.args.bytes.now c.lay_at.new.bytes c.is_empty.result
    c.is_empty.ensures c.in-Some.ensures

pub returns-in-None-clause-held : goal.returns-in-None-clause-held
returns-in-None-clause-held c = sym (none_taken (scalars_of (description_view c.args.description.now)) (map value_view c.args.values.now) c.in-None.ensures)
