use Rattle.std.proofs.Common.{map, List, ap, sym, ◌∙◌, subst}
use Rattle.pli_map.specs.views.DescriptionView.{description_view}
use Rattle.pli_value.specs.Value.{Value, value_view}
use Rattle.pli_bytes.specs.answers.Laying.{LaidFront}
use Rattle.pli_bytes.proofs.LaidFronts.{front_scalar}
use Rattle.pli_bytes.proofs.laying.lay_scalar.Goals as goal

pub returns : goal.returns
returns c =
    let d = description_view c.args.description.now in
    let left = map value_view c.in_ok-value.left.now in
    subst (λ (vs : List Value). LaidFront c.args.at d vs left c.args.bytes.now c.put_value_at.new.bytes) (sym (ap (map value_view) c.in_ok-value.ensures.cases.0))
    (front_scalar c.args.at d (value_view c.in_ok-value.value.now) left c.args.bytes.now c.put_value_at.new.bytes c.requires.scalar (sym c.holds.ensures ∙ c.if-not-holds.false)
    c.requires.within c.put_value_at.ensures)
