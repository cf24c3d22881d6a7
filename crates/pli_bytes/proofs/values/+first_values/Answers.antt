use Rattle.std.proofs.Common.{◌≡◌, ◌++◌, map, length, ap, ◌∙◌, arith}
use Rattle.pli_map.specs.Sizes.{count_of}
use Rattle.pli_map.specs.Values.{first_values}
use Rattle.pli_map.specs.views.DescriptionView.{description_view}
use Rattle.pli_value.specs.Value.{value_view}
use Rattle.pli_map.proofs.FirstValues.{none_more, repeated}
use Rattle.pli_bytes.proofs.values.+first_values.Goals as goal

pub put_elements-returns-then-len-before : goal.put_elements-returns-then-len-before
put_elements-returns-then-len-before t c =
    let new = c.put_first_values.new.values in
    let old = c.args.values.now in
    let lengths : length new.items ≡ length old.items = omega (arith, new.ok.0, old.ok.0) in
    none_more value_view (count_of c.args.bounds.now) old.items new.items (first_values (description_view c.args.element.now))
    c.in_ok-put_first_values.ensures lengths

pub put_elements-returns : goal.put_elements-returns
put_elements-returns t c =
    let made : c.loop-made._made ≡ count_of c.args.bounds.now = omega arith in
    c.loop-made.invariant
    ∙ ap (λ n. map value_view c.args.values.now.items ++ repeated n (first_values (description_view c.args.element.now))) made
