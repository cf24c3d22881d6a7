use Rattle.std.proofs.Common.{◌≡◌, true, sym, subst, ◌∙◌, arith}
use Rattle.std.specs.Option.{is_some}
use Rattle.pli_map.specs.Scalars.{first_scalar}
use Rattle.pli_map.specs.views.DescriptionView.{description_view}
use Rattle.pli_map.proofs.NearScalars.{alone_found, element_found}
use Rattle.pli_map.proofs.near.stands_near.Goals as goal

-- this scalar itself
pub returns-then-mark-from : goal.returns-then-mark-from
returns-then-mark-from c = λ e.
    let whole = description_view c.args._whole.now in
    let part = description_view c.args.part.now in
    let is = c.if-mark-from.true ∙ c.from.ensures in
    subst (λ o. is_some (first_scalar whole o part) ≡ true) (sym c.if-offset-eq0.true)
    (alone_found whole part c.args.mark (λ z. c.in-Some.ensures.some (sym is ∙ z)) c.requires.mark (is ∙ c.in-Some.ensures.mark))

-- an element that is this scalar
pub returns : goal.returns
returns c = λ e.
    let whole = description_view c.args._whole.now in
    let part = description_view c.args.part.now in
    let is = sym c.from-2.ensures ∙ c.if-from-facts.false in
    element_found whole part c.args.elements c.args.offset c.in-Some.facts.stride c.args.size (λ z. c.in-Some.ensures.some (sym is ∙ z)) c.requires.elements
    (is ∙ c.in-Some.ensures.mark) c.in-Some.ensures.stride (c.begins_there.ensures.positive e) c.requires.size (c.begins_there.ensures.begins e)
    (omega (arith, c.if-offset-size.false)) (omega (arith, c.ranges.offset.fits))
