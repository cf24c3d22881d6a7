use Rattle.std.proofs.Common.{◌≡◌, Some, List, length, suc, ◌+◌, ◌-◌, take, drop, refl, sym, subst, option_map, arith}
use Rattle.std.proofs.lemmas.List.{take_rest}
use Rattle.std.proofs.lemmas.Option.{slice_get_read}
use Rattle.pli_map.specs.declared.description.Bounds.{Bounds}
use Rattle.pli_map.specs.Description.{Description, Array}
use Rattle.pli_map.specs.Dimensions.{dimension_at, dimension_before}
use Rattle.pli_map.specs.views.DescriptionView.{description_view}
use Rattle.pli_map.specs.views.DimensionView.{AreDimensions}
use Rattle.pli_map.proofs.dimension.dimension_of.Goals as goal

pub returns : goal.returns
returns c =
    let bs = c.args.bounds.now in
    let e = description_view c.args.element.now in
    let h = c.in_ok-own.ensures.lookup in
    let there = slice_get_read bs (length bs) c.args.at c.in_ok-own.field-0.now refl h.3.0 h.1 in
    let next : c.args.at + 1 ≡ suc c.args.at = omega arith in
    let seen = λ (w : Description) (later : List Bounds). AreDimensions (Some (dimension_before w e later c.in_ok-own.field-0.now)) (Some c.dimension_before.result) in
    subst (λ w. AreDimensions (dimension_at w (suc c.args.at)) (Some c.dimension_before.result)) (sym c.requires)
    (subst (λ own. AreDimensions (option_map (dimension_before (Array bs e) e (drop (suc c.args.at) bs)) own) (Some c.dimension_before.result)) (sym there)
    (subst (λ n. seen (Array bs e) (drop n bs)) next
    (subst (seen (Array bs e)) (take_rest bs (c.args.at + 1))
    (subst (λ w. seen w (take (length bs - (c.args.at + 1)) (drop (c.args.at + 1) bs))) c.requires c.dimension_before.ensures))))
