use Rattle.std.proofs.Common.{◌≡◌, Some, sym, ap, ◌∙◌}
use Rattle.std.proofs.lemmas.Bool.Decides.{same_from_decides}
use Rattle.pli_map.specs.Description.{Description}
use Rattle.pli_map.specs.ParameterTypes.{ParameterType, Stated, AnyString, AnyArray, ArrayOf, StructureOf, stated, agrees}
use Rattle.pli_map.specs.Same.{same}
use Rattle.pli_map.specs.laws.SameLaws.{same_decides}
use Rattle.pli_map.specs.views.DescriptionView.{description_view}
use Rattle.pli_map.specs.views.ParameterView.{type_seen}
use Rattle.pli_map.proofs.parameter.takes_stated.Goals as goal

-- a description agrees with what is stated as it equals that
agrees_stated : (d : Description) (t : ParameterType) (e : Description) → stated t ≡ Some e → same d e ≡ agrees (Stated d) t
agrees_stated d (Stated own) e h = let one : own ≡ e = cc in ap (same d) (sym one)
agrees_stated d (AnyString f) e h = cc
agrees_stated d (AnyArray k t) e h = cc
agrees_stated d (ArrayOf bs t) e h = cc
agrees_stated d (StructureOf ts) e h = cc

pub returns-in-Some : goal.returns-in-Some
returns-in-Some c =
    let d = description_view c.args.description.now in
    let e = description_view c.in-Some.other.now in
    same_from_decides c.equals.result (same d e) c.equals.ensures (same_decides d e)
    ∙ agrees_stated d (type_seen c.args.argument) e (sym c.in-Some.ensures)
