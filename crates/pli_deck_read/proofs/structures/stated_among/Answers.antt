use Rattle.std.proofs.Common.{◌≡◌, ◌++◌, ◌∷◌, [], List, map, append-nil, append_assoc, sym, ap, ◌∙◌, arith}
use Rattle.std.proofs.lemmas.List.{nil_from_length}
use Rattle.pli_map.specs.declared.parameter.ParameterType.{ParameterType}
use Rattle.pli_map.specs.declared.description.Description.{Description}
use Rattle.pli_map.specs.views.DescriptionView.{description_view}
use Rattle.pli_map.specs.views.ParameterView.{type_view}
use Rattle.pli_deck_write.specs.answers.StatedTypes.{descriptions_among}
use Rattle.pli_deck_write.proofs.TypeLemmas.{among_first}
use Rattle.pli_deck_read.proofs.structures.stated_among.Goals as goal

pub loop-of-init : goal.loop-of-init
loop-of-init c =
    let all = c.into_iter-of-iterator.ensures.into_iter_gives.0 in
    let rest = descriptions_among (map type_view c.into_iter-of-iterator.result.rest.items) in
    ap (λ (ds : List Description). map description_view ds ++ rest) c.new-descriptions.ensures.items
    ∙ ap (λ (ts : List ParameterType). descriptions_among (map type_view ts)) all

pub loop-of-preserved : goal.loop-of-preserved
loop-of-preserved c =
    let steps = c.in-Some.ensures.steps.0 in
    let done = map description_view c.loop-of.descriptions.items in
    let of = type_view c.in-Some.of in
    let left = map type_view c.next.new.self.rest.items in
    let rest = descriptions_among left in
    ap (λ ds. ds ++ rest) c.in_ok-push_stated.ensures
    ∙ append_assoc done (descriptions_among (of ∷ [])) rest
    ∙ ap (λ ds. done ++ ds) (sym (among_first of left))
    ∙ sym (ap (λ (ts : List ParameterType). done ++ descriptions_among (map type_view ts)) steps)
    ∙ c.loop-of.invariant

pub returns : goal.returns
returns c =
    let done = map description_view c.loop-of.descriptions.items in
    let left = c.loop-of.of-iterator.rest.items in
    let none : left ≡ [] = nil_from_length left (omega (arith, c.in-None.ensures.steps.0)) in
    sym (append-nil done) ∙ ap (λ (ts : List ParameterType). done ++ descriptions_among (map type_view ts)) (sym none) ∙ c.loop-of.invariant
