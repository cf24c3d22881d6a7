use Rattle.std.proofs.Common.{Some, [], ◌∷◌, ◌++◌, map, sym, ap, ◌∙◌}
use Rattle.pli_store.specs.views.StorageView.{place_view}
use Rattle.pli_machine_operate.specs.views.OperandView.{stack}
use Rattle.pli_machine_activations.proofs.arguments.pop_two.Goals as goal

pub returns-in_default : goal.returns-in_default
returns-in_default c = c.in_default.ensures 1 []

pub returns-in_default-pop_place : goal.returns-in_default-pop_place
returns-in_default-pop_place c =
    c.in-Some.ensures 1 [] ∙ c.in_default-pop_place.ensures 0 (place_view c.in-Some.second ∷ [])

pub returns : goal.returns
returns c =
    c.in-Some.ensures 1 []
    ∙ c.in-Some-pop_place.ensures 0 (place_view c.in-Some.second ∷ [])
    ∙ ap (λ ps. Some (map place_view ps, stack c.pop_place-2.new.operands.items))
    (sym
    (c.push_reserved-2.ensures.items
    ∙ ap (λ ps. ps ++ c.in-Some.second ∷ [])
    (c.in_ok-both.ensures.items
    ∙ c.push_reserved.ensures.items
    ∙ ap (λ ps. ps ++ c.in-Some-pop_place.first ∷ []) (c.in_ok-places.ensures.items ∙ c.requires))))
