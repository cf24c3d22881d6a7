use Rattle.std.proofs.Common.{Some, [], ◌∷◌, ◌++◌, map, sym, ap, ◌∙◌}
use Rattle.pli_store.specs.views.StorageView.{place_view}
use Rattle.pli_machine_operate.specs.views.OperandView.{stack}
use Rattle.pli_machine_activations.proofs.arguments.pop_one.Goals as goal

pub returns-in_default : goal.returns-in_default
returns-in_default c = c.in_default.ensures 0 []

pub returns : goal.returns
returns c =
    c.in-Some.ensures 0 []
    ∙ ap (λ ps. Some (map place_view ps, stack c.pop_place.new.operands.items))
    (sym (c.push_reserved.ensures.items ∙ ap (λ ps. ps ++ c.in-Some.place ∷ []) (c.in_ok-places.ensures.items ∙ c.requires)))
