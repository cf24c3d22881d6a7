use Rattle.std.proofs.Common.{◌≡◌, ◌++◌, ◌∷◌, [], ◌∙◌, ap, map, refl, arith}
use Rattle.std.proofs.lemmas.List.{map_push}
use Rattle.pli_code.specs.views.CodeView.{lent_member_view}
use Rattle.pli_link.specs.Links.{linked_unit}
use Rattle.pli_link.specs.views.UnitView.{compiled_view}
use Rattle.pli_link.proofs.LoopLemmas.{more_joined}
use Rattle.pli_link.proofs.linked.linked_units.Goals as goal

pub loop-unit-preserved : goal.loop-unit-preserved
loop-unit-preserved c = λ names numbered.
    let procedures = c.args.procedures.now.entries in
    let linked = c.loop-unit.linked.items in
    let before = map lent_member_view linked in
    let put : map lent_member_view c.push.new.self.items ≡ before ++ lent_member_view c.in_ok-linked_unit.field-0 ∷ [] = rw c.in_ok-push.ensures.items (map_push _ linked c.in_ok-linked_unit.field-0) in
    more_joined (λ us. map (linked_unit names procedures) (map compiled_view us)) (λ u. linked_unit names procedures (compiled_view u) ∷ []) (λ u us. refl)
    c.args.units.now c.loop-unit.unit-index c.unit-item.result before _ _ (omega (arith, c.loop-unit-test.true)) c.unit-item.is
    (put ∙ ap (λ m. before ++ m ∷ []) (c.in_ok-linked_unit.ensures names numbered)) (c.loop-unit.invariant names numbered)
