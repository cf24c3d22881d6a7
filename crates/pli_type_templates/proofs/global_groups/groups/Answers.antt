use Rattle.std.proofs.Common.{◌≡◌, ◌+◌, ◌-◌, ◌≤◌, ◌∷◌, ◌++◌, List, drop, length, map, take, subst, ap, sym, ◌∙◌, arith}
use Rattle.std.proofs.lemmas.List.{length-drop, take_all}
use Rattle.pli_type_tree.specs.declared.unit.GlobalGroup.{GlobalGroup}
use Rattle.pli_type_tree.specs.views.GlobalView.{global_group_view, globals_view}
use Rattle.pli_type_templates.specs.declared.placed_globals.PlacedGlobal.{PlacedGlobal}
use Rattle.pli_type_templates.specs.views.PlacedView.{global_view}
use Rattle.pli_type_templates.proofs.RunsMade.{group_more}
use Rattle.pli_type_templates.proofs.global_groups.groups.Goals as goal

pub loop-at-preserved : goal.loop-at-preserved
loop-at-preserved c =
    let l = c.loop-at in
    let all = c.args.globals.now in
    let first = c.index-globals-at.result in
    let rest = drop (l.at + 1) all in
    let n = c.alike_after-count.result in
    let is_rest : take (length all - (l.at + 1)) rest ≡ rest = take_all (length all - (l.at + 1)) rest (omega (arith, length-drop (l.at + 1) all)) in
    let few : n ≤ length rest = subst (λ (xs : List PlacedGlobal). n ≤ length xs) is_rest c.alike_after-count.ensures.within in
    let of = c.in_ok-group_of.ensures ∙ ap (λ xs. map global_view (first ∷ take n xs)) is_rest in
    record {
      within = omega (arith, c.loop-at-test.true, length-drop (l.at + 1) all, few);
      globals = subst (λ (gs : List GlobalGroup). globals_view gs ++ map global_view (drop (l.at + (n + 1)) all) ≡ map global_view all) (sym c.in_ok-push.ensures.items)
          (group_more global_group_view global_view l.groups.items c.in_ok-group_of.field-0 all l.at n (l.at + (n + 1)) first (map global_view all)
          c.loop-at-test.true c.index-globals-at.is (omega arith) of l.invariant.globals);
    }
