use Rattle.std.proofs.Common.{◌≡◌, ◌+◌, ◌-◌, ◌≤◌, ◌++◌, List, drop, length, map, take, subst, sym, ◌∙◌, arith}
use Rattle.std.specs.List.{All}
use Rattle.std.proofs.lemmas.List.{length-drop, length-take, take_all}
use Rattle.std.proofs.lemmas.List.Elements.{All-drop, All-get_or, All-same}
use Rattle.pli_type_tree.specs.declared.template.VariableGroup.{VariableGroup}
use Rattle.pli_type_tree.specs.views.TemplateView.{group_view, groups_view}
use Rattle.pli_type_templates.specs.declared.made_variable.MadeVariable.{MadeVariable}
use Rattle.pli_type_templates.specs.views.ItemView.{HasMadeItem, made_template}
use Rattle.pli_type_templates.specs.views.NumberView.{marks_of}
use Rattle.pli_type_templates.proofs.RunsMade.{group_more, run_alike}
use Rattle.pli_type_templates.proofs.groups.grouped.Goals as goal

pub loop-at-preserved : goal.loop-at-preserved
loop-at-preserved c =
    let l = c.loop-at in
    let all = c.args.made.now in
    let first = c.index-made-at.result in
    let rest = drop (l.at + 1) all in
    let n = c.alike_after-count.result in
    let is_rest : take (length all - (l.at + 1)) rest ≡ rest = take_all (length all - (l.at + 1)) rest (omega (arith, length-drop (l.at + 1) all)) in
    let few : n ≤ length rest = subst (λ (xs : List MadeVariable). n ≤ length xs) is_rest c.alike_after-count.ensures.within in
    let has = HasMadeItem (marks_of c.args.items.now) in
    let here = subst has (sym c.index-made-at.is) (All-get_or has all l.at first c.loop-at-test.true c.requires) in
    let all_has = All-same has (take (length all - (l.at + 1)) rest) rest is_rest (All-drop has (l.at + 1) all c.requires) in
    let alike = subst (λ (xs : List MadeVariable). All (λ m. made_template m ≡ made_template first) (take n xs)) is_rest (c.alike_after-count.ensures.alike here all_has) in
    let of = c.in_ok-variable_group.ensures ∙ run_alike made_template first (take n rest) (1 + n) (omega (arith, length-take n rest, few)) alike in
    record {
      within = omega (arith, c.loop-at-test.true, length-drop (l.at + 1) all, few);
      templates = subst (λ (gs : List VariableGroup). groups_view gs ++ map made_template (drop (l.at + (1 + n)) all) ≡ map made_template all) (sym c.in_ok-push.ensures.items)
          (group_more group_view made_template l.groups.items c.in_ok-variable_group.field-0 all l.at n (l.at + (1 + n)) first (map made_template all)
          c.loop-at-test.true c.index-made-at.is (omega arith) of l.invariant.templates);
    }
