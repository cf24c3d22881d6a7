use Rattle.std.proofs.Common.{◌++◌, map, ap, ◌∙◌}
use Rattle.std.specs.List.{flat_map}
use Rattle.pli_base.specs.views.DeclarationView.{item_view}
use Rattle.pli_declare_outline.specs.views.OutlineView.{outline_view}
use Rattle.pli_declare.specs.AttributeNames.{area_in, locator_in}
use Rattle.pli_declare.specs.Resolved.{item_names, named_at}
use Rattle.pli_declare_faults.specs.answers.Walks.{item_goodness}
use Rattle.pli_declare_faults.proofs.AttributesMet.{first_area, first_locator, item_good, item_simple}
use Rattle.pli_declare_faults.proofs.NamedUses.{passed}
use Rattle.pli_declare_faults.proofs.known.Known.append_items.Goals as goal

pub loop-item-preserved : goal.loop-item-preserved
loop-item-preserved c =
    let l = c.loop-item in
    let o = outline_view c.args.self.now.scopes.outline.now in
    let b = c.args.block in
    let all = c.args.items.now in
    let n = l.item-index in
    let x = c.item-item.result in
    let lt = c.loop-item-test.true in
    let written = x.attributes.items in
    let m = c.meet_attributes-met in
    record {
      answers = passed item_view (item_goodness o b) all n x l.answers.items c.append_answer.new.answers.items _ lt c.item-item.is
          (c.in_ok-append_answer.ensures
          ∙ ap (λ names. l.answers.items ++ map (λ i. m.result.are_good) names) c.deref.ensures.value
          ∙ ap (λ g. l.answers.items ++ map (λ i. g) x.names.items) (m.ensures.goods ∙ ap (item_good o b) c.as_slice.ensures.value))
          l.invariant.answers;
      areas = passed item_view (item_names o b area_in) all n x l.areas.items c.append_first.new.uses.items _ lt c.item-item.is
          (c.in_ok-append_first.ensures o b (area_in (item_simple o b c.as_slice.result.now)) (first_area o b m.result _ _ m.ensures)
          ∙ ap (λ as'. l.areas.items ++ flat_map (named_at o b (area_in (item_simple o b as'))) c.deref-in-loop-item.result.now) c.as_slice.ensures.value
          ∙ ap (λ names. l.areas.items ++ flat_map (named_at o b (area_in (item_simple o b written))) names) c.deref-in-loop-item.ensures.value)
          l.invariant.areas;
      locators = passed item_view (item_names o b locator_in) all n x l.locators.items c.append_first-in-loop-item.new.uses.items _ lt c.item-item.is
          (c.in_ok-append_first-2.ensures o b (locator_in (item_simple o b c.as_slice.result.now)) (first_locator o b m.result _ _ m.ensures)
          ∙ ap (λ as'. l.locators.items ++ flat_map (named_at o b (locator_in (item_simple o b as'))) c.deref-in-loop-item-2.result.now) c.as_slice.ensures.value
          ∙ ap (λ names. l.locators.items ++ flat_map (named_at o b (locator_in (item_simple o b written))) names) c.deref-in-loop-item-2.ensures.value)
          l.invariant.locators;
    }
