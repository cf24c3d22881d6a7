use Rattle.std.proofs.Common.{◌≡◌, ◌++◌, drop, map}
use Rattle.std.specs.List.{flat_map}
use Rattle.pli_base.specs.views.DeclarationView.{item_view}
use Rattle.pli_declare_outline.specs.views.OutlineView.{outline_view}
use Rattle.pli_declare.specs.AttributeNames.{area_in, locator_in}
use Rattle.pli_declare.specs.Resolved.{item_names}
use Rattle.pli_declare_faults.specs.answers.Walks.{item_goodness}
use Rattle.pli_declare_faults.proofs.known.Known.append_items.Given as goal

-- what was put so far in front of what the items that are left give
abbrev pub invariant-loop-item : goal.invariant-loop-item
invariant-loop-item l =
    let o = outline_view l.self.scopes.outline.now in
    let all = map item_view l.items in
    let left = map item_view (drop l.item-index l.items) in
    record {
      answers : l.answers.items ++ flat_map (item_goodness o l.block) left ≡ l.initial.answers.items ++ flat_map (item_goodness o l.block) all;
      areas : l.areas.items ++ flat_map (item_names o l.block area_in) left ≡ l.initial.areas.items ++ flat_map (item_names o l.block area_in) all;
      locators : l.locators.items ++ flat_map (item_names o l.block locator_in) left ≡ l.initial.locators.items ++ flat_map (item_names o l.block locator_in) all;
    }
