use Rattle.std.proofs.Common.{ap, sym, ◌∙◌}
use Rattle.pli_type_rules.specs.Beginnings.{root_at}
use Rattle.pli_type_tree.specs.TypedTree.{Part}
use Rattle.pli_type_tree.specs.laws.TypedTreeLaws.{part_made}
use Rattle.pli_type_tree.specs.views.TypedView.{root_view, subscripts_view}
use Rattle.pli_type_names.specs.LocatorReferences.{described_by, locator_reference}
use Rattle.pli_type_names.proofs.storage.NamedLocator.reference.Goals as goal

pub returns-in-Some : goal.returns-in-Some
returns-in-Some c =
    let begins = root_at c.args.self.begins in
    let is = described_by c.args.self.area in
    let offset = c.in-Some.offset in
    part_made c.root-root.result offset c.described_by.result c.new.result
    ∙ ap (λ d. Part (root_view c.root-root.result) offset d (subscripts_view c.new.result.items)) c.described_by.ensures
    ∙ ap (λ r. Part r offset is (subscripts_view c.new.result.items)) c.root-root.ensures
    ∙ ap (λ xs. Part begins offset is (subscripts_view xs)) c.new.ensures.items
    ∙ sym (ap (λ o. locator_reference begins o is) c.in-Some.is)
