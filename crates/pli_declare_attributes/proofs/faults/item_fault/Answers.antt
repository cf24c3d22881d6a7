use Rattle.std.proofs.Common.{◌≤◌, sym, ap, subst, ◌∙◌}
use Rattle.pli_base.specs.views.DeclarationView.{item_view}
use Rattle.pli_declare.specs.Faults.{item_fault}
use Rattle.pli_declare_attributes.specs.answers.Cuts.{most_elements}
use Rattle.pli_declare_attributes.proofs.CutLemmas.{cut_fault}
use Rattle.pli_declare.proofs.ShapeLemmas.{attributes_first, sizes_left}
use Rattle.pli_declare_attributes.proofs.faults.item_fault.Goals as goal

pub returns-in-Some-clause-here : goal.returns-in-Some-clause-here
returns-in-Some-clause-here c = sym (attributes_first c.args.place (item_view c.args.facts.now.item.now) c.in-Some.code (sym c.attributes_fault.ensures ∙ c.in-Some.is))

pub returns-in-None-clause-here : goal.returns-in-None-clause-here
returns-in-None-clause-here c =
    let facts = c.args.facts.now in
    sizes_left c.args.place (item_view facts.item.now) facts.held facts.sizes facts.is_held facts.is_of_sizes (sym c.attributes_fault.ensures ∙ c.in-None.is)

pub returns-in-Some-clause-whole : goal.returns-in-Some-clause-whole
returns-in-Some-clause-whole c = λ p is.
    let facts = c.args.facts.now in
    let item = item_view facts.item.now in
    sym (attributes_first c.args.place item c.in-Some.code (sym c.attributes_fault.ensures ∙ c.in-Some.is)) ∙ ap (λ q. item_fault q item) is
    ∙ cut_fault p item (subst (λ n. n ≤ most_elements) facts.are_given facts.are_few)

pub returns-in-None-clause-whole : goal.returns-in-None-clause-whole
returns-in-None-clause-whole c = λ p is.
    let facts = c.args.facts.now in
    let item = item_view facts.item.now in
    sizes_left c.args.place item facts.held facts.sizes facts.is_held facts.is_of_sizes (sym c.attributes_fault.ensures ∙ c.in-None.is) ∙ ap (λ q. item_fault q item) is
    ∙ cut_fault p item (subst (λ n. n ≤ most_elements) facts.are_given facts.are_few)
