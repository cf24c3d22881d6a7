use Rattle.std.proofs.Common.{◌≤◌, ℕ, ap, subst, ◌∙◌}
use Rattle.pli_base.specs.views.DeclarationView.{item_view}
use Rattle.pli_declare.specs.Faults.{item_fault}
use Rattle.pli_declare_attributes.specs.answers.Cuts.{most_elements}
use Rattle.pli_declare.specs.declared.place.ItemPlace.{ItemPlace}
use Rattle.pli_declare_attributes.proofs.CutLemmas.{cut_fault}
use Rattle.pli_declare.specs.Tables.{Entity}
use Rattle.pli_declare_tables.specs.views.TableView.{entity_view}
use Rattle.pli_declare_variables.specs.answers.Declaring.{IsFaultlessCut}
use Rattle.pli_declare_variables.proofs.declared.kind.Goals as goal

pub completed_item-requires : goal.completed_item-requires
completed_item-requires c =
    let facts = c.in-Item.facts in
    let item = item_view facts.item.now in
    let good = subst (λ (e : Entity). IsFaultlessCut c.args.place e) (ap entity_view c.in-Item.is) c.requires in
    ap (λ (p : ItemPlace). item_fault p item) good.1
    ∙ cut_fault good.0 item (subst (λ (n : ℕ). n ≤ most_elements) facts.are_given facts.are_few) ∙ good.2.1
