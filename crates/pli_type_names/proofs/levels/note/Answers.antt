use Rattle.std.proofs.Common.{Some, option_map, ap, sym, ◌∙◌}
use Rattle.std.proofs.lemmas.List.Elements.{All-push, All-same}
use Rattle.pli_map.specs.Description.{Structure}
use Rattle.pli_map.specs.views.DescriptionView.{members_view}
use Rattle.pli_type_rules.specs.References.{element_of}
use Rattle.pli_type_names.specs.OnWays.{IsLevel}
use Rattle.pli_type_names.specs.views.NameView.{part_view}
use Rattle.pli_type_names.proofs.TreeLemmas.{structure_view}
use Rattle.pli_type_names.proofs.levels.note.Goals as goal

pub returns : goal.returns
returns c variables part all =
    let element = c.in_ok-element.element in
    All-same (IsLevel variables) _ _ c.in_ok-push.ensures.items (All-push (IsLevel variables) _ _ all (record {
      element = sym (ap (option_map element_of) part)
          ∙ ap (λ o. option_map element_of (option_map part_view o)) c.in-Some.is
          ∙ sym (ap Some c.in_ok-element.ensures);
      members = structure_view element.description.now c.in-Structure.members c.in-Structure.is
          ∙ ap (λ v. Structure (members_view v.items)) (sym c.none.ensures.members);
    }))
