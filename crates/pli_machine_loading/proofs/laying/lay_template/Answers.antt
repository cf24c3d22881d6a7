use Rattle.std.proofs.Common.{map, sym, subst, ◌∙◌}
use Rattle.std.proofs.lemmas.Option.{same_Some}
use Rattle.pli_map.specs.views.DescriptionView.{description_view}
use Rattle.pli_type_tree.specs.Templates.{Template}
use Rattle.pli_type_tree.specs.views.TemplateView.{initial_view}
use Rattle.pli_stacks.specs.answers.LaidBytes.{IsLaid}
use Rattle.pli_machine_loading.proofs.laying.lay_template.Goals as goal

pub returns-in_ok-bytes-in-Some : goal.returns-in_ok-bytes-in-Some
returns-in_ok-bytes-in-Some c = λ t at.
    let this : Template = record {
      description = description_view c.in-Some.description.now;
      initial = map initial_view c.in-Some.scalars.now;
    } in
    subst (λ t. IsLaid t c.in_ok-bytes-in-Some.bytes.items) (same_Some this t (sym c.in-Some.ensures ∙ at)) c.in_ok-bytes-in-Some.ensures
