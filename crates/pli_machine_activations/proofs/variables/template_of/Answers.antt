use Rattle.std.proofs.Common.{Some, map, sym, ap, ◌∙◌}
use Rattle.std.specs.Prelude.{option_map}
use Rattle.pli_map.specs.views.DescriptionView.{description_view}
use Rattle.pli_type_tree.specs.views.TemplateView.{initial_view}
use Rattle.pli_code.specs.CodeTables.{described, with_description}
use Rattle.pli_code.specs.views.CodeView.{code_view, coded_template_view}
use Rattle.pli_machine_activations.proofs.FoundInTables.{found}
use Rattle.pli_machine_activations.proofs.variables.template_of.Goals as goal

pub returns : goal.returns
returns c =
    let code = c.args.code.now in
    let template = c.in_ok-template.template.now in
    let description = c.in_ok-description.description.now in
    let first = c.in_ok-template.ensures.lookup in
    let second = sym (ap (option_map (λ d. description_view d.now)) c.in_ok-description.was) ∙ c.description.ensures in
    ap (with_description (code_view code)) (found coded_template_view code.templates.items c.deref.result.now c.deref.ensures.value c.args.number template first.3.0 first.1)
    ∙ ap (described (code_view code) (map initial_view template.initial.items))
    (sym second)
    ∙ ap (λ initial. described (code_view code) (map initial_view initial) (Some (description_view description))) (sym c.deref-2.ensures.value)
