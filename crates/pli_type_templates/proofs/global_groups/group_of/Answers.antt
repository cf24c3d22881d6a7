use Rattle.std.proofs.Common.{◌∷◌, List, map, ap, ◌∙◌}
use Rattle.pli_base.specs.Name.{Name}
use Rattle.pli_type_tree.specs.Templates.{Template}
use Rattle.pli_type_tree.specs.TypedTree.{Global, OwnVariable, ExternalVariable, EntryPoint, Signature}
use Rattle.pli_type_templates.specs.Globals.{names_in}
use Rattle.pli_type_templates.specs.views.ItemView.{made_template}
use Rattle.pli_type_templates.specs.views.PlacedView.{global_view, unit_global_view}
use Rattle.pli_type_templates.proofs.RunsMade.{own_group, external_group, entry_group}
use Rattle.pli_type_templates.proofs.global_groups.group_of.Goals as goal

pub returns-in_ok-variables-in-OwnVariable : goal.returns-in_ok-variables-in-OwnVariable
returns-in_ok-variables-in-OwnVariable c =
    let v = c.in-OwnVariable in
    ap (map (OwnVariable v.kind)) c.in_ok-variables-in-OwnVariable.ensures
    ∙ own_group global_view (global_view c.args.first.now) c.args.more.now c.requires v.kind (made_template v.made) (ap unit_global_view v.is)

pub returns-in_ok-template-in-ExternalVariable : goal.returns-in_ok-template-in-ExternalVariable
returns-in_ok-template-in-ExternalVariable c =
    let e = c.in-ExternalVariable in
    let made : Template → List Name → List Global = λ t ns. map (λ n. ExternalVariable n e.kind t) ns in
    ap (made _) c.in_ok-names-in-ExternalVariable.ensures
    ∙ ap (λ t. made t (e.name ∷ names_in (map global_view c.args.more.now))) c.in_ok-template-in-ExternalVariable.ensures
    ∙ external_group global_view (global_view c.args.first.now) c.args.more.now c.requires e.name e.kind (made_template e.made) (ap unit_global_view e.is)

pub returns-in_ok-signature-in-EntryPoint : goal.returns-in_ok-signature-in-EntryPoint
returns-in_ok-signature-in-EntryPoint c =
    let e = c.in-EntryPoint in
    let made : Signature → List Name → List Global = λ s ns. map (λ n. EntryPoint n s) ns in
    ap (made _) c.in_ok-names-in-EntryPoint.ensures
    ∙ ap (λ s. made s (e.name ∷ names_in (map global_view c.args.more.now))) c.in_ok-signature-in-EntryPoint.ensures
    ∙ entry_group global_view (global_view c.args.first.now) c.args.more.now c.requires e.name _ (ap unit_global_view e.is)
