use Rattle.std.proofs.Common.{◌≡◌, [], length, map, replicate, sym, subst, ◌∙◌, arith, vec_len}
use Rattle.std.specs.List.{flat_map}
use Rattle.pli_map.specs.ParameterTypes.{Stated}
use Rattle.pli_type_tree.specs.TypedTree.{OwnVariable}
use Rattle.pli_type_tree.specs.views.GlobalView.{global_group_view}
use Rattle.pli_type_tree.specs.views.TemplateView.{template_view, group_view}
use Rattle.pli_gen_emit.specs.Encoding.{global_descriptions, global_templates}
use Rattle.pli_gen_emit.specs.answers.Numbering.{Numbers}
use Rattle.pli_gen_emit.proofs.GlobalLemmas.{own_described, own_templated, external, external_described, external_templated}
use Rattle.pli_gen_emit.proofs.table.number_global_group.Goals as goal

pub returns-in-OwnVariables : goal.returns-in-OwnVariables
returns-in-OwnVariables c =
    let b = c.in-OwnVariables in
    let ts = group_view b.variables in
    let old = c.args.tables.now in
    let new = c.number_group.new.tables in
    subst (λ g. Numbers old new (flat_map global_descriptions (global_group_view g)) (flat_map global_templates (global_group_view g)) []) (sym b.is)
    (subst (λ ds. Numbers old new ds (flat_map global_templates (map (OwnVariable b.kind) ts)) []) (own_described b.kind ts)
    (subst (λ us. Numbers old new (map (λ t. Stated t.description) ts) us []) (own_templated b.kind ts) c.number_group.ensures))

pub returns-in-ExternalVariables : goal.returns-in-ExternalVariables
returns-in-ExternalVariables c =
    let b = c.in-ExternalVariables in
    let names = b.names.items in
    let size : vec_len b.names ≡ length names = omega (arith, b.names.ok.0) in
    let t = template_view b.template in
    let ts = replicate (length names) t in
    let old = c.args.tables.now in
    let new = c.number_repeated.new.tables in
    subst (λ g. Numbers old new (flat_map global_descriptions (global_group_view g)) (flat_map global_templates (global_group_view g)) []) (sym b.is)
    (subst (λ ds. Numbers old new ds (flat_map global_templates (external b.kind t names)) []) (external_described b.kind t names)
    (subst (λ us. Numbers old new (map (λ t. Stated t.description) ts) us []) (external_templated b.kind t names)
    (subst (λ n. Numbers old new (map (λ t. Stated t.description) (replicate n t)) (replicate n t) []) (c.len.ensures ∙ size) c.number_repeated.ensures)))
