use Rattle.std.proofs.Common.{ℕ, List, map, ap, ◌∙◌, refl, arith}
use Rattle.pli_type_tree.specs.Templates.{InitialScalar}
use Rattle.pli_type_tree.specs.views.TemplateView.{initial_view}
use Rattle.pli_code.specs.CodeTables.{CodedTemplate}
use Rattle.pli_code.specs.views.CodeView.{coded_template_view}
use Rattle.pli_gen_emit.proofs.LoopLemmas.{more_mapped, put_as}
use Rattle.pli_gen_emit.specs.Encoding.{template_code}
use Rattle.pli_type_keys.specs.views.KeyView.{templated}
use Rattle.pli_gen_emit.specs.views.TableView.{tables_view}
use Rattle.pli_gen.proofs.entries.encode_templates.Goals as goal

abbrev made : ℕ → List InitialScalar → CodedTemplate
made number initial = record { description = number; initial = initial }

pub loop-key-preserved : goal.loop-key-preserved
loop-key-preserved c =
    let t = tables_view c.args.numbers.tables.now in
    let copied = map initial_view c.in_ok-initial.initial.items in
    let number = (template_code t (templated c.key-item.result)).description in
    more_mapped (λ ks. map (template_code t) (map templated ks)) (λ k. template_code t (templated k)) (λ x xs. refl)
    c.as_slice-key-items.result.now c.loop-key.key-index c.key-item.result (map coded_template_view c.loop-key.coded.items) _ _ (omega arith)
    (put_as coded_template_view _ _ _ _ c.in_ok-push.ensures.items
    (ap (λ n. made n copied) c.description.ensures ∙ ap (made number) c.in_ok-initial.ensures ∙ ap (λ k. template_code t (templated k)) c.key-item.is))
    c.loop-key.invariant
