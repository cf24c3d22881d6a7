use Rattle.std.proofs.Common.{◌∷◌, [], map, replicate}
use Rattle.pli_map.specs.ParameterTypes.{Stated}
use Rattle.pli_type_tree.specs.views.TemplateView.{template_view}
use Rattle.pli_gen_emit.proofs.KeyLemmas.{group_described, group_templated}
use Rattle.pli_gen_emit.proofs.NumberingLemmas.{numbers_like}
use Rattle.pli_gen_emit.proofs.table.number_repeated.Goals as goal

pub returns : goal.returns
returns c =
    let n = c.args.count in
    let t = template_view c.args.template.now in
    let ts = replicate n t in
    let some = c.if-count-eq0.false in
    numbers_like c.args.tables.now c.number_used.new.tables (Stated t.description ∷ []) (map (λ t. Stated t.description) ts) (t ∷ []) ts c.number_used.ensures.numbers
    (λ table. group_described n table t some) (λ table. group_templated n table t some)
