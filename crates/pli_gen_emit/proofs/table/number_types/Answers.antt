use Rattle.std.proofs.Common.{[], ◌∷◌, map, arith, refl, subst}
use Rattle.pli_map.specs.ParameterTypes.{ParameterType}
use Rattle.pli_map.specs.views.ParameterView.{type_view}
use Rattle.pli_gen_emit.specs.answers.Numbering.{Numbers}
use Rattle.pli_gen_emit.proofs.NumberingLemmas.{numbering_next}
use Rattle.pli_gen_emit.proofs.table.number_types.Goals as goal

pub loop-parameter-preserved : goal.loop-parameter-preserved
loop-parameter-preserved c =
    let now = c.loop-parameter.tables in
    let new = c.number_type.new.tables in
    numbering_next (map type_view) (λ ts. []) (λ ts. []) (λ t. type_view t ∷ []) (λ t. []) (λ t. []) (λ t ts. refl) (λ t ts. refl) (λ t ts. refl)
    c.args.tables.now now new c.args.types.now c.loop-parameter.parameter-index c.parameter-item.result (omega arith) c.parameter-item.is
    (subst (λ (t : ParameterType). Numbers now new (t ∷ []) [] []) c.lent.ensures c.number_type.ensures.numbers) c.loop-parameter.invariant
