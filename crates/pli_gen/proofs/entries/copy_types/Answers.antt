use Rattle.std.proofs.Common.{map, ap, ◌∙◌, refl, arith}
use Rattle.pli_map.specs.views.ParameterView.{type_view}
use Rattle.pli_type_keys.specs.views.KeyView.{described}
use Rattle.pli_gen_emit.proofs.LoopLemmas.{more_mapped, put_as}
use Rattle.pli_gen.proofs.entries.copy_types.Goals as goal

pub loop-key-preserved : goal.loop-key-preserved
loop-key-preserved c =
    more_mapped (map described) described (λ x xs. refl) c.as_slice-key-items.result.now c.loop-key.key-index c.key-item.result
    (map type_view c.loop-key.copied.items) _ _ (omega arith)
    (put_as type_view _ _ _ _ c.in_ok-push.ensures.items (c.in_ok-copy.ensures ∙ ap described c.key-item.is)) c.loop-key.invariant
