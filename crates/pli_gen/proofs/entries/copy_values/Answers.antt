use Rattle.std.proofs.Common.{map, ap, ◌∙◌, refl, arith}
use Rattle.pli_value.specs.Value.{value_view}
use Rattle.pli_type_keys.specs.views.KeyView.{valued}
use Rattle.pli_gen_emit.proofs.LoopLemmas.{more_mapped, put_as}
use Rattle.pli_gen.proofs.entries.copy_values.Goals as goal

pub loop-key-preserved : goal.loop-key-preserved
loop-key-preserved c =
    more_mapped (map valued) valued (λ x xs. refl) c.as_slice-key-items.result.now c.loop-key.key-index c.key-item.result
    (map value_view c.loop-key.copied.items) _ _ (omega arith)
    (put_as value_view _ _ _ _ c.in_ok-push.ensures.items (c.in_ok-copy.ensures ∙ ap valued c.key-item.is)) c.loop-key.invariant
