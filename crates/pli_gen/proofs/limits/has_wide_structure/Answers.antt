use Rattle.std.proofs.Common.{◌+◌, ◌||◌, ◌∙◌, ap, sym, map, drop, refl, arith}
use Rattle.std.specs.List.{list_any}
use Rattle.pli_gen.specs.Limits.{has_many_types}
use Rattle.pli_type_keys.specs.views.KeyView.{described}
use Rattle.pli_gen.proofs.LimitLemmas.{any_next}
use Rattle.pli_gen.proofs.limits.has_wide_structure.Goals as goal

pub returns-then-has_many_types : goal.returns-then-has_many_types
returns-then-has_many_types c =
    let keys = c.as_slice-key-items.result.now in
    let i = c.loop-key.key-index in
    ap (λ b. b || list_any has_many_types (map described (drop (i + 1) keys))) (sym c.if-has_many_types.true)
    ∙ any_next (λ ks. list_any has_many_types (map described ks)) (λ k. has_many_types (described k)) (λ x xs. refl) keys i c.key-item.result c.has_many_types.result _
    (omega (arith, c.loop-key-test.true)) c.key-item.is c.has_many_types.ensures c.loop-key.invariant

pub loop-key-preserved : goal.loop-key-preserved
loop-key-preserved c =
    let keys = c.as_slice-key-items.result.now in
    let i = c.loop-key.key-index in
    ap (λ b. b || list_any has_many_types (map described (drop (i + 1) keys))) (sym c.if-has_many_types.false)
    ∙ any_next (λ ks. list_any has_many_types (map described ks)) (λ k. has_many_types (described k)) (λ x xs. refl) keys i c.key-item.result c.has_many_types.result _
    (omega (arith, c.loop-key-test.true)) c.key-item.is c.has_many_types.ensures c.loop-key.invariant
