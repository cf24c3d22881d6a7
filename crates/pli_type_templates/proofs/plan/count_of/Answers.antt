use Rattle.std.proofs.Common.{◌≡◌, ◌*◌, ◌+◌, drop, ap, sym, ◌∙◌, pos, arith}
use Rattle.std.proofs.lemmas.List.{at_drop_more}
use Rattle.pli_map.specs.Sizes.{count_of}
use Rattle.pli_map.specs.declared.description.Bounds.{Bounds}
use Rattle.pli_type_templates.proofs.StoredPlans.{left_factor}
use Rattle.pli_type_templates.proofs.plan.count_of.Goals as goal

pub overflow_mul-count : goal.overflow_mul-count
overflow_mul-count c =
    let l = c.loop-dimension in
    let none : Bounds = record { low = pos 0; high = pos 0 } in
    let others = count_of (drop (l.dimension-index + 1) c.args.bounds.now) in
    let step = at_drop_more count_of c.args.bounds.now l.dimension-index none c.loop-dimension-test.true in
    let left : count_of (drop l.dimension-index c.args.bounds.now) ≡ c.extent-count.result * others =
    step ∙ ap (λ n. n * others) (sym c.extent-count.ensures.value) in
    let same : l.count * c.extent-count.result * others ≡ l.count * (c.extent-count.result * others) = omega arith in
    let whole = same ∙ ap (λ n. l.count * n) (sym left) ∙ l.invariant in
    let some = c.requires.some in
    let few = left_factor (l.count * c.extent-count.result) others _ whole some in
    omega (arith, few, c.requires.few)

pub loop-dimension-preserved : goal.loop-dimension-preserved
loop-dimension-preserved c =
    let l = c.loop-dimension in
    let none : Bounds = record { low = pos 0; high = pos 0 } in
    let others = count_of (drop (l.dimension-index + 1) c.args.bounds.now) in
    let step = at_drop_more count_of c.args.bounds.now l.dimension-index none c.loop-dimension-test.true in
    let left : count_of (drop l.dimension-index c.args.bounds.now) ≡ c.extent-count.result * others =
    step ∙ ap (λ n. n * others) (sym c.extent-count.ensures.value) in
    let same : l.count * c.extent-count.result * others ≡ l.count * (c.extent-count.result * others) = omega arith in
    same ∙ ap (λ n. l.count * n) (sym left) ∙ l.invariant
