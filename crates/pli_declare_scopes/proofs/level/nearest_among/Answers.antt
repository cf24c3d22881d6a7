use Rattle.std.proofs.Common.{◌≡◌, ◌-◌, length, take, sym, ap, ◌∙◌, arith}
use Rattle.std.specs.Vec.{vec_len}
use Rattle.pli_declare_scopes.specs.Levels.{nearest}
use Rattle.pli_declare_scopes.proofs.NearestItems.{last_is_nearest, last_is_passed}
use Rattle.pli_declare_scopes.proofs.level.nearest_among.Goals as goal

pub returns-then-item-level-clause-found : goal.returns-then-item-level-clause-found
returns-then-item-level-clause-found c =
    let is = c.loop-item.before.items in
    sym (last_is_nearest is c.in-Some.item.now (omega (arith, c.in-Some.ensures.item.3.0, c.deref.ensures.len)) (rw c.deref.ensures.value at c.in-Some.ensures.item.1) c.args.level c.if-item-level.true)
    ∙ c.loop-item.invariant c.args.level (omega arith)

pub loop-item-preserved : goal.loop-item-preserved
loop-item-preserved c m le =
    let is = c.loop-item.before.items in
    let len : vec_len c.loop-item.before ≡ length is = sym c.deref.ensures.len ∙ ap length c.deref.ensures.value in
    ap (nearest m) (c.pop.ensures.rest ∙ ap (λ n. take (n - 1) is) len)
    ∙ last_is_passed is c.in-Some.item.now (omega (arith, c.in-Some.ensures.item.3.0, c.deref.ensures.len)) (rw c.deref.ensures.value at c.in-Some.ensures.item.1) m (omega arith)
    ∙ c.loop-item.invariant m le
