use Rattle.std.proofs.Common.{◌<◌, ◌+◌, length, None, Some, sym, ap, subst, ◌∙◌, arith, rules}
use Rattle.std.proofs.lemmas.List.{get_or_default}
use Rattle.pli_declare_scopes.specs.declared.leap.Leap.{Leap}
use Rattle.pli_declare_scopes.specs.answers.Leaps.{rank, no_leap, IsLastUpTo}
use Rattle.pli_declare_scopes.proofs.LeapsKept.{seeking_first, seeking_on, seeking_ends, seeking_stands, seeking_named, seeking_found, seeking_leap, seeking_none}
use Rattle.pli_declare_scopes.proofs.block.BlockItems.last_up_to.Goals as goal

pub loop-next-init : goal.loop-next-init
loop-next-init c =
    seeking_first c.self.inside.items.items c.args.name c.args.bound c.copied-next.result
    (c.copied-next.ensures ∙ c.get.ensures.value ∙ c.self.invariant.0.last c.args.name)

pub returns-then-number-bound : goal.returns-then-number-bound
returns-then-number-bound c =
    subst (λ items. IsLastUpTo items c.args.name c.args.bound (Some c.in-Some.number)) c.self.view_is
    (seeking_found c.self.inside.items.items c.args.name c.args.bound c.loop-next.next c.in-Some.number c.loop-next.invariant c.in-Some.is c.if-number-bound.true)

pub index-requires : goal.index-requires
index-requires c =
    let stands = seeking_stands c.self.inside.items.items c.args.name c.args.bound c.loop-next.next c.in-Some.number c.loop-next.invariant c.in-Some.is in
    let all = c.self.invariant.2.all in
    search rules

pub index-requires-else-bound-leap : goal.index-requires-else-bound-leap
index-requires-else-bound-leap c =
    let stands = seeking_stands c.self.inside.items.items c.args.name c.args.bound c.loop-next.next c.in-Some.number c.loop-next.invariant c.in-Some.is in
    let all = c.self.invariant.0.count in
    search rules

pub loop-next-preserved-then-leap-number : goal.loop-next-preserved-then-leap-number
loop-next-preserved-then-leap-number c =
    let items = c.self.inside.items.items in
    let leaps = c.self.inside.leaps.items in
    let n = c.in-Some.number in
    let stands : n < length items = seeking_stands items c.args.name c.args.bound c.loop-next.next n c.loop-next.invariant c.in-Some.is in
    seeking_leap items c.args.name c.args.bound c.loop-next.next n c.loop-next.invariant c.in-Some.is leaps c.self.invariant.2 c.index.result.now.to
    (ap (λ (l : Leap). l.to) (c.index.ensures ∙ get_or_default leaps n c.index.result.now no_leap (omega (arith, stands, c.self.invariant.2.all)))) c.if-bound-leap.true

pub loop-next-smaller : goal.loop-next-smaller
loop-next-smaller c =
    let items = c.self.inside.items.items in
    let n = c.in-Some.number in
    let stands : n < length items = seeking_stands items c.args.name c.args.bound c.loop-next.next n c.loop-next.invariant c.in-Some.is in
    let named = seeking_named items c.args.name c.args.bound c.loop-next.next n c.loop-next.invariant c.in-Some.is in
    let less : rank c.index-else-bound-leap.result.now < n + 1 = seeking_ends items c.args.name c.args.bound n c.index-else-bound-leap.result.now
    (c.index-else-bound-leap.ensures ∙ get_or_default c.self.inside.earlier.items n c.index-else-bound-leap.result.now None (omega (arith, stands, c.self.invariant.0.count))
    ∙ c.self.invariant.0.links c.args.name n stands named) in
    subst (λ o. rank c.index-else-bound-leap.result.now < rank o) (sym c.in-Some.is) less

pub loop-next-preserved : goal.loop-next-preserved
loop-next-preserved c =
    let items = c.self.inside.items.items in
    let n = c.in-Some.number in
    let stands : n < length items = seeking_stands items c.args.name c.args.bound c.loop-next.next n c.loop-next.invariant c.in-Some.is in
    let named = seeking_named items c.args.name c.args.bound c.loop-next.next n c.loop-next.invariant c.in-Some.is in
    seeking_on items c.args.name c.args.bound n stands c.if-number-bound.false c.index-else-bound-leap.result.now
    (c.index-else-bound-leap.ensures ∙ get_or_default c.self.inside.earlier.items n c.index-else-bound-leap.result.now None (omega (arith, stands, c.self.invariant.0.count))
    ∙ c.self.invariant.0.links c.args.name n stands named)

pub returns : goal.returns
returns c =
    subst (λ items. IsLastUpTo items c.args.name c.args.bound None) c.self.view_is
    (seeking_none c.self.inside.items.items c.args.name c.args.bound c.loop-next.next c.loop-next.invariant c.in_default.is)
