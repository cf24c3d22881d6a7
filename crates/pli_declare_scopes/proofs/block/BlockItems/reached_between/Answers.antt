use Rattle.std.proofs.Common.{◌≡◌, ◌≤◌, ◌<◌, ◌+◌, suc, [], length, get_or, None, Some, IfSome, sym, ap, subst, ◌∙◌, arith}
use Rattle.std.proofs.lemmas.List.{get_or_default}
use Rattle.pli_declare_scopes.specs.answers.Leaps.{IsLastUpTo}
use Rattle.pli_declare_scopes.specs.answers.Reaches.{last_of, IsReach}
use Rattle.pli_declare_scopes.proofs.PairsReach.{reach_apart}
use Rattle.pli_declare_scopes.proofs.block.BlockItems.reached_between.Goals as goal

pub returns-then-reaches : goal.returns-then-reaches
returns-then-reaches c =
    let items = c.self.inside.items.items in
    let names = c.args.names.now in
    let number = c.args.number in
    let at = c.args.at in
    let lasts = c.self.inside.lasts.items in
    let tops = c.self.inside.tops.items in
    let outer = c.in-Some.outer in
    let inner = c.in-Some-last_up_to.inner in
    let kept = c.self.invariant.3 in
    let is_outer : IsLastUpTo items (get_or names at []) number (Some outer) =
    subst (λ x. IsLastUpTo items x number (Some outer)) (c.index-names-at.is ∙ get_or_default names at c.index-names-at.result [] (omega (arith, c.requires)))
    (subst (λ is. IsLastUpTo is c.index-names-at.result number (Some outer)) (sym c.self.view_is) c.in-Some.ensures) in
    let is_inner : IsLastUpTo items (get_or names (suc at) []) number (Some inner) =
    subst (λ x. IsLastUpTo items x number (Some inner)) (c.index-names-at-2.is ∙ get_or_default names (at + 1) c.index-names-at-2.result [] (omega (arith, c.requires))
    ∙ ap (λ k. get_or names k []) (let next : at + 1 ≡ suc at = omega arith in next))
    (subst (λ is. IsLastUpTo is c.index-names-at-2.result number (Some inner)) (sym c.self.view_is) c.in-Some-last_up_to.ensures) in
    let stands : outer < length items = is_outer.within in
    let top : c.index-top.result.now ≡ get_or tops outer 0 = c.index-top.ensures ∙ get_or_default tops outer c.index-top.result.now 0 (omega (arith, stands, kept.tops_all)) in
    let last : c.index.result.now ≡ last_of lasts (get_or tops outer 0) =
    c.index.ensures ∙ get_or_default lasts c.index-top.result.now c.index.result.now None (omega (arith, stands, top, kept.tops_back outer stands, kept.lasts_all)) ∙ ap (last_of lasts) top in
    subst (λ is. IsReach is names number (Some c.index-top.result.now)) c.self.view_is
    (λ n lt le counts part.
    let up_to = reach_apart items c.self.invariant.0.owners lasts tops c.self.inside.is_ordered kept c.if-not-self.false
    names at (omega (arith, c.requires)) number outer inner is_outer is_inner
    (omega (arith, c.if-inner-top.true, top))
    (subst (λ o. IfSome o (λ l. number ≤ l)) last (c.reaches.ensures c.if-reaches.true))
    n lt le counts part in
    omega (arith, up_to, top))
