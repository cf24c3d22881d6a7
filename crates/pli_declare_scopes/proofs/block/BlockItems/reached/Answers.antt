use Rattle.std.proofs.Common.{◌≡◌, ◌<◌, ◌≤◌, ◌-◌, ℕ, [], take, length, get_or, None, Some, IfSome, sym, ap, subst, ◌∙◌, arith}
use Rattle.std.proofs.lemmas.List.{get_or_default, get_or-take, length-take-le}
use Rattle.pli_declare_scopes.specs.answers.Leaps.{IsLastUpTo}
use Rattle.pli_declare_scopes.specs.answers.Reaches.{last_of, IsReach}
use Rattle.pli_declare_scopes.proofs.ReachesKept.{reach_told}
use Rattle.pli_declare_scopes.proofs.block.BlockItems.reached.Goals as goal
use Rattle.pli_declare_scopes.proofs.block.BlockItems.reached.Goals.{in-Some, in_default}

none_some : (n : ℕ) → None ≡ Some n → ⊥
none_some n e = cc

one_is : (m n : ℕ) → Some m ≡ Some n → m ≡ n
one_is m n e = cc

pub returns-in_err-above : goal.returns-in_err-above
returns-in_err-above c =
    let items = c.self.inside.items.items in
    let names = c.args.names.now in
    let number = c.args.number in
    let k = c.loop-name.name-index in
    let shorter : length (take (length names - 1) names) ≡ length names - 1 = length-take-le (length names - 1) names (omega arith) in
    let before : k < length names - 1 = omega (arith, c.loop-name-test.true, shorter) in
    let name : c.name-item.result ≡ get_or names k [] =
    c.name-item.is ∙ get_or-take (length names - 1) names k c.name-item.result before ∙ get_or_default names k c.name-item.result [] (omega (arith, before)) in
    subst (λ o. IsReach c.args.self.now names number o) (sym c.from_residual.ensures)
    (subst (λ is. IsReach is names number None) c.self.view_is
    (λ n lt le counts part.
    let told = reach_told items c.self.invariant.0.owners c.self.inside.lasts.items c.self.inside.tops.items c.self.inside.is_ordered c.self.invariant.3 c.if-not-self.false
    names k before number c.last_up_to.result
    (subst (λ x. IsLastUpTo items x number c.last_up_to.result) name (subst (λ is. IsLastUpTo is c.name-item.result number c.last_up_to.result) (sym c.self.view_is) c.last_up_to.ensures))
    n lt le counts part in
    absurd (none_some told.0 (sym c.in_err-above.was ∙ told.1))))

pub loop-name-preserved : goal.loop-name-preserved
loop-name-preserved c = λ n lt le counts part.
    let items = c.self.inside.items.items in
    let names = c.args.names.now in
    let number = c.args.number in
    let lasts = c.self.inside.lasts.items in
    let tops = c.self.inside.tops.items in
    let k = c.loop-name.name-index in
    let shorter : length (take (length names - 1) names) ≡ length names - 1 = length-take-le (length names - 1) names (omega arith) in
    let before : k < length names - 1 = omega (arith, c.loop-name-test.true, shorter) in
    let name : c.name-item.result ≡ get_or names k [] =
    c.name-item.is ∙ get_or-take (length names - 1) names k c.name-item.result before ∙ get_or_default names k c.name-item.result [] (omega (arith, before)) in
    let above = c.in_ok-above.above in
    let there = subst (λ is. IsLastUpTo is c.name-item.result number (Some above)) (sym c.self.view_is) c.in_ok-above.ensures in
    let told = reach_told items c.self.invariant.0.owners lasts tops c.self.inside.is_ordered c.self.invariant.3 c.if-not-self.false
    names k before number (Some above) (subst (λ x. IsLastUpTo items x number (Some above)) name there)
    n lt le counts part in
    let same : told.0 ≡ above = sym (one_is above told.0 told.1) in
    let so_far : n ≤ c.loop-name.bound = c.loop-name.invariant n lt le counts part in
    let stands : above < length items = there.within in
    let top : c.index.result.now ≡ get_or tops told.0 0 =
    c.index.ensures ∙ get_or_default tops above c.index.result.now 0 (omega (arith, stands, c.self.invariant.3.tops_all)) ∙ ap (λ a. get_or tops a 0) (sym same) in
    let last : c.index-in-loop-name.result.now ≡ last_of lasts (get_or tops told.0 0) =
    c.index-in-loop-name.ensures ∙ get_or_default lasts c.index.result.now c.index-in-loop-name.result.now None (omega (arith, stands, top, ap (λ a. get_or tops a 0) same, c.self.invariant.3.tops_back above stands, c.self.invariant.3.lasts_all)) ∙ ap (last_of lasts) top in
    elim c.match-index.branch [
      | in-Some w ↦ (let no_more : n ≤ w.in-Some.last = subst (λ o. IfSome o (λ l. n ≤ l)) (sym last ∙ w.in-Some.is) told.2 in omega (arith, so_far, no_more, w.bound-is, w.min-bound.ensures))
      | in_default w ↦ omega (arith, so_far, w.bound-is)
    ]
