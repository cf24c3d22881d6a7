use Rattle.std.proofs.Common.{set, not, ◌≡◌, ◌<◌, ℕ, true, false, Some, length, IfSome, refl, sym, ap, subst, ◌∙◌, ◌-◌, arith}
use Rattle.std.proofs.lemmas.List.{get_or_default}
use Rattle.pli_declare_scopes.specs.Scopes.{no_item}
use Rattle.std.specs.Option.{is_some}
use Rattle.pli_declare_scopes.specs.answers.Leaps.{rank}
use Rattle.pli_declare_scopes.proofs.RepeatsLemmas.{same_owners}
use Rattle.pli_declare_scopes.proofs.ReachesKept.{some_is, Closing, closing_on, closing_ends}
use Rattle.pli_declare_scopes.proofs.reach.close.Goals as goal

pub returns-then-is_up_to-clause-closed : goal.returns-then-is_up_to-clause-closed
returns-then-is_up_to-clause-closed c =
    closing_ends c.args.items.now c.requires.owners c.args.lasts.now.items c.args.owner c.loop-at.lasts.items c.loop-at.at _ c.loop-at.invariant.0
    (λ e o f. c.in-Some.is ∙ same_owners (Some c.in-Some.number) c.args.owner (sym c.eq.ensures ∙ e) ∙ f)
    (λ m f. subst (λ (n : ℕ). n < rank c.args.owner) (some_is c.in-Some.number m (sym c.in-Some.is ∙ f)) (c.is_up_to.ensures.up_to c.if-is_up_to.true))

pub loop-at-preserved : goal.loop-at-preserved
loop-at-preserved c =
    let items = c.args.items.now in
    let n = c.in-Some.number in
    let stands : n < length items = subst (λ a. IfSome a (λ o. o < length items)) c.in-Some.is c.loop-at.invariant.0.here in
    let over : (o : ℕ) → c.args.owner ≡ Some o → o < n = λ o f. subst (λ a. IfSome a (λ k. k < n)) f (c.is_up_to.ensures.after c.if-is_up_to.false) in
    let now = set c.loop-at.lasts.items n (Some (length items - 1)) in (
      subst (λ o. Closing items c.args.lasts.now.items c.args.owner now o) (ap (λ j. j.owner) (sym (get_or_default items n c.index-items-number.result no_item stands)))
          (closing_on items c.args.lasts.now.items c.requires.all c.args.owner c.requires.owners c.loop-at.lasts.items c.loop-at.at n c.in-Some.is over c.loop-at.invariant.0
          (length items - 1) (omega (arith, stands)) now refl),
      c.loop-at.invariant.1,
    )

pub returns-clause-closed : goal.returns-clause-closed
returns-clause-closed c =
    closing_ends c.args.items.now c.requires.owners c.args.lasts.now.items c.args.owner c.loop-at.lasts.items c.loop-at.at c.is_none.result c.loop-at.invariant.0
    (λ e o f. let bad : true ≡ false = sym (ap is_some f) ∙ c.is_none.ensures ∙ ap not e in cc)
    (λ m f. absurd (c.in_default.not-Some m f))
