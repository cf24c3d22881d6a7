use Rattle.std.proofs.Common.{◌≡◌, ◌<◌, ◌-◌, [], true, length, get_or, IfSome, ap, sym, subst, ◌∙◌, arith}
use Rattle.std.proofs.lemmas.List.{get_or_default}
use Rattle.std.specs.Prelude.{reverse, take}
use Rattle.pli_declare_scopes.specs.declared.block.Declared.{Declared}
use Rattle.pli_declare_scopes.specs.Scopes.{no_item, item_at, is_part, chain_over}
use Rattle.pli_declare_scopes.specs.answers.Leaps.{IsLastUpTo}
use Rattle.pli_declare_scopes.specs.answers.Reaches.{AreReaching, IsNearest}
use Rattle.pli_declare_scopes.proofs.ChainLemmas.{Stepped, same_read, step_taken, step_passed, part_ends, none_is}
use Rattle.pli_declare_scopes.proofs.StandsAbove.{owner_counts, nearest_one, nearest_part, nearest_stands, nearest_counts}
use Rattle.pli_declare_scopes.proofs.block.BlockItems.fits.Goals as goal
use Rattle.pli_declare_scopes.proofs.block.BlockItems.fits.Goals.{then-eq, else-eq}

pub returns-in_default : goal.returns-in_default
returns-in_default c =
    let items = c.self.inside.items.items in
    let names = c.args.names.now in
    let left = c.loop-left.left in
    sym (part_ends items names left c.loop-left-test.true (omega (arith, c.loop-left.invariant.left)))
    ∙ ap (λ a. is_part (reverse (take left names)) (chain_over items a)) (sym (none_is c.loop-left.above c.in_default.not-Some)) ∙ c.loop-left.invariant.partly
    ∙ ap (λ block. is_part (reverse (take (length names - 1) names)) (chain_over block (item_at block c.args.number).owner)) c.self.view_is

pub returns-then-left-eq1 : goal.returns-then-left-eq1
returns-then-left-eq1 c =
    let items = c.self.inside.items.items in
    let lasts = c.self.inside.lasts.items in
    let tops = c.self.inside.tops.items in
    let names = c.args.names.now in
    let left = c.loop-left.left in
    let place = c.in-Some.place in
    let own = get_or names (left - 1) [] in
    let h = c.loop-left.invariant in
    let known : place < length items = subst (λ a. IfSome a (λ o. o < length items)) c.in-Some.is h.above in
    let counts = subst (λ a. IfSome a (λ o. c.self.inside.is_ordered ≡ true → (item_at items o).counts ≡ true)) c.in-Some.is h.counting in
    let ordered : AreReaching items lasts tops true = subst (AreReaching items lasts tops) c.if-self.true c.self.invariant.3 in
    let reaching : AreReaching items c.deref.result.now c.deref-then-left-tried.result.now true =
    subst (λ ls. AreReaching items ls c.deref-then-left-tried.result.now true) (sym c.deref.ensures.value)
    (subst (λ ts. AreReaching items lasts ts true) (sym c.deref-then-left-tried.ensures.value) ordered) in
    let read : c.index-names-left.result ≡ own = c.index-names-left.is ∙ get_or_default names (left - 1) c.index-names-left.result [] (omega (arith, h.left)) in
    let last : IsLastUpTo items own place c.last_up_to-last.result =
    subst (λ x. IsLastUpTo items x place c.last_up_to-last.result) read
    (subst (λ is. IsLastUpTo is c.index-names-left.result place c.last_up_to-last.result) (sym c.self.view_is) c.last_up_to-last.ensures) in
    let near : IsNearest items own place c.nearest_above-above.result =
    c.nearest_above-above.ensures items own c.self.invariant.0.owners reaching known (counts c.if-self.true) last in
    c.is_some.ensures ∙ nearest_one items names left h.left c.loop-left-test.true place c.nearest_above-above.result near c.if-left-eq1.true
    ∙ ap (λ a. is_part (reverse (take left names)) (chain_over items a)) (sym c.in-Some.is) ∙ h.partly
    ∙ ap (λ block. is_part (reverse (take (length names - 1) names)) (chain_over block (item_at block c.args.number).owner)) c.self.view_is

pub loop-left-preserved-then-left-tried : goal.loop-left-preserved-then-left-tried
loop-left-preserved-then-left-tried c =
    let items = c.self.inside.items.items in
    let lasts = c.self.inside.lasts.items in
    let tops = c.self.inside.tops.items in
    let names = c.args.names.now in
    let left = c.loop-left.left in
    let place = c.in-Some.place in
    let own = get_or names (left - 1) [] in
    let h = c.loop-left.invariant in
    let known : place < length items = subst (λ a. IfSome a (λ o. o < length items)) c.in-Some.is h.above in
    let counts = subst (λ a. IfSome a (λ o. c.self.inside.is_ordered ≡ true → (item_at items o).counts ≡ true)) c.in-Some.is h.counting in
    let ordered : AreReaching items lasts tops true = subst (AreReaching items lasts tops) c.if-self.true c.self.invariant.3 in
    let reaching : AreReaching items c.deref.result.now c.deref-then-left-tried.result.now true =
    subst (λ ls. AreReaching items ls c.deref-then-left-tried.result.now true) (sym c.deref.ensures.value)
    (subst (λ ts. AreReaching items lasts ts true) (sym c.deref-then-left-tried.ensures.value) ordered) in
    let read : c.index-names-left.result ≡ own = c.index-names-left.is ∙ get_or_default names (left - 1) c.index-names-left.result [] (omega (arith, h.left)) in
    let last : IsLastUpTo items own place c.last_up_to-last.result =
    subst (λ x. IsLastUpTo items x place c.last_up_to-last.result) read
    (subst (λ is. IsLastUpTo is c.index-names-left.result place c.last_up_to-last.result) (sym c.self.view_is) c.last_up_to-last.ensures) in
    let near : IsNearest items own place c.nearest_above-above.result =
    c.nearest_above-above.ensures items own c.self.invariant.0.owners reaching known (counts c.if-self.true) last in
    let some = c.loop-left-test.true in
    record {
      left = h.left;
      above = nearest_stands items names left h.left some place c.nearest_above-above.result near known;
      counting = nearest_counts items names left h.left some place c.nearest_above-above.result near c.self.inside.is_ordered;
      partly = nearest_part items names left h.left some place c.nearest_above-above.result near
          ∙ ap (λ a. is_part (reverse (take left names)) (chain_over items a)) (sym c.in-Some.is) ∙ h.partly;
    }

pub loop-left-preserved : goal.loop-left-preserved
loop-left-preserved c =
    let items = c.self.inside.items.items in
    let names = c.args.names.now in
    let left = c.loop-left.left in
    let place = c.in-Some.place in
    let h = c.loop-left.invariant in
    let i = c.index-else-self-2.result.now in
    let known : place < length items = subst (λ a. IfSome a (λ o. o < length items)) c.in-Some.is h.above in
    let counts = subst (λ a. IfSome a (λ o. c.self.inside.is_ordered ≡ true → (item_at items o).counts ≡ true)) c.in-Some.is h.counting in
    let read : i ≡ item_at items place = c.index-else-self-2.ensures ∙ get_or_default items place i no_item known in
    let named : c.index-else-self.result.now ≡ item_at items place =
    c.index-else-self.ensures ∙ get_or_default items place c.index-else-self.result.now no_item known in
    let name : c.index-names-left-else-self.result ≡ get_or names (left - 1) [] =
    c.index-names-left-else-self.is ∙ get_or_default names (left - 1) c.index-names-left-else-self.result [] (omega (arith, h.left)) in
    let next : Stepped items names i c.if-eq.left _ = elim c.if-eq.branch [
      | then-eq w ↦ step_taken items c.self.invariant.0.owners c.loop-left.above place c.in-Some.is h.above names left h.left c.loop-left-test.true _
          h.partly i read c.if-eq.left w.left-is
          (same_read (get_or names (left - 1) []) c.index-names-left-else-self.result (item_at items place).name c.index-else-self.result.now.name c.eq.result _ c.eq.ensures w.if-eq.true
          name (ap (λ (j : Declared). j.name) named))
      | else-eq w ↦ step_passed items c.self.invariant.0.owners c.loop-left.above place c.in-Some.is h.above names left h.left c.loop-left-test.true _
          h.partly i read c.if-eq.left w.left-is
          (same_read (get_or names (left - 1) []) c.index-names-left-else-self.result (item_at items place).name c.index-else-self.result.now.name c.eq.result _ c.eq.ensures w.if-eq.false
          name (ap (λ (j : Declared). j.name) named))
    ] in
    record {
      left = next.left;
      above = next.above;
      counting = owner_counts items c.self.inside.lasts.items c.self.inside.tops.items c.self.inside.is_ordered c.self.invariant.3 place known counts i.owner
          (sym (ap (λ (j : Declared). j.owner) read));
      partly = next.partly;
    }
