-- An item that counts has the path of one more exactly where that one repeats it.
use Rattle.std.proofs.Common.{◌≡◌, ℕ, zero, suc, ◌<◌, Bool, true, false, nat_eq, ◌&&◌, ◌||◌, List, ◌∷◌, length, get_or, Option, None, Some, option_map, IfSome, refl, sym, ap, subst, ◌∙◌, arith}
use Rattle.std.specs.Option.{unwrap_or}
use Rattle.std.proofs.lemmas.Bool.Decides.{nat_tests}
use Rattle.pli_declare_scopes.specs.Repeats.{repeats, is_counting, judged}
use Rattle.pli_declare_scopes.specs.Scopes.{BlockItems, item_at, any_below, chain_at, chain_over}
use Rattle.pli_declare_scopes.specs.answers.Indexes.{OwnersBefore}
use Rattle.pli_declare_scopes.specs.answers.Judged.{as_written, is_found, counts_over, is_taken}
use Rattle.pli_declare_scopes.specs.answers.Paths.{step_at, Spells, ends_at, ArePaths}
use Rattle.pli_declare_scopes.specs.declared.found.Found.{Found}
use Rattle.pli_declare_scopes.specs.declared.found.Found.TheVariants.{Nothing}
use Rattle.pli_declare_scopes.specs.declared.path.Step.{Step}
use Rattle.pli_declare_scopes.specs.declared.repeat.Written.{Written}
use Rattle.pli_declare_scopes.proofs.ChainLemmas.{chain_is}
use Rattle.pli_declare_scopes.proofs.CountedItems.{repeats_from}
use Rattle.pli_declare_scopes.proofs.PathsKept.{found_any, spelled_once}
use Rattle.pli_declare_scopes.proofs.RepeatsLemmas.{repeats_same}

-- tests that are alike pass together
pub any_same : (test other : ℕ → Bool) (k : ℕ) → ((j : ℕ) → j < k → test j ≡ other j) → any_below test k ≡ any_below other k
any_same test other zero same = refl
any_same test other (suc k) same =
    ap (λ b. b || any_below test k) (same k (omega arith)) ∙ ap (λ b. other k || b) (any_same test other k (λ j lt. same j (omega arith)))

pub both_ways : (a b : Bool) → (a ≡ true → b ≡ true) → (b ≡ true → a ≡ true) → a ≡ b
both_ways true b to from = sym (to refl)
both_ways false true to from = from refl
both_ways false false to from = refl

module _ (items : BlockItems) (steps : List Step) (paths : List ℕ) (ended : List Found) (owners : OwnersBefore items) (kept : ArePaths items steps paths ended) where
  above : (owner : Option ℕ) → IfSome owner (λ o. o < length items) → Spells steps (option_map (λ o. get_or paths o 0) owner) (chain_over items owner)
  above None h = tt
  above (Some o) h = kept.spelled o h

  -- of those that count one alone has a path
  one_owner : (a b : Option ℕ) → IfSome a (λ o. o < length items) → IfSome b (λ o. o < length items) → counts_over items a ≡ true → counts_over items b ≡ true
      → Spells steps (option_map (λ o. get_or paths o 0) a) (chain_over items b) → a ≡ b
  one_owner None None la lb ca cb h = refl
  one_owner None (Some b) la lb ca cb h = absurd (subst (Spells steps None) (chain_is items b owners lb) h)
  one_owner (Some a) None la lb ca cb h = absurd h
  one_owner (Some a) (Some b) la lb ca cb h =
      let same : Some (get_or paths a 0) ≡ Some (get_or paths b 0) =
      spelled_once steps kept.once (Some (get_or paths a 0)) (Some (get_or paths b 0)) (chain_at items b) h (kept.spelled b lb) in
      ap (λ (k : ℕ). Some k) (kept.alone a b la lb ca cb (ap (λ (o : Option ℕ). unwrap_or o 0) same))

  wider : (owner : Option ℕ) (n : ℕ) → n < length items → IfSome owner (λ o. o < n) → IfSome owner (λ o. o < length items)
  wider None n lt h = tt
  wider (Some o) n lt h = omega (arith, h, lt)

  module _ (w : Written) (p : ℕ) (lt : p < length steps) (is : step_at steps p ≡ record { name = w.name; above = option_map (λ o. get_or paths o 0) w.owner })
      (owned : IfSome w.owner (λ o. o < length items)) (over : counts_over items w.owner ≡ true) where
    path_to : (n : ℕ) → n < length items → (item_at items n).counts ≡ true → nat_eq (get_or paths n 0) p ≡ true → repeats w (as_written (item_at items n)) ≡ true
    path_to n within counts e =
        let same : get_or paths n 0 ≡ p = grind (arith, nat_tests, e) in
        let spelled : Spells steps (Some p) ((item_at items n).name ∷ chain_over items (item_at items n).owner) =
        subst (Spells steps (Some p)) (chain_is items n owners within) (subst (λ (q : ℕ). Spells steps (Some q) (chain_at items n)) same (kept.spelled n within)) in
        let further : Spells steps (option_map (λ o. get_or paths o 0) w.owner) (chain_over items (item_at items n).owner) =
        subst (λ (s : Step). Spells steps s.above (chain_over items (item_at items n).owner)) is spelled.2 in
        repeats_from w (as_written (item_at items n)) (ap (λ (s : Step). s.name) (sym is) ∙ spelled.1)
        (one_owner w.owner (item_at items n).owner owned (wider (item_at items n).owner n within (owners n within)) over (kept.counted n within counts) further)

    path_from : (n : ℕ) → n < length items → repeats w (as_written (item_at items n)) ≡ true → nat_eq (get_or paths n 0) p ≡ true
    path_from n within h =
        let r : w ≡ as_written (item_at items n) = repeats_same w (as_written (item_at items n)) h in
        let further : Spells steps (step_at steps p).above (chain_over items (item_at items n).owner) =
        subst (λ (s : Step). Spells steps s.above (chain_over items (item_at items n).owner)) (sym is)
        (subst (λ (o : Option ℕ). Spells steps (option_map (λ q. get_or paths q 0) w.owner) (chain_over items o)) (ap (λ (v : Written). v.owner) r) (above w.owner owned)) in
        let whole : Spells steps (Some p) (chain_at items n) =
        subst (Spells steps (Some p)) (sym (chain_is items n owners within)) (lt, ap (λ (s : Step). s.name) is ∙ ap (λ (v : Written). v.name) r, further) in
        let one : Some (get_or paths n 0) ≡ Some p = spelled_once steps kept.once (Some (get_or paths n 0)) (Some p) (chain_at items n) (kept.spelled n within) whole in
        let same : get_or paths n 0 ≡ p = ap (λ (o : Option ℕ). unwrap_or o 0) one in
        grind (arith, nat_tests, same)

    pub taken_is : is_found (get_or ended p Nothing) ≡ is_taken items w
    taken_is = ap is_found (kept.ends p) ∙ found_any (ends_at items paths p) (length items)
        ∙ any_same (ends_at items paths p) (λ n. (item_at items n).counts && repeats w (as_written (item_at items n))) (length items) (λ n within. by n within (item_at items n).counts refl)
      where
        by : (n : ℕ) → n < length items → (b : Bool) → (item_at items n).counts ≡ b → (b && nat_eq (get_or paths n 0) p) ≡ (b && repeats w (as_written (item_at items n)))
        by n within true e = both_ways (nat_eq (get_or paths n 0) p) (repeats w (as_written (item_at items n))) (path_to n within e) (path_from n within)
        by n within false e = refl

  -- what becomes of one more of this path
  pub verdict_is : (w : Written) (p : ℕ) → p < length steps → step_at steps p ≡ record { name = w.name; above = option_map (λ o. get_or paths o 0) w.owner } → IfSome w.owner (λ o. o < length items)
      → judged (counts_over items w.owner) (is_found (get_or ended p Nothing)) ≡ judged (counts_over items w.owner) (is_taken items w)
  verdict_is w p lt is owned = by (counts_over items w.owner) refl
    where
      by : (b : Bool) → counts_over items w.owner ≡ b → judged b (is_found (get_or ended p Nothing)) ≡ judged b (is_taken items w)
      by true e = ap (judged true) (taken_is w p lt is owned e)
      by false e = refl

-- what counts has an owner that does, and a path of its own
pub counts_so : (over found : Bool) → is_counting (judged over found) ≡ true → (over ≡ true) × (found ≡ false)
counts_so true true h = cc
counts_so true false h = (refl, refl)
counts_so false found h = cc
