-- Leaps lead to items of the same name, also where there is an item more.
use Rattle.std.proofs.Common.{◌≡◌, ℕ, zero, suc, ◌+◌, ◌<◌, ◌≤◌, ◌⊎◌, inl, inr, Bool, true, false, ◌&&◌, List, [], ◌∷◌, ◌++◌, length, get_or, length-append, Option, None, Some, IfSome, if◌then◌else◌, refl, sym, ap, subst, ◌∙◌, arith}
use Rattle.std.proofs.Math.ListN.{get_or-append}
use Rattle.std.proofs.Math.Seq.{get_or-append_seam}
use Rattle.pli_base.specs.Name.{Name}
use Rattle.pli_base.specs.Words.{same_name}
use Rattle.pli_declare_scopes.specs.declared.block.Declared.{Declared}
use Rattle.pli_declare_scopes.specs.declared.leap.Leap.{Leap}
use Rattle.pli_declare_scopes.specs.Scopes.{BlockItems, is_named}
use Rattle.pli_declare_scopes.specs.answers.Indexes.{last_below}
use Rattle.pli_declare_scopes.specs.answers.Leaps.{rank, no_leap, leap_at, AreLeaps, IsLastUpTo}
use Rattle.pli_declare_scopes.proofs.IndexKept.{item_last, named_front, both_true, below_or_last}
use Rattle.pli_declare_scopes.proofs.CandidateLemmas.{last_within, last_passes}

-- a number that passes is no greater than the last that does
pub passes_last : (test : ℕ → Bool) (k n : ℕ) → n < k → test n ≡ true → n < rank (last_below test k)
passes_last test zero n lt h = absurd (omega arith)
passes_last test (suc k) n lt h = by (passes_last test k n) (test k) refl (below_or_last n k (omega arith))
  where
    by : (n < k → test n ≡ true → n < rank (last_below test k)) → (b : Bool) → test k ≡ b → (n < k) ⊎ (n ≡ k) → n < rank (if b then Some k else last_below test k)
    by rest true e place = omega (arith, lt)
    by rest false e (inl below) = rest below h
    by rest false e (inr same) = let bad : true ≡ false = sym h ∙ ap test same ∙ e in cc

-- the leap of one item more
module _ (items : BlockItems) (leaps : List Leap) (kept : AreLeaps items leaps) (i : Declared) (leap : Leap) (before : Option ℕ)
    (link : i.counts ≡ true → (name : Name) → same_name i.name name ≡ true → before ≡ last_below (is_named items name) (length items))
    (within : IfSome before (λ b. b < length items))
    (none : before ≡ None → leap.to ≡ length items)
    (some : (name : Name) (b : ℕ) → before ≡ Some b → is_named items name b ≡ true → is_named items name leap.to ≡ true)
    (back : IfSome before (λ b. leap.to ≤ b)) where
  abbrev more : BlockItems
  more = items ++ i ∷ []

  no_further : leap.to ≤ length items
  no_further = by before refl within back
    where
      by : (o : Option ℕ) → before ≡ o → IfSome o (λ b. b < length items) → IfSome o (λ b. leap.to ≤ b) → leap.to ≤ length items
      by None e w b = omega (arith, none e)
      by (Some n) e w b = omega (arith, w, b)

  leap_front : (n : ℕ) → n < length items → leap_at (leaps ++ leap ∷ []) n ≡ leap_at leaps n
  leap_front n lt = ap (λ (l : Leap). l.to) (get_or-append leaps (leap ∷ []) no_leap n (omega (arith, kept.all)))

  leap_last : leap_at (leaps ++ leap ∷ []) (length items) ≡ leap.to
  leap_last = ap (λ (l : Leap). l.to) (ap (λ k. get_or (leaps ++ leap ∷ []) k no_leap) (sym kept.all) ∙ get_or-append_seam leaps leap [] no_leap)

  named_there : (name : Name) → is_named more name (length items) ≡ true → is_named more name leap.to ≡ true
  named_there name h = by before refl
    where
      counting : (i.counts && same_name i.name name) ≡ true
      counting = sym (ap (λ (j : Declared). j.counts && same_name j.name name) (item_last items i)) ∙ h

      by : (o : Option ℕ) → before ≡ o → is_named more name leap.to ≡ true
      by None e = subst (λ k. is_named more name k ≡ true) (sym (none e)) h
      by (Some b) e =
          let tests = both_true i.counts (same_name i.name name) counting in
          let last : last_below (is_named items name) (length items) ≡ Some b = sym (link tests.0 name tests.1) ∙ e in
          let named : is_named items name b ≡ true = subst (λ o. IfSome o (λ n. is_named items name n ≡ true)) last (last_passes (is_named items name) (length items)) in
          let before_it : b < length items = subst (λ o. IfSome o (λ n. n < length items)) e within in
          let short : leap.to ≤ b = subst (λ o. IfSome o (λ n. leap.to ≤ n)) e back in
          named_front items i name leap.to (omega (arith, before_it, short)) ∙ some name b e named

  pub leaps_more : AreLeaps more (leaps ++ leap ∷ [])
  leaps_more = record {
    within = λ n lt. elim (below_or_last n (length items) (omega (arith, lt, length-append items (i ∷ [])))) [
      | inl front ↦ subst (λ (k : ℕ). k ≤ n) (sym (leap_front n front)) (kept.within n front)
      | inr last ↦ subst (λ (k : ℕ). leap_at (leaps ++ leap ∷ []) k ≤ k) (sym last) (subst (λ (k : ℕ). k ≤ length items) (sym leap_last) no_further)
    ];
    named = λ name n lt h. elim (below_or_last n (length items) (omega (arith, lt, length-append items (i ∷ [])))) [
      | inl front ↦ subst (λ k. is_named more name k ≡ true) (sym (leap_front n front))
          (named_front items i name (leap_at leaps n) (omega (arith, kept.within n front, front)) ∙ kept.named name n front (sym (named_front items i name n front) ∙ h))
      | inr last ↦ subst (λ k. is_named more name (leap_at (leaps ++ leap ∷ []) k) ≡ true) (sym last)
          (subst (λ k. is_named more name k ≡ true) (sym leap_last) (named_there name (subst (λ k. is_named more name k ≡ true) last h)))
    ];
    all = omega (arith, kept.all, length-append items (i ∷ []), length-append leaps (leap ∷ []));
  }

-- a search back for the last item of a name up to a bound: it is no greater than the next that is looked at
pub record Seeking (items : BlockItems) (name : Name) (bound : ℕ) (next : Option ℕ) : Type 0 where
  pub within : IfSome next (λ n. n < length items)
  pub named : IfSome next (λ n. is_named items name n ≡ true)
  pub last : (n : ℕ) → n < length items → n ≤ bound → is_named items name n ≡ true → n < rank next

module _ (items : BlockItems) (name : Name) (bound : ℕ) where
  pub seeking_first : (next : Option ℕ) → next ≡ last_below (is_named items name) (length items) → Seeking items name bound next
  seeking_first next e = rw e (record {
    within = last_within (is_named items name) (length items);
    named = last_passes (is_named items name) (length items);
    last = λ n lt le h. passes_last (is_named items name) (length items) n lt h;
  })

  pub seeking_on : (at : ℕ) → at < length items → bound < at → (next : Option ℕ) → next ≡ last_below (is_named items name) at → Seeking items name bound next
  seeking_on at within over next e = rw e (record {
    within = wider (last_below (is_named items name) at) (last_within (is_named items name) at);
    named = last_passes (is_named items name) at;
    last = λ n lt le h. passes_last (is_named items name) at n (omega arith) h;
  })
    where
      wider : (o : Option ℕ) → IfSome o (λ n. n < at) → IfSome o (λ n. n < length items)
      wider None h = tt
      wider (Some n) h = omega (arith, h, within)

  pub seeking_ends : (at : ℕ) (next : Option ℕ) → next ≡ last_below (is_named items name) at → rank next < at + 1
  seeking_ends at next e = rw e (by (last_below (is_named items name) at) (last_within (is_named items name) at))
    where
      by : (o : Option ℕ) → IfSome o (λ n. n < at) → rank o < at + 1
      by None h = omega arith
      by (Some n) h = omega (arith, h)

  module _ (at : Option ℕ) (n : ℕ) (so_far : Seeking items name bound at) (is : at ≡ Some n) where
    pub seeking_stands : n < length items
    seeking_stands = subst (λ o. IfSome o (λ m. m < length items)) is so_far.within

    pub seeking_named : is_named items name n ≡ true
    seeking_named = subst (λ o. IfSome o (λ m. is_named items name m ≡ true)) is so_far.named

    -- it is found
    pub seeking_found : n ≤ bound → IsLastUpTo items name bound (Some n)
    seeking_found le = record {
      within = seeking_stands;
      bounded = le;
      named = seeking_named;
      last = λ m lt short h. subst (λ o. m < rank o) is (so_far.last m lt short h);
    }

    -- a leap that stays over the bound
    pub seeking_leap : (leaps : List Leap) → AreLeaps items leaps → (to : ℕ) → to ≡ leap_at leaps n → bound < to → Seeking items name bound (Some to)
    seeking_leap leaps kept to e over = record {
      within = omega (arith, e, kept.within n seeking_stands, seeking_stands);
      named = subst (λ k. is_named items name k ≡ true) (sym e) (kept.named name n seeking_stands seeking_named);
      last = λ m lt short h. omega (arith, short, over);
    }

  -- none is found
  pub seeking_none : (at : Option ℕ) → Seeking items name bound at → at ≡ None → IsLastUpTo items name bound None
  seeking_none at so_far is = record {
    within = tt;
    bounded = tt;
    named = tt;
    last = λ m lt short h. subst (λ o. m < rank o) is (so_far.last m lt short h);
  }
