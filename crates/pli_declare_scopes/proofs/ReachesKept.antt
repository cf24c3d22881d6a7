-- How far items reach stands as items are added, and tells which items a reference can't mean.
use Rattle.std.proofs.Common.{◌≡◌, ℕ, zero, suc, ◌+◌, ◌-◌, ◌<◌, ◌≤◌, ◌⊎◌, inl, inr, Bool, true, false, nat_eq, nat_lt, ◌&&◌, List, [], ◌∷◌, ◌++◌, length, get_or, set, take, length-append, Option, None, Some, IfSome, if◌then◌else◌, refl, sym, ap, subst, ◌∙◌, arith}
use Rattle.std.specs.Prelude.{reverse}
use Rattle.std.specs.Option.{is_none}
use Rattle.std.proofs.lemmas.Bool.Decides.{nat_tests}
use Rattle.std.proofs.lemmas.List.{reverse-append, get_or-take, length-take-le, get_or-set_same, get_or-set_other, length-set}
use Rattle.std.proofs.Math.ListN.{get_or-append}
use Rattle.std.proofs.Math.Seq.{get_or-append_seam}
use Rattle.pli_base.specs.Name.{Name}
use Rattle.std.specs.Cmp.Lexicographic.{same_text}
use Rattle.pli_base.specs.laws.NameLaws.{pointwise-refl}
use Rattle.pli_base.specs.Words.{same_name}
use Rattle.pli_declare_scopes.specs.declared.block.Declared.{Declared}
use Rattle.pli_declare_scopes.specs.Scopes.{BlockItems, item_at, is_named, chain_over, is_part}
use Rattle.pli_declare_scopes.specs.answers.Indexes.{last_below, OwnersBefore}
use Rattle.pli_declare_scopes.specs.answers.Leaps.{rank, IsLastUpTo}
use Rattle.pli_declare_scopes.specs.answers.Reaches.{Climbs, IsWithin, last_of, outermost_of, IsStillOpen, AreReaching, AreClosed}
use Rattle.pli_declare_scopes.specs.laws.ScopeLaws.{IsPart}
use Rattle.pli_declare_scopes.proofs.ReferencesMeanOne.{part_to}
use Rattle.pli_declare_scopes.proofs.ChainLemmas.{chain_is}
use Rattle.pli_declare_scopes.proofs.IndexKept.{item_front, item_last, named_front, both_true, below_or_last}
use Rattle.pli_declare_scopes.proofs.CandidateLemmas.{last_within, last_passes}
use Rattle.pli_declare_scopes.proofs.LeapsKept.{passes_last}

-- one level more, from the item below
pub climbs_more : (items : BlockItems) (k above n owner : ℕ) → Climbs items k n above → (item_at items n).owner ≡ Some owner → Climbs items (suc k) owner above
climbs_more items zero above n owner c e = (owner, subst (λ m. (item_at items m).owner ≡ Some owner) c e, refl)
climbs_more items (suc k) above n owner c e = (c.0, c.1, climbs_more items k c.0 n owner c.2 e)

-- what an item belongs to stands before it
pub climbs_back : (items : BlockItems) → OwnersBefore items → (k above below : ℕ) → below < length items → Climbs items k above below → above ≤ below
climbs_back items owners zero above below lt c = omega (arith, c)
climbs_back items owners (suc k) above below lt c =
    let before : c.0 < below = subst (λ o. IfSome o (λ n. n < below)) c.1 (owners below lt) in
    omega (arith, before, climbs_back items owners k above c.0 (omega (arith, before, lt)) c.2)

pub some_is : (a b : ℕ) → Some a ≡ Some b → a ≡ b
some_is a b e = cc

-- of two items that one is within, the second is within the first
pub within_both : (items : BlockItems) → OwnersBefore items → (k j n o last : ℕ) → last < length items → Climbs items k n last → Climbs items j o last → n ≤ o
    → IsWithin items n o
within_both items owners k zero n o last lt c d le = (k, subst (λ m. Climbs items k n m) (sym d) c)
within_both items owners zero (suc j) n o last lt c d le =
    let before : d.0 < last = subst (λ p. IfSome p (λ m. m < last)) d.1 (owners last lt) in
    absurd (omega (arith, c, le, before, climbs_back items owners j o d.0 (omega (arith, before, lt)) d.2))
within_both items owners (suc k) (suc j) n o last lt c d le =
    let before : d.0 < last = subst (λ p. IfSome p (λ m. m < last)) d.1 (owners last lt) in
    within_both items owners k j n o d.0 (omega (arith, before, lt)) (subst (λ m. Climbs items k n m) (some_is c.0 d.0 (sym c.1 ∙ d.1)) c.2) d.2 le

-- the walk over the items that the last one is within
pub record Closing (items : BlockItems) (before : List (Option ℕ)) (owner : Option ℕ) (after : List (Option ℕ)) (at : Option ℕ) : Type 0 where
  pub all : length after ≡ length before
  pub here : IfSome at (λ n. n < length items)
  pub kept : IfSome owner (λ o. (n : ℕ) → n ≤ o → last_of after n ≡ last_of before n)
  pub closed : (n : ℕ) → (last_of after n ≡ last_of before n) ⊎ ((last : ℕ) × (suc last ≡ length items) × (last_of after n ≡ Some last) × IsWithin items n last)
  pub within : IfSome at (λ n. (last : ℕ) → suc last ≡ length items → IsWithin items n last)
  pub ahead : (n last : ℕ) → suc last ≡ length items → IsWithin items n last
      → (last_of after n ≡ Some last) ⊎ ((m : ℕ) × (at ≡ Some m) × IsWithin items n m)

same_kept : (before : List (Option ℕ)) (owner : Option ℕ) → IfSome owner (λ o. (n : ℕ) → n ≤ o → last_of before n ≡ last_of before n)
same_kept before None = tt
same_kept before (Some o) = λ n le. refl

module _ (items : BlockItems) (before : List (Option ℕ)) (all : length before ≡ length items) (owner : Option ℕ) where
  pub closing_first : (at : Option ℕ) → ((n : ℕ) → at ≡ Some n → suc n ≡ length items) → ((n : ℕ) → suc n ≡ length items → at ≡ Some n)
      → Closing items before owner before at
  closing_first at e last_is = record {
    all = refl;
    here = by at refl;
    kept = same_kept before owner;
    closed = λ n. inl refl;
    within = inside at refl;
    ahead = λ n last f w. inr (last, last_is last f, w);
  }
    where
      by : (o : Option ℕ) → at ≡ o → IfSome o (λ n. n < length items)
      by None f = tt
      by (Some n) f = omega (arith, e n f)

      inside : (o : Option ℕ) → at ≡ o → IfSome o (λ n. (last : ℕ) → suc last ≡ length items → IsWithin items n last)
      inside None f = tt
      inside (Some n) f = λ last g. (0, (let same : n ≡ last = omega (arith, e n f, g) in same))

  -- one more item is closed
  pub closing_on : OwnersBefore items → (after : List (Option ℕ)) (at : Option ℕ) (n : ℕ) → at ≡ Some n → ((o : ℕ) → owner ≡ Some o → o < n)
      → Closing items before owner after at
      → (last : ℕ) → suc last ≡ length items
      → (now : List (Option ℕ)) → now ≡ set after n (Some last) → Closing items before owner now (item_at items n).owner
  closing_on owners after at n is over h last e now told = record {
    all = ap length told ∙ length-set after n (Some last) ∙ h.all;
    here = further (item_at items n).owner (owners n stands);
    kept = kept owner refl h.kept;
    closed = λ m. closed m (nat_eq n m) refl;
    within = inside (item_at items n).owner refl;
    ahead = ahead;
  }
    where
      stands : n < length items
      stands = subst (λ o. IfSome o (λ m. m < length items)) is h.here

      further : (o : Option ℕ) → IfSome o (λ m. m < n) → IfSome o (λ m. m < length items)
      further None g = tt
      further (Some m) g = omega (arith, g, stands)

      other : (m : ℕ) → nat_eq n m ≡ false → last_of now m ≡ last_of after m
      other m f = ap (λ ls. last_of ls m) told ∙ get_or-set_other after n m (Some last) None (λ same. let bad : ⊥ = grind (arith, nat_tests, f, same) in bad)

      kept : (o : Option ℕ) → owner ≡ o → IfSome o (λ k. (m : ℕ) → m ≤ k → last_of after m ≡ last_of before m) → IfSome o (λ k. (m : ℕ) → m ≤ k → last_of now m ≡ last_of before m)
      kept None f g = tt
      kept (Some k) f g = λ m le. other m (grind (arith, nat_tests, over k f, le)) ∙ g m le

      itself : last_of now n ≡ Some last
      itself = ap (λ ls. last_of ls n) told ∙ get_or-set_same after n (Some last) None (omega (arith, stands, h.all, all))

      holds : IsWithin items n last
      holds = subst (λ o. IfSome o (λ m. (l : ℕ) → suc l ≡ length items → IsWithin items m l)) is h.within last e

      closed : (m : ℕ) (b : Bool) → nat_eq n m ≡ b → (last_of now m ≡ last_of before m) ⊎ ((l : ℕ) × (suc l ≡ length items) × (last_of now m ≡ Some l) × IsWithin items m l)
      closed m true f =
          let same : n ≡ m = grind (arith, nat_tests, f) in
          inr (last, e, ap (last_of now) (sym same) ∙ itself, subst (λ (k : ℕ). IsWithin items k last) same holds)
      closed m false f = elim (h.closed m) [
        | inl same ↦ inl (other m f ∙ same)
        | inr p ↦ inr (p.0, p.1, other m f ∙ p.2, p.3)
      ]

      still : (m l : ℕ) → suc l ≡ length items → last_of after m ≡ Some l → (b : Bool) → nat_eq n m ≡ b → last_of now m ≡ Some l
      still m l f g true t =
          let same : n ≡ m = grind (arith, nat_tests, t) in
          let one : last ≡ l = omega (arith, e, f) in
          ap (last_of now) (sym same) ∙ itself ∙ ap (λ (k : ℕ). Some k) one
      still m l f g false t = other m t ∙ g

      onward : (k m l : ℕ) → suc l ≡ length items → Climbs items k m n → (last_of now m ≡ Some l) ⊎ ((p : ℕ) × ((item_at items n).owner ≡ Some p) × IsWithin items m p)
      onward zero m l f c = let one : last ≡ l = omega (arith, e, f) in inl (ap (last_of now) c ∙ itself ∙ ap (λ (k : ℕ). Some k) one)
      onward (suc k) m l f c = inr (c.0, c.1, (k, c.2))

      ahead : (m l : ℕ) → suc l ≡ length items → IsWithin items m l → (last_of now m ≡ Some l) ⊎ ((p : ℕ) × ((item_at items n).owner ≡ Some p) × IsWithin items m p)
      ahead m l f w = elim (h.ahead m l f w) [
        | inl done ↦ inl (still m l f done (nat_eq n m) refl)
        | inr p ↦ (let here : p.0 ≡ n = some_is p.0 n (sym p.1 ∙ is) in
            onward p.2.0 m l f (subst (λ (k : ℕ). Climbs items p.2.0 m k) here p.2.1))
      ]

      inside : (o : Option ℕ) → (item_at items n).owner ≡ o → IfSome o (λ k. (l : ℕ) → suc l ≡ length items → IsWithin items k l)
      inside None f = tt
      inside (Some k) f = λ l g.
          let c = subst (λ o. IfSome o (λ m. (l : ℕ) → suc l ≡ length items → IsWithin items m l)) is h.within l g in
          (suc c.0, climbs_more items c.0 l n k c.1 f)

-- what is closed at last
pub closing_ends : (items : BlockItems) → OwnersBefore items → (before : List (Option ℕ)) (owner : Option ℕ) (after : List (Option ℕ)) (at : Option ℕ) (is_ordered : Bool)
    → Closing items before owner after at
    → (is_ordered ≡ true → (o : ℕ) → owner ≡ Some o → at ≡ Some o) → ((m : ℕ) → at ≡ Some m → m < rank owner) → AreClosed items before owner after is_ordered
closing_ends items owners before owner after at is_ordered h met up_to = record {
  all = h.all;
  kept = h.kept;
  closed = h.closed;
  within = λ e. by owner refl e;
  taken = λ n last f w over. elim (h.ahead n last f w) [
    | inl done ↦ done
    | inr p ↦ absurd (none owner refl n p.0 p.1 p.2 over)
  ];
}
  where
    none : (o : Option ℕ) → owner ≡ o → (n m : ℕ) → at ≡ Some m → IsWithin items n m → IfSome o (λ k. k < n) → ⊥
    none None f n m g w over = let bad : m < 0 = subst (λ o. m < rank o) f (up_to m g) in omega (arith, bad)
    none (Some k) f n m g w over =
        let short : m < k + 1 = subst (λ o. m < rank o) f (up_to m g) in
        let stands : m < length items = subst (λ o. IfSome o (λ j. j < length items)) g h.here in
        omega (arith, short, over, climbs_back items owners w.0 n m stands w.1)

    by : (o : Option ℕ) → owner ≡ o → is_ordered ≡ true → IfSome o (λ k. (last : ℕ) → suc last ≡ length items → IsWithin items k last)
    by None f e = tt
    by (Some k) f e = subst (λ a. IfSome a (λ n. (last : ℕ) → suc last ≡ length items → IsWithin items n last)) (met e k f) h.within

-- what an item of the new block belongs to, if it is none of those before
module _ (items : BlockItems) (i : Declared) where
  abbrev more : BlockItems
  more = items ++ i ∷ []

  climbs_front : OwnersBefore items → (k above below : ℕ) → below < length items → Climbs more k above below → Climbs items k above below
  climbs_front owners zero above below lt c = c
  climbs_front owners (suc k) above below lt c =
      let owned : (item_at items below).owner ≡ Some c.0 = sym (ap (λ (j : Declared). j.owner) (item_front items i below lt)) ∙ c.1 in
      let before : c.0 < below = subst (λ o. IfSome o (λ n. n < below)) owned (owners below lt) in
      (c.0, owned, climbs_front owners k above c.0 (omega (arith, before, lt)) c.2)

  climbs_later : OwnersBefore items → (k above below : ℕ) → below < length items → Climbs items k above below → Climbs more k above below
  climbs_later owners zero above below lt c = c
  climbs_later owners (suc k) above below lt c =
      let before : c.0 < below = subst (λ o. IfSome o (λ n. n < below)) c.1 (owners below lt) in
      (c.0, ap (λ (j : Declared). j.owner) (item_front items i below lt) ∙ c.1, climbs_later owners k above c.0 (omega (arith, before, lt)) c.2)

  -- the new item belongs to what its owner belongs to
  climbs_last : OwnersBefore items → IfSome i.owner (λ o. o < length items) → (k above : ℕ) → Climbs more (suc k) above (length items)
      → (o : ℕ) × (i.owner ≡ Some o) × Climbs items k above o
  climbs_last owners owned k above c =
      let own : i.owner ≡ Some c.0 = sym (ap (λ (j : Declared). j.owner) (item_last items i)) ∙ c.1 in
      (c.0, own, climbs_front owners k above c.0 (subst (λ o. IfSome o (λ n. n < length items)) own owned) c.2)

-- climbing on
pub climbs_through : (items : BlockItems) (k j above middle below : ℕ) → Climbs items k above middle → Climbs items j middle below → IsWithin items above below
climbs_through items k zero above middle below c d = (k, subst (λ n. Climbs items k above n) d c)
climbs_through items k (suc j) above middle below c d =
    let rest = climbs_through items k j above middle d.0 c d.2 in
    (suc rest.0, (d.0, d.1, rest.1))

-- what a counting item belongs to counts
pub counts_up : (items : BlockItems) → OwnersBefore items
    → ((n owner : ℕ) → n < length items → (item_at items n).counts ≡ true → (item_at items n).owner ≡ Some owner → (item_at items owner).counts ≡ true)
    → (k above below : ℕ) → below < length items → (item_at items below).counts ≡ true → Climbs items k above below → (item_at items above).counts ≡ true
counts_up items owners counted zero above below lt h c = ap (λ n. (item_at items n).counts) c ∙ h
counts_up items owners counted (suc k) above below lt h c =
    let before : c.0 < below = subst (λ o. IfSome o (λ n. n < below)) c.1 (owners below lt) in
    counts_up items owners counted k above c.0 (omega (arith, before, lt)) (counted below c.0 lt h c.1) c.2

-- one item more
module _ (items : BlockItems) (owners : OwnersBefore items) (lasts now : List (Option ℕ)) (tops : List ℕ) (is_ordered then_ordered : Bool) (kept : AreReaching items lasts tops is_ordered)
    (i : Declared) (owned : IfSome i.owner (λ o. o < length items)) (before : Option ℕ)
    (link : i.counts ≡ true → before ≡ last_below (is_named items i.name) (length items))
    (within : IfSome before (λ b. b < length items))
    (is_after : Bool) (closed : AreClosed items lasts i.owner now is_after)
    (was : then_ordered ≡ true → is_ordered ≡ true) (beyond : then_ordered ≡ true → is_after ≡ true)
    (counting : then_ordered ≡ true → i.counts ≡ true → IfSome i.owner (λ o. (item_at items o).counts ≡ true))
    (later_owners : OwnersBefore (items ++ i ∷ [])) where
  abbrev top : ℕ
  top = outermost_of now tops before (length items)

  abbrev later : BlockItems
  later = items ++ i ∷ []

  top_front : (n : ℕ) → n < length items → get_or (tops ++ top ∷ []) n 0 ≡ get_or tops n 0
  top_front n lt = get_or-append tops (top ∷ []) 0 n (omega (arith, kept.tops_all))

  top_last : get_or (tops ++ top ∷ []) (length items) 0 ≡ top
  top_last = ap (λ k. get_or (tops ++ top ∷ []) k 0) (sym kept.tops_all) ∙ get_or-append_seam tops top [] 0

  last_front : (n : ℕ) → n < length items → last_of (now ++ None ∷ []) n ≡ last_of now n
  last_front n lt = get_or-append now (None ∷ []) None n (omega (arith, kept.lasts_all, closed.all))

  last_last : last_of (now ++ None ∷ []) (length items) ≡ None
  last_last = ap (λ k. get_or (now ++ None ∷ []) k None) (sym (closed.all ∙ kept.lasts_all)) ∙ get_or-append_seam now None [] None

  top_short : top ≤ length items
  top_short = by before within
    where
      by : (o : Option ℕ) → IfSome o (λ b. b < length items) → outermost_of now tops o (length items) ≤ length items
      by None h = omega arith
      by (Some b) h = pick (is_none (last_of now (get_or tops b 0)))
        where
          pick : (t : Bool) → (if t then get_or tops b 0 else length items) ≤ length items
          pick true = omega (arith, kept.tops_back b h, h)
          pick false = omega arith

  -- what is still open stays so where nothing of it is closed
  still_front : then_ordered ≡ true → (above : ℕ) → IsWithin later above (length items) → above < length items → (item_at items above).counts ≡ true
      → (n : ℕ) → is_named items (item_at items above).name n ≡ true → above ≤ n → n < length items → IsStillOpen now tops above n
  still_front e above w lt counts n named le short = by w.0 w.1
    where
      by : (k : ℕ) → Climbs later k above (length items) → IsStillOpen now tops above n
      by zero c = absurd (omega (arith, c, lt))
      by (suc k) c =
          let up = climbs_last items i owners owned k above c in
          let there : up.0 < length items = subst (λ o. IfSome o (λ m. m < length items)) up.1 owned in
          let no_later : above ≤ up.0 = climbs_back items owners k above up.0 there up.2 in
          let inside = subst (λ o. IfSome o (λ m. (last : ℕ) → suc last ≡ length items → IsWithin items m last)) up.1 (closed.within (beyond e)) in
          let on = inside (length items - 1) (omega (arith, there)) in
          let old = kept.still (was e) (length items - 1) above n (omega (arith, there)) (climbs_through items k on.0 above up.0 (length items - 1) up.2 on.1) counts named le short in
          let same : last_of now (get_or tops n 0) ≡ last_of lasts (get_or tops n 0) =
          subst (λ o. IfSome o (λ m. (j : ℕ) → j ≤ m → last_of now j ≡ last_of lasts j)) up.1 closed.kept (get_or tops n 0) (omega (arith, old.top, no_later)) in
          record { top = old.top; last = same ∙ old.last }

  -- the names of the new item and of one before it
  new_named : (above : ℕ) → above < length items → is_named later (item_at later above).name (length items) ≡ true
      → (i.counts ≡ true) × (is_named items i.name above ≡ (item_at items above).counts) × ((item_at items above).name ≡ i.name)
  new_named above lt h =
      let tests = both_true i.counts (same_name i.name (item_at later above).name) (sym (ap (λ (j : Declared). j.counts && same_name j.name (item_at later above).name) (item_last items i)) ∙ h) in
      let same : i.name ≡ (item_at items above).name = same_text i.name (item_at later above).name (sym tests.1) ∙ ap (λ (j : Declared). j.name) (item_front items i above lt) in (
        tests.0,
        ap (λ b. (item_at items above).counts && b) (subst (λ n. same_name (item_at items above).name n ≡ true) (sym same) (pointwise-refl (item_at items above).name)) ∙ and_true (item_at items above).counts,
        sym same,
      )
    where
      and_true : (b : Bool) → (b && true) ≡ b
      and_true true = refl
      and_true false = refl

  -- the new item is within what an item of its name before it is within, if that is still open
  new_within : then_ordered ≡ true → (above : ℕ) → IsWithin later above (length items) → above < length items → (item_at items above).counts ≡ true
      → is_named later (item_at later above).name (length items) ≡ true → (top ≤ above) × (last_of now top ≡ None)
  new_within e above w lt counts named = by before link refl within
    where
      is : (i.counts ≡ true) × (is_named items i.name above ≡ (item_at items above).counts) × ((item_at items above).name ≡ i.name)
      is = new_named above lt named

      by : (o : Option ℕ) → (i.counts ≡ true → o ≡ last_below (is_named items i.name) (length items)) → o ≡ before → IfSome o (λ b. b < length items)
          → (outermost_of now tops o (length items) ≤ above) × (last_of now (outermost_of now tops o (length items)) ≡ None)
      by None f g h = absurd (let bad : above < 0 = subst (λ o. above < rank o) (sym (f is.0)) (passes_last (is_named items i.name) (length items) above lt (is.1 ∙ counts)) in omega (arith, bad))
      by (Some b) f g h =
          let last : last_below (is_named items i.name) (length items) ≡ Some b = sym (f is.0) in
          let above_b : above < b + 1 = subst (λ o. above < rank o) last (passes_last (is_named items i.name) (length items) above lt (is.1 ∙ counts)) in
          let named_b : is_named items (item_at items above).name b ≡ true =
          subst (λ n. is_named items n b ≡ true) (sym is.2) (subst (λ o. IfSome o (λ n. is_named items i.name n ≡ true)) last (last_passes (is_named items i.name) (length items))) in
          let open_there = still_front e above w lt counts b named_b (omega (arith, above_b)) h in
          let taken : (if is_none (last_of now (get_or tops b 0)) then get_or tops b 0 else length items) ≡ get_or tops b 0 =
          ap (λ l. if is_none l then get_or tops b 0 else length items) open_there.last in (
            subst (λ (n : ℕ). n ≤ above) (sym taken) open_there.top,
            ap (last_of now) taken ∙ open_there.last,
          )

  -- the new item itself
  new_open : last_of (now ++ None ∷ []) top ≡ None
  new_open = by before within
    where
      by : (o : Option ℕ) → IfSome o (λ b. b < length items) → last_of (now ++ None ∷ []) (outermost_of now tops o (length items)) ≡ None
      by None h = last_last
      by (Some b) h = pick (is_none (last_of now (get_or tops b 0))) refl
        where
          none : (o : Option ℕ) → is_none o ≡ true → o ≡ None
          none None f = refl
          none (Some n) f = cc

          pick : (t : Bool) → is_none (last_of now (get_or tops b 0)) ≡ t → last_of (now ++ None ∷ []) (if t then get_or tops b 0 else length items) ≡ None
          pick true f = last_front (get_or tops b 0) (omega (arith, kept.tops_back b h, h)) ∙ none (last_of now (get_or tops b 0)) f
          pick false f = last_last

  still_more : then_ordered ≡ true → (above n : ℕ) → IsWithin later above (length items) → (item_at later above).counts ≡ true
      → is_named later (item_at later above).name n ≡ true → above ≤ n → n < length items + 1 → IsStillOpen (now ++ None ∷ []) (tops ++ top ∷ []) above n
  still_more e above n w counts named le short = elim (below_or_last n (length items) short) [
    | inl front ↦ (let lt : above < length items = omega (arith, le, front) in
        let old = still_front e above w lt (sym (ap (λ (j : Declared). j.counts) (item_front items i above lt)) ∙ counts) n
        (sym (named_front items i (item_at items above).name n front) ∙ ap (λ (j : Declared). is_named later j.name n) (sym (item_front items i above lt)) ∙ named) le front in
        record {
          top = subst (λ (k : ℕ). k ≤ above) (sym (top_front n front)) old.top;
          last = ap (last_of (now ++ None ∷ [])) (top_front n front) ∙ last_front (get_or tops n 0) (omega (arith, old.top, lt)) ∙ old.last;
        })
    | inr last ↦ (let top_is : get_or (tops ++ top ∷ []) n 0 ≡ top = ap (λ k. get_or (tops ++ top ∷ []) k 0) last ∙ top_last in
        record {
          top = subst (λ (k : ℕ). k ≤ above) (sym top_is) (elim (below_or_last above (length items) (omega (arith, le, short))) [
            | inl lt ↦ (new_within e above w lt (sym (ap (λ (j : Declared). j.counts) (item_front items i above lt)) ∙ counts)
                (subst (λ k. is_named later (item_at later above).name k ≡ true) last named)).0
            | inr own ↦ omega (arith, own, top_short)
          ]);
          last = ap (last_of (now ++ None ∷ [])) top_is ∙ new_open;
        })
  ]

  counted_more : then_ordered ≡ true → (n owner : ℕ) → n < length later → (item_at later n).counts ≡ true
      → (item_at later n).owner ≡ Some owner → (item_at later owner).counts ≡ true
  counted_more e n o lt counts own = elim (below_or_last n (length items) (omega (arith, lt, length-append items (i ∷ [])))) [
    | inl front ↦ (let same = item_front items i n front in
        let owned_there : (item_at items n).owner ≡ Some o = sym (ap (λ (j : Declared). j.owner) same) ∙ own in
        let o_before : o < n = subst (λ a. IfSome a (λ k. k < n)) owned_there (owners n front) in
        ap (λ (j : Declared). j.counts) (item_front items i o (omega (arith, o_before, front)))
        ∙ kept.counted (was e) n o front (sym (ap (λ (j : Declared). j.counts) same) ∙ counts) owned_there)
    | inr last ↦ (let same : item_at later n ≡ i = ap (item_at later) last ∙ item_last items i in
        let owned_there : i.owner ≡ Some o = sym (ap (λ (j : Declared). j.owner) same) ∙ own in
        ap (λ (j : Declared). j.counts) (item_front items i o (subst (λ a. IfSome a (λ k. k < length items)) owned_there owned))
        ∙ subst (λ a. IfSome a (λ k. (item_at items k).counts ≡ true)) owned_there (counting e (sym (ap (λ (j : Declared). j.counts) same) ∙ counts)))
  ]

  reach_more : then_ordered ≡ true → (above below n : ℕ) → below < length later → (item_at later below).counts ≡ true → IsWithin later above below
      → is_named later (item_at later above).name n ≡ true → above ≤ n → n < length later
      → IfSome (last_of (now ++ None ∷ []) (get_or (tops ++ top ∷ []) n 0)) (λ last. below ≤ last)
  reach_more e above below n lt counts w named le short = elim (below_or_last below (length items) (omega (arith, lt, length-append items (i ∷ [])))) [
    | inr new ↦ (let there : IsWithin later above (length items) = subst (λ k. IsWithin later above k) new w in
        let opened = still_more e above n there (counts_there there) named le (omega (arith, short, length-append items (i ∷ []))) in
        subst (λ o. IfSome o (λ last. below ≤ last)) (sym opened.last) tt)
    | inl old ↦ elim (below_or_last n (length items) (omega (arith, short, length-append items (i ∷ [])))) [
      | inr last ↦ subst (λ o. IfSome o (λ l. below ≤ l)) (sym (ap (λ k. last_of (now ++ None ∷ []) (get_or (tops ++ top ∷ []) k 0)) last ∙ ap (last_of (now ++ None ∷ [])) top_last ∙ new_open)) tt
      | inl front ↦ old_reach old front
    ]
  ]
    where
      counts_there : IsWithin later above (length items) → (item_at later above).counts ≡ true
      counts_there there = counts_up later later_owners (counted_more e) w.0 above below lt counts w.1

      old_reach : below < length items → n < length items → IfSome (last_of (now ++ None ∷ []) (get_or (tops ++ top ∷ []) n 0)) (λ last. below ≤ last)
      old_reach old front =
          let inside = climbs_front items i owners w.0 above below old w.1 in
          let lt_above : above ≤ below = climbs_back items owners w.0 above below old inside in
          let known = kept.reach (was e) above below n old (sym (ap (λ (j : Declared). j.counts) (item_front items i below old)) ∙ counts) (w.0, inside)
          (sym (named_front items i (item_at items above).name n front) ∙ ap (λ (j : Declared). is_named later j.name n) (sym (item_front items i above (omega (arith, lt_above, old)))) ∙ named) le front in
          subst (λ o. IfSome o (λ last. below ≤ last)) (sym (ap (last_of (now ++ None ∷ [])) (top_front n front) ∙ last_front (get_or tops n 0) (omega (arith, kept.tops_back n front, front))))
          (elim (closed.closed (get_or tops n 0)) [
            | inl same ↦ subst (λ o. IfSome o (λ last. below ≤ last)) (sym same) known
            | inr p ↦ subst (λ o. IfSome o (λ last. below ≤ last)) (sym p.2) (omega (arith, old, p.1))
          ])

  -- what the new item is within has no last number
  opened_more : then_ordered ≡ true → (above : ℕ) → IsWithin later above (length items) → last_of (now ++ None ∷ []) above ≡ None
  opened_more e above w = by w.0 w.1
    where
      by : (k : ℕ) → Climbs later k above (length items) → last_of (now ++ None ∷ []) above ≡ None
      by zero c = ap (last_of (now ++ None ∷ [])) c ∙ last_last
      by (suc k) c =
          let up = climbs_last items i owners owned k above c in
          let there : up.0 < length items = subst (λ o. IfSome o (λ m. m < length items)) up.1 owned in
          let no_later : above ≤ up.0 = climbs_back items owners k above up.0 there up.2 in
          let inside = subst (λ o. IfSome o (λ m. (last : ℕ) → suc last ≡ length items → IsWithin items m last)) up.1 (closed.within (beyond e)) in
          let on = inside (length items - 1) (omega (arith, there)) in
          last_front above (omega (arith, there, no_later))
          ∙ subst (λ o. IfSome o (λ m. (j : ℕ) → j ≤ m → last_of now j ≡ last_of lasts j)) up.1 closed.kept above no_later
          ∙ kept.opened (was e) (length items - 1) above (omega (arith, there)) (climbs_through items k on.0 above up.0 (length items - 1) up.2 on.1)

  -- an item that is not closed has the new one within it
  inside_new : then_ordered ≡ true → (above : ℕ) → above < length items → last_of now above ≡ last_of lasts above → last_of lasts above ≡ None → IsWithin later above (length items)
  inside_new e above lt same none = by i.owner refl owned closed.within closed.taken
    where
      end : ℕ
      end = length items - 1

      is_end : suc end ≡ length items
      is_end = omega (arith, lt)

      old : IsWithin items above end
      old = kept.inside (was e) above end (omega (arith, lt)) (omega (arith, lt)) (subst (λ o. IfSome o (λ last. end ≤ last)) (sym none) tt)

      untaken : last_of now above ≡ Some end → ⊥
      untaken f = let bad : Some end ≡ None = sym f ∙ same ∙ none in cc

      by : (o : Option ℕ) → i.owner ≡ o → IfSome o (λ m. m < length items)
          → (is_after ≡ true → IfSome o (λ m. (last : ℕ) → suc last ≡ length items → IsWithin items m last))
          → ((n last : ℕ) → suc last ≡ length items → IsWithin items n last → IfSome o (λ m. m < n) → last_of now n ≡ Some last)
          → IsWithin later above (length items)
      by None f h within taken = absurd (untaken (taken above end is_end old tt))
      by (Some o) f h within taken = pick (nat_lt o above) refl
        where
          on : above ≤ o → IsWithin later above (length items)
          on short =
              let holds = within (beyond e) end is_end in
              let up = within_both items owners old.0 holds.0 above o end (omega (arith, is_end)) old.1 holds.1 short in
              (suc up.0, (o, ap (λ (j : Declared). j.owner) (item_last items i) ∙ f, climbs_later items i owners up.0 above o h up.1))

          pick : (b : Bool) → nat_lt o above ≡ b → IsWithin later above (length items)
          pick true g = absurd (untaken (taken above end is_end old (let over : o < above = grind (arith, nat_tests, g) in over)))
          pick false g = on (grind (arith, nat_tests, g))

  inside_more : then_ordered ≡ true → (above below : ℕ) → above ≤ below → below < length items + 1
      → IfSome (last_of (now ++ None ∷ []) above) (λ last. below ≤ last) → IsWithin later above below
  inside_more e above below le short h = elim (below_or_last below (length items) short) [
    | inl old ↦ (let lt : above < length items = omega (arith, le, old) in front lt old (subst (λ o. IfSome o (λ last. below ≤ last)) (last_front above lt) h))
    | inr new ↦ elim (below_or_last above (length items) (omega (arith, le, short))) [
      | inl lt ↦ subst (λ k. IsWithin later above k) (sym new) (open_there lt new (subst (λ o. IfSome o (λ last. below ≤ last)) (last_front above lt) h))
      | inr own ↦ (0, own ∙ sym new)
    ]
  ]
    where
      front : above < length items → below < length items → IfSome (last_of now above) (λ last. below ≤ last) → IsWithin later above below
      front lt old g = (w.0, climbs_later items i owners w.0 above below old w.1)
        where
          known : IfSome (last_of lasts above) (λ last. below ≤ last)
          known = elim (closed.closed above) [
            | inl same ↦ subst (λ o. IfSome o (λ last. below ≤ last)) same g
            | inr p ↦ subst (λ o. IfSome o (λ last. below ≤ last)) (sym (kept.opened (was e) p.0 above p.1 p.3)) tt
          ]

          w : IsWithin items above below
          w = kept.inside (was e) above below le old known

      open_there : above < length items → below ≡ length items → IfSome (last_of now above) (λ last. below ≤ last) → IsWithin later above (length items)
      open_there lt new g = elim (closed.closed above) [
        | inl same ↦ inside_new e above lt same (none (last_of lasts above) refl (kept.lasts_short above lt) (subst (λ o. IfSome o (λ last. below ≤ last)) same g))
        | inr p ↦ absurd (let late : below ≤ p.0 = subst (λ o. IfSome o (λ last. below ≤ last)) p.2 g in omega (arith, late, p.1, new))
      ]
        where
          none : (o : Option ℕ) → last_of lasts above ≡ o → IfSome o (λ last. last < length items) → IfSome o (λ last. below ≤ last) → last_of lasts above ≡ None
          none None f a b = f
          none (Some l) f a b = absurd (omega (arith, a, b, new))

  lasts_short_more : (n : ℕ) → n < length items + 1 → IfSome (last_of (now ++ None ∷ []) n) (λ last. last < length items + 1)
  lasts_short_more n lt = elim (below_or_last n (length items) lt) [
    | inl front ↦ subst (λ o. IfSome o (λ last. last < length items + 1)) (sym (last_front n front)) (elim (closed.closed n) [
      | inl same ↦ subst (λ o. IfSome o (λ last. last < length items + 1)) (sym same) (wider (last_of lasts n) (kept.lasts_short n front))
      | inr p ↦ subst (λ o. IfSome o (λ last. last < length items + 1)) (sym p.2) (omega (arith, p.1))
    ])
    | inr last ↦ subst (λ o. IfSome o (λ l. l < length items + 1)) (sym (ap (last_of (now ++ None ∷ [])) last ∙ last_last)) tt
  ]
    where
      wider : (o : Option ℕ) → IfSome o (λ last. last < length items) → IfSome o (λ last. last < length items + 1)
      wider None h = tt
      wider (Some l) h = omega (arith, h)

  -- the outermost item of the new one's name has its name
  top_named : (name : Name) → is_named later name (length items) ≡ true → is_named later name top ≡ true
  top_named name h = by before link within
    where
      tests : (i.counts ≡ true) × (same_name i.name name ≡ true)
      tests = both_true i.counts (same_name i.name name) (sym (ap (λ (j : Declared). j.counts && same_name j.name name) (item_last items i)) ∙ h)

      by : (o : Option ℕ) → (i.counts ≡ true → o ≡ last_below (is_named items i.name) (length items)) → IfSome o (λ b. b < length items)
          → is_named later name (outermost_of now tops o (length items)) ≡ true
      by None f g = h
      by (Some b) f g = pick (is_none (last_of now (get_or tops b 0)))
        where
          named : is_named items name b ≡ true
          named = subst (λ n. is_named items n b ≡ true) (same_text i.name name (sym tests.1))
              (subst (λ o. IfSome o (λ n. is_named items i.name n ≡ true)) (sym (f tests.0)) (last_passes (is_named items i.name) (length items)))

          pick : (t : Bool) → is_named later name (if t then get_or tops b 0 else length items) ≡ true
          pick true = named_front items i name (get_or tops b 0) (omega (arith, kept.tops_back b g, g)) ∙ kept.tops_named name b g named
          pick false = h

  tops_named_more : (name : Name) (n : ℕ) → n < length items + 1 → is_named later name n ≡ true → is_named later name (get_or (tops ++ top ∷ []) n 0) ≡ true
  tops_named_more name n lt h = elim (below_or_last n (length items) lt) [
    | inl front ↦ subst (λ k. is_named later name k ≡ true) (sym (top_front n front))
        (named_front items i name (get_or tops n 0) (omega (arith, kept.tops_back n front, front)) ∙ kept.tops_named name n front (sym (named_front items i name n front) ∙ h))
    | inr last ↦ subst (λ k. is_named later name (get_or (tops ++ top ∷ []) k 0) ≡ true) (sym last)
        (subst (λ k. is_named later name k ≡ true) (sym top_last) (top_named name (subst (λ k. is_named later name k ≡ true) last h)))
  ]

  one_more : length later ≡ length items + 1
  one_more = omega (arith, length-append items (i ∷ []))

  -- no item of the new one's name is above the outermost
  outermost_last : then_ordered ≡ true → (name : Name) (above : ℕ) → is_named later name (length items) ≡ true → IsWithin later above top
      → is_named later name above ≡ true → top ≤ above
  outermost_last e name above named w over = by before refl within w
    where
      tests : ((item_at later above).counts ≡ true) × (same_name (item_at later above).name name ≡ true)
      tests = both_true (item_at later above).counts (same_name (item_at later above).name name) over

      own : (item_at later above).name ≡ name
      own = same_text (item_at later above).name name (sym tests.1)

      itself : IsWithin later above (length items) → top ≤ above
      itself v = elim (below_or_last above (length items) (let up_to = climbs_back later later_owners v.0 above (length items) (omega (arith, one_more)) v.1 in omega (arith, up_to))) [
        | inl lt ↦ (new_within e above v lt (sym (ap (λ (j : Declared). j.counts) (item_front items i above lt)) ∙ tests.0)
            (subst (λ x. is_named later x (length items) ≡ true) (sym own) named)).0
        | inr here ↦ omega (arith, here, top_short)
      ]

      new : (i.counts ≡ true) × (same_name i.name name ≡ true)
      new = both_true i.counts (same_name i.name name) (sym (ap (λ (j : Declared). j.counts && same_name j.name name) (item_last items i)) ∙ named)

      by : (o : Option ℕ) → before ≡ o → IfSome o (λ b. b < length items) → IsWithin later above (outermost_of now tops o (length items))
          → outermost_of now tops o (length items) ≤ above
      by None f h v = subst (λ o. outermost_of now tops o (length items) ≤ above) f (itself v)
      by (Some b) f h v = pick (is_none (last_of now (get_or tops b 0))) refl v
        where
          named_b : is_named items name b ≡ true
          named_b = subst (λ x. is_named items x b ≡ true) (same_text i.name name (sym new.1))
              (subst (λ o. IfSome o (λ n. is_named items i.name n ≡ true)) (sym (link new.0) ∙ f) (last_passes (is_named items i.name) (length items)))

          pick : (t : Bool) → is_none (last_of now (get_or tops b 0)) ≡ t → IsWithin later above (if t then get_or tops b 0 else length items)
              → (if t then get_or tops b 0 else length items) ≤ above
          pick true g u =
              let back : get_or tops b 0 < length items = omega (arith, kept.tops_back b h, h) in
              let inside = climbs_front items i owners u.0 above (get_or tops b 0) back u.1 in
              let up_to = climbs_back items owners u.0 above (get_or tops b 0) back inside in
              kept.outermost (was e) name b above h named_b (u.0, inside) (sym (named_front items i name above (omega (arith, up_to, back))) ∙ over)
          pick false g u =
              subst (λ t. (if t then get_or tops b 0 else length items) ≤ above) g (subst (λ o. outermost_of now tops o (length items) ≤ above) f (itself u))

  outermost_more : then_ordered ≡ true → (name : Name) (n above : ℕ) → n < length items + 1 → is_named later name n ≡ true
      → IsWithin later above (get_or (tops ++ top ∷ []) n 0) → is_named later name above ≡ true → get_or (tops ++ top ∷ []) n 0 ≤ above
  outermost_more e name n above lt h w over = elim (below_or_last n (length items) lt) [
    | inl front ↦ (let back : get_or tops n 0 < length items = omega (arith, kept.tops_back n front, front) in
        let v = subst (λ k. IsWithin later above k) (top_front n front) w in
        let inside = climbs_front items i owners v.0 above (get_or tops n 0) back v.1 in
        let up_to = climbs_back items owners v.0 above (get_or tops n 0) back inside in
        subst (λ (k : ℕ). k ≤ above) (sym (top_front n front))
        (kept.outermost (was e) name n above front (sym (named_front items i name n front) ∙ h) (v.0, inside)
        (sym (named_front items i name above (omega (arith, up_to, back))) ∙ over)))
    | inr last ↦ (let is : get_or (tops ++ top ∷ []) n 0 ≡ top = ap (λ k. get_or (tops ++ top ∷ []) k 0) last ∙ top_last in
        subst (λ (k : ℕ). k ≤ above) (sym is)
        (outermost_last e name above (subst (λ k. is_named later name k ≡ true) last h) (subst (λ k. IsWithin later above k) is w) over))
  ]

  pub reaching_more : AreReaching later (now ++ None ∷ []) (tops ++ top ∷ []) then_ordered
  reaching_more = record {
    reach = reach_more;
    still = λ e last above n is w counts named le short.
        let end : last ≡ length items = omega (arith, is, length-append items (i ∷ [])) in
        still_more e above n (subst (λ k. IsWithin later above k) end w) counts named le (omega (arith, short, length-append items (i ∷ [])));
    counted = counted_more;
    opened = λ e last above is w.
        let end : last ≡ length items = omega (arith, is, one_more) in
        opened_more e above (subst (λ k. IsWithin later above k) end w);
    inside = λ e above below le short h. inside_more e above below le (omega (arith, short, one_more)) h;
    tops_named = λ name n lt h. tops_named_more name n (omega (arith, lt, one_more)) h;
    outermost = λ e name n above lt h w over. outermost_more e name n above (omega (arith, lt, one_more)) h w over;
    lasts_short = λ n lt. subst (λ (k : ℕ). IfSome (last_of (now ++ None ∷ []) n) (λ last. last < k)) (sym one_more) (lasts_short_more n (omega (arith, lt, one_more)));
    tops_back = λ n lt. elim (below_or_last n (length items) (omega (arith, lt, length-append items (i ∷ [])))) [
      | inl front ↦ subst (λ (k : ℕ). k ≤ n) (sym (top_front n front)) (kept.tops_back n front)
      | inr last ↦ subst (λ (k : ℕ). get_or (tops ++ top ∷ []) k 0 ≤ k) (sym last) (subst (λ (k : ℕ). k ≤ length items) (sym top_last) top_short)
    ];
    lasts_all = omega (arith, kept.lasts_all, closed.all, length-append items (i ∷ []), length-append now (None ∷ []));
    tops_all = omega (arith, kept.tops_all, length-append items (i ∷ []), length-append tops (top ∷ []));
  }

-- a name is one of these
abbrev pub IsAmong : Name → List Name → Type 0
IsAmong x [] = ⊥
IsAmong x (y ∷ ys) = (y ≡ x) ⊎ IsAmong x ys

-- the names of a part are names of the whole
pub part_among : (x : Name) (xs ys : List Name) → IsPart xs ys → IsAmong x xs → IsAmong x ys
part_among x [] ys h among = absurd among
part_among x (z ∷ zs) [] h among = absurd h
part_among x (z ∷ zs) (y ∷ ys) h among = elim h [
  | inl p ↦ elim among [
    | inl e ↦ inl (sym p.0 ∙ e)
    | inr rest ↦ inr (part_among x zs ys p.1 rest)
  ]
  | inr p ↦ inr (part_among x (z ∷ zs) ys p among)
]

among_front : (x : Name) (xs ys : List Name) → IsAmong x xs → IsAmong x (xs ++ ys)
among_front x [] ys h = absurd h
among_front x (z ∷ zs) ys h = elim h [
  | inl e ↦ inl e
  | inr rest ↦ inr (among_front x zs ys rest)
]

last_among : (x : Name) (xs : List Name) → IsAmong x (xs ++ x ∷ [])
last_among x [] = inl refl
last_among x (y ∷ ys) = inr (last_among x ys)

-- a name stands also among names that are read backwards
pub turned_among : (names : List Name) (k : ℕ) → k < length names → IsAmong (get_or names k []) (reverse names)
turned_among [] k lt = absurd (omega arith)
turned_among (n ∷ ns) zero lt = subst (IsAmong n) (sym (reverse-append (n ∷ []) ns)) (last_among n (reverse ns))
turned_among (n ∷ ns) (suc k) lt =
    subst (IsAmong (get_or ns k [])) (sym (reverse-append (n ∷ []) ns)) (among_front (get_or ns k []) (reverse ns) (n ∷ []) (turned_among ns k (omega (arith, lt))))

module _ (items : BlockItems) (owners : OwnersBefore items) where
  -- a name above an item is that of one that it is within
  pub above_named : (x : Name) (m n : ℕ) → n < m → n < length items → IsAmong x (chain_over items (item_at items n).owner)
      → (above : ℕ) × (IsWithin items above n) × (above < n) × ((item_at items above).name ≡ x)
  above_named x zero n le lt among = absurd (omega (arith, le))
  above_named x (suc m) n le lt among = by (above_named x m) (item_at items n).owner refl (owners n lt) among
    where
      by : ((o : ℕ) → o < m → o < length items → IsAmong x (chain_over items (item_at items o).owner) → (above : ℕ) × (IsWithin items above o) × (above < o) × ((item_at items above).name ≡ x))
          → (owner : Option ℕ) → (item_at items n).owner ≡ owner → IfSome owner (λ o. o < n) → IsAmong x (chain_over items owner)
          → (above : ℕ) × (IsWithin items above n) × (above < n) × ((item_at items above).name ≡ x)
      by rest None e h a = absurd a
      by rest (Some o) e h a = elim (subst (IsAmong x) (chain_is items o owners (omega (arith, h, lt))) a) [
        | inl own ↦ (o, (1, (o, e, refl)), h, own)
        | inr over ↦ (let up = rest o (omega (arith, h, le)) (omega (arith, h, lt)) over in (up.0, (suc up.1.0, (o, e, up.1.1)), (let less : up.0 < n = omega (arith, up.2, h) in less), up.3))
      ]

  -- an item that names fit reaches no further than the outermost of each name's last
  pub reach_told : (lasts : List (Option ℕ)) (tops : List ℕ) (is_ordered : Bool) → AreReaching items lasts tops is_ordered → is_ordered ≡ true
      → (names : List Name) (k : ℕ) → k < length names - 1 → (number : ℕ) (found : Option ℕ) → IsLastUpTo items (get_or names k []) number found
      → (n : ℕ) → n < length items → n ≤ number → (item_at items n).counts ≡ true
      → is_part (reverse (take (length names - 1) names)) (chain_over items (item_at items n).owner) ≡ true
      → (a : ℕ) × (found ≡ Some a) × IfSome (last_of lasts (get_or tops a 0)) (λ last. n ≤ last)
  reach_told lasts tops is_ordered kept ordered names k before number found is n lt le counts part =
      by found refl is.within is.named (is.last up.0 (omega (arith, up.2, lt)) (omega (arith, up.2, le)) named)
    where
      x : Name
      x = get_or names k []

      short : length (take (length names - 1) names) ≡ length names - 1
      short = length-take-le (length names - 1) names (omega arith)

      there : IsAmong x (reverse (take (length names - 1) names))
      there = subst (λ y. IsAmong y (reverse (take (length names - 1) names))) (get_or-take (length names - 1) names k [] before)
          (turned_among (take (length names - 1) names) k (omega (arith, before, short)))

      up : (above : ℕ) × (IsWithin items above n) × (above < n) × ((item_at items above).name ≡ x)
      up = above_named x (suc n) n (omega arith) lt
          (part_among x (reverse (take (length names - 1) names)) (chain_over items (item_at items n).owner)
          (part_to (chain_over items (item_at items n).owner) (reverse (take (length names - 1) names)) part) there)

      counting : (item_at items up.0).counts ≡ true
      counting = counts_up items owners (kept.counted ordered) up.1.0 up.0 n lt counts up.1.1

      named : is_named items x up.0 ≡ true
      named = ap (λ b. b && same_name (item_at items up.0).name x) counting
          ∙ subst (λ y. same_name (item_at items up.0).name y ≡ true) up.3 (pointwise-refl (item_at items up.0).name)

      by : (o : Option ℕ) → found ≡ o → IfSome o (λ a. a < length items) → IfSome o (λ a. is_named items x a ≡ true) → up.0 < rank o
          → (a : ℕ) × (found ≡ Some a) × IfSome (last_of lasts (get_or tops a 0)) (λ last. n ≤ last)
      by None e h g r = absurd (omega (arith, r))
      by (Some a) e h g r = (a, e, kept.reach ordered up.0 n a lt counts up.1 (subst (λ y. is_named items y a ≡ true) (sym up.3) g) (omega (arith, r)) h)

-- the item of its name before one that counts stands before it; one that does not count has none
pub noted_within : (items : BlockItems) (i : Declared) (before : Option ℕ) → (i.counts ≡ true → before ≡ last_below (is_named items i.name) (length items))
    → (i.counts ≡ false → before ≡ None) → IfSome before (λ b. b < length items)
noted_within items i before named none = by i.counts refl
  where
    by : (b : Bool) → i.counts ≡ b → IfSome before (λ n. n < length items)
    by true e = subst (λ o. IfSome o (λ n. n < length items)) (sym (named e)) (last_within (is_named items i.name) (length items))
    by false e = subst (λ o. IfSome o (λ n. n < length items)) (sym (none e)) tt
