-- Two names of a reference, one after the other, above an item.
use Rattle.std.proofs.Common.{◌≡◌, ℕ, zero, suc, ◌+◌, ◌-◌, ◌<◌, ◌≤◌, inl, inr, Bool, true, false, nat_lt, ◌&&◌, List, [], ◌∷◌, ◌++◌, length, get_or, take, Option, None, Some, IfSome, refl, sym, ap, subst, ◌∙◌, arith}
use Rattle.std.specs.Prelude.{reverse}
use Rattle.std.proofs.lemmas.Bool.Decides.{nat_tests}
use Rattle.std.proofs.lemmas.List.{reverse-append, get_or-take, length-take-le}
use Rattle.pli_base.specs.Name.{Name}
use Rattle.pli_base.specs.laws.NameLaws.{pointwise-refl}
use Rattle.pli_base.specs.Words.{same_name}
use Rattle.pli_declare_scopes.specs.Scopes.{BlockItems, item_at, is_named, chain_over, is_part}
use Rattle.pli_declare_scopes.specs.answers.Indexes.{OwnersBefore}
use Rattle.pli_declare_scopes.specs.answers.Leaps.{IsLastUpTo}
use Rattle.pli_declare_scopes.specs.answers.Reaches.{IsWithin, last_of, AreReaching}
use Rattle.pli_declare_scopes.specs.laws.ScopeLaws.{IsPart}
use Rattle.pli_declare_scopes.proofs.ReferencesMeanOne.{part_to}
use Rattle.pli_declare_scopes.proofs.ChainLemmas.{chain_is}
use Rattle.pli_declare_scopes.proofs.ReachesKept.{climbs_through, within_both, counts_up, IsAmong, part_among, turned_among, above_named}

-- some of some names are some of these
pub part_through : (xs ys zs : List Name) → IsPart xs ys → IsPart ys zs → IsPart xs zs
part_through [] ys zs h g = tt
part_through (x ∷ xs) [] zs h g = absurd h
part_through (x ∷ xs) (y ∷ ys) [] h g = absurd g
part_through (x ∷ xs) (y ∷ ys) (z ∷ zs) h g = elim g [
  | inl p ↦ elim h [
    | inl q ↦ inl (q.0 ∙ p.0, part_through xs ys zs q.1 p.1)
    | inr q ↦ inr (part_through (x ∷ xs) ys zs q p.1)
  ]
  | inr p ↦ inr (part_through (x ∷ xs) (y ∷ ys) zs h p)
]

pub part_front : (xs ys zs : List Name) → IsPart xs ys → IsPart xs (ys ++ zs)
part_front [] ys zs h = tt
part_front (x ∷ xs) [] zs h = absurd h
part_front (x ∷ xs) (y ∷ ys) zs h = elim h [
  | inl p ↦ inl (p.0, part_front xs ys zs p.1)
  | inr p ↦ inr (part_front (x ∷ xs) ys zs p)
]

-- a name among some, and one after them
then_last : (y x : Name) (ys : List Name) → IsAmong y ys → IsPart (y ∷ x ∷ []) (ys ++ x ∷ [])
then_last y x [] h = absurd h
then_last y x (z ∷ zs) h = elim h [
  | inl e ↦ inl (sym e, at_end zs)
  | inr rest ↦ inr (then_last y x zs rest)
]
  where
    at_end : (ws : List Name) → IsPart (x ∷ []) (ws ++ x ∷ [])
    at_end [] = inl (refl, tt)
    at_end (w ∷ ws) = inr (at_end ws)

-- two names one after the other stand the other way round among names that are read backwards
turned_pair : (names : List Name) (k : ℕ) → suc k < length names → IsPart (get_or names (suc k) [] ∷ get_or names k [] ∷ []) (reverse names)
turned_pair [] k lt = absurd (omega arith)
turned_pair (n ∷ ns) zero lt =
    subst (IsPart (get_or ns 0 [] ∷ n ∷ [])) (sym (reverse-append (n ∷ []) ns)) (then_last (get_or ns 0 []) n (reverse ns) (turned_among ns 0 (omega (arith, lt))))
turned_pair (n ∷ ns) (suc k) lt =
    subst (IsPart (get_or ns (suc k) [] ∷ get_or ns k [] ∷ [])) (sym (reverse-append (n ∷ []) ns))
    (part_front (get_or ns (suc k) [] ∷ get_or ns k [] ∷ []) (reverse ns) (n ∷ []) (turned_pair ns k (omega (arith, lt))))

module _ (items : BlockItems) (owners : OwnersBefore items) where
  -- two names above an item are those of two that it is within, the second within the first
  pair_named : (y x : Name) (m n : ℕ) → n < m → n < length items → IsPart (y ∷ x ∷ []) (chain_over items (item_at items n).owner)
      → (below : ℕ) × (above : ℕ) × (IsWithin items below n) × (IsWithin items above below) × (below < n) × (above < below)
      × ((item_at items below).name ≡ y) × ((item_at items above).name ≡ x)
  pair_named y x zero n le lt h = absurd (omega (arith, le))
  pair_named y x (suc m) n le lt h = by (pair_named y x m) (item_at items n).owner refl (owners n lt) h
    where
      by : ((o : ℕ) → o < m → o < length items → IsPart (y ∷ x ∷ []) (chain_over items (item_at items o).owner)
          → (below : ℕ) × (above : ℕ) × (IsWithin items below o) × (IsWithin items above below) × (below < o) × (above < below)
          × ((item_at items below).name ≡ y) × ((item_at items above).name ≡ x))
          → (owner : Option ℕ) → (item_at items n).owner ≡ owner → IfSome owner (λ o. o < n) → IsPart (y ∷ x ∷ []) (chain_over items owner)
          → (below : ℕ) × (above : ℕ) × (IsWithin items below n) × (IsWithin items above below) × (below < n) × (above < below)
          × ((item_at items below).name ≡ y) × ((item_at items above).name ≡ x)
      by rest None e h a = absurd a
      by rest (Some o) e h a = elim (subst (IsPart (y ∷ x ∷ [])) (chain_is items o owners (omega (arith, h, lt))) a) [
        | inl own ↦ (let up = above_named items owners x (suc o) o (omega arith) (omega (arith, h, lt))
            (part_among x (x ∷ []) (chain_over items (item_at items o).owner) own.1 (inl refl)) in
            (o, up.0, (1, (o, e, refl)), up.1, h, up.2, sym own.0, up.3))
        | inr over ↦ (let up = rest o (omega (arith, h, le)) (omega (arith, h, lt)) over in
            (up.0, up.1, (suc up.2.0, (o, e, up.2.1)), up.3, (let less : up.0 < n = omega (arith, up.4, h) in less), up.5, up.6, up.7))
      ]

  -- where the last item of a name stands no further within the outermost of the name before it, nothing within that fits
  pub reach_apart : (lasts : List (Option ℕ)) (tops : List ℕ) (is_ordered : Bool) → AreReaching items lasts tops is_ordered → is_ordered ≡ true
      → (names : List Name) (k : ℕ) → suc k < length names - 1 → (number outer inner : ℕ)
      → IsLastUpTo items (get_or names k []) number (Some outer) → IsLastUpTo items (get_or names (suc k) []) number (Some inner)
      → inner ≤ get_or tops outer 0 → IfSome (last_of lasts (get_or tops outer 0)) (λ last. number ≤ last)
      → (n : ℕ) → n < length items → n ≤ number → (item_at items n).counts ≡ true
      → is_part (reverse (take (length names - 1) names)) (chain_over items (item_at items n).owner) ≡ true → n ≤ get_or tops outer 0
  reach_apart lasts tops is_ordered kept ordered names k before number outer inner is_outer is_inner short reached n lt le counts part = by (nat_lt top n) refl
    where
      top : ℕ
      top = get_or tops outer 0

      x : Name
      x = get_or names k []

      y : Name
      y = get_or names (suc k) []

      front : List Name
      front = take (length names - 1) names

      long : length front ≡ length names - 1
      long = length-take-le (length names - 1) names (omega arith)

      turned : IsPart (y ∷ x ∷ []) (reverse front)
      turned = subst (λ z. IsPart (y ∷ z ∷ []) (reverse front)) (get_or-take (length names - 1) names k [] (omega (arith, before)))
          (subst (λ z. IsPart (z ∷ get_or front k [] ∷ []) (reverse front)) (get_or-take (length names - 1) names (suc k) [] before)
          (turned_pair front k (omega (arith, before, long))))

      weaker : (o : Option ℕ) → IfSome o (λ last. number ≤ last) → IfSome o (λ last. n ≤ last)
      weaker None h = tt
      weaker (Some l) h = omega (arith, h, le)

      none : top < n → ⊥
      none over =
          let w = kept.inside ordered top n (omega (arith, over)) lt (weaker (last_of lasts top) reached) in
          let p = pair_named y x (suc n) n (omega arith) lt
          (part_through (y ∷ x ∷ []) (reverse front) (chain_over items (item_at items n).owner) turned (part_to (chain_over items (item_at items n).owner) (reverse front) part)) in
          let counting = counts_up items owners (kept.counted ordered) p.2.0 p.0 n lt counts p.2.1 in
          let stands : p.0 < length items = omega (arith, p.4, lt) in
          let over_counting = counts_up items owners (kept.counted ordered) p.3.0 p.1 p.0 stands counting p.3.1 in
          let named : is_named items y p.0 ≡ true = ap (λ b. b && same_name (item_at items p.0).name y) counting
          ∙ subst (λ z. same_name (item_at items p.0).name z ≡ true) p.6 (pointwise-refl (item_at items p.0).name) in
          let over_named : is_named items x p.1 ≡ true = ap (λ b. b && same_name (item_at items p.1).name x) over_counting
          ∙ subst (λ z. same_name (item_at items p.1).name z ≡ true) p.7 (pointwise-refl (item_at items p.1).name) in
          let up_to : p.0 < inner + 1 = is_inner.last p.0 stands (omega (arith, p.4, le)) named in
          let both = climbs_through items p.3.0 p.2.0 p.1 p.0 n p.3.1 p.2.1 in
          let inside = within_both items owners both.0 w.0 p.1 top n lt both.1 w.1 (omega (arith, p.5, up_to, short)) in
          let least = kept.outermost ordered x outer p.1 is_outer.within is_outer.named inside over_named in
          omega (arith, least, p.5, up_to, short)

      by : (b : Bool) → nat_lt top n ≡ b → n ≤ top
      by true e = absurd (none (grind (arith, nat_tests, e)))
      by false e = grind (arith, nat_tests, e)
