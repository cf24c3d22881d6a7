-- Whether an item of a name stands above a place is told by how far items reach.
use Rattle.std.proofs.Common.{◌≡◌, ℕ, zero, suc, ◌+◌, ◌-◌, ◌<◌, ◌≤◌, ◌⊎◌, inl, inr, Bool, true, false, ◌&&◌, List, [], ◌∷◌, length, get_or, take, Option, None, Some, IfSome, if◌then◌else◌, refl, sym, ap, subst, ◌∙◌, arith}
use Rattle.std.specs.Prelude.{reverse}
use Rattle.std.specs.Option.{is_some}
use Rattle.std.specs.Cmp.Lexicographic.{same_text}
use Rattle.pli_base.specs.Name.{Name}
use Rattle.pli_base.specs.laws.NameLaws.{pointwise-refl}
use Rattle.pli_base.specs.Words.{same_name}
use Rattle.pli_declare_scopes.specs.Scopes.{BlockItems, item_at, is_named, chain_over, is_part}
use Rattle.pli_declare_scopes.specs.answers.Indexes.{OwnersBefore}
use Rattle.pli_declare_scopes.specs.answers.Leaps.{rank, IsLastUpTo}
use Rattle.pli_declare_scopes.specs.answers.Reaches.{Climbs, IsWithin, last_of, AreReaching, IsNearest}
use Rattle.pli_declare_scopes.specs.laws.ScopeLaws.{IsPart}
use Rattle.pli_declare_scopes.proofs.ChainLemmas.{chain_is, backwards}
use Rattle.pli_declare_scopes.proofs.IndexKept.{both_true}
use Rattle.pli_declare_scopes.proofs.ReferencesMeanOne.{part_to, part_from}
use Rattle.pli_declare_scopes.proofs.ReachesKept.{climbs_back, counts_up, IsAmong, part_among, above_named}

-- one name is a part where it is among the names
part_of_one : (x : Name) (ys : List Name) → IsAmong x ys → IsPart (x ∷ []) ys
part_of_one x [] h = absurd h
part_of_one x (y ∷ ys) h = elim h [
  | inl e ↦ inl (sym e, tt)
  | inr rest ↦ inr (part_of_one x ys rest)
]

-- the name of an item is among those of what is within it
among_above : (items : BlockItems) → OwnersBefore items → (k above place : ℕ) → place < length items → Climbs items k above place
    → IsAmong (item_at items above).name (chain_over items (Some place))
among_above items owners zero above place lt c =
    subst (IsAmong (item_at items above).name) (sym (chain_is items place owners lt)) (inl (ap (λ n. (item_at items n).name) (sym c)))
among_above items owners (suc k) above place lt c =
    let before : c.0 < place = subst (λ o. IfSome o (λ n. n < place)) c.1 (owners place lt) in
    let rest = among_above items owners k above c.0 (omega (arith, before, lt)) c.2 in
    subst (IsAmong (item_at items above).name) (sym (chain_is items place owners lt))
    (inr (subst (λ o. IsAmong (item_at items above).name (chain_over items o)) (sym c.1) rest))

module _ (items : BlockItems) (owners : OwnersBefore items) (lasts : List (Option ℕ)) (tops : List ℕ) (kept : AreReaching items lasts tops true)
    (name : Name) (place : ℕ) (lt : place < length items) (counts : (item_at items place).counts ≡ true)
    (found : Option ℕ) (is : IsLastUpTo items name place found) where
  abbrev above : Bool
  above = is_part (name ∷ []) (chain_over items (Some place))

  -- an item of the name that the place is within
  standing : above ≡ true → (n : ℕ) × IsWithin items n place × (n ≤ place) × (is_named items name n ≡ true)
  standing h = elim (subst (IsAmong name) (chain_is items place owners lt) there) [
    | inl own ↦ (place, (0, refl), omega arith, named place (0, refl) own)
    | inr over ↦ (let up = above_named items owners name (suc place) place (omega arith) lt over in
        (up.0, up.1, omega (arith, up.2), named up.0 up.1 up.3))
  ]
    where
      there : IsAmong name (chain_over items (Some place))
      there = part_among name (name ∷ []) (chain_over items (Some place)) (part_to (chain_over items (Some place)) (name ∷ []) h) (inl refl)

      named : (n : ℕ) → IsWithin items n place → (item_at items n).name ≡ name → is_named items name n ≡ true
      named n w e =
          ap (λ b. b && same_name (item_at items n).name name) (counts_up items owners (kept.counted refl) w.0 n place lt counts w.1)
          ∙ subst (λ y. same_name (item_at items n).name y ≡ true) e (pointwise-refl (item_at items n).name)

  not_standing : (above ≡ true → ⊥) → false ≡ above
  not_standing h = by above refl
    where
      by : (b : Bool) → above ≡ b → false ≡ b
      by true e = absurd (h e)
      by false e = refl

  -- none stands above where none is found
  pub none_above : found ≡ None → false ≡ above
  none_above e = not_standing (λ h.
      let n = standing h in
      let bad : n.0 < 0 = subst (λ o. n.0 < rank o) e (is.last n.0 (omega (arith, n.2, lt)) n.2 n.3) in
      omega (arith, bad))

  module _ (last : ℕ) (at : found ≡ Some last) where
    pub last_stands : last < length items
    last_stands = subst (λ o. IfSome o (λ n. n < length items)) at is.within

    abbrev top : ℕ
    top = get_or tops last 0

    -- the outermost of that name ends before the place
    pub ends_before : (end : ℕ) → last_of lasts top ≡ Some end → (place ≤ end → ⊥) → false ≡ above
    ends_before end e short = not_standing (λ h.
        let n = standing h in
        let up_to : n.0 < last + 1 = subst (λ o. n.0 < rank o) at (is.last n.0 (omega (arith, n.2, lt)) n.2 n.3) in
        let own : (item_at items n.0).name ≡ name = same_text (item_at items n.0).name name (sym (both_true (item_at items n.0).counts (same_name (item_at items n.0).name name) n.3).1) in
        let there : is_named items name last ≡ true = subst (λ o. IfSome o (λ m. is_named items name m ≡ true)) at is.named in
        let reached = kept.reach refl n.0 place last lt counts n.1 (subst (λ y. is_named items y last ≡ true) (sym own) there) (omega (arith, up_to)) last_stands in
        short (subst (λ o. IfSome o (λ m. place ≤ m)) e reached))

    -- or has the place within it
    pub reaches_on : IfSome (last_of lasts top) (λ end. place ≤ end) → true ≡ above
    reaches_on h =
        let there : is_named items name last ≡ true = subst (λ o. IfSome o (λ m. is_named items name m ≡ true)) at is.named in
        let bounded : last ≤ place = subst (λ o. IfSome o (λ m. m ≤ place)) at is.bounded in
        let named = kept.tops_named name last last_stands there in
        let own : (item_at items top).name ≡ name = same_text (item_at items top).name name (sym (both_true (item_at items top).counts (same_name (item_at items top).name name) named).1) in
        let w = kept.inside refl top place (omega (arith, bounded, kept.tops_back last last_stands)) lt h in
        let among = subst (λ y. IsAmong y (chain_over items (Some place))) own (among_above items owners w.0 top place lt w.1) in
        sym (part_from (chain_over items (Some place)) (name ∷ []) (part_of_one name (chain_over items (Some place)) among))

    pub end_tells : (end : ℕ) → last_of lasts top ≡ Some end → (b : Bool) → ((b ≡ true) × (place ≤ end)) ⊎ ((b ≡ false) × (end < place)) → b ≡ above
    end_tells end e b told = elim told [
      | inl up ↦ up.0 ∙ reaches_on (subst (λ o. IfSome o (λ m. place ≤ m)) (sym e) up.1)
      | inr short ↦ short.0 ∙ ends_before end e (λ le. omega (arith, le, short.1))
    ]

-- the first of some names is among the names that they are a part of
first_alone : (x : Name) (xs ys : List Name) → is_part (x ∷ xs) ys ≡ true → is_part (x ∷ []) ys ≡ true
first_alone x xs ys h = part_from ys (x ∷ []) (part_of_one x ys (part_among x (x ∷ xs) ys (part_to ys (x ∷ xs) h) (inl refl)))

module _ (items : BlockItems) (owners : OwnersBefore items) (lasts : List (Option ℕ)) (tops : List ℕ) (kept : AreReaching items lasts tops true) (name : Name) where
  -- names of items that a search passes over
  passed_up : (rest : List Name) (k last place : ℕ) → place < length items → (item_at items place).counts ≡ true → Climbs items k last place
      → ((n : ℕ) → n ≤ place → is_named items name n ≡ true → n ≤ last)
      → is_part (name ∷ rest) (chain_over items (Some last)) ≡ is_part (name ∷ rest) (chain_over items (Some place))
  passed_up rest zero last place lt counts c none = ap (λ n. is_part (name ∷ rest) (chain_over items (Some n))) c
  passed_up rest (suc k) last place lt counts c none =
      passed_up rest k last c.0 (omega (arith, before, lt)) (kept.counted refl place c.0 lt counts c.1) c.2 (λ n le h. none n (omega (arith, le, before)) h)
      ∙ ap (λ o. is_part (name ∷ rest) (chain_over items o)) (sym c.1)
      ∙ ap (λ b. is_part (if b then rest else name ∷ rest) (chain_over items (item_at items place).owner)) (sym (other (same_name name (item_at items place).name) refl))
      ∙ ap (is_part (name ∷ rest)) (sym (chain_is items place owners lt))
    where
      before : c.0 < place
      before = subst (λ o. IfSome o (λ n. n < place)) c.1 (owners place lt)

      other : (b : Bool) → same_name name (item_at items place).name ≡ b → b ≡ false
      other false e = refl
      other true e =
          let same : name ≡ (item_at items place).name = same_text name (item_at items place).name (sym e) in
          let named : is_named items name place ≡ true =
          ap (λ b. b && same_name (item_at items place).name name) counts
          ∙ subst (λ y. same_name y name ≡ true) same (pointwise-refl name) in
          absurd (omega (arith, before, none place (omega arith) named, climbs_back items owners k last c.0 (omega (arith, before, lt)) c.2))

  module _ (place : ℕ) (lt : place < length items) (counts : (item_at items place).counts ≡ true) (found : Option ℕ) (is : IsLastUpTo items name place found)
      (stands : Bool) (told : stands ≡ is_part (name ∷ []) (chain_over items (Some place))) where
    pub nearest_none : stands ≡ false → IsNearest items name place None
    nearest_none e = record {
      bounded = tt;
      counts = tt;
      one = sym e ∙ told;
      part = λ rest. by rest (is_part (name ∷ rest) (chain_over items (Some place))) refl;
    }
      where
        by : (rest : List Name) (b : Bool) → is_part (name ∷ rest) (chain_over items (Some place)) ≡ b → false ≡ b
        by rest false f = refl
        by rest true f = sym e ∙ told ∙ first_alone name rest (chain_over items (Some place)) f

    pub nearest_here : stands ≡ true → IsNearest items name place (Some place)
    nearest_here e = record {
      bounded = omega arith;
      counts = counts;
      one = sym e ∙ told;
      part = λ rest. refl;
    }

    pub nearest_last : stands ≡ true → (last : ℕ) → found ≡ Some last → IfSome (last_of lasts last) (λ end. place ≤ end) → IsNearest items name place (Some last)
    nearest_last e last at reach = record {
      bounded = bounded;
      counts = (both_true (item_at items last).counts (same_name (item_at items last).name name) (subst (λ o. IfSome o (λ m. is_named items name m ≡ true)) at is.named)).0;
      one = sym e ∙ told;
      part = λ rest. passed_up rest w.0 last place lt counts w.1
          (λ n le h. let short : n < last + 1 = subst (λ o. n < rank o) at (is.last n (omega (arith, le, lt)) le h) in omega (arith, short));
    }
      where
        bounded : last ≤ place
        bounded = subst (λ o. IfSome o (λ m. m ≤ place)) at is.bounded

        w : IsWithin items last place
        w = kept.inside refl last place bounded lt reach

-- the names before a place of a reference, read backwards
module _ (items : BlockItems) (names : List Name) (left : ℕ) (lt : left < length names) (some : 0 < left) (place : ℕ) (result : Option ℕ)
    (near : IsNearest items (get_or names (left - 1) []) place result) where
  turned : get_or names (left - 1) [] ∷ reverse (take (left - 1) names) ≡ reverse (take left names)
  turned =
      let whole : (left - 1) + 1 ≡ left = omega (arith, some) in
      sym (backwards names (left - 1) [] (omega (arith, lt))) ∙ ap (λ n. reverse (take n names)) whole

  pub nearest_part : is_part (reverse (take left names)) (chain_over items result) ≡ is_part (reverse (take left names)) (chain_over items (Some place))
  nearest_part =
      ap (λ ns. is_part ns (chain_over items result)) (sym turned) ∙ near.part (reverse (take (left - 1) names))
      ∙ ap (λ ns. is_part ns (chain_over items (Some place))) turned

  pub nearest_one : left ≡ 1 → is_some result ≡ is_part (reverse (take left names)) (chain_over items (Some place))
  nearest_one e =
      near.one ∙ ap (λ k. is_part (get_or names (left - 1) [] ∷ reverse (take (k - 1) names)) (chain_over items (Some place))) (sym e)
      ∙ ap (λ ns. is_part ns (chain_over items (Some place))) turned

  pub nearest_stands : place < length items → IfSome result (λ o. o < length items)
  nearest_stands here = by result near.bounded
    where
      by : (o : Option ℕ) → IfSome o (λ n. n ≤ place) → IfSome o (λ n. n < length items)
      by None h = tt
      by (Some n) h = omega (arith, h, here)

  pub nearest_counts : (is_ordered : Bool) → IfSome result (λ o. is_ordered ≡ true → (item_at items o).counts ≡ true)
  nearest_counts is_ordered = by result near.counts
    where
      by : (o : Option ℕ) → IfSome o (λ n. (item_at items n).counts ≡ true) → IfSome o (λ n. is_ordered ≡ true → (item_at items n).counts ≡ true)
      by None h = tt
      by (Some n) h = λ e. h

-- where items stand in order, the owner of an item that counts counts
pub owner_counts : (items : BlockItems) (lasts : List (Option ℕ)) (tops : List ℕ) (is_ordered : Bool) → AreReaching items lasts tops is_ordered
    → (place : ℕ) → place < length items → (is_ordered ≡ true → (item_at items place).counts ≡ true)
    → (owner : Option ℕ) → (item_at items place).owner ≡ owner → IfSome owner (λ o. is_ordered ≡ true → (item_at items o).counts ≡ true)
owner_counts items lasts tops is_ordered kept place lt counts None own = tt
owner_counts items lasts tops is_ordered kept place lt counts (Some o) own = λ e. kept.counted e place o lt (counts e) own
