-- The names of a block are those of its marks.
use Rattle.std.proofs.Common.{◌≡◌, ℕ, zero, suc, ◌+◌, ◌-◌, ◌<◌, ◌≤◌, ◌==◌, Bool, true, false, if◌then◌else◌, List, [], ◌∷◌, ◌++◌, map, length, get_or, Contains, inl, inr, refl, sym, ap, ◌∙◌, subst, arith}
use Rattle.std.specs.List.{flat_map}
use Rattle.std.proofs.lemmas.Bool.{cases_lt, eqb-true, eq-eqb}
use Rattle.std.proofs.lemmas.List.{get_or_append_left, get_or-append-add, length-append, length-map}
use Rattle.pli_base.specs.Declarations.{Item}
use Rattle.pli_base.specs.declared.syntax.Identifier.{Identifier}
use Rattle.pli_declare_outline.specs.Outlines.{Region, Mark, Declared, Labelled, Entered, Used, Jumped, PlacedMark, Outline}
use Rattle.pli_declare_constructs.specs.Regions.{block_of}
use Rattle.pli_declare_scopes.specs.Levels.{standings_of, level_of}
use Rattle.pli_declare_scopes.specs.declared.level.ItemStanding.{ItemStanding}
use Rattle.pli_declare.specs.Tables.{AsItem, AsLabel, Entry, no_entry, entries_of, entries_after, entries_in, inner_marks, named, item_entries}
use Rattle.pli_declare.proofs.MarkWalkLemmas.{entries_grow, length_standings}
use Rattle.pli_resolve.proofs.OwnersAreItems.{item_there}

-- a name that a mark of a block declares, the first of whose names has the number base there
pub record IsOf (regions : List Region) (block : ℕ) (ps : List PlacedMark) (e : Entry) : Type 0 where
  pub placed : PlacedMark
  pub stands : Contains ps placed
  pub in_block : block_of regions placed.region ≡ block
  pub base : ℕ
  pub number : ℕ
  pub within : number < length (entries_of base placed.region placed.mark)
  pub same : get_or (entries_of base placed.region placed.mark) number no_entry ≡ e

module _ (regions : List Region) (block : ℕ) where
  abbrev new : List Entry → PlacedMark → List Entry
  new es p = if block_of regions p.region == block then entries_of (length es) p.region p.mark else []

  keep : (es : List Entry) (ps : List PlacedMark) (n : ℕ) → n < length es → get_or (entries_after regions block es ps) n no_entry ≡ get_or es n no_entry
  keep es [] n lt = refl
  keep es (p ∷ ps) n lt = keep (es ++ new es p) ps n (omega (arith, lt, length-append es (new es p))) ∙ get_or_append_left es (new es p) no_entry n lt

  -- from a name to its mark
  later : (p : PlacedMark) (ps : List PlacedMark) (e : Entry) → IsOf regions block ps e → IsOf regions block (p ∷ ps) e
  later p ps e h = record {
    placed = h.placed;
    stands = (suc h.stands.0, omega (arith, h.stands.1), h.stands.2);
    in_block = h.in_block;
    base = h.base;
    number = h.number;
    within = h.within;
    same = h.same;
  }

  first : (p : PlacedMark) (ps : List PlacedMark) (base k : ℕ) (e : Entry) (b : Bool) → (block_of regions p.region == block) ≡ b
      → k < length (if b then entries_of base p.region p.mark else []) → get_or (if b then entries_of base p.region p.mark else []) k no_entry ≡ e → IsOf regions block (p ∷ ps) e
  first p ps base k e true t lt same = record {
    placed = p;
    stands = (0, omega arith, refl);
    in_block = eqb-true (block_of regions p.region) block t;
    base = base;
    number = k;
    within = lt;
    same = same;
  }
  first p ps base k e false t lt same = absurd (omega (arith, lt))

  from_marks : (es : List Entry) (ps : List PlacedMark) (n : ℕ) → length es ≤ n → n < length (entries_after regions block es ps)
      → IsOf regions block ps (get_or (entries_after regions block es ps) n no_entry)
  from_marks es [] n low high = absurd (omega (arith, low, high))
  from_marks es (p ∷ ps) n low high = elim (cases_lt n (length (es ++ new es p))) [
    | inl now ↦ (let k = n - length es in
        let at : n ≡ length es + k = omega (arith, low) in
        let b = block_of regions p.region == block in
        first p ps (length es) k (get_or (entries_after regions block (es ++ new es p) ps) n no_entry) b refl (omega (arith, now, low, length-append es (new es p)))
        (sym (keep (es ++ new es p) ps n now ∙ ap (λ j. get_or (es ++ new es p) j no_entry) at ∙ get_or-append-add es (new es p) k no_entry)))
    | inr past ↦ later p ps (get_or (entries_after regions block (es ++ new es p) ps) n no_entry) (from_marks (es ++ new es p) ps n past high)
  ]

  -- from a mark to its names
  pub record AreNames (entries : List Entry) (p : PlacedMark) : Type 0 where
    pub base : ℕ
    pub within : (k : ℕ) → k < length (entries_of base p.region p.mark) → base + k < length entries
    pub same : (k : ℕ) → k < length (entries_of base p.region p.mark) → get_or entries (base + k) no_entry ≡ get_or (entries_of base p.region p.mark) k no_entry

  names_here : (es : List Entry) (p : PlacedMark) (ps : List PlacedMark) (added : List Entry) → added ≡ entries_of (length es) p.region p.mark → AreNames (entries_after regions block (es ++ added) ps) p
  names_here es p ps added e = record {
    base = length es;
    within = λ k lt. omega (arith, lt, ap length e, length-append es added, entries_grow regions block (es ++ added) ps);
    same = λ k lt. keep (es ++ added) ps (length es + k) (omega (arith, lt, ap length e, length-append es added)) ∙ get_or-append-add es added k no_entry ∙ ap (λ xs. get_or xs k no_entry) e;
  }

  to_names : (es : List Entry) (ps : List PlacedMark) (p : PlacedMark) (i : ℕ) → i < length ps → get_or ps i p ≡ p → block_of regions p.region ≡ block → AreNames (entries_after regions block es ps) p
  to_names es [] p i lt is e = absurd (omega (arith, lt))
  to_names es (q ∷ qs) p zero lt is e =
      subst (λ r. AreNames (entries_after regions block (es ++ new es r) qs) p) (sym is)
      (names_here es p qs (new es p) (ap (λ (b : Bool). if b then entries_of (length es) p.region p.mark else []) (eq-eqb (block_of regions p.region) block e)))
  to_names es (q ∷ qs) p (suc i) lt is e = to_names (es ++ new es q) qs p i (omega (arith, lt)) is e

pub mark_of : (o : Outline) (block n : ℕ) → n < length (entries_in o block) → IsOf o.regions block (inner_marks o.marks) (get_or (entries_in o block) n no_entry)
mark_of o block n lt = from_marks o.regions block [] (inner_marks o.marks) n (omega arith) lt

pub names_of_mark : (o : Outline) (p : PlacedMark) → Contains (inner_marks o.marks) p → AreNames o.regions (block_of o.regions p.region) (entries_in o (block_of o.regions p.region)) p
names_of_mark o p c = to_names o.regions (block_of o.regions p.region) [] (inner_marks o.marks) p c.0 c.1 c.2 refl

-- a label is that of its mark
pub only_labelled : (base here : ℕ) (m : Mark) (k inner : ℕ) → k < length (entries_of base here m) → (get_or (entries_of base here m) k no_entry).entity ≡ AsLabel inner
    → (m ≡ Labelled (get_or (entries_of base here m) k no_entry).identifier) × (here ≡ inner)
only_labelled base here (Labelled label) zero inner lt e = (refl, cc)
only_labelled base here (Labelled label) (suc k) inner lt e = absurd (omega (arith, lt))
only_labelled base here (Declared items) k inner lt e =
    let it = item_there base (flat_map named items) (standings_of (map (λ x. x.1.level) (flat_map named items))) k lt in
    absurd (not_item it.0 it.1 inner (sym it.2 ∙ e))
  where
    not_item : (item : Item) (is_bad : Bool) (inner : ℕ) → AsItem item is_bad ≡ AsLabel inner → ⊥
    not_item item is_bad inner f = cc
only_labelled base here (Entered heading region) zero inner lt e = cc
only_labelled base here (Entered heading region) (suc k) inner lt e = absurd (omega (arith, lt))
only_labelled base here (Used names) k inner lt e = absurd (omega (arith, lt))
only_labelled base here (Jumped label) k inner lt e = absurd (omega (arith, lt))

-- the names of a DECLARE
same_count : (items : List Item) → length (standings_of (map (λ (x : Identifier × Item). x.1.level) (flat_map named items))) ≡ length (flat_map named items)
same_count items =
    let names = flat_map named items in
    let levels = map (λ (x : Identifier × Item). x.1.level) names in
    length_standings [] 0 (map level_of levels) ∙ length-map levels level_of ∙ length-map names (λ (x : Identifier × Item). x.1.level)

entry_of : (base : ℕ) (xs : List (Identifier × Item)) (ss : List ItemStanding) (k : ℕ) (x : Identifier × Item) → length ss ≡ length xs → k < length xs → get_or xs k x ≡ x
    → (k < length (item_entries base xs ss)) × (is_bad : Bool) × ((get_or (item_entries base xs ss) k no_entry).identifier ≡ x.0) × ((get_or (item_entries base xs ss) k no_entry).entity ≡ AsItem x.1 is_bad)
entry_of base [] ss k x l lt e = absurd (omega (arith, lt))
entry_of base (y ∷ ys) [] k x l lt e = absurd (omega (arith, l))
entry_of base (y ∷ ys) (s ∷ ss) zero x l lt e = (omega arith, s.is_bad, ap (λ (z : Identifier × Item). z.0) e, ap (λ (z : Identifier × Item). AsItem z.1 s.is_bad) e)
entry_of base (y ∷ ys) (s ∷ ss) (suc k) x l lt e =
    let rest = entry_of base ys ss k x (omega (arith, l)) (omega (arith, lt)) e in
    (omega (arith, rest.0), rest.1, rest.2, rest.3)

pub item_at : (base here : ℕ) (items : List Item) (k : ℕ) (x : Identifier × Item) → k < length (flat_map named items) → get_or (flat_map named items) k x ≡ x
    → (k < length (entries_of base here (Declared items))) × (is_bad : Bool) × ((get_or (entries_of base here (Declared items)) k no_entry).identifier ≡ x.0)
    × ((get_or (entries_of base here (Declared items)) k no_entry).entity ≡ AsItem x.1 is_bad)
item_at base here items k x lt e = entry_of base (flat_map named items) (standings_of (map (λ x. x.1.level) (flat_map named items))) k x (same_count items) lt e

item_from : (base : ℕ) (xs : List (Identifier × Item)) (ss : List ItemStanding) (k : ℕ) → k < length (item_entries base xs ss)
    → (x : Identifier × Item) × (k < length xs) × (get_or xs k x ≡ x) × (is_bad : Bool) × ((get_or (item_entries base xs ss) k no_entry).identifier ≡ x.0)
    × ((get_or (item_entries base xs ss) k no_entry).entity ≡ AsItem x.1 is_bad)
item_from base [] ss k lt = absurd (omega (arith, lt))
item_from base (y ∷ ys) [] k lt = absurd (omega (arith, lt))
item_from base (y ∷ ys) (s ∷ ss) zero lt = (y, omega arith, refl, s.is_bad, refl, refl)
item_from base (y ∷ ys) (s ∷ ss) (suc k) lt =
    let rest = item_from base ys ss k (omega (arith, lt)) in
    (rest.0, omega (arith, rest.1), rest.2, rest.3, rest.4, rest.5)

pub item_of_entry : (base here : ℕ) (items : List Item) (k : ℕ) → k < length (entries_of base here (Declared items))
    → (x : Identifier × Item) × (k < length (flat_map named items)) × (get_or (flat_map named items) k x ≡ x) × (is_bad : Bool)
    × ((get_or (entries_of base here (Declared items)) k no_entry).identifier ≡ x.0) × ((get_or (entries_of base here (Declared items)) k no_entry).entity ≡ AsItem x.1 is_bad)
item_of_entry base here items k lt = item_from base (flat_map named items) (standings_of (map (λ x. x.1.level) (flat_map named items))) k lt
