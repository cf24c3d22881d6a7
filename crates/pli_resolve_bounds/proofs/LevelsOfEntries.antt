-- Members are at higher levels than the items that they are members of, and no level without a fault is over 255.
use Rattle.std.proofs.Common.{◌≡◌, ℕ, zero, suc, ◌+◌, ◌-◌, ◌<◌, ◌≤◌, ◌==◌, Bool, true, false, true≢false, Option, Some, None, IfSome, option_map, if◌then◌else◌, List, [], ◌∷◌, ◌++◌, map, length, get_or, append-nil, length-append, refl, sym, ap, subst, ◌∙◌, inl, inr, arith}
use Rattle.std.specs.List.{flat_map}
use Rattle.std.proofs.lemmas.Bool.{cases_lt}
use Rattle.std.proofs.lemmas.List.{get_or-map, length-map, get_or_append_left, get_or-append-add, get_or-append_right}
use Rattle.pli_base.specs.Declarations.{Item}
use Rattle.pli_base.specs.declared.syntax.Identifier.{Identifier}
use Rattle.pli_declare_outline.specs.Outlines.{Region, Mark, Declared, Labelled, Entered, Used, Jumped, PlacedMark, Outline}
use Rattle.pli_declare_constructs.specs.Regions.{block_of}
use Rattle.pli_declare_scopes.specs.Levels.{level_of, standing, standings_of}
use Rattle.pli_declare_scopes.specs.laws.LevelLaws.{level_at, stands_at}
use Rattle.pli_declare_scopes.specs.declared.level.ItemStanding.{ItemStanding}
use Rattle.pli_declare_scopes.proofs.OwnersFound.{owners_are_nearest, bad_levels_are_found}
use Rattle.pli_declare.specs.Tables.{Entity, AsItem, AsLabel, AsProcedure, Entry, no_entry, named, item_entry, item_entries, declared_entries, entries_of, entries_after, inner_marks, entries_in, heading_entries, unit_entries}
use Rattle.pli_declare.specs.Places.{no_item}

-- an item's level; what is no item has no members
abbrev pub level_in : Entity → ℕ
level_in (AsItem item is_bad) = level_of item.level
level_in (AsLabel region) = 0
level_in (AsProcedure heading region) = 0

abbrev pub entry_level : List Entry → ℕ → ℕ
entry_level entries n = level_in (get_or entries n no_entry).entity

abbrev pub IsUnder : List Entry → (level : ℕ) → (owner : Option ℕ) → Type 0
IsUnder entries level owner = IfSome owner (λ o. (o < length entries) × (entry_level entries o < level))

abbrev pub IsLevel : Entity → Type 0
IsLevel (AsItem item is_bad) = is_bad ≡ false → level_of item.level ≤ 255
IsLevel (AsLabel region) = Unit {0}
IsLevel (AsProcedure heading region) = Unit {0}

abbrev pub IsRanked : List Entry → Entry → Type 0
IsRanked entries e = IsUnder entries (level_in e.entity) e.owner × IsLevel e.entity

abbrev pub AreRanked : List Entry → Type 0
AreRanked entries = (n : ℕ) → n < length entries → IsRanked entries (get_or entries n no_entry)

-- more entries after them

under_more : (es new : List Entry) (level : ℕ) (owner : Option ℕ) → IsUnder es level owner → IsUnder (es ++ new) level owner
under_more es new level None h = tt
under_more es new level (Some o) h = (
  omega (arith, h.0, length-append es new),
  subst (λ (e : Entry). level_in e.entity < level) (sym (get_or_append_left es new no_entry o h.0)) h.1,
)

ranked_more : (es new : List Entry) → AreRanked es → ((k : ℕ) → k < length new → IsRanked (es ++ new) (get_or new k no_entry)) → AreRanked (es ++ new)
ranked_more es new h more n lt =
    elim (cases_lt n (length es)) [
      | inl low ↦
          (let e = get_or es n no_entry in
          let r = h n low in
          subst (λ (x : Entry). IsRanked (es ++ new) x) (sym (get_or_append_left es new no_entry n low))
          (under_more es new (level_in e.entity) e.owner r.0, r.1))
      | inr high ↦
          subst (λ (x : Entry). IsRanked (es ++ new) x) (sym (get_or-append_right es new (length es) n no_entry refl high))
          (more (n - length es) (omega (arith, lt, high, length-append es new)))
    ]

-- the items of a DECLARE

item_at : (base : ℕ) (xs : List (Identifier × Item)) (ss : List ItemStanding) (k : ℕ) (x : Identifier × Item) → k < length (item_entries base xs ss)
    → (k < length xs) × (get_or (item_entries base xs ss) k no_entry ≡ item_entry base (get_or xs k x) (get_or ss k (standing 1 None)))
item_at base [] ss k x lt = absurd (omega (arith, lt))
item_at base (y ∷ ys) [] k x lt = absurd (omega (arith, lt))
item_at base (y ∷ ys) (s ∷ ss) zero x lt = (omega arith, refl)
item_at base (y ∷ ys) (s ∷ ss) (suc k) x lt = let more = item_at base ys ss k x (omega (arith, lt)) in (omega (arith, more.0), more.1)

abbrev no_pair : Identifier × Item
no_pair = (record { name = []; at = 0 }, no_item)

module _ (es : List Entry) (names : List (Identifier × Item)) where
  abbrev levels : List (Option ℕ)
  levels = map (λ x. x.1.level) names

  abbrev new : List Entry
  new = declared_entries (length es) names

  made : (k : ℕ) → k < length new
      → (k < length levels) × (get_or new k no_entry ≡ item_entry (length es) (get_or names k no_pair) (stands_at levels k))
  made k lt =
      let m = item_at (length es) names (standings_of levels) k no_pair lt in
      (omega (arith, m.0, length-map names (λ x. x.1.level)), m.1)

  level_there : (k : ℕ) → k < length new → level_of (get_or names k no_pair).1.level ≡ level_at levels k
  level_there k lt =
      let m = item_at (length es) names (standings_of levels) k no_pair lt in
      ap level_of (sym (get_or-map (λ (x : Identifier × Item). x.1.level) names k no_pair None m.0))

  entry_there : (k : ℕ) → k < length new → level_in (get_or new k no_entry).entity ≡ level_at levels k
  entry_there k lt = ap (λ (e : Entry). level_in e.entity) (made k lt).1 ∙ level_there k lt

  under_owner : (k : ℕ) → k < length new → (owner : Option ℕ) → (stands_at levels k).owner ≡ owner
      → IsUnder (es ++ new) (level_of (get_or names k no_pair).1.level) (option_map (λ o. length es + o) owner)
  under_owner k lt None is = tt
  under_owner k lt (Some o) is =
      let b = (owners_are_nearest levels k o (made k lt).0).0 is in
      let low : o < length new = omega (arith, b.before, lt) in
      let there : entry_level (es ++ new) (length es + o) ≡ level_at levels o =
      ap (λ (e : Entry). level_in e.entity) (get_or-append-add es new o no_entry) ∙ entry_there o low in
      (omega (arith, low, length-append es new), omega (arith, there, level_there k lt, b.lesser))

  level_good : (k : ℕ) → k < length new → (stands_at levels k).is_bad ≡ false → level_of (get_or names k no_pair).1.level ≤ 255
  level_good k lt good =
      elim (cases_lt 255 (level_at levels k)) [
        | inl over ↦ absurd (true≢false (sym ((bad_levels_are_found levels k (made k lt).0).1 (inr (inl over))) ∙ good))
        | inr within ↦ omega (arith, within, level_there k lt)
      ]

  declared_ranked : (k : ℕ) → k < length new → IsRanked (es ++ new) (get_or new k no_entry)
  declared_ranked k lt =
      subst (λ (e : Entry). IsRanked (es ++ new) e) (sym (made k lt).1)
      (under_owner k lt (stands_at levels k).owner refl, level_good k lt)

-- what a mark declares

one_ranked : (es : List Entry) (x : Entry) → IsRanked (es ++ x ∷ []) x → (k : ℕ) → k < length (x ∷ []) → IsRanked (es ++ x ∷ []) (get_or (x ∷ []) k no_entry)
one_ranked es x h zero lt = h
one_ranked es x h (suc k) lt = absurd (omega (arith, lt))

marked : (es : List Entry) (here : ℕ) (mark : Mark) → AreRanked es → AreRanked (es ++ entries_of (length es) here mark)
marked es here (Declared items) h =
    ranked_more es (declared_entries (length es) (flat_map named items)) h (declared_ranked es (flat_map named items))
marked es here (Labelled label) h =
    ranked_more es _ h (one_ranked es (record { identifier = label; owner = None; entity = AsLabel here }) (tt, tt))
marked es here (Entered heading region) h =
    ranked_more es _ h (one_ranked es (record { identifier = heading.name; owner = None; entity = AsProcedure heading region }) (tt, tt))
marked es here (Used names) h = subst AreRanked (sym (append-nil es)) h
marked es here (Jumped label) h = subst AreRanked (sym (append-nil es)) h

marked_if : (es : List Entry) (here : ℕ) (mark : Mark) (b : Bool) → AreRanked es → AreRanked (es ++ (if b then entries_of (length es) here mark else []))
marked_if es here mark true h = marked es here mark h
marked_if es here mark false h = subst AreRanked (sym (append-nil es)) h

ranked_after : (regions : List Region) (block : ℕ) (es : List Entry) (ps : List PlacedMark) → AreRanked es → AreRanked (entries_after regions block es ps)
ranked_after regions block es [] h = h
ranked_after regions block es (p ∷ ps) h =
    ranked_after regions block (es ++ (if block_of regions p.region == block then entries_of (length es) p.region p.mark else [])) ps
    (marked_if es p.region p.mark (block_of regions p.region == block) h)

none_ranked : AreRanked []
none_ranked n lt = absurd (omega (arith, lt))

-- what a block declares
pub entries_ranked : (o : Outline) (block : ℕ) → AreRanked (entries_in o block)
entries_ranked o block = ranked_after o.regions block [] (inner_marks o.marks) none_ranked

heading_ranked : (mark : Mark) → AreRanked (heading_entries mark)
heading_ranked (Declared items) = none_ranked
heading_ranked (Labelled label) = none_ranked
heading_ranked (Entered heading region) = one_ranked [] (record { identifier = heading.name; owner = None; entity = AsProcedure heading region }) (tt, tt)
heading_ranked (Used names) = none_ranked
heading_ranked (Jumped label) = none_ranked

pub unit_ranked : (ps : List PlacedMark) → AreRanked (unit_entries ps)
unit_ranked [] = none_ranked
unit_ranked (p ∷ ps) = heading_ranked p.mark
