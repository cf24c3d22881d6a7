-- What a name is a member of is an item, and so are the names between the two.
use Rattle.std.proofs.Common.{◌≡◌, ℕ, zero, suc, ◌+◌, ◌-◌, ◌<◌, ◌≤◌, ◌==◌, Bool, true, false, if◌then◌else◌, Option, Some, None, option_map, List, [], ◌∷◌, ◌++◌, length, map, get_or, append-nil, inl, inr, refl, sym, ap, ◌∙◌, subst, arith}
use Rattle.std.proofs.lemmas.Bool.{cases_lt}
use Rattle.std.proofs.lemmas.List.{get_or_append_left, get_or-append-add, length-append}
use Rattle.std.specs.List.{flat_map}
use Rattle.pli_base.specs.declared.syntax.Identifier.{Identifier}
use Rattle.pli_base.specs.Declarations.{Item}
use Rattle.pli_declare_outline.specs.Outlines.{Region, Mark, Declared, Labelled, Entered, Used, Jumped, PlacedMark, Outline}
use Rattle.pli_declare_constructs.specs.Regions.{block_of}
use Rattle.pli_declare_scopes.specs.Levels.{standings_of}
use Rattle.pli_declare_scopes.specs.declared.level.ItemStanding.{ItemStanding}
use Rattle.pli_declare.specs.Tables.{Entity, AsItem, Entry, no_entry, named, item_entries, entries_of, entries_after, entries_in, inner_marks}

abbrev pub IsItem : Entity → Type 0
IsItem entity = (item : Item) × (is_bad : Bool) × (entity ≡ AsItem item is_bad)

abbrev entity_at : List Entry → ℕ → Entity
entity_at es n = (get_or es n no_entry).entity

abbrev owner_at : List Entry → ℕ → Option ℕ
owner_at es n = (get_or es n no_entry).owner

abbrev pub OwnersAreItems : List Entry → Type 0
OwnersAreItems es = (k o : ℕ) → k < length es → (get_or es k no_entry).owner ≡ Some o → (j : ℕ) → o ≤ j → j ≤ k → IsItem (get_or es j no_entry).entity

-- names of one mark
abbrev OfMark : (base : ℕ) → List Entry → Type 0
OfMark base es = (k o : ℕ) → k < length es → owner_at es k ≡ Some o → (base ≤ o) × ((j : ℕ) → j < length es → IsItem (entity_at es j))

pub item_there : (base : ℕ) (xs : List (Identifier × Item)) (ss : List ItemStanding) (j : ℕ) → j < length (item_entries base xs ss) → IsItem (entity_at (item_entries base xs ss) j)
item_there base [] ss j lt = absurd (omega (arith, lt))
item_there base (x ∷ xs) [] j lt = absurd (omega (arith, lt))
item_there base (x ∷ xs) (s ∷ ss) zero lt = (x.1, s.is_bad, refl)
item_there base (x ∷ xs) (s ∷ ss) (suc j) lt = item_there base xs ss j (omega (arith, lt))

moved : (base : ℕ) (owner : Option ℕ) (o : ℕ) → option_map (λ k. base + k) owner ≡ Some o → base ≤ o
moved base None o e = cc
moved base (Some k) o e = let same : base + k ≡ o = cc in omega (arith, same)

owner_low : (base : ℕ) (xs : List (Identifier × Item)) (ss : List ItemStanding) (k o : ℕ) → k < length (item_entries base xs ss) → owner_at (item_entries base xs ss) k ≡ Some o → base ≤ o
owner_low base [] ss k o lt e = absurd (omega (arith, lt))
owner_low base (x ∷ xs) [] k o lt e = absurd (omega (arith, lt))
owner_low base (x ∷ xs) (s ∷ ss) zero o lt e = moved base s.owner o e
owner_low base (x ∷ xs) (s ∷ ss) (suc k) o lt e = owner_low base xs ss k o (omega (arith, lt)) e

no_owner : {A : Type 0} (o : ℕ) → None ≡ Some o → A
no_owner o e = absurd (none o e)
  where
    none : (o : ℕ) → None ≡ Some o → ⊥
    none o e = cc

of_mark : (base here : ℕ) (mark : Mark) → OfMark base (entries_of base here mark)
of_mark base here (Declared items) k o lt e =
    let names = flat_map named items in
    let ss = standings_of (map (λ x. x.1.level) names) in
    (owner_low base names ss k o lt e, λ j low. item_there base names ss j low)
of_mark base here (Labelled label) zero o lt e = no_owner o e
of_mark base here (Labelled label) (suc k) o lt e = absurd (omega (arith, lt))
of_mark base here (Entered heading region) zero o lt e = no_owner o e
of_mark base here (Entered heading region) (suc k) o lt e = absurd (omega (arith, lt))
of_mark base here (Used names) k o lt e = absurd (omega (arith, lt))
of_mark base here (Jumped label) k o lt e = absurd (omega (arith, lt))

after : (es more : List Entry) (k : ℕ) → length es ≤ k → get_or (es ++ more) k no_entry ≡ get_or more (k - length es) no_entry
after es more k le =
    let there : k ≡ length es + (k - length es) = omega (arith, le) in
    ap (λ j. get_or (es ++ more) j no_entry) there ∙ get_or-append-add es more (k - length es) no_entry

both : (es more : List Entry) → OwnersAreItems es → OfMark (length es) more → OwnersAreItems (es ++ more)
both es more h g k o lt e j low high = elim (cases_lt k (length es)) [
  | inl front ↦ (let here = get_or_append_left es more no_entry k front in
      let there = get_or_append_left es more no_entry j (omega (arith, front, high)) in
      subst (λ (x : Entry). IsItem x.entity) (sym there) (h k o front (ap (λ (x : Entry). x.owner) (sym here) ∙ e) j low high))
  | inr back ↦ (let here = after es more k back in
      let of = g (k - length es) o (omega (arith, back, lt, length-append es more)) (ap (λ (x : Entry). x.owner) (sym here) ∙ e) in
      let past : length es ≤ j = omega (arith, of.0, low) in
      subst (λ (x : Entry). IsItem x.entity) (sym (after es more j past)) (of.1 (j - length es) (omega (arith, past, high, back, lt, length-append es more))))
]

one_more : (es : List Entry) (here : ℕ) (mark : Mark) (b : Bool) → OwnersAreItems es → OwnersAreItems (es ++ (if b then entries_of (length es) here mark else []))
one_more es here mark true h = both es (entries_of (length es) here mark) h (of_mark (length es) here mark)
one_more es here mark false h = subst OwnersAreItems (sym (append-nil es)) h

all_after : (regions : List Region) (block : ℕ) (es : List Entry) (ps : List PlacedMark) → OwnersAreItems es → OwnersAreItems (entries_after regions block es ps)
all_after regions block es [] h = h
all_after regions block es (p ∷ ps) h =
    all_after regions block (es ++ (if block_of regions p.region == block then entries_of (length es) p.region p.mark else [])) ps
    (one_more es p.region p.mark (block_of regions p.region == block) h)

pub owners_are_items : (o : Outline) (block : ℕ) → OwnersAreItems (entries_in o block)
owners_are_items o block = all_after o.regions block [] (inner_marks o.marks) (λ k m lt. absurd (omega (arith, lt)))
