-- What marks declare, and how many names a block has declared in the marks so far.
use Rattle.std.proofs.Common.{◌≡◌, ◌≢◌, ℕ, suc, ◌+◌, ◌≤◌, ◌==◌, List, [], ◌∷◌, ◌++◌, map, length, if◌then◌else◌, refl, sym, ap, ◌∙◌, length-append, arith}
use Rattle.std.specs.List.{flat_map}
use Rattle.std.proofs.lemmas.Bool.{eq-eqb}
use Rattle.std.proofs.lemmas.List.{map-append, length-map, append-nil, map-id}
use Rattle.pli_base.specs.declared.syntax.Identifier.{Identifier}
use Rattle.pli_base.specs.Declarations as tree
use Rattle.pli_declare_outline.specs.Outlines.{Region, Mark, Declared, Labelled, Entered, Used, Jumped, PlacedMark, Outline}
use Rattle.pli_declare_constructs.specs.Regions.{block_of}
use Rattle.pli_declare_scopes.specs.Levels.{standings_of, standings_after, level_of}
use Rattle.pli_declare_scopes.specs.declared.level.Numbered.{Numbered}
use Rattle.pli_declare_scopes.specs.declared.level.ItemStanding.{ItemStanding}
use Rattle.pli_declare.specs.Tables.{Entry, named, item_entry, item_entries, declared_entries, entries_of, entries_after}
use Rattle.pli_declare.specs.Resolution.{declared_by}
use Rattle.pli_declare.proofs.ParametersOfBlocks.{not_equal}
use Rattle.pli_declare.specs.DeclaredNames.{declared_names}

-- what a mark declares are its names

pub length_standings : (before : List Numbered) (number : ℕ) (levels : List ℕ) → length (standings_after before number levels) ≡ length levels
length_standings before number [] = refl
length_standings before number (l ∷ ls) = ap suc (length_standings (before ++ record { number = number; level = l } ∷ []) (number + 1) ls)

-- what is made of each entry that items declare is what is made of each of their names
module _ {A : Type 0} (of_entry : Entry → A) (of_name : Identifier → tree.Item → A) (alike : (base : ℕ) (i : Identifier) (item : tree.Item) (s : ItemStanding) → of_entry (item_entry base (i, item) s) ≡ of_name i item) where
  abbrev of_pair : Identifier × tree.Item → A
  of_pair x = of_name x.0 x.1

  of_entries : (base : ℕ) (xs : List (Identifier × tree.Item)) (ss : List ItemStanding) → length ss ≡ length xs → map of_entry (item_entries base xs ss) ≡ map of_pair xs
  of_entries base [] ss h = refl
  of_entries base (x ∷ xs) [] h = absurd (omega (arith, h))
  of_entries base (x ∷ xs) (s ∷ ss) h = ap (λ e. e ∷ map of_entry (item_entries base xs ss)) (alike base x.0 x.1 s) ∙ ap (λ es. of_pair x ∷ es) (of_entries base xs ss (omega (arith, h)))

  of_names : (item : tree.Item) (names : List Identifier) → map of_pair (map (λ (i : Identifier). (i, item)) names) ≡ map (λ (i : Identifier). of_name i item) names
  of_names item [] = refl
  of_names item (n ∷ ns) = ap (λ es. of_name n item ∷ es) (of_names item ns)

  of_items : (items : List tree.Item) → map of_pair (flat_map named items) ≡ flat_map (λ item. map (λ i. of_name i item) item.names) items
  of_items [] = refl
  of_items (item ∷ items) =
      map-append of_pair (named item) (flat_map named items)
      ∙ ap (λ es. es ++ map of_pair (flat_map named items)) (of_names item item.names)
      ∙ ap (λ es. map (λ (i : Identifier). of_name i item) item.names ++ es) (of_items items)

  pub of_declared : (base : ℕ) (items : List tree.Item) → map of_entry (declared_entries base (flat_map named items)) ≡ flat_map (λ item. map (λ i. of_name i item) item.names) items
  of_declared base items =
      let names = flat_map named items in
      let levels = map (λ (x : Identifier × tree.Item). x.1.level) names in
      of_entries base names (standings_of levels)
      (length_standings [] 0 (map level_of levels) ∙ length-map levels level_of ∙ length-map names (λ (x : Identifier × tree.Item). x.1.level))
      ∙ of_items items

names_alone : (items : List tree.Item) → flat_map (λ item. map (λ (i : Identifier). i) item.names) items ≡ flat_map (λ i. i.names) items
names_alone [] = refl
names_alone (item ∷ items) = ap (λ ns. ns ++ flat_map (λ item. map (λ (i : Identifier). i) item.names) items) (map-id item.names) ∙ ap (λ ns. item.names ++ ns) (names_alone items)

pub declared_are : (base here : ℕ) (mark : Mark) → map (λ e. e.identifier) (entries_of base here mark) ≡ declared_names mark
declared_are base here (Declared items) = of_declared (λ e. e.identifier) (λ i item. i) (λ base i item s. refl) base items ∙ names_alone items
declared_are base here (Labelled label) = refl
declared_are base here (Entered heading region) = refl
declared_are base here (Used names) = refl
declared_are base here (Jumped label) = refl

pub how_many_declared : (base here : ℕ) (mark : Mark) → length (entries_of base here mark) ≡ length (declared_names mark)
how_many_declared base here mark = sym (length-map (entries_of base here mark) (λ e. e.identifier)) ∙ ap length (declared_are base here mark)

-- how many names a block has declared

pub entries_both : (regions : List Region) (block : ℕ) (es : List Entry) (xs ys : List PlacedMark) → entries_after regions block es (xs ++ ys) ≡ entries_after regions block (entries_after regions block es xs) ys
entries_both regions block es [] ys = refl
entries_both regions block es (p ∷ ps) ys =
    entries_both regions block (es ++ (if block_of regions p.region == block then entries_of (length es) p.region p.mark else [])) ps ys

pub entries_grow : (regions : List Region) (block : ℕ) (es : List Entry) (ps : List PlacedMark) → length es ≤ length (entries_after regions block es ps)
entries_grow regions block es [] = omega arith
entries_grow regions block es (p ∷ ps) =
    let new = if block_of regions p.region == block then entries_of (length es) p.region p.mark else [] in
    omega (arith, entries_grow regions block (es ++ new) ps, length-append es new)

module _ (o : Outline) (before : List PlacedMark) (p : PlacedMark) where
  abbrev here : ℕ
  here = block_of o.regions p.region

  abbrev so_many : ℕ → List Entry
  so_many b = entries_after o.regions b [] before

  pub counted_elsewhere : (b : ℕ) → here ≢ b → declared_by o b (before ++ p ∷ []) ≡ declared_by o b before
  counted_elsewhere b other =
      ap length (entries_both o.regions b [] before (p ∷ []))
      ∙ ap (λ t. length (so_many b ++ (if t then entries_of (length (so_many b)) p.region p.mark else []))) (not_equal here b other)
      ∙ ap length (append-nil (so_many b))

  pub counted_here : declared_by o here (before ++ p ∷ []) ≡ declared_by o here before + length (declared_names p.mark)
  counted_here =
      ap length (entries_both o.regions here [] before (p ∷ []))
      ∙ ap (λ t. length (so_many here ++ (if t then entries_of (length (so_many here)) p.region p.mark else []))) (eq-eqb here here refl)
      ∙ length-append (so_many here) (entries_of (length (so_many here)) p.region p.mark)
      ∙ ap (λ n. length (so_many here) + n) (how_many_declared (length (so_many here)) p.region p.mark)
