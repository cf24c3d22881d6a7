-- What each block of a unit declares, with the levels of items (X3.74) and names that are declared twice
-- (own); and the blocks in which a name is looked up.
use Rattle.std.specs.Prelude.{ℕ, Bool, true, ◌&&◌, ◌||◌, ◌==◌, nat_eq, nat_lt, Option, None, Some}
use Rattle.std.specs.Prelude.{is_none, option_map, List, [], ◌∷◌, ◌++◌, map, length, get_or, if◌then◌else◌}
use Rattle.std.specs.List.{flat_map, list_any, fold, zip, enumerate_from}
use Rattle.std.specs.Option.{unwrap_or, option_eq}
use Rattle.pli_base.specs.Words.{same_name}
use Rattle.pli_base.specs.declared.syntax.Identifier.{Identifier}
use Rattle.pli_base.specs.Declarations.{Item}
use Rattle.pli_declare_outline.specs.Outlines.{Region, Mark, Declared, Labelled, Entered, PlacedMark, Outline}
use Rattle.pli_declare_scopes.specs.Repeats.{is_counting}
use Rattle.pli_declare_scopes.specs.Scopes.{BlockItems, Scope}
use Rattle.pli_declare_scopes.specs.declared.level.ItemStanding.{ItemStanding}
use Rattle.pli_declare_scopes.specs.declared.repeat.Verdict.{Verdict}
use Rattle.pli_declare_scopes.specs.declared.repeat.Verdict.TheVariants.{Counts, Twice, Beneath}
use Rattle.pli_declare_constructs.specs.Regions.{blocks_round}
use Rattle.pli_declare.specs.Tables.{AsLabel, AsProcedure, Entry, no_entry, item_entry, inner_marks}
use Rattle.pli_declare.specs.Tables.{unit_entries, unit_block}
use Rattle.pli_declarations.specs.Regions.{block_of}

-- levels

-- the last that passes a test
abbrev pub last_where : {A : Type 0} → (A → Bool) → List A → Option A
last_where test xs = fold (λ found x. if test x then Some x else found) None xs

-- how an item of a level stands after those of other levels: it belongs to the nearest before it with a
-- lesser level, but at level 0 or 1 to none; a level is bad that is 0, over 255, or over 1 with none such
-- before it
abbrev pub standing : (before : List ℕ) → (level : ℕ) → ItemStanding
standing before level =
    let nearest = option_map (λ p. p.0) (last_where (λ p. nat_lt p.1 level) (enumerate_from 0 before)) in
    record {
      owner = if nat_lt 1 level then nearest else None;
      is_bad = nat_eq level 0 || nat_lt 255 level || nat_lt 1 level && is_none nearest;
    }

-- how items of these levels stand, after others
abbrev pub standings_after : (before : List ℕ) → List ℕ → List ItemStanding
standings_after before [] = []
standings_after before (level ∷ more) = standing before level ∷ standings_after (before ++ level ∷ []) more

-- entries

-- the names of one DECLARE, each with its item, of which the first has the number base in its block; levels
-- are those of this DECLARE, and 1 where none stands
abbrev pub declared_entries : (base : ℕ) → List (Identifier × Item) → List Entry
declared_entries base names =
    map (λ p. item_entry base p.0 p.1)
    (zip names (standings_after [] (map (λ x. unwrap_or x.1.level 1) names)))

-- what a mark of a region declares
abbrev pub entries_of : (base here : ℕ) → Mark → List Entry
entries_of base here (Declared items) =
    declared_entries base (flat_map (λ item. map (λ i. (i, item)) item.names) items)
entries_of base here (Labelled label) =
    record { identifier = label; owner = None; entity = AsLabel here } ∷ []
entries_of base here (Entered heading region) =
    record { identifier = heading.name; owner = None; entity = AsProcedure heading region } ∷ []
entries_of base here mark = []

-- what marks declare in a block
abbrev pub entries_among : List Region → (block : ℕ) → List PlacedMark → List Entry
entries_among regions block marks =
    fold
    (λ es p. es ++ (if block_of regions p.region == block then entries_of (length es) p.region p.mark else []))
    [] marks

-- what a block declares
abbrev pub entries_in : Outline → (block : ℕ) → List Entry
entries_in o block = entries_among o.regions block (inner_marks o.marks)

-- declared twice

-- two items of one name are members of one structure, or both are at level 1
abbrev pub repeats : Entry → Entry → Bool
repeats e f = same_name e.identifier.name f.identifier.name && option_eq nat_eq e.owner f.owner

-- what becomes of entries after others: one does not count that is a member of one that does not, nor one
-- that repeats an entry before it
abbrev pub verdicts_after : (before : List Entry) → List Verdict → List Entry → List Verdict
verdicts_after before verdicts [] = verdicts
verdicts_after before verdicts (e ∷ more) =
    let counts_above = unwrap_or (option_map (λ n. is_counting (get_or verdicts n Beneath)) e.owner) true in
    let repeated = if list_any (repeats e) before then Twice else Counts in
    verdicts_after (before ++ e ∷ []) (verdicts ++ (if counts_above then repeated else Beneath) ∷ []) more

-- which of the entries of a block count
abbrev pub verdicts_in : Outline → (block : ℕ) → List Verdict
verdicts_in o block = verdicts_after [] [] (entries_in o block)

-- look-up

-- the block, as names are looked up in it
abbrev pub block_in : Outline → (block : ℕ) → BlockItems
block_in o block =
    map (λ p. record { name = p.0.identifier.name; owner = p.0.owner; counts = is_counting p.1 })
    (zip (entries_in o block) (verdicts_in o block))

-- the blocks in which a name that stands in a region is looked up
abbrev pub scope_of : Outline → (region : ℕ) → Scope
scope_of o region = map (block_in o) (blocks_round o.regions region) ++ unit_block o ∷ []

-- the same, as tables of entries
abbrev pub tables_of : Outline → (region : ℕ) → List (List Entry)
tables_of o region = map (entries_in o) (blocks_round o.regions region) ++ unit_entries o.marks ∷ []

-- the entry of a number, in the block that is so many blocks outwards
abbrev pub entry_at : Outline → (region out number : ℕ) → Entry
entry_at o region out number = get_or (get_or (tables_of o region) out []) number no_entry
