-- The tables of a unit: what each of its blocks declares.
use Rattle.std.specs.Prelude.{ℕ, zero, suc, ◌+◌, Bool, true, ◌==◌, Option, None, option_map, List, [], ◌∷◌}
use Rattle.std.specs.Prelude.{◌++◌, map, length, get_or, if◌then◌else◌}
use Rattle.std.specs.List.{flat_map}
use Rattle.pli_base.specs.declared.syntax.Identifier.{Identifier}
use Rattle.pli_base.specs.Declarations.{Item}
use Rattle.pli_base.specs.Statements.{Heading}
use Rattle.pli_declare_outline.specs.Outlines.{Region, Mark, Declared, Labelled, Entered, Used, Jumped}
use Rattle.pli_declare_outline.specs.Outlines.{PlacedMark, Outline}
use Rattle.pli_declare_scopes.specs.Levels.{standings_of}
use Rattle.pli_declare_scopes.specs.Repeats.{verdicts_of, is_counting}
use Rattle.pli_declare_scopes.specs.Scopes.{BlockItems, Scope}
use Rattle.pli_declare_scopes.specs.declared.level.ItemStanding.{ItemStanding}
use Rattle.pli_declare_scopes.specs.declared.repeat.Verdict.{Verdict}
use Rattle.pli_declare_scopes.specs.declared.repeat.Written.{Written}
use Rattle.pli_declare_constructs.specs.Regions.{block_of, blocks_round}

-- what a name is declared as: an item of a DECLARE, a label of a statement in a region, a procedure, whose
-- own region has a number
pub data Entity : Type 0 where
  AsItem : (item : Item) (is_bad_level : Bool) → Entity
  AsLabel : (region : ℕ) → Entity
  AsProcedure : (heading : Heading) (region : ℕ) → Entity

-- a declared name, and the number in its block of the item that it is a member of
pub record Entry : Type 0 where
  pub identifier : Identifier
  pub owner : Option ℕ
  pub entity : Entity

-- an entry that says nothing
abbrev pub no_entry : Entry
no_entry = record { identifier = record { name = []; at = 0 }; owner = None; entity = AsLabel 0 }

-- the names of items, each with its item
abbrev pub named : Item → List (Identifier × Item)
named item = map (λ i. (i, item)) item.names

-- the entry of a name of an item
abbrev pub item_entry : (base : ℕ) → Identifier × Item → ItemStanding → Entry
item_entry base x s =
    record { identifier = x.0; owner = option_map (λ o. base + o) s.owner; entity = AsItem x.1 s.is_bad }

-- the entries of names of items
abbrev pub item_entries : (base : ℕ) → List (Identifier × Item) → List ItemStanding → List Entry
item_entries base [] ss = []
item_entries base (x ∷ xs) [] = []
item_entries base (x ∷ xs) (s ∷ ss) = item_entry base x s ∷ item_entries base xs ss

-- the names of one DECLARE, of which the first has the number base in its block; levels are those of this
-- DECLARE
abbrev pub declared_entries : (base : ℕ) → List (Identifier × Item) → List Entry
declared_entries base names = item_entries base names (standings_of (map (λ x. x.1.level) names))

-- what a mark of a region declares
abbrev pub entries_of : (base here : ℕ) → Mark → List Entry
entries_of base here (Declared items) = declared_entries base (flat_map named items)
entries_of base here (Labelled label) =
    record { identifier = label; owner = None; entity = AsLabel here } ∷ []
entries_of base here (Entered heading region) =
    record { identifier = heading.name; owner = None; entity = AsProcedure heading region } ∷ []
entries_of base here (Used names) = []
entries_of base here (Jumped label) = []

-- what marks declare in a block, after what it declares before them
abbrev pub entries_after : List Region → (block : ℕ) → List Entry → List PlacedMark → List Entry
entries_after regions block entries [] = entries
entries_after regions block entries (p ∷ ps) =
    entries_after regions block (entries
    ++ (if block_of regions p.region == block then entries_of (length entries) p.region p.mark
    else [])) ps

-- the marks of a unit but the first, which declares the unit's own name
abbrev pub inner_marks : List PlacedMark → List PlacedMark
inner_marks [] = []
inner_marks (p ∷ ps) = ps

-- what a block declares
abbrev pub entries_in : Outline → ℕ → List Entry
entries_in o block = entries_after o.regions block [] (inner_marks o.marks)

-- an entry as the rule on names that are declared twice sees it
abbrev pub written : Entry → Written
written e = record { name = e.identifier.name; owner = e.owner }

-- which of them count
abbrev pub verdicts_in : Outline → ℕ → List Verdict
verdicts_in o block = verdicts_of (map written (entries_in o block))

-- entries as look-up sees them
abbrev pub with_verdicts : List Entry → List Verdict → BlockItems
with_verdicts [] vs = []
with_verdicts (e ∷ es) [] = []
with_verdicts (e ∷ es) (v ∷ vs) =
    record { name = e.identifier.name; owner = e.owner; counts = is_counting v } ∷ with_verdicts es vs

-- the block, as names are looked up in it
abbrev pub block_in : Outline → ℕ → BlockItems
block_in o block = with_verdicts (entries_in o block) (verdicts_in o block)

-- the outermost block declares the unit's own name alone
abbrev pub heading_entries : Mark → List Entry
heading_entries (Entered heading region) =
    record { identifier = heading.name; owner = None; entity = AsProcedure heading region } ∷ []
heading_entries mark = []

-- the entry of the unit's own name
abbrev pub unit_entries : List PlacedMark → List Entry
unit_entries [] = []
unit_entries (p ∷ ps) = heading_entries p.mark

-- the outermost block, which declares it
abbrev pub unit_block : Outline → BlockItems
unit_block o =
    map (λ e. record { name = e.identifier.name; owner = None; counts = true }) (unit_entries o.marks)

-- the numbers from the first on, so many of them
abbrev pub numbers_from : (first count : ℕ) → List ℕ
numbers_from first zero = []
numbers_from first (suc count) = first ∷ numbers_from (first + 1) count

-- a block's names, which of them count, and the block as names are looked up in it
pub record Table : Type 0 where
  pub entries : List Entry
  pub verdicts : List Verdict
  pub block : BlockItems

-- the table of a block that declares these
abbrev pub table_with : List Entry → Table
table_with entries =
    record {
      entries = entries;
      verdicts = verdicts_of (map written entries);
      block = with_verdicts entries (verdicts_of (map written entries));
    }

-- what a block declares
abbrev pub table_in : Outline → ℕ → Table
table_in o block =
    record { entries = entries_in o block; verdicts = verdicts_in o block; block = block_in o block }

-- the tables of all regions, each under its number; those of groups and ON-units are empty, and so is one
-- more after them unless there is no region
abbrev pub all_tables : Outline → List Table
all_tables o = map (table_in o) (numbers_from 0 (length o.regions + 1))

-- the blocks in which a name that stands in a region is looked up
abbrev pub scope_of : Outline → ℕ → Scope
scope_of o region = map (block_in o) (blocks_round o.regions region) ++ unit_block o ∷ []

-- the same, as tables of entries
abbrev pub tables_of : Outline → ℕ → List (List Entry)
tables_of o region = map (entries_in o) (blocks_round o.regions region) ++ unit_entries o.marks ∷ []

-- the entry of a number, in the block that is so many blocks outwards
abbrev pub entry_at : Outline → (region out number : ℕ) → Entry
entry_at o region out number = get_or (get_or (tables_of o region) out []) number no_entry
