-- What the functions that resolve answer.
use Rattle.std.specs.Prelude.{◌≡◌, ℕ, ◌+◌, ◌<◌, Option, Some, None, List, [], map, length, get_or, Contains}
use Rattle.std.specs.List.{slice_get}
use Rattle.pli_base.specs.Name.{Name}
use Rattle.pli_declare_outline.specs.Outlines.{Outline, PlacedMark}
use Rattle.pli_declare_constructs.specs.Regions.{blocks_round, block_of}
use Rattle.pli_declare_scopes.specs.Scopes.{meant}
use Rattle.pli_declare_scopes.specs.declared.found.ReferenceMeaning.TheVariants.{Item as Means}
use Rattle.pli_declare_scopes.specs.declared.found.ReferenceMeaning.TheVariants.{Ambiguous as Several}
use Rattle.pli_declare_scopes.specs.declared.found.ReferenceMeaning.TheVariants.{NotDeclared as Nothing}
use Rattle.pli_declare.specs.Tables.{Entry, entries_in, unit_entries, scope_of, tables_of}
use Rattle.pli_declare.specs.Tables.{numbers_from, inner_marks}
use Rattle.pli_declare_variables.specs.Judging.{all_judged}
use Rattle.pli_declare_variables.specs.declared.judged.Judged.{Judged}
use Rattle.pli_declare.specs.Resolution.{parameters_of}
use Rattle.pli_declare_faults.specs.declared.look_up.Looked.{Looked}
use Rattle.pli_declare_faults.specs.declared.look_up.Looked.TheVariants.{Found, Ambiguous, NotDeclared}

-- the entries of a block, or of the outermost one
abbrev pub entries_at : Outline → Option ℕ → List Entry
entries_at o None = unit_entries o.marks
entries_at o (Some block) = entries_in o block

-- a block of the unit, or the outermost one
abbrev pub IsWithin : Outline → Option ℕ → Type 0
IsWithin o None = Unit {0}
IsWithin o (Some block) = block < length o.regions

-- the item of this number in the block is meant, by the names in a region
pub record IsFound (o : Outline) (region : ℕ) (names : List Name) (block : Option ℕ) (number : ℕ) : Type 0
  where
    pub out : ℕ
    pub meant : meant (scope_of o region) names ≡ Means number out
    pub place : block ≡ slice_get (blocks_round o.regions region) out
    pub entries : get_or (tables_of o region) out [] ≡ entries_at o block
    pub within : IsWithin o block
    pub number_within : number < length (entries_at o block)

-- what names in a region mean
abbrev pub IsLookedUp : Looked → Outline → (region : ℕ) → List Name → Type 0
IsLookedUp (Found block number) o region names = IsFound o region names block number
IsLookedUp Ambiguous o region names = meant (scope_of o region) names ≡ Several
IsLookedUp NotDeclared o region names = meant (scope_of o region) names ≡ Nothing

-- what is known of each name of each block
abbrev pub AreKnown : List (List Judged) → Outline → Type 0
AreKnown known o =
    known ≡ map (λ b. all_judged (entries_in o b) (parameters_of o b)) (numbers_from 0 (length o.regions + 1))

-- each mark after the first stands in a block: the blocks round its region are those round that
abbrev pub AreInBlocks : Outline → Type 0
AreInBlocks o = (p : PlacedMark) → Contains (inner_marks o.marks) p
    → blocks_round o.regions (block_of o.regions p.region) ≡ blocks_round o.regions p.region
