-- What the names of a block are declared as, where none of them has a fault of its own.
use Rattle.std.specs.Prelude.{◌≡◌, ℕ, ◌<◌, false, ◌&&◌, Option, Some, None, is_none, List, [], ◌∷◌, map}
use Rattle.std.specs.Prelude.{length, get_or, if◌then◌else◌}
use Rattle.pli_base.specs.Name.{Name}
use Rattle.pli_base.specs.Declarations.{DescribedAttribute}
use Rattle.pli_base.specs.Statements as options
use Rattle.pli_base.specs.Statements.{ProcedureOption}
use Rattle.pli_base.specs.declared.syntax.Identifier.{Identifier}
use Rattle.pli_map.specs.Description.{Description}
use Rattle.pli_declare.specs.Completed.{Completed, completed_of}
use Rattle.pli_declare.specs.Faults.{result_fault, described_scalar}
use Rattle.pli_declare.specs.Tables.{Entity, AsItem, AsLabel, AsProcedure, Entry, no_entry}
use Rattle.pli_declare.specs.Tables.{numbers_from}
use Rattle.pli_declare.specs.Places.{place_in, own_code, is_variable}
use Rattle.pli_declare.specs.Descriptions.{description_of}

-- what a name is declared as: an item, completed, with its description if it is a variable of its own (a
-- member's is a part of it); a label of a statement in a region; a procedure, with what it returns, if it
-- does, and the number of its own region
pub data DeclaredKind : Type 0 where
  OfItem : (completed : Completed) (description : Option Description) → DeclaredKind
  OfLabel : (region : ℕ) → DeclaredKind
  OfProcedure : (returned : Option Description) (region : ℕ) → DeclaredKind

-- a declared name, and the number in its block of the item that it is a member of
pub record Declaration : Type 0 where
  pub identifier : Identifier
  pub owner : Option ℕ
  pub kind : DeclaredKind

-- the attributes in each RETURNS of a procedure
abbrev pub returned_by : List ProcedureOption → List (List DescribedAttribute)
returned_by [] = []
returned_by (options.Returns attributes ∷ more) = attributes ∷ returned_by more
returned_by (option ∷ more) = returned_by more

-- the first of them decides; a second one is a fault
abbrev pub described_result : List (List DescribedAttribute) → Option Description
described_result [] = None
described_result (attributes ∷ more) = Some (described_scalar attributes)

-- the description of a variable of its own
abbrev pub whole_description : List Entry → (parameters : List Name) → ℕ → Option Description
whole_description entries parameters n =
    if is_none (get_or entries n no_entry).owner && is_variable (get_or entries n no_entry).entity
    then description_of entries parameters n else None

-- what an entry is declared as
abbrev pub kind_of : List Entry → (parameters : List Name) → ℕ → Entity → DeclaredKind
kind_of entries parameters n (AsItem item is_bad) =
    OfItem (completed_of (place_in entries parameters n) item) (whole_description entries parameters n)
kind_of entries parameters n (AsLabel region) = OfLabel region
kind_of entries parameters n (AsProcedure heading region) =
    OfProcedure (described_result (returned_by heading.options)) region

-- the name of this number
abbrev pub declaration_at : List Entry → (parameters : List Name) → ℕ → Declaration
declaration_at entries parameters n =
    let entry = get_or entries n no_entry in
    record {
      identifier = entry.identifier;
      owner = entry.owner;
      kind = kind_of entries parameters n entry.entity;
    }

-- all names of a block, where the parameters are those of the procedure that is the block
abbrev pub declared_in : List Entry → (parameters : List Name) → List Declaration
declared_in entries parameters = map (declaration_at entries parameters) (numbers_from 0 (length entries))

-- each attribute list of RETURNS says what is returned
abbrev pub AreSound : List (List DescribedAttribute) → Type 0
AreSound [] = Unit {0}
AreSound (attributes ∷ more) = (result_fault attributes ≡ None) × AreSound more

-- no fault of its own, that of its level included
abbrev pub IsGood : List Entry → (parameters : List Name) → ℕ → Entity → Type 0
IsGood entries parameters n (AsItem item is_bad) = (is_bad ≡ false) × (own_code entries parameters n ≡ None)
IsGood entries parameters n (AsLabel region) = Unit {0}
IsGood entries parameters n (AsProcedure heading region) = AreSound (returned_by heading.options)

-- no name of a block has a fault of its own
abbrev pub AreGood : List Entry → (parameters : List Name) → Type 0
AreGood entries parameters =
    (n : ℕ) → n < length entries → IsGood entries parameters n (get_or entries n no_entry).entity
