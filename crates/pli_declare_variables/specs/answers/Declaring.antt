-- What a name is declared as, by where it stands, its description and its fault.
use Rattle.std.specs.Prelude.{◌≡◌, ℕ, false, ◌&&◌, Option, None, is_none, List, get_or, if◌then◌else◌}
use Rattle.pli_base.specs.declared.code.Code.{Code}
use Rattle.pli_map.specs.Description.{Description}
use Rattle.pli_declare.specs.Completed.{completed_of}
use Rattle.pli_declare.specs.Faults.{item_fault}
use Rattle.pli_declare_attributes.specs.answers.Cuts.{cut_place}
use Rattle.pli_declare.specs.declared.place.ItemPlace.{ItemPlace}
use Rattle.pli_declare.specs.Tables.{Entity, AsItem, AsLabel, AsProcedure, Entry, no_entry}
use Rattle.pli_declare.specs.Places.{is_variable}
use Rattle.pli_declare.specs.Descriptions.{described}
use Rattle.pli_declare.specs.Declarations.{DeclaredKind, OfItem, OfLabel, OfProcedure, returned_by}
use Rattle.pli_declare.specs.Declarations.{described_result, AreSound}

-- at a place, with a description
abbrev pub kind_with : ItemPlace → Option Description → Entity → DeclaredKind
kind_with place description (AsItem item is_bad) = OfItem (completed_of place item) description
kind_with place description (AsLabel region) = OfLabel region
kind_with place description (AsProcedure heading region) =
    OfProcedure (described_result (returned_by heading.options)) region

-- no fault of its own at a place
abbrev pub IsFaultless : ItemPlace → Entity → Type 0
IsFaultless place (AsItem item is_bad) = (is_bad ≡ false) × (item_fault place item ≡ None)
IsFaultless place (AsLabel region) = Unit {0}
IsFaultless place (AsProcedure heading region) = AreSound (returned_by heading.options)

-- no fault of its own at a place whose count of elements was cut at the limit
abbrev pub IsFaultlessCut : ItemPlace → Entity → Type 0
IsFaultlessCut place entity = (whole : ItemPlace) × (place ≡ cut_place whole) × IsFaultless whole entity

-- the description of a variable of its own, by the fault of each item; the bound is that of described
abbrev pub whole_at : (bound : ℕ) → List Entry → (codes : List (Option Code)) → ℕ → Option Description
whole_at bound entries codes n =
    if is_none (get_or entries n no_entry).owner && is_variable (get_or entries n no_entry).entity
    then described bound entries codes n else None
