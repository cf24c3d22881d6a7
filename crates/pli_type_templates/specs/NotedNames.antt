-- What is noted of names: under the token of each its item, or that it is one of several.
use Rattle.std.specs.Prelude.{◌≡◌, ℕ, Option, Some, None, List, Contains, slice_get}
use Rattle.pli_base.specs.Declarations.{Item}
use Rattle.pli_base.specs.declared.syntax.Identifier.{Identifier}
use Rattle.pli_declare_outline.specs.Outlines.{PlacedMark}
use Rattle.pli_type_templates.specs.ItemNames.{IsNameOf}
use Rattle.pli_type_templates.specs.declared.item_number.ItemNumber.{ItemNumber}

-- what is noted under a token, if anything: the item of all names there, or that there are several
abbrev pub Note : Type 0
Note = Option (Option ItemNumber)

-- two items are one
abbrev pub IsSame : ItemNumber → ItemNumber → Type 0
IsSame left right = (left.mark ≡ right.mark) × (left.item ≡ right.item)

-- a name of this item is noted there
abbrev pub IsNoted : Note → ItemNumber → Type 0
IsNoted None number = ⊥
IsNoted (Some None) number = Unit {0}
IsNoted (Some (Some only)) number = IsSame number only

-- what is noted under some tokens stays noted
abbrev pub KeepNotes : (old new : ℕ → Note) → Type 0
KeepNotes old new = (at : ℕ) (number : ItemNumber) → IsNoted (old at) number → IsNoted (new at) number

-- each of these names is noted as one of this item
abbrev pub NoteNames : (ℕ → Note) → List Identifier → ItemNumber → Type 0
NoteNames notes names number = (i : Identifier) → Contains names i → IsNoted (notes i.at) number

-- each name of these items is noted, which the mark of this number declares
abbrev pub NoteItems : (ℕ → Note) → (mark : ℕ) → List Item → Type 0
NoteItems notes mark items =
    (k : ℕ) (item : Item) → slice_get items k ≡ Some item
    → NoteNames notes item.names (record { mark = mark; item = k })

-- each name of the items of these marks is noted
abbrev pub NoteMarks : (ℕ → Note) → List PlacedMark → Type 0
NoteMarks notes marks =
    (at : ℕ) (number : ItemNumber) (item : Item) → IsNameOf marks at number item → IsNoted (notes at) number

-- where one item is noted, all names there are of that item
abbrev pub TellItems : (ℕ → Note) → List PlacedMark → Type 0
TellItems notes marks =
    (at : ℕ) (only number : ItemNumber) (item : Item) → notes at ≡ Some (Some only)
    → IsNameOf marks at number item → IsSame number only

-- if this item is known, a name is of it
abbrev pub IsOnly : Option ItemNumber → ItemNumber → Type 0
IsOnly None number = Unit {0}
IsOnly (Some only) number = IsSame number only

-- the names at two tokens are of one item
abbrev pub AreOfOne : List PlacedMark → (left right : ℕ) → Type 0
AreOfOne marks left right =
    (k l : ItemNumber) (x y : Item) → IsNameOf marks left k x → IsNameOf marks right l y → x ≡ y
