-- Items of code (own): instructions before what they name has numbers and before their places are known, and
-- labels of statements among them.
use Rattle.std.specs.Prelude.{ℕ, suc, ◌+◌, ◌-◌, nat_eq, List, [], ◌∷◌, if◌then◌else◌}
use Rattle.pli_map.specs.Description.{Description}
use Rattle.pli_value.specs.Value.{Value}
use Rattle.pli_type_tree.specs.Templates.{Template}
use Rattle.pli_code.specs.CodedInstruction.{Instruction}

-- what an instruction names that has a number in a table
pub data Entry : Type 0 where
  NoEntry : Entry
  OfDescription : (description : Description) → Entry
  OfTemplate : (template : Template) → Entry
  OfValue : (value : Value) → Entry

-- where an instruction may lead: past so many that follow it, back over so many before it, or to the label of
-- a statement
pub data Target : Type 0 where
  NoTarget : Target
  Ahead : (passed : ℕ) → Target
  Back : (passed : ℕ) → Target
  Labelled : (statement : ℕ) → Target

-- a label, or an instruction, once its entry has a number and its target is a place
pub data Item : Type 0 where
  Label : (statement : ℕ) → Item
  Make : Entry → Target → ((entry target : ℕ) → Instruction) → Item

-- an instruction that names no entry and leads nowhere
abbrev pub plain : Instruction → Item
plain i = Make NoEntry NoTarget (λ entry target. i)

-- one that names an entry
abbrev pub naming : Entry → (ℕ → Instruction) → Item
naming x with = Make x NoTarget (λ entry target. with entry)

-- one that leads somewhere
abbrev pub leading : Target → (ℕ → Instruction) → Item
leading t with = Make NoEntry t (λ entry target. with target)

-- how many instructions items are
abbrev pub size : List Item → ℕ
size [] = 0
size (Label statement ∷ items) = size items
size (Make x t with ∷ items) = suc (size items)

-- the place of a label is the number of instructions before it
abbrev pub label_place : (statement before : ℕ) → List Item → ℕ
label_place s p [] = 0
label_place s p (Label t ∷ items) = if nat_eq t s then p else label_place s p items
label_place s p (Make x t with ∷ items) = label_place s (suc p) items

-- the place to which the instruction at a place leads, among all items of a unit
abbrev pub place_of : (all : List Item) → (at : ℕ) → Target → ℕ
place_of all p NoTarget = 0
place_of all p (Ahead passed) = suc (p + passed)
place_of all p (Back passed) = p - passed
place_of all p (Labelled s) = label_place s 0 all
