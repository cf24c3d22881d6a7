-- What is gathered before the walk over the marks, and what the walk gives for each of them.
use Rattle.std.specs.Prelude.{◌≡◌, ℕ, ◌+◌, Bool, true, not, Option, None, List, [], ◌∷◌, ◌++◌, map, length}
use Rattle.std.specs.Prelude.{get_or}
use Rattle.std.specs.List.{flat_map, list_all}
use Rattle.pli_base.specs.Name.{Name}
use Rattle.pli_base.specs.declared.code.Code.{Code}
use Rattle.pli_base.specs.declared.code.Code.TheVariants.{DeclaredTwice, AttributesMissing}
use Rattle.pli_base.specs.declared.syntax.Identifier.{Identifier}
use Rattle.pli_base.specs.declared.token.Fault.{Fault}
use Rattle.pli_declare_outline.specs.Outlines.{Mark, Declared, Labelled, Entered, Used, Jumped, Outline}
use Rattle.pli_declare.specs.Faults.{first_of}
use Rattle.pli_base.specs.Declarations as tree
use Rattle.pli_declare.specs.Tables.{Entity, AsItem, AsLabel, AsProcedure, entries_in}
use Rattle.pli_declare.specs.Tables.{numbers_from, inner_marks}
use Rattle.pli_declare.specs.Resolution.{parameters_of, item_code, at_token, faults_after}
use Rattle.pli_declare.specs.Resolution.{attribute_is_good, described_is_good, returned_are}

-- of each block, and one more
abbrev pub of_blocks : {A : Type 0} → Outline → (ℕ → A) → List A
of_blocks o f = map f (numbers_from 0 (length o.regions + 1))

-- the parameters of each block
abbrev pub AreParameters : List (List Name) → Outline → Type 0
AreParameters parameters o = parameters ≡ of_blocks o (parameters_of o)

-- the code of a parameter
abbrev pub code_of_parameter : (is_repeated is_item : Bool) → Option Code
code_of_parameter is_repeated is_item =
    first_of ((is_repeated, DeclaredTwice) ∷ (not is_item, AttributesMissing) ∷ [])

-- the least code of each name of a block
abbrev pub block_codes : Outline → ℕ → List (Option Code)
block_codes o block = map (item_code o block) (numbers_from 0 (length (entries_in o block)))

-- the least code of each name of each block
abbrev pub AreCodes : List (List (Option Code)) → Outline → Type 0
AreCodes codes o = codes ≡ of_blocks o (block_codes o)

-- whether the names of locators and areas in what a name is declared as are good, looked up from its block
abbrev pub entity_is_good : Outline → (block : ℕ) → Entity → Bool
entity_is_good o block (AsItem item is_bad) = list_all (attribute_is_good o block) item.attributes
entity_is_good o block (AsLabel region) = true
entity_is_good o block (AsProcedure heading region) =
    returned_are (list_all (described_is_good o block)) heading

-- the same for each name of a block
abbrev pub block_goodness : Outline → ℕ → List Bool
block_goodness o block = map (λ e. entity_is_good o block e.entity) (entries_in o block)

-- and of each block
abbrev pub AreGoodness : List (List Bool) → Outline → Type 0
AreGoodness goodness o = goodness ≡ of_blocks o (block_goodness o)

-- for each name of an item
abbrev pub item_goodness : Outline → (block : ℕ) → tree.Item → List Bool
item_goodness o block item = map (λ i. list_all (attribute_is_good o block) item.attributes) item.names

-- for each name that a mark declares
abbrev pub mark_goodness : Outline → (block : ℕ) → Mark → List Bool
mark_goodness o block (Declared items) = flat_map (item_goodness o block) items
mark_goodness o block (Labelled label) = true ∷ []
mark_goodness o block (Entered heading region) =
    returned_are (list_all (described_is_good o block)) heading ∷ []
mark_goodness o block (Used names) = []
mark_goodness o block (Jumped label) = []

-- the faults of names that have these numbers in a block of these codes, from the first on
abbrev pub name_faults : List (Option Code) → (number : ℕ) → List Identifier → List Fault
name_faults codes number [] = []
name_faults codes number (i ∷ is) =
    at_token i.at (get_or codes number None) ++ name_faults codes (number + 1) is

-- the faults of all marks but the first
abbrev pub walk_faults : Outline → List Fault
walk_faults o = faults_after o [] (inner_marks o.marks)
