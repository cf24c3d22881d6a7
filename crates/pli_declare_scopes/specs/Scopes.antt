-- Scopes: which item a reference means.
use Rattle.std.specs.Prelude.{ℕ, zero, suc, ◌+◌, Bool, true, false, ◌&&◌, ◌||◌, List, [], ◌∷◌, ◌++◌, reverse}
use Rattle.std.specs.Prelude.{length, get_or, Option, None, Some, if◌then◌else◌}
use Rattle.std.specs.Cmp.Lexicographic.{pointwise}
use Rattle.pli_base.specs.Name.{Name}
use Rattle.pli_base.specs.Words.{same_name}
use Rattle.pli_declare_scopes.specs.declared.block.Declared.{Declared}
use Rattle.pli_declare_scopes.specs.declared.found.Found.{Found}
use Rattle.pli_declare_scopes.specs.declared.found.Found.TheVariants.{Nothing, One, Several}
use Rattle.pli_declare_scopes.specs.declared.found.ReferenceMeaning.{ReferenceMeaning}
use Rattle.pli_declare_scopes.specs.declared.found.ReferenceMeaning.TheVariants.{Item, Ambiguous, NotDeclared}

-- the items that a block declares, in order; an item's number is its place, from 0, and members stand after
-- the item that they belong to
abbrev pub BlockItems : Type 0
BlockItems = List Declared

-- the blocks round a place, the innermost first
abbrev pub Scope : Type 0
Scope = List BlockItems

-- an item that says nothing
abbrev pub no_item : Declared
no_item = record { name = []; owner = None; counts = false }

-- an item of a block
abbrev pub item_at : BlockItems → ℕ → Declared
item_at block n = get_or block n no_item

-- an item that counts is declared under its name
abbrev pub is_named : BlockItems → Name → ℕ → Bool
is_named block name n = (item_at block n).counts && same_name (item_at block n).name name

-- one of the numbers below k passes the test
abbrev pub any_below : (ℕ → Bool) → ℕ → Bool
any_below test zero = false
any_below test (suc k) = test k || any_below test k

-- whether a block declares a name
abbrev pub declares : BlockItems → Name → Bool
declares block name = any_below (is_named block name) (length block)

-- the chain of an item's owner, among the chains of the items before it
abbrev pub chain_above : List (List Name) → Option ℕ → List Name
chain_above chains None = []
chain_above chains (Some n) = get_or chains n []

-- an item's chain: its own name, then that of the item that it belongs to, and so on up to level 1
abbrev pub chains_after : List (List Name) → BlockItems → List (List Name)
chains_after chains [] = chains
chains_after chains (i ∷ is) = chains_after (chains ++ (i.name ∷ chain_above chains i.owner) ∷ []) is

-- the chain of an owner
abbrev pub chain_over : BlockItems → Option ℕ → List Name
chain_over block owner = chain_above (chains_after [] block) owner

-- the names of an item and of those that it belongs to
abbrev pub chain_at : BlockItems → ℕ → List Name
chain_at block n = get_or (chains_after [] block) n []

-- the first list is some of the names of the second, in their order
abbrev pub is_part : List Name → List Name → Bool
is_part [] ys = true
is_part (x ∷ xs) [] = false
is_part (x ∷ xs) (y ∷ ys) = is_part (if same_name x y then xs else x ∷ xs) ys

-- names that are read backwards fit a chain: they begin with the item's own name and go on with names of
-- items that it belongs to
abbrev pub fits_chain : List Name → List Name → Bool
fits_chain [] chain = false
fits_chain (n ∷ ns) [] = false
fits_chain (n ∷ ns) (own ∷ above) = same_name n own && is_part ns above

-- whether names are all of a chain
abbrev pub is_chain : List Name → List Name → Bool
is_chain names chain = pointwise same_name names chain

-- a reference's names fit an item that counts
abbrev pub fits : BlockItems → List Name → ℕ → Bool
fits block names n = (item_at block n).counts && fits_chain (reverse names) (chain_at block n)

-- and are its whole chain
abbrev pub fits_fully : BlockItems → List Name → ℕ → Bool
fits_fully block names n = (item_at block n).counts && is_chain (reverse names) (chain_at block n)

-- one more number is found
abbrev pub with_number : ℕ → Found → Found
with_number n Nothing = One n
with_number n (One m) = Several
with_number n Several = Several

-- what is found, and what is found of the numbers below k that pass the test, the greatest first
abbrev pub found_below : (ℕ → Bool) → ℕ → Found → Found
found_below test zero found = found
found_below test (suc k) found = found_below test k (if test k then with_number k found else found)

-- full qualification is preferred
abbrev pub preferred : Found → Found → Found
preferred Nothing partly = partly
preferred (One n) partly = One n
preferred Several partly = Several

-- what names mean in a block: a full qualification first
abbrev pub found_in : BlockItems → List Name → Found
found_in block names =
    preferred (found_below (fits_fully block names) (length block) Nothing)
    (found_below (fits block names) (length block) Nothing)

-- what is found in the block that is so many blocks outwards
abbrev pub meant_there : ℕ → Found → ReferenceMeaning
meant_there block Nothing = NotDeclared
meant_there block (One n) = Item n block
meant_there block Several = Ambiguous

-- whether a block declares the first of names
abbrev pub declares_first : BlockItems → List Name → Bool
declares_first block [] = false
declares_first block (n ∷ ns) = declares block n

-- the first of the blocks that declares an item of the first name decides
abbrev pub meant_from : ℕ → Scope → List Name → ReferenceMeaning
meant_from out [] names = NotDeclared
meant_from out (b ∷ bs) names =
    if declares_first b names then meant_there out (found_in b names) else meant_from (out + 1) bs names

-- what the names of a reference mean
abbrev pub meant : Scope → List Name → ReferenceMeaning
meant scope names = meant_from 0 scope names
