-- Items of a block that are judged as they are declared.
use Rattle.std.specs.Prelude.{ℕ, Bool, true, false, ◌&&◌, List, [], ◌∷◌, length, Option, None, Some}
use Rattle.pli_declare_scopes.specs.Repeats.{repeats, is_counting}
use Rattle.pli_declare_scopes.specs.Scopes.{BlockItems, item_at, any_below}
use Rattle.pli_declare_scopes.specs.declared.block.Declared.{Declared}
use Rattle.pli_declare_scopes.specs.declared.found.Found.{Found}
use Rattle.pli_declare_scopes.specs.declared.found.Found.TheVariants.{Nothing, One, Several}
use Rattle.pli_declare_scopes.specs.declared.repeat.Written.{Written}
use Rattle.pli_declare_scopes.specs.declared.repeat.Verdict.{Verdict}

-- an item of a block, as it is written
abbrev pub as_written : Declared → Written
as_written item = record { name = item.name; owner = item.owner }

-- an item that is judged, as its block has it
abbrev pub declared_as : Written → Verdict → Declared
declared_as item verdict = record { name = item.name; owner = item.owner; counts = is_counting verdict }

-- items with what becomes of them, as their block has them
abbrev pub declared_with : List Written → List Verdict → BlockItems
declared_with [] vs = []
declared_with (i ∷ is) [] = []
declared_with (i ∷ is) (v ∷ vs) = declared_as i v ∷ declared_with is vs

-- whether anything is found
abbrev pub is_found : Found → Bool
is_found Nothing = false
is_found (One n) = true
is_found Several = true

-- the item of a block to which another belongs counts, or there is none
abbrev pub counts_over : BlockItems → Option ℕ → Bool
counts_over items None = true
counts_over items (Some n) = (item_at items n).counts

-- an item of a block counts that another repeats
abbrev pub is_taken : BlockItems → Written → Bool
is_taken items i = any_below (λ n. (item_at items n).counts && repeats i (as_written (item_at items n))) (length items)
