-- Scopes: which item a reference means.
use Rattle.std.specs.Prelude.{ℕ, ◌+◌, Bool, ◌&&◌, List, [], ◌∷◌, reverse, length, if◌then◌else◌}
use Rattle.std.specs.List.{filter, list_any, range_with_len}
use Rattle.std.specs.Cmp.Lexicographic.{pointwise}
use Rattle.pli_base.specs.Name.{Name}
use Rattle.pli_base.specs.Words.{same_name}
use Rattle.pli_declare_scopes.specs.Scopes.{BlockItems, Scope, item_at, chain_at, fits_chain}
use Rattle.pli_declare_scopes.specs.declared.found.ReferenceMeaning.{ReferenceMeaning}
use Rattle.pli_declare_scopes.specs.declared.found.ReferenceMeaning.TheVariants.{Item, Ambiguous, NotDeclared}

-- a block declares a name: an item that counts has it
abbrev pub declares : BlockItems → Name → Bool
declares block name = list_any (λ i. i.counts && same_name i.name name) block

-- the numbers of the items that count and whose chains pass a test
abbrev pub numbers_where : (List Name → Bool) → BlockItems → List ℕ
numbers_where test block =
    filter (λ n. (item_at block n).counts && test (chain_at block n)) (range_with_len 0 (length block))

-- the one item that is fully qualified, or else the one that is partly, in the block that is so many blocks
-- outwards
abbrev pub meant_among : (out : ℕ) → (fully partly : List ℕ) → ReferenceMeaning
meant_among out (n ∷ []) partly = Item n out
meant_among out [] (n ∷ []) = Item n out
meant_among out [] [] = NotDeclared
meant_among out fully partly = Ambiguous

-- the first of the blocks that declares an item of the first name decides; names are read backwards, from an
-- item's own name to those of the items that it belongs to
abbrev pub meant_from : (out : ℕ) → Scope → List Name → ReferenceMeaning
meant_from out (b ∷ more) (n ∷ names) =
    let chain = reverse (n ∷ names) in
    if declares b n
    then meant_among out (numbers_where (pointwise same_name chain) b) (numbers_where (fits_chain chain) b)
    else meant_from (out + 1) more (n ∷ names)
meant_from out scope names = NotDeclared

-- what the names of a reference mean
abbrev pub meant : Scope → List Name → ReferenceMeaning
meant scope names = meant_from 0 scope names
