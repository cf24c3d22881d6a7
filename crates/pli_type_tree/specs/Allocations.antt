-- What ALLOCATE keeps: the pointer to a BASED variable's generation or block, till its target's place is
-- there.
use Rattle.std.specs.Prelude.{ℕ, ◌+◌, List, [], ◌∷◌}
use Rattle.pli_type_tree.specs.TypedTree.{AllocatedItem, AllocatesControlled, AllocatesBased}
use Rattle.pli_type_tree.specs.TypedTree.{AllocatesInArea}

-- how many temporaries an item has: one where it is of a BASED variable
abbrev pub kept_for : AllocatedItem → ℕ
kept_for (AllocatesControlled number) = 0
kept_for (AllocatesBased template temporary target) = 1
kept_for (AllocatesInArea area template temporary target conversion) = 1

-- how many items have together
abbrev pub all_kept_for : List AllocatedItem → ℕ
all_kept_for [] = 0
all_kept_for (item ∷ items) = kept_for item + all_kept_for items
