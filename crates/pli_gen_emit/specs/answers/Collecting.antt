-- What collecting blocks answers.
use Rattle.std.specs.Prelude.{◌≡◌, ◌++◌, List, None}
use Rattle.pli_gen_emit.specs.TreeTranslation.{BlockTree}
use Rattle.pli_gen_emit.specs.declared.block.Collected.{Collected}
use Rattle.pli_gen_emit.specs.views.BlockView.{block_trees}

-- blocks were collected, unless memory was wanting for them or before
abbrev pub Collects : (old new : Collected) → List BlockTree → Type 0
Collects old new more =
    (new.refused ≡ None → old.refused ≡ None)
    × (new.refused ≡ None → block_trees new.blocks.items ≡ block_trees old.blocks.items ++ more)
