-- Blocks that were collected, unless memory was wanting.
use Rattle.std.proofs.Common.{◌≡◌, ◌<◌, ◌+◌, ◌++◌, ◌∷◌, ℕ, List, None, length, drop, get_or, sym, ap, ◌∙◌, append_assoc}
use Rattle.std.proofs.lemmas.List.{at_drop_more}
use Rattle.pli_gen_emit.specs.TreeTranslation.{BlockTree}
use Rattle.pli_gen_emit.specs.answers.Collecting.{Collects}
use Rattle.pli_gen_emit.specs.declared.block.Collected.{Collected}
use Rattle.pli_gen_emit.specs.views.BlockView.{block_trees}

-- the same blocks in other words
pub collects_as : (old new : Collected) (more all : List BlockTree) → Collects old new more → more ≡ all → Collects old new all
collects_as old new more all e is = (e.0, λ h. e.1 h ∙ ap (λ bs. block_trees old.blocks.items ++ bs) is)

-- some after others
pub then_collects : (old mid new : Collected) (first second all : List BlockTree) → Collects old mid first → Collects mid new second → first ++ second ≡ all → Collects old new all
then_collects old mid new first second all e f is =
    collects_as old new (first ++ second) all
    (λ h. e.0 (f.0 h), λ h. f.1 h ∙ ap (λ bs. bs ++ second) (e.1 (f.0 h)) ∙ append_assoc (block_trees old.blocks.items) first second) is

-- in a loop: what was collected so far and what is left come to the whole
abbrev pub IsCollecting : (initial now : Collected) → (left whole : List BlockTree) → Type 0
IsCollecting initial now left whole =
    (now.refused ≡ None → initial.refused ≡ None)
    × (now.refused ≡ None → block_trees now.blocks.items ++ left ≡ block_trees initial.blocks.items ++ whole)

-- and the next element
pub collecting_next : {X : Type 0} (all : List X → List BlockTree) (each : X → List BlockTree) → ((x : X) (ys : List X) → all (x ∷ ys) ≡ each x ++ all ys)
    → (initial now new : Collected) (xs : List X) (i : ℕ) (d : X) (whole : List BlockTree) → i < length xs → d ≡ get_or xs i d
    → Collects now new (each d) → IsCollecting initial now (all (drop i xs)) whole → IsCollecting initial new (all (drop (i + 1) xs)) whole
collecting_next all each splits initial now new xs i d whole lt read e was =
    let here = each (get_or xs i d) in
    let rest = all (drop (i + 1) xs) in
    let before = block_trees now.blocks.items in (
      λ h. was.0 (e.0 h),
      λ h. ap (λ bs. bs ++ rest) (e.1 h ∙ ap (λ x. before ++ each x) read) ∙ append_assoc before here rest
          ∙ ap (λ bs. before ++ bs) (sym (at_drop_more all xs i d lt ∙ splits (get_or xs i d) (drop (i + 1) xs))) ∙ was.1 (e.0 h),
    )
