-- What the table of a block keeps of paths, by which items are found that a reference qualifies fully.
use Rattle.std.specs.Prelude.{◌≡◌, ℕ, ◌<◌, ◌&&◌, Bool, true, nat_eq, List, [], ◌∷◌, length, get_or, Option, None}
use Rattle.std.specs.Prelude.{Some}
use Rattle.pli_base.specs.Name.{Name}
use Rattle.pli_declare_scopes.specs.answers.Judged.{counts_over}
use Rattle.pli_declare_scopes.specs.Scopes.{BlockItems, item_at, chain_at, found_below}
use Rattle.pli_declare_scopes.specs.declared.found.Found.{Found}
use Rattle.pli_declare_scopes.specs.declared.found.Found.TheVariants.{Nothing}
use Rattle.pli_declare_scopes.specs.declared.path.Step.{Step}

-- a step for a number that has none
abbrev pub no_step : Step
no_step = record { name = []; above = None }

-- the last step of a path of this number
abbrev pub step_at : List Step → ℕ → Step
step_at steps p = get_or steps p no_step

-- a path spells a chain: its own name, and then that of the path above it, and so on
abbrev pub Spells : List Step → Option ℕ → List Name → Type 0
Spells steps None [] = Unit {0}
Spells steps None (n ∷ ns) = ⊥
Spells steps (Some p) [] = ⊥
Spells steps (Some p) (n ∷ ns) =
    (p < length steps) × ((step_at steps p).name ≡ n) × Spells steps (step_at steps p).above ns

-- an item that counts has this path
abbrev pub ends_at : BlockItems → List ℕ → ℕ → ℕ → Bool
ends_at items paths p n = (item_at items n).counts && nat_eq (get_or paths n 0) p

-- the path of each item spells its chain, no two paths are the same, and for each it is known which items
-- have it; of those that count each has its own, and so has its owner
pub record ArePaths (items : BlockItems) (steps : List Step) (paths : List ℕ)
    (ended : List Found) : Type 0 where
  pub spelled : (n : ℕ) → n < length items → Spells steps (Some (get_or paths n 0)) (chain_at items n)
  pub once : (p q : ℕ) → p < length steps → q < length steps → step_at steps p ≡ step_at steps q → p ≡ q
  pub ends : (p : ℕ) → get_or ended p Nothing ≡ found_below (ends_at items paths p) (length items) Nothing
  pub alone : (m n : ℕ) → m < length items → n < length items → (item_at items m).counts ≡ true
      → (item_at items n).counts ≡ true → get_or paths m 0 ≡ get_or paths n 0 → m ≡ n
  pub counted : (n : ℕ) → n < length items → (item_at items n).counts ≡ true
      → counts_over items (item_at items n).owner ≡ true
  pub all : length paths ≡ length items
  pub count : length ended ≡ length steps
