-- What the table of a block keeps of how far items reach, by which a search leaps over items that a reference
-- can't mean.
use Rattle.std.specs.Prelude.{◌≡◌, ℕ, zero, suc, ◌-◌, ◌<◌, ◌≤◌, ◌⊎◌, Bool, true, List, length, get_or, take}
use Rattle.std.specs.Prelude.{reverse}
use Rattle.std.specs.Prelude.{Option, None, Some, IfSome, [], ◌∷◌, if◌then◌else◌}
use Rattle.std.specs.Option.{is_none, is_some}
use Rattle.pli_base.specs.Name.{Name}
use Rattle.pli_declare_scopes.specs.Scopes.{BlockItems, item_at, is_named, chain_over, is_part, fits}
use Rattle.pli_declare_scopes.specs.answers.Leaps.{rank}

-- an item belongs to another through so many levels
abbrev pub Climbs : BlockItems → ℕ → (above below : ℕ) → Type 0
Climbs items zero above below = above ≡ below
Climbs items (suc k) above below =
    (owner : ℕ) × ((item_at items below).owner ≡ Some owner) × Climbs items k above owner

-- an item belongs to another through any number of levels, or is it
abbrev pub IsWithin : BlockItems → (above below : ℕ) → Type 0
IsWithin items above below = (k : ℕ) × Climbs items k above below

-- the last number within an item is known where no more will come
abbrev pub last_of : List (Option ℕ) → ℕ → Option ℕ
last_of lasts n = get_or lasts n None

-- the outermost item of its name that it is within, by the item of its name before it
abbrev pub outermost_of : List (Option ℕ) → List ℕ → Option ℕ → ℕ → ℕ
outermost_of lasts tops None n = n
outermost_of lasts tops (Some before) n =
    if is_none (last_of lasts (get_or tops before 0)) then get_or tops before 0 else n

-- the outermost item of a name that the last item is within is known, and has no last number yet
pub record IsStillOpen (lasts : List (Option ℕ)) (tops : List ℕ) (above n : ℕ) : Type 0 where
  pub top : get_or tops n 0 ≤ above
  pub last : last_of lasts (get_or tops n 0) ≡ None

-- where items stand in order, all that is within an item of a name reaches no further than the outermost that
-- each later item of that name is within, and all after an item up to its last number is within it
pub record AreReaching (items : BlockItems) (lasts : List (Option ℕ)) (tops : List ℕ) (is_ordered : Bool) :
    Type 0 where
  pub reach : is_ordered ≡ true → (above below n : ℕ) → below < length items
      → (item_at items below).counts ≡ true
      → IsWithin items above below → is_named items (item_at items above).name n ≡ true → above ≤ n
      → n < length items → IfSome (last_of lasts (get_or tops n 0)) (λ last. below ≤ last)
  pub still : is_ordered ≡ true → (last above n : ℕ) → suc last ≡ length items → IsWithin items above last
      → (item_at items above).counts ≡ true → is_named items (item_at items above).name n ≡ true → above ≤ n
      → n < length items → IsStillOpen lasts tops above n
  pub counted : is_ordered ≡ true → (n owner : ℕ) → n < length items → (item_at items n).counts ≡ true
      → (item_at items n).owner ≡ Some owner → (item_at items owner).counts ≡ true
  pub opened : is_ordered ≡ true → (last above : ℕ) → suc last ≡ length items → IsWithin items above last
      → last_of lasts above ≡ None
  pub inside : is_ordered ≡ true → (above below : ℕ) → above ≤ below → below < length items
      → IfSome (last_of lasts above) (λ last. below ≤ last) → IsWithin items above below
  pub tops_named : (name : Name) (n : ℕ) → n < length items → is_named items name n ≡ true
      → is_named items name (get_or tops n 0) ≡ true
  pub outermost : is_ordered ≡ true → (name : Name) (n above : ℕ) → n < length items
      → is_named items name n ≡ true → IsWithin items above (get_or tops n 0)
      → is_named items name above ≡ true → get_or tops n 0 ≤ above
  pub lasts_short : (n : ℕ) → n < length items → IfSome (last_of lasts n) (λ last. last < length items)
  pub tops_back : (n : ℕ) → n < length items → get_or tops n 0 ≤ n
  pub lasts_all : length lasts ≡ length items
  pub tops_all : length tops ≡ length items

-- the items that the last one is within are closed up to the owner of a new one, which it is within
pub record AreClosed (items : BlockItems) (before : List (Option ℕ)) (owner : Option ℕ)
    (after : List (Option ℕ))
    (is_ordered : Bool) : Type 0 where
  pub all : length after ≡ length before
  pub kept : IfSome owner (λ o. (n : ℕ) → n ≤ o → last_of after n ≡ last_of before n)
  pub closed : (n : ℕ) → (last_of after n ≡ last_of before n)
      ⊎ ((last : ℕ) × (suc last ≡ length items) × (last_of after n ≡ Some last) × IsWithin items n last)
  pub taken : (n last : ℕ) → suc last ≡ length items → IsWithin items n last → IfSome owner (λ o. o < n)
      → last_of after n ≡ Some last
  pub within : is_ordered ≡ true
      → IfSome owner (λ o. (last : ℕ) → suc last ≡ length items → IsWithin items o last)

-- no item up to a number, but past the bound, has the names before the last of a reference above it
abbrev pub IsReach : BlockItems → List Name → ℕ → Option ℕ → Type 0
IsReach items names number bound =
    (n : ℕ) → n < length items → n ≤ number → (item_at items n).counts ≡ true
    → is_part (reverse (take (length names - 1) names)) (chain_over items (item_at items n).owner) ≡ true
    → n < rank bound

-- where a search from a place upwards for an item of a name may begin: the names above it have the same parts
-- that begin with that name
pub record IsNearest (items : BlockItems) (name : Name) (place : ℕ) (result : Option ℕ) : Type 0 where
  pub bounded : IfSome result (λ n. n ≤ place)
  pub counts : IfSome result (λ n. (item_at items n).counts ≡ true)
  pub one : is_some result ≡ is_part (name ∷ []) (chain_over items (Some place))
  pub part : (rest : List Name) → is_part (name ∷ rest) (chain_over items result)
      ≡ is_part (name ∷ rest) (chain_over items (Some place))

-- the last item up to a number that a reference may fit
pub record IsCandidate (items : BlockItems) (names : List Name) (number : ℕ)
    (result : Option ℕ) : Type 0 where
  pub within : IfSome result (λ n. n < length items)
  pub bounded : IfSome result (λ n. n ≤ number)
  pub named : IfSome result (λ n. is_named items (get_or names (length names - 1) []) n ≡ true)
  pub last : (n : ℕ) → n < length items → n ≤ number → fits items names n ≡ true → n < rank result
