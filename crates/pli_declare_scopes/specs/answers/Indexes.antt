-- What the table of a block keeps, by which names are found.
use Rattle.std.specs.Prelude.{◌≡◌, ℕ, zero, suc, ◌<◌, Bool, true, List, length, get_or, Option, None, Some}
use Rattle.std.specs.Prelude.{IfSome, if◌then◌else◌}
use Rattle.indexmap.specs.IndexMap.{IndexMap, get}
use Rattle.pli_base.specs.Name.{Name}
use Rattle.pli_base.specs.Words.{same_name}
use Rattle.pli_declare_scopes.specs.Scopes.{BlockItems, item_at, is_named}

-- the greatest number below k that passes the test
abbrev pub last_below : (ℕ → Bool) → ℕ → Option ℕ
last_below test zero = None
last_below test (suc k) = if test k then Some k else last_below test k

-- each item belongs to one before it
abbrev pub OwnersBefore : BlockItems → Type 0
OwnersBefore items = (n : ℕ) → n < length items → IfSome (item_at items n).owner (λ o. o < n)

-- the last item of each name, and for each item the one of its name before it
pub record IsIndexed {S : Type 0} (items : BlockItems) (earlier : List (Option ℕ))
    (latest : IndexMap Name ℕ S) :
    Type 0 where
  pub last : (name : Name) → get same_name latest name ≡ last_below (is_named items name) (length items)
  pub links : (name : Name) (n : ℕ) → n < length items → is_named items name n ≡ true → get_or earlier n None
      ≡ last_below (is_named items name) n
  pub owners : OwnersBefore items
  pub count : length earlier ≡ length items
