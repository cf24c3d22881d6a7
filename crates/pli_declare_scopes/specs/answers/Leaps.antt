-- Leaps back along the items of one name, and what a search along them gives.
use Rattle.std.specs.Prelude.{◌≡◌, ℕ, ◌+◌, ◌<◌, ◌≤◌, true, List, length, get_or, Option, None, Some, IfSome}
use Rattle.pli_base.specs.Name.{Name}
use Rattle.pli_declare_scopes.specs.Scopes.{BlockItems, is_named}
use Rattle.pli_declare_scopes.specs.declared.leap.Leap.{Leap}

-- how far up a number stands
abbrev pub rank : Option ℕ → ℕ
rank None = 0
rank (Some n) = n + 1

-- a leap for a number that has none
abbrev pub no_leap : Leap
no_leap = record { to = 0; place = 0 }

-- the item to which the leap of an item leads
abbrev pub leap_at : List Leap → ℕ → ℕ
leap_at leaps n = (get_or leaps n no_leap).to

-- a leap leads back to an item of the same name, or to the item itself
pub record AreLeaps (items : BlockItems) (leaps : List Leap) : Type 0 where
  pub within : (n : ℕ) → n < length items → leap_at leaps n ≤ n
  pub named : (name : Name) (n : ℕ) → n < length items → is_named items name n ≡ true
      → is_named items name (leap_at leaps n) ≡ true
  pub all : length leaps ≡ length items

-- the last item of a name up to a bound
pub record IsLastUpTo (items : BlockItems) (name : Name) (bound : ℕ) (result : Option ℕ) : Type 0 where
  pub within : IfSome result (λ n. n < length items)
  pub bounded : IfSome result (λ n. n ≤ bound)
  pub named : IfSome result (λ n. is_named items name n ≡ true)
  pub last : (n : ℕ) → n < length items → n ≤ bound → is_named items name n ≡ true → n < rank result
