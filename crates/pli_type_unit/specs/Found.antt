-- What is found from what was found.
use Rattle.std.specs.Prelude.{Bool, Option, Some, None, option_and_then, if◌then◌else◌}

infixl 10 ◌>>=◌
-- what is found from what was found, if both are there
abbrev pub ◌>>=◌ : {A B : Type 0} → Option A → (A → Option B) → Option B
found >>= next = option_and_then next found

-- a thing, where this holds
abbrev pub where_holds : {A : Type 0} → Bool → A → Option A
where_holds holds x = if holds then Some x else None
