-- What a reader answers, against what reading a list of tokens gives.
use Rattle.std.specs.Prelude.{◌≡◌, ◌+◌, ◌<◌, ◌≤◌, ℕ, length}
use Rattle.pli_base.specs.Words.{Tokens}
use Rattle.pli_base.specs.Reading as reading
use Rattle.pli_base.specs.declared.reading.Front.{Front}

-- what was read, apart from where it lies in memory
abbrev pub front_view : {X Y : Type 0} → (X → Y) → Front X → reading.Front Y
front_view view x = record { value = view x.value; next = x.next; rest = x.rest.now }

-- some tokens were passed over, and the rest is left
abbrev pub Advances : {X : Type 0} → ℕ → Tokens → Front X → Type 0
Advances p ts x = (p < x.next) × (x.next + length x.rest.now ≡ p + length ts)

-- some tokens were passed over, or none, and the rest is left
abbrev pub Continues : {X : Type 0} → ℕ → Tokens → Front X → Type 0
Continues p ts x = (p ≤ x.next) × (x.next + length x.rest.now ≡ p + length ts)
