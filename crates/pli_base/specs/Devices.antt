-- What a device does to the bytes that are left in it and to those written to it (own). Where these are not
-- known, nothing is claimed.
use Rattle.std.specs.Prelude.{◌≡◌, ℕ, Bool, true, false, List, ◌++◌, length, take, ◌≤◌, Option, Result}
use Rattle.std.specs.Prelude.{MatchResult}
use Rattle.std.specs.Io.KnownBytes.{Appends, Consumes}

-- only an answer `Failed` sets the mark, and a device with the mark gives no other answer
abbrev pub Marks : {A E : Type 0} → Bool → Bool → Result A E → Type 0
Marks old new result = MatchResult result (λ _. (old ≡ false) × (new ≡ false)) (λ _. new ≡ true)

-- known bytes stay at the front, and grow by some first bytes of these
pub record AppendsPrefix (old new : Option (List ℕ)) (bytes : List ℕ) : Type 0 where
  pub written : List ℕ
  pub left : List ℕ
  pub whole : bytes ≡ written ++ left
  pub appended : Appends old new written

-- known bytes begin with some first bytes of the buffer, and lose them
pub record ConsumesPrefix (old new : Option (List ℕ)) (buffer : List ℕ) : Type 0 where
  pub count : ℕ
  pub within : count ≤ length buffer
  pub consumed : Consumes old new (take count buffer)
