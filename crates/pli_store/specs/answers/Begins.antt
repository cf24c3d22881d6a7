-- What a new generation begins with.
use Rattle.std.specs.Prelude.{◌≡◌, ℕ, true, false, Option, Some, None, List}
use Rattle.std.specs.Global.{Vec}
use Rattle.pli_bytes.specs.Contents.{values_of}
use Rattle.pli_map.specs.Description.{Description}
use Rattle.pli_map.specs.Scalars.{scalars_of}
use Rattle.pli_map.specs.Values.{are_held}
use Rattle.pli_value.specs.Value.{Value}

-- the bytes of a description hold these values, which its scalars may hold
abbrev pub BeginsWith : Description → List ℕ → List Value → Type 0
BeginsWith d bytes vs = (values_of d bytes ≡ vs) × (are_held (scalars_of d) vs ≡ true)

-- the bytes of a description hold these values; without bytes, its scalars may not hold them
abbrev pub Begins : Description → Option (Vec ℕ) → List Value → Type 0
Begins d (Some bytes) vs = BeginsWith d bytes.items vs
Begins d None vs = are_held (scalars_of d) vs ≡ false
