-- Types that are areas, and how long strings are (own).
use Rattle.std.specs.Prelude.{ℕ, Bool, false}
use Rattle.pli_map.specs.ParameterTypes.{ParameterType, Stated}
use Rattle.pli_map.specs.Scalars.{is_area}

-- an area
abbrev pub is_area_type : ParameterType → Bool
is_area_type (Stated d) = is_area d
is_area_type type = false

-- no string is longer
abbrev pub longest : ℕ
longest = 32767
