-- What the table of regions keeps.
use Rattle.std.specs.Prelude.{◌≡◌, ℕ, Option, None, List, length, get_or}
use Rattle.pli_declare_outline.specs.Outlines.{Region}
use Rattle.pli_declare_constructs.specs.Regions.{innermost}

-- for each region the innermost block round it
pub record HasInnermost (regions : List Region) (blocks : List (Option ℕ)) : Type 0 where
  pub each : (n : ℕ) → get_or blocks n None ≡ innermost regions n
  pub count : length blocks ≡ length regions
