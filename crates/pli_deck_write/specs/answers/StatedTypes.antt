-- Types of which some are stated.
use Rattle.std.specs.Prelude.{List, [], ◌∷◌}
use Rattle.pli_map.specs.Description.{Description}
use Rattle.pli_map.specs.ParameterTypes.{ParameterType, Stated}

-- the descriptions of those that are stated
abbrev pub descriptions_among : List ParameterType → List Description
descriptions_among [] = []
descriptions_among (Stated d ∷ ts) = d ∷ descriptions_among ts
descriptions_among (other ∷ ts) = descriptions_among ts
