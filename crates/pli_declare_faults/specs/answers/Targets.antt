-- What a name means, as a use of it.
use Rattle.std.specs.Prelude.{ℕ, Option, Some, None, List, [], ◌∷◌}
use Rattle.pli_declare.specs.declared.block.Target.{Target}
use Rattle.pli_declare.specs.declared.block.Use.{Use}

-- what the name at a token means, if it means anything
abbrev pub target_uses : (at : ℕ) → Option Target → List Use
target_uses at None = []
target_uses at (Some target) = record { at = at; target = target } ∷ []
