-- The names that a mark declares.
use Rattle.std.specs.Prelude.{List, [], ◌∷◌}
use Rattle.std.specs.List.{flat_map}
use Rattle.pli_base.specs.declared.syntax.Identifier.{Identifier}
use Rattle.pli_declare_outline.specs.Outlines.{Mark, Declared, Labelled, Entered, Used, Jumped}

-- the names that a mark declares
abbrev pub declared_names : Mark → List Identifier
declared_names (Declared items) = flat_map (λ i. i.names) items
declared_names (Labelled label) = label ∷ []
declared_names (Entered heading region) = heading.name ∷ []
declared_names (Used names) = []
declared_names (Jumped label) = []
