-- The tokens of an outline's marks at which faults of declarations may stand, in the order of the marks
-- (own).
use Rattle.std.specs.Prelude.{ℕ, List, [], ◌∷◌}
use Rattle.pli_base.specs.Statements.{ExternalProcedure}
use Rattle.pli_base.specs.TreeTokens.{Rises, tokens_of_each, name_tokens, item_tokens, unit_tokens}
use Rattle.pli_declare_outline.specs.Outlines.{Mark, Declared, Labelled, Entered, Used, Jumped, PlacedMark}
use Rattle.pli_declare_outline.specs.Outlines.{outline_of}
use Rattle.pli_meaning.specs.StatementStarts.{AllBegin}

-- the names that are declared, a procedure's name and its parameters, the first name of a reference, a label
abbrev pub mark_tokens : Mark → List ℕ
mark_tokens (Declared items) = tokens_of_each item_tokens items
mark_tokens (Labelled label) = label.at ∷ []
mark_tokens (Entered heading region) = heading.name.at ∷ tokens_of_each name_tokens heading.parameters
mark_tokens (Used []) = []
mark_tokens (Used (name ∷ names)) = name.at ∷ []
mark_tokens (Jumped label) = label.at ∷ []

-- of marks in their regions
abbrev pub placed_mark_tokens : List PlacedMark → List ℕ
placed_mark_tokens marks = tokens_of_each (λ p. mark_tokens p.mark) marks

-- where the tokens of a tree rise, and its statements begin where they should, those of its marks rise
abbrev pub MarksRise : Type 0
MarksRise =
    (u : ExternalProcedure) (low high : ℕ) → AllBegin u.statements → Rises low (unit_tokens u) high
    → Rises low (placed_mark_tokens (outline_of u).marks) high
