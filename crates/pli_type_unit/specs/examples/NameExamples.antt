-- Worked examples: the units M of the examples of the type checker, whose names, variables and globals are what
-- the type checker finds.
use Rattle.std.specs.Prelude.{◌≡◌, ℕ, List, [], ◌∷◌, map}
use Rattle.pli_type_rules.specs.NamedUnits.{named_unit}
use Rattle.pli_type_laws.specs.examples.NameExamples.{meant_at, resolved, used}
use Rattle.pli_type_laws.specs.examples.OrderExamples.{nested}
use Rattle.pli_type_unit.specs.UnitNames.{globals_of, is_automatic, is_based, named_as, templates_in}

-- the tokens at which M uses names
abbrev pub tokens : List ℕ
tokens = 50 ∷ 52 ∷ 54 ∷ 56 ∷ 58 ∷ 60 ∷ 62 ∷ 64 ∷ 66 ∷ 68 ∷ 70 ∷ []

-- what its names mean, and what its variables and its globals are
abbrev pub NamesOfUnit : Type 0
NamesOfUnit =
    (map (λ at. named_as resolved (0 ∷ []) (used at)) tokens ≡ map meant_at tokens)
    × (templates_in resolved is_automatic 0 ≡ (named_unit 63 resolved).automatic 0)
    × (templates_in resolved is_based 0 ≡ ((named_unit 63 resolved).naming []).based 0)
    × (globals_of resolved ≡ (named_unit 63 resolved).globals)

-- of two globals of one name the inner one comes first, as its name does
abbrev pub GlobalsOfUnit : Type 0
GlobalsOfUnit = globals_of nested ≡ (named_unit 63 nested).globals
