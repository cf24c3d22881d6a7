-- How many initial values variables have.
use Rattle.std.specs.Prelude.{◌≡◌, ℕ, suc, ◌≤◌, List, [], ◌∷◌, length}
use Rattle.std.specs.List.{AllByRecursion}
use Rattle.pli_base.specs.Statements.{ExternalProcedure}
use Rattle.pli_declare.specs.Resolution.{resolution_faults}
use Rattle.pli_map.specs.Scalars.{scalars_in}
use Rattle.pli_declare.specs.ResolvedUnits.{resolved_unit_of, all_symbols}
use Rattle.pli_declare.specs.Symbols.{Symbol, SymbolKind, Variable}
use Rattle.pli_type_rules.specs.InitialScalars.{template_of}
use Rattle.pli_type_rules.specs.NamedUnits.{member_items}

-- a variable under its number among the symbols of its block, with its members there: no more initial values
-- than scalars, and no more scalars than the 1,000,000 bytes that it may take
abbrev pub HasFewInitial : (all : List Symbol) → (number : ℕ) → SymbolKind → Type 0
HasFewInitial all number (Variable d class scope values area) =
    (length (template_of d (record { path = []; values = values } ∷ member_items number all)).initial
    ≤ scalars_in d)
    × (scalars_in d ≤ 1000000)
HasFewInitial all number kind = Unit {0}

-- so is each of some symbols, the first of which has this number
abbrev pub HaveFewInitial : (all : List Symbol) → (number : ℕ) → List Symbol → Type 0
HaveFewInitial all number [] = Unit {0}
HaveFewInitial all number (s ∷ ss) =
    HasFewInitial all number s.kind × HaveFewInitial all (suc number) ss

-- and each of each block of a unit whose declarations have no faults
abbrev pub InitialValuesAreFew : Type 0
InitialValuesAreFew =
    (u : ExternalProcedure) → resolution_faults u ≡ []
    → AllByRecursion (λ ss. HaveFewInitial ss 0 ss) (all_symbols (resolved_unit_of u))
