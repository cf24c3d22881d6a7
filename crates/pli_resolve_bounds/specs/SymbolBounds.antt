-- What the symbols of a unit without faults of declarations say is within the limits of the language.
use Rattle.std.specs.Prelude.{◌≡◌, ◌≤◌, [], length}
use Rattle.std.specs.List.{AllByRecursion}
use Rattle.pli_base.specs.Statements.{ExternalProcedure}
use Rattle.pli_map.specs.ParameterTypes.{ParameterType, Stated, AnyString, AnyArray, ArrayOf, StructureOf}
use Rattle.pli_declare.specs.Resolution.{resolution_faults}
use Rattle.pli_declare.specs.ResolvedUnits.{resolved_unit_of, all_symbols}
use Rattle.pli_declare.specs.Symbols.{SymbolKind, Variable, OpenParameter, Member, Label, Procedure, Entry}
use Rattle.pli_declare.specs.Symbols.{BuiltIn}
use Rattle.pli_deck_laws.specs.Limits.{parameter_limit, IfThere, AreBounds, IsAnyString, IsOpenElement}
use Rattle.pli_deck_laws.specs.Limits.{IsDescription, IsMade}

-- what a parameter may be: what a variable may be; a string of any length; an array whose bounds are all `*`;
-- one of bounds within the limits, of strings of any length
abbrev pub IsTaken : ParameterType → Type 0
IsTaken (Stated d) = IsMade d
IsTaken (AnyString form) = Unit {0}
IsTaken (AnyArray k element) = (1 ≤ k) × (k ≤ 8) × IsOpenElement element
IsTaken (ArrayOf bounds element) =
    (1 ≤ length bounds) × (length bounds ≤ 8) × AllByRecursion AreBounds bounds × IsAnyString element
IsTaken (StructureOf types) = ⊥

-- a variable, whatever it is made for; a parameter in which a `*` stands; what a procedure returns; what an
-- entry takes and returns
abbrev pub IsLimited : SymbolKind → Type 0
IsLimited (Variable description class scope initial area) = IsMade description
IsLimited (OpenParameter type slot area) = IsTaken type
IsLimited (Member root path initial area) = Unit {0}
IsLimited (Label statement) = Unit {0}
IsLimited (Procedure block returned area) = IfThere IsDescription returned
IsLimited (Entry parameters returned area) =
    (length parameters ≤ parameter_limit) × AllByRecursion IsTaken parameters × IfThere IsDescription returned
IsLimited BuiltIn = Unit {0}

-- so it is with the symbols of each block, and of the outermost one
abbrev pub SymbolsAreLimited : Type 0
SymbolsAreLimited =
    (u : ExternalProcedure) → resolution_faults u ≡ []
    → AllByRecursion (λ ss. AllByRecursion (λ s. IsLimited s.kind) ss) (all_symbols (resolved_unit_of u))

-- and no block has more parameters
abbrev pub ParametersAreFew : Type 0
ParametersAreFew =
    (u : ExternalProcedure) → resolution_faults u ≡ []
    → AllByRecursion (λ b. length b.parameters ≤ parameter_limit) (resolved_unit_of u).blocks
