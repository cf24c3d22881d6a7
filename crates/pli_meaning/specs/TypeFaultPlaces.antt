-- Where the faults of types stand (own).
use Rattle.std.specs.Prelude.{◌≡◌, List, [], ◌∷◌, Ok, Err}
use Rattle.pli_base.specs.FaultPlaces.{StandsAtToken}
use Rattle.pli_base.specs.Words.{Tokens}
use Rattle.pli_base.specs.declared.token.Fault.{Fault}
use Rattle.pli_parse_statement.specs.StatementReading.{unit_of}
use Rattle.pli_type_rules.specs.Checked.{checked}
use Rattle.pli_type_rules.specs.Names.{NamedUnit}

-- each of these faults stands at a token of the text, or at 0 where the text has none
abbrev pub AllStand : Tokens → List Fault → Type 0
AllStand ts [] = Unit {0}
AllStand ts (f ∷ fs) = StandsAtToken ts f × AllStand ts fs

-- each fault of types of a unit whose tree was read stands at a token of the text, whatever the unit's names
-- mean
abbrev pub TypeFaultsStandAtTokens : Type 0
TypeFaultsStandAtTokens =
    (ts : Tokens) (u : NamedUnit) (fs : List Fault) → unit_of ts ≡ Ok u.tree → checked u ≡ Err fs
    → AllStand ts fs
