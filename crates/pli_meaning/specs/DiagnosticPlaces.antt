-- Where the faults of a unit stand, whatever the pass that answers them, and where its diagnostics do (own).
use Rattle.std.specs.Prelude.{◌≡◌, List, [], ◌∷◌, Ok, Err}
use Rattle.std.specs.List.{Contains}
use Rattle.pli_base.specs.Name.{Name}
use Rattle.pli_base.specs.Words.{Tokens}
use Rattle.pli_base.specs.declared.token.Fault.{Fault}
use Rattle.pli_base.specs.declared.token.Origin.{Origin}
use Rattle.pli_include.specs.Expanded.{outcome_of}
use Rattle.pli_include.specs.Expansion.{Progress}
use Rattle.pli_meaning.specs.Scratch.{Diagnostic, compiled_texts, compiled_of}
use Rattle.pli_members.specs.Members.{Member}
use Rattle.pli_meaning.specs.TypeFaultPlaces.{AllStand}

-- each fault of a unit, of its grammar, its declarations, its types or its code, stands at a token of its
-- text, and at 0 where the text has none
abbrev pub FaultsHavePlaces : Type 0
FaultsHavePlaces = (ts : Tokens) (fs : List Fault) → compiled_texts ts ≡ Err fs → AllStand ts fs

-- a diagnostic stands where a token of the expansion comes from; where the expansion has no token, at line 1
-- of the unit
abbrev pub HasPlace : Name → List Origin → Diagnostic → Type 0
HasPlace unit [] d = d.origin ≡ record { member = unit; line = 1 }
HasPlace unit (o ∷ os) d = Contains (o ∷ os) d.origin

-- each diagnostic does
abbrev pub HavePlaces : Name → List Origin → List Diagnostic → Type 0
HavePlaces unit os [] = Unit {0}
HavePlaces unit os (d ∷ ds) = HasPlace unit os d × HavePlaces unit os ds

-- so it is with each diagnostic of a unit that could be expanded
abbrev pub DiagnosticsHavePlaces : Type 0
DiagnosticsHavePlaces =
    (entries : List (Name × Member)) (unit : Name) (p : Progress) (ds : List Diagnostic)
    → outcome_of entries unit ≡ Ok p → compiled_of entries unit ≡ Err ds → HavePlaces unit p.origins ds
