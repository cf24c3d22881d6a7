-- Where the faults of a unit's declarations stand, and which they are.
use Rattle.std.specs.Prelude.{◌≡◌, ℕ, ◌<◌, ◌⊎◌, ◌↔◌, Some, List, [], ◌∷◌, map, length, get_or, take}
use Rattle.std.specs.List.{Contains, list_all}
use Rattle.pli_base.specs.declared.syntax.Identifier.{Identifier}
use Rattle.pli_base.specs.declared.token.Fault.{Fault}
use Rattle.pli_base.specs.Statements.{ExternalProcedure}
use Rattle.pli_declare_outline.specs.Outlines.{Mark, Declared, Labelled, Entered, Used, Jumped, PlacedMark}
use Rattle.pli_declare_outline.specs.Outlines.{Outline, outline_of}
use Rattle.pli_declare_scopes.specs.Scopes.{meant}
use Rattle.pli_declare.specs.Tables.{no_entry, entries_in, inner_marks, scope_of}
use Rattle.pli_declare.specs.Resolution.{names_of, reference_code, jump_code, returned_are, names_nothing}
use Rattle.pli_declare.specs.Resolution.{heading_code, item_code, parameter_code, resolution_faults}

-- a name that a block declares has the token and the code
pub record AtName (o : Outline) (f : Fault) : Type 0 where
  pub block : ℕ
  pub number : ℕ
  pub within : number < length (entries_in o block)
  pub at : (get_or (entries_in o block) number no_entry).identifier.at ≡ f.at
  pub code : item_code o block number ≡ Some f.code

-- a name for a number that has none
abbrev pub no_identifier : Identifier
no_identifier = record { name = []; at = 0 }

-- the parameter of this number has them
abbrev pub HasParameter : Outline → Mark → ℕ → Fault → Type 0
HasParameter o (Entered heading region) n f =
    (n < length heading.parameters) × ((get_or heading.parameters n no_identifier).at ≡ f.at)
    × (parameter_code o region (map (λ i. i.name) (take n heading.parameters))
    (get_or heading.parameters n no_identifier).name ≡ Some f.code)
HasParameter o (Declared items) n f = ⊥
HasParameter o (Labelled label) n f = ⊥
HasParameter o (Used names) n f = ⊥
HasParameter o (Jumped label) n f = ⊥

-- a parameter in the text has them
pub record AtParameter (o : Outline) (f : Fault) : Type 0 where
  pub placed : PlacedMark
  pub stands : Contains o.marks placed
  pub number : ℕ
  pub has : HasParameter o placed.mark number f

-- a reference or the label of a GOTO has them, at its first name
abbrev pub HasUse : Outline → (here : ℕ) → Mark → Fault → Type 0
HasUse o here (Used []) f = ⊥
HasUse o here (Used (i ∷ is)) f =
    (i.at ≡ f.at) × (reference_code (i ∷ is) (meant (scope_of o here) (names_of (i ∷ is))) ≡ Some f.code)
HasUse o here (Jumped label) f =
    (label.at ≡ f.at) × (jump_code o here (meant (scope_of o here) (label.name ∷ [])) ≡ Some f.code)
HasUse o here (Declared items) f = ⊥
HasUse o here (Labelled label) f = ⊥
HasUse o here (Entered heading region) f = ⊥

-- something in the text that uses a name has them
pub record AtUse (o : Outline) (f : Fault) : Type 0 where
  pub placed : PlacedMark
  pub stands : Contains (inner_marks o.marks) placed
  pub has : HasUse o placed.region placed.mark f

-- the unit's own name has them
abbrev pub HasHeading : Mark → Fault → Type 0
HasHeading (Entered heading region) f =
    (heading.name.at ≡ f.at)
    × (heading_code (returned_are (list_all names_nothing) heading) heading ≡ Some f.code)
HasHeading (Declared items) f = ⊥
HasHeading (Labelled label) f = ⊥
HasHeading (Used names) f = ⊥
HasHeading (Jumped label) f = ⊥

-- the first mark, which declares the unit's own name, has them
abbrev pub AtUnit : List PlacedMark → Fault → Type 0
AtUnit [] f = ⊥
AtUnit (p ∷ ps) f = HasHeading p.mark f

-- a fault is answered exactly where the unit's name, a declared name, a parameter, a reference or a label at
-- its token has its code as the least
abbrev pub FaultsAreLeastCodes : Type 0
FaultsAreLeastCodes = (u : ExternalProcedure) (f : Fault)
    → Contains (resolution_faults u) f ↔ (let o = outline_of u in
    AtUnit o.marks f ⊎ AtName o f ⊎ AtParameter o f ⊎ AtUse o f)
