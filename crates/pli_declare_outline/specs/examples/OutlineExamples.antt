-- Worked examples of outlines.
use Rattle.std.specs.Prelude.{◌≡◌, ℕ, Option, Some, None, [], ◌∷◌, codes}
use Rattle.pli_base.specs.Name.{Name}
use Rattle.pli_base.specs.Syntax.{Referred, Reference, Named, Alone, Joined, Absent, Given, Empty, Listed}
use Rattle.pli_base.specs.declared.syntax.Identifier.{Identifier}
use Rattle.pli_base.specs.declared.syntax.Joining.TheVariants.{Member, Located}
use Rattle.pli_base.specs.Statements.{Heading, Statement, Numbered, Body, Statements, Ended, Before}
use Rattle.pli_base.specs.Statements.{ExternalProcedure}
use Rattle.pli_base.specs.Statements as body
use Rattle.pli_base.specs.declared.statement.Condition.TheVariants.{Area}
use Rattle.pli_declare_outline.specs.Outlines.{Region, Mark, Labelled, Entered, Used, Jumped, PlacedMark}
use Rattle.pli_declare_outline.specs.Outlines.{outline_of}
use Rattle.pli_declare_outline.specs.declared.region.RegionKind.{RegionKind}
use Rattle.pli_declare_outline.specs.declared.region.RegionKind.TheVariants as kinds

-- a name at a token
abbrev pub at : Name → ℕ → Identifier
at n k = record { name = n; at = k }

-- a reference that is a name alone
abbrev pub plain : Name → ℕ → Reference
plain n k = Named (at n k) Absent Alone

-- the heading of a procedure of this name and number, without parameters and options
abbrev pub heading : Name → ℕ → ℕ → Heading
heading n k number = record { name = at n k; number = number; parameters = []; options = [] }

-- the unit M of these statements
abbrev pub unit : Statements → ExternalProcedure
unit ss = record { heading = heading (codes "M") 0 1; statements = ss; end = 9 }

-- a region of a kind within another
abbrev pub region : RegionKind → Option ℕ → Region
region kind outer = record { kind = kind; outer = outer }

-- a mark in a region
abbrev pub marked : ℕ → Mark → PlacedMark
marked r m = record { region = r; mark = m }

-- `L: X = P -> S.A(I);`
abbrev pub Uses : Type 0
Uses =
    outline_of (unit (Before (Numbered 2 (Some (at (codes "L") 4)) 6
    (body.Assign (plain (codes "X") 6) 7
    (Referred
    (Named (at (codes "P") 8) Absent
    (Joined Located (at (codes "S") 10) Absent
    (Joined Member (at (codes "A") 12) (Given (Listed (Referred (plain (codes "I") 14)) Empty))
    Alone)))))) Ended))
    ≡ record {
      regions = region kinds.Procedure None ∷ [];
      marks =
          marked 0 (Entered (heading (codes "M") 0 1) 0) ∷ marked 0 (Labelled (at (codes "L") 4))
          ∷ marked 0 (Used (at (codes "X") 6 ∷ []))
          ∷ marked 0 (Used (at (codes "P") 8 ∷ []))
          ∷ marked 0 (Used (at (codes "S") 10 ∷ at (codes "A") 12 ∷ []))
          ∷ marked 0 (Used (at (codes "I") 14 ∷ [])) ∷ [];
    }

-- `F: PROC; DO; END; END; ON AREA GOTO F;`
abbrev pub Regions : Type 0
Regions =
    outline_of (unit
    (Before
    (Numbered 2 (Some (at (codes "F") 4)) 6
    (body.Procedure (heading (codes "F") 4 2) (Before (Numbered 3 None 8 (body.Do None Ended 4)) Ended)
    5))
    (Before (Numbered 6 None 14 (body.On Area (Numbered 7 None 16 (body.Goto (at (codes "F") 17))))) Ended)))
    ≡ record {
      regions =
          region kinds.Procedure None ∷ region kinds.Procedure (Some 0) ∷ region kinds.Group (Some 1)
          ∷ region kinds.OnUnit (Some 0) ∷ [];
      marks =
          marked 0 (Entered (heading (codes "M") 0 1) 0) ∷ marked 0 (Entered (heading (codes "F") 4 2) 1)
          ∷ marked 3 (Jumped (at (codes "F") 17)) ∷ [];
    }
