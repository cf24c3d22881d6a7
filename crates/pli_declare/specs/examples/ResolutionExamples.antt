-- Worked examples: outlines of units with the faults of their declarations.
use Rattle.std.specs.Prelude.{◌≡◌, ℕ, false, Option, Some, None, List, [], ◌∷◌, codes}
use Rattle.pli_base.specs.Name.{Name}
use Rattle.pli_base.specs.declared.code.Code.{Code}
use Rattle.pli_base.specs.declared.code.Code.TheVariants.{NotDeclared, DeclaredTwice, AttributesConflict}
use Rattle.pli_base.specs.declared.code.Code.TheVariants.{AttributesMissing, BadPrecision, BadLength}
use Rattle.pli_base.specs.declared.code.Code.TheVariants.{BadLevel, BadInitial, Ambiguous, BadGoto}
use Rattle.pli_base.specs.declared.code.Code.TheVariants.{BadLocatorOrAreaName, AreaNotAllowedHere}
use Rattle.pli_base.specs.declared.code.Code.TheVariants.{GenerationTooLarge}
use Rattle.pli_base.specs.declared.syntax.Identifier.{Identifier}
use Rattle.pli_base.specs.declared.token.Fault.{Fault}
use Rattle.pli_base.specs.Declarations.{Fixed, Binary, Character, Bit, Pointer, Offset, Area, Based, Initial}
use Rattle.pli_base.specs.Declarations.{Attribute, Simple, Plain, Item}
use Rattle.pli_base.specs.declared.declaration.WrittenBounds.{WrittenBounds}
use Rattle.pli_base.specs.declared.declaration.WrittenBounds.TheVariants as limits
use Rattle.pli_base.specs.declared.declaration.WrittenLength.TheVariants as extent
use Rattle.pli_base.specs.declared.declaration.InitialValue.TheVariants as initial
use Rattle.pli_base.specs.Statements.{ProcedureOption, Returns, Heading}
use Rattle.pli_declare_outline.specs.Outlines.{Region, Mark, Declared, Labelled, Entered, Used, Jumped}
use Rattle.pli_declare_outline.specs.Outlines.{PlacedMark, Outline}
use Rattle.pli_declare_outline.specs.declared.region.RegionKind.{RegionKind}
use Rattle.pli_declare_outline.specs.declared.region.RegionKind.TheVariants as kinds
use Rattle.pli_declare.specs.Resolution.{outline_faults}

-- a name at a token
abbrev pub at : Name → ℕ → Identifier
at name token = record { name = name; at = token }

-- the heading of a procedure that is statement 1
abbrev pub heading : Name → ℕ → List Identifier → List ProcedureOption → Heading
heading name token parameters options =
    record { name = at name token; number = 1; parameters = parameters; options = options }

-- an item of one name
abbrev pub item : Option ℕ → Identifier → List WrittenBounds → List Attribute → Item
item level name dimensions attributes =
    record { level = level; names = name ∷ []; dimensions = dimensions; attributes = attributes }

-- an item of one name without a level and without dimensions
abbrev pub plain : Identifier → List Attribute → Item
plain name attributes = item None name [] attributes

-- BIT
abbrev pub bit : List Attribute
bit = Simple (Bit None) ∷ []

-- FIXED BINARY(p)
abbrev pub binary : ℕ → List Attribute
binary p = Simple (Fixed None) ∷ Simple (Binary (Some p)) ∷ []

-- the bounds of a dimension from 1 to n, as `n` is written
abbrev pub up_to : ℕ → WrittenBounds
up_to n = limits.Stated None (record { negative = false; value = n })

-- a region of a kind within another
abbrev pub region : RegionKind → ℕ → Region
region kind outer = record { kind = kind; outer = Some outer }

-- a mark in a region
abbrev pub in_region : ℕ → Mark → PlacedMark
in_region r m = record { region = r; mark = m }

-- the procedure M, with these regions inside it and these marks after its heading
abbrev pub unit : List Region → List PlacedMark → Outline
unit regions marks =
    record {
      regions = record { kind = kinds.Procedure; outer = None }
          ∷ regions;
      marks = in_region 0 (Entered (heading (codes "M") 0 [] []) 0) ∷ marks;
    }

-- a code at a token
abbrev pub fault : Code → ℕ → Fault
fault code token = record { code = code; at = token }

-- an outline has these faults
abbrev pub Answers : Outline → List Fault → Type 0
Answers o faults = outline_faults o o.marks ≡ faults

-- the marks of one DECLARE in region 0
abbrev pub declares : List Item → List PlacedMark
declares items = in_region 0 (Declared items) ∷ []

-- `DCL X BIT, X BIT;`; `DCL X FIXED BIN(64);`; `DCL C CHAR(0);`; `DCL X FIXED BIN(15) INIT(40000);`
abbrev pub OfOneName : Type 0
OfOneName =
    Answers (unit [] (declares (plain (at (codes "X") 4) bit ∷ plain (at (codes "X") 7) bit
    ∷ []))) (fault DeclaredTwice 7 ∷ [])
    × Answers (unit [] (declares (plain (at (codes "X") 4) (binary 64) ∷ []))) (fault BadPrecision 4 ∷ [])
    × Answers (unit [] (declares (plain (at (codes "C") 4) (Simple (Character (Some (extent.Stated 0))) ∷ [])
    ∷ []))) (fault BadLength 4 ∷ [])
    × Answers (unit [] (declares (plain (at (codes "X") 4) (Simple (Fixed None) ∷ Simple (Binary (Some 15))
    ∷ Simple (Initial (initial.Integer None (record { negative = false; value = 40000 }) ∷ [])) ∷ [])
    ∷ []))) (fault BadInitial 4 ∷ [])

-- `DCL 2 X BIT;`; `DCL 1 S, 2 A AREA(8);`; `DCL X(1000, 1000) FIXED BIN(15);`
abbrev pub OfItems : Type 0
OfItems =
    Answers (unit [] (declares (item (Some 2) (at (codes "X") 5) [] bit ∷ []))) (fault BadLevel 5 ∷ [])
    × Answers (unit [] (declares (item (Some 1) (at (codes "S") 5) [] []
    ∷ item (Some 2) (at (codes "A") 8) [] (Simple (Area (Some (extent.Stated 8))) ∷ [])
    ∷ []))) (fault AreaNotAllowedHere 8 ∷ [])
    × Answers (unit [] (declares (item None (at (codes "X") 4) (up_to 1000 ∷ up_to 1000 ∷ []) (binary 15)
    ∷ []))) (fault GenerationTooLarge 4 ∷ [])

-- `DCL 1 S, 2 X BIT, 1 T, 2 X BIT; X = T.X;`: X alone fits two members
abbrev pub TwoMembers : Type 0
TwoMembers =
    Answers (unit []
    (in_region 0 (Declared (item (Some 1) (at (codes "S") 5) [] [] ∷ item (Some 2) (at (codes "X") 8) [] bit
    ∷ item (Some 1) (at (codes "T") 12) [] [] ∷ item (Some 2) (at (codes "X") 15) [] bit ∷ []))
    ∷ in_region 0 (Used (at (codes "X") 18 ∷ []))
    ∷ in_region 0 (Used (at (codes "T") 20 ∷ at (codes "X") 22 ∷ [])) ∷ []))
    (fault Ambiguous 18 ∷ [])

-- `Y = M + LENGTH(X);`: the unit's own name is declared, and a built-in function's stands for it
abbrev pub UndeclaredNames : Type 0
UndeclaredNames =
    Answers (unit [] (in_region 0 (Used (at (codes "Y") 4 ∷ [])) ∷ in_region 0 (Used (at (codes "M") 6 ∷ []))
    ∷ in_region 0 (Used (at (codes "LENGTH") 8 ∷ [])) ∷ in_region 0 (Used (at (codes "X") 10 ∷ [])) ∷ []))
    (fault NotDeclared 4 ∷ fault NotDeclared 10 ∷ [])

-- `GOTO L; DO; L: ; END;` and `DO; L: BEGIN; GOTO L; END; END;`
abbrev pub Groups : Type 0
Groups =
    Answers (unit (region kinds.Group 0 ∷ []) (in_region 0 (Jumped (at (codes "L") 5))
    ∷ in_region 1 (Labelled (at (codes "L") 9)) ∷ [])) (fault BadGoto 5 ∷ [])
    × Answers (unit (region kinds.Group 0 ∷ region kinds.Begin 1
    ∷ []) (in_region 1 (Labelled (at (codes "L") 6)) ∷ in_region 2 (Jumped (at (codes "L") 11)) ∷ [])) []

-- `DO; L: ; ON AREA GOTO L; END;` and `L: ON AREA GOTO L;`
abbrev pub Units : Type 0
Units =
    Answers (unit (region kinds.Group 0 ∷ region kinds.OnUnit 1 ∷ [])
    (in_region 1 (Labelled (at (codes "L") 6))
    ∷ in_region 2 (Jumped (at (codes "L") 12)) ∷ [])) (fault BadGoto 12 ∷ [])
    × Answers (unit (region kinds.OnUnit 0 ∷ []) (in_region 0 (Labelled (at (codes "L") 4))
    ∷ in_region 1 (Jumped (at (codes "L") 9)) ∷ [])) []

-- `DCL X BIT; BEGIN; X = Y; DCL X PTR, Y BIT; END; Y = X;`: a declaration holds in its whole block and in no
-- other
abbrev pub Blocks : Type 0
Blocks =
    Answers (unit (region kinds.Begin 0 ∷ [])
    (in_region 0 (Declared (plain (at (codes "X") 4) bit ∷ [])) ∷ in_region 1 (Used (at (codes "X") 9 ∷ []))
    ∷ in_region 1 (Used (at (codes "Y") 11 ∷ []))
    ∷ in_region 1 (Declared (plain (at (codes "X") 14) (Simple Pointer ∷ []) ∷ plain (at (codes "Y") 17) bit
    ∷ [])) ∷ in_region 0 (Used (at (codes "Y") 22 ∷ [])) ∷ in_region 0 (Used (at (codes "X") 24 ∷ []))
    ∷ []))
    (fault NotDeclared 22 ∷ [])

-- `DCL X BIT BASED(P), P PTR, Y BIT BASED(X), O OFFSET(A), A AREA(8);`
abbrev pub Locators : Type 0
Locators =
    Answers (unit [] (declares (
    plain (at (codes "X") 4) (Simple (Bit None) ∷ Simple (Based (Some (codes "P" ∷ []))) ∷ [])
    ∷ plain (at (codes "P") 11) (Simple Pointer ∷ [])
    ∷ plain (at (codes "Y") 14) (Simple (Bit None) ∷ Simple (Based (Some (codes "X" ∷ []))) ∷ [])
    ∷ plain (at (codes "O") 21) (Simple (Offset (Some (codes "A"))) ∷ [])
    ∷ plain (at (codes "A") 27) (Simple (Area (Some (extent.Stated 8))) ∷ []) ∷ [])))
    (fault BadLocatorOrAreaName 14 ∷ [])

-- `F: PROC(A, B, A) RETURNS(BIT) RETURNS(BIT); DCL A BIT;`
abbrev pub Parameters : Type 0
Parameters =
    Answers (unit (region kinds.Procedure 0 ∷ [])
    (in_region 0 (Entered (heading (codes "F") 4 (at (codes "A") 8 ∷ at (codes "B") 10 ∷ at (codes "A") 12
    ∷ []) (Returns (Plain (Bit None) ∷ []) ∷ Returns (Plain (Bit None) ∷ []) ∷ [])) 1)
    ∷ in_region 1 (Declared (plain (at (codes "A") 24) bit ∷ [])) ∷ []))
    (fault AttributesConflict 4 ∷ fault AttributesMissing 10 ∷ fault DeclaredTwice 12 ∷ [])
