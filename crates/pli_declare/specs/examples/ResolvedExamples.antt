-- Worked examples: units without faults, with what their blocks declare and what their names mean.
use Rattle.std.specs.Prelude.{◌≡◌, ℕ, Option, Some, None, [], ◌∷◌, codes}
use Rattle.pli_base.specs.Syntax.{Referred, Reference, Named, Alone, Absent}
use Rattle.pli_base.specs.Declarations.{Character, Pointer, Offset, Area, Based, Simple, Plain}
use Rattle.pli_base.specs.Statements.{Body, Declare, Assign, Numbered, Statements, Ended, Before, Returns}
use Rattle.pli_base.specs.Statements.{ExternalProcedure}
use Rattle.pli_base.specs.declared.declaration.WrittenLength.TheVariants as extent
use Rattle.pli_base.specs.declared.syntax.Identifier.{Identifier}
use Rattle.pli_map.specs.Description as described
use Rattle.pli_map.specs.Description.{Description, Members, NoMembers, MemberThen}
use Rattle.pli_declare.specs.Completed.{OfVariable}
use Rattle.pli_declare.specs.declared.completed.DeclaredStorage.TheVariants.{Automatic}
use Rattle.pli_declare.specs.declared.completed.ScopeAttribute.TheVariants.{Internal}
use Rattle.pli_declare.specs.declared.completed.DeclaredStorage.{DeclaredStorage}
use Rattle.pli_declare_outline.specs.Outlines.{Declared, Labelled, Entered, Used, Jumped, Outline}
use Rattle.pli_declare_outline.specs.declared.region.RegionKind.TheVariants as kinds
use Rattle.pli_declare.specs.Declarations.{DeclaredKind, OfItem, OfLabel, OfProcedure, Declaration}
use Rattle.pli_declare.specs.examples.ResolutionExamples.{at, heading, item, plain, bit, binary, region}
use Rattle.pli_declare.specs.examples.ResolutionExamples.{in_region, unit, Answers}
use Rattle.pli_declare.specs.Resolution.{resolution_faults}
use Rattle.pli_declare.specs.Resolved.{use_of, resolution_of, resolved_of}
use Rattle.pli_declare.specs.declared.block.Use.{Use}
use Rattle.pli_declare.specs.declared.block.Target.TheVariants.{Function}

-- the use of the name of this number in a block
abbrev pub in_block : (at block number : ℕ) → Use
in_block at block number = use_of at (Some block) number

-- the use of the unit's own name
abbrev pub own_name : (at : ℕ) → Use
own_name at = use_of at None 0

-- the use of a built-in function
abbrev pub function : (at : ℕ) → Use
function at = record { at = at; target = Function }

-- a declared name with its owner and what it is declared as
abbrev pub declared : Identifier → (owner : Option ℕ) → DeclaredKind → Declaration
declared name owner kind = record { identifier = name; owner = owner; kind = kind }

-- an item that is a variable of this type and storage, with its description where it is one of its own
abbrev pub variable : (type : Option Description) → Option DeclaredStorage
    → (whole : Option Description) → DeclaredKind
variable type storage whole =
    OfItem (OfVariable (record {
      description = type;
      bounds = [];
      taken = None;
      storage = storage;
      scope = Internal;
      initial = [];
    })) whole

-- a statement without a label, before others
abbrev pub statement : (number at : ℕ) → Body → Statements → Statements
statement number at body more = Before (Numbered number None at body) more

-- a reference that is a name alone
abbrev pub reference : Identifier → Reference
reference name = Named name Absent Alone

-- `M: PROC; DCL X FIXED BIN(31); X = X; END;`
abbrev pub one_variable : ExternalProcedure
one_variable = record {
  heading = heading (codes "M") 0 [] [];
  statements =
      statement 2 4 (Declare (plain (at (codes "X") 5) (binary 31) ∷ []))
      (statement 3 12 (Assign (reference (at (codes "X") 12)) 13 (Referred (reference (at (codes "X") 14))))
      Ended);
  end = 4;
}

-- its regions, its own name, its variable, and the uses of it
abbrev pub OneVariable : Type 0
OneVariable =
    (resolution_faults one_variable ≡ [])
    × ((resolved_of one_variable).regions ≡ record { kind = kinds.Procedure; outer = None } ∷ [])
    × ((resolved_of one_variable).outermost ≡ declared (at (codes "M") 0) None (OfProcedure None 0) ∷ [])
    × ((resolved_of one_variable).blocks ≡ record {
      parameters = [];
      declarations =
          declared (at (codes "X") 5) None
          (variable (Some (described.FixedBinary 31)) (Some Automatic) (Some (described.FixedBinary 31)))
          ∷ [];
    } ∷ [])
    × ((resolved_of one_variable).uses ≡ in_block 12 0 0 ∷ in_block 14 0 0 ∷ [])

-- `DCL (X, Y) BIT; BEGIN; DCL Y PTR; X = Y; END; X = Y;`: inside, Y is the inner block's
abbrev pub hiding : Outline
hiding = unit (region kinds.Begin 0 ∷ [])
    (in_region 0 (Declared (record {
      level = None;
      names = at (codes "X") 6 ∷ at (codes "Y") 8
          ∷ [];
      dimensions = [];
      attributes = bit;
    } ∷ []))
    ∷ in_region 1 (Declared (plain (at (codes "Y") 15) (Simple Pointer ∷ []) ∷ []))
    ∷ in_region 1 (Used (at (codes "X") 18 ∷ [])) ∷ in_region 1 (Used (at (codes "Y") 20 ∷ []))
    ∷ in_region 0 (Used (at (codes "X") 24 ∷ [])) ∷ in_region 0 (Used (at (codes "Y") 26 ∷ [])) ∷ [])

-- within the block Y is its own; after its end Y is the outer one again
abbrev pub Hiding : Type 0
Hiding =
    Answers hiding []
    × ((resolution_of hiding).uses ≡ in_block 18 0 0 ∷ in_block 20 1 0 ∷ in_block 24 0 0 ∷ in_block 26 0 1
    ∷ [])

-- `DO; GOTO L; END; L: ; CALL M; X = LENGTH(X); DCL X BIT;`: the group declares nothing
abbrev pub jump : Outline
jump = unit (region kinds.Group 0 ∷ [])
    (in_region 1 (Jumped (at (codes "L") 7)) ∷ in_region 0 (Labelled (at (codes "L") 11))
    ∷ in_region 0 (Used (at (codes "M") 15 ∷ [])) ∷ in_region 0 (Used (at (codes "X") 17 ∷ []))
    ∷ in_region 0 (Used (at (codes "LENGTH") 19 ∷ [])) ∷ in_region 0 (Used (at (codes "X") 21 ∷ []))
    ∷ in_region 0 (Declared (plain (at (codes "X") 25) bit ∷ [])) ∷ [])

-- the label and X are of the procedure, M is the unit's own name, LENGTH the built-in function
abbrev pub Jump : Type 0
Jump =
    Answers jump []
    × ((resolution_of jump).uses ≡ in_block 7 0 0 ∷ own_name 15 ∷ in_block 17 0 1 ∷ function 19
    ∷ in_block 21 0 1 ∷ [])
    × ((resolution_of jump).blocks ≡ record {
      parameters = [];
      declarations =
          declared (at (codes "L") 11) None (OfLabel 0)
          ∷ declared (at (codes "X") 25) None
          (variable (Some (described.Bit 1)) (Some Automatic) (Some (described.Bit 1))) ∷ [];
    } ∷ record { parameters = []; declarations = [] } ∷ [])

-- `DCL P PTR, B CHAR(4) BASED(P); P -> B = B;`
abbrev pub located : Outline
located = unit []
    (in_region 0 (Declared (plain (at (codes "P") 5) (Simple Pointer ∷ [])
    ∷ plain (at (codes "B") 8) (Simple (Character (Some (extent.Stated 4)))
    ∷ Simple (Based (Some (codes "P" ∷ []))) ∷ [])
    ∷ []))
    ∷ in_region 0 (Used (at (codes "P") 18 ∷ [])) ∷ in_region 0 (Used (at (codes "B") 20 ∷ []))
    ∷ in_region 0 (Used (at (codes "B") 22 ∷ [])) ∷ [])

-- BASED names P, and each name of the assignment means what is declared
abbrev pub Located : Type 0
Located =
    Answers located []
    × ((resolution_of located).locators ≡ in_block 8 0 0 ∷ [])
    × ((resolution_of located).areas ≡ [])
    × ((resolution_of located).uses ≡ in_block 18 0 0 ∷ in_block 20 0 1 ∷ in_block 22 0 1 ∷ [])

-- `DCL A AREA(9), O OFFSET(A); F: PROC RETURNS(OFFSET(A)); END;`: an area of whole 8 bytes
abbrev pub areas : Outline
areas = unit (region kinds.Procedure 0 ∷ [])
    (in_region 0 (Declared (plain (at (codes "A") 5) (Simple (Area (Some (extent.Stated 9))) ∷ [])
    ∷ plain (at (codes "O") 11) (Simple (Offset (Some (codes "A"))) ∷ []) ∷ []))
    ∷ in_region 0 (Entered (heading (codes "F") 17 [] (Returns (Plain (Offset (Some (codes "A"))) ∷ [])
    ∷ [])) 1) ∷ [])

-- OFFSET of the item and of RETURNS name the area, whose size is rounded up to 16
abbrev pub Areas : Type 0
Areas =
    Answers areas []
    × ((resolution_of areas).areas ≡ in_block 11 0 0 ∷ in_block 17 0 0 ∷ [])
    × ((resolution_of areas).locators ≡ [])
    × ((resolution_of areas).blocks ≡ record {
      parameters = [];
      declarations =
          declared (at (codes "A") 5) None
          (variable (Some (described.Area 16)) (Some Automatic) (Some (described.Area 16)))
          ∷ declared (at (codes "O") 11) None
          (variable (Some described.Offset) (Some Automatic) (Some described.Offset))
          ∷ declared (at (codes "F") 17) None (OfProcedure (Some described.Offset) 1) ∷ [];
    } ∷ record { parameters = []; declarations = [] } ∷ [])

-- `F: PROC(A); DCL A BIT, 1 S, 2 B CHAR(4), 2 P PTR; S.B = B; END;`: a parameter has no storage of its own,
-- and a member's description is a part of the whole
abbrev pub members : Outline
members = unit (region kinds.Procedure 0 ∷ [])
    (in_region 0 (Entered (heading (codes "F") 4 (at (codes "A") 8 ∷ []) []) 1)
    ∷ in_region 1 (Declared (plain (at (codes "A") 12) bit
    ∷ item (Some 1) (at (codes "S") 16) [] []
    ∷ item (Some 2) (at (codes "B") 19) [] (Simple (Character (Some (extent.Stated 4))) ∷ [])
    ∷ item (Some 2) (at (codes "P") 26) [] (Simple Pointer ∷ []) ∷ []))
    ∷ in_region 1 (Used (at (codes "S") 29 ∷ at (codes "B") 31 ∷ []))
    ∷ in_region 1 (Used (at (codes "B") 33 ∷ [])) ∷ [])

-- S.B and B are the same member
abbrev pub OfMembers : Type 0
OfMembers =
    Answers members []
    × ((resolution_of members).uses ≡ in_block 29 1 2 ∷ in_block 33 1 2 ∷ [])
    × ((resolution_of members).blocks ≡
    record { parameters = []; declarations = declared (at (codes "F") 4) None (OfProcedure None 1) ∷ [] }
    ∷ record {
      parameters = codes "A" ∷ [];
      declarations =
          declared (at (codes "A") 12) None (variable (Some (described.Bit 1)) None (Some (described.Bit 1)))
          ∷ declared (at (codes "S") 16) None
          (variable None (Some Automatic)
          (Some
          (described.Structure
          (MemberThen (described.Character 4) (MemberThen described.Pointer NoMembers)))))
          ∷ declared (at (codes "B") 19) (Some 1) (variable (Some (described.Character 4)) None None)
          ∷ declared (at (codes "P") 26) (Some 1) (variable (Some described.Pointer) None None) ∷ [];
    } ∷ [])
