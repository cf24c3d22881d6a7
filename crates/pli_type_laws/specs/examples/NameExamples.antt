-- Worked examples of names: a resolved unit as types see it.
--
--     M: PROC OPTIONS(MAIN);
--     DCL 1 S STATIC, 2 A BIT, 2 B BIT INIT('1'B), X BIT, Y FIXED BIN(15) INIT(3),
--         E ENTRY(BIT) RETURNS(OFFSET(R)), Z BIT EXT, C BIT CTL INIT('1'B), D BIT CTL EXT, P PTR,
--         F BIT BASED, 1 G BASED(P), 2 H BIT INIT('1'B), R AREA(64), 1 U, 2 O OFFSET(R), V BIT BASED(O);
--
-- where B, Y, the built-in function ABS, M, E, Z, C, F, H, O and V are used at tokens 50, 52, 54, 56, 58, 60,
-- 62, 64, 66, 68 and 70.
use Rattle.std.specs.Prelude.{◌≡◌, ℕ, nat_eq, true, false, pos, Option, Some, None, List, [], ◌∷◌, codes}
use Rattle.std.specs.Prelude.{if◌then◌else◌}
use Rattle.pli_base.specs.Name.{Name}
use Rattle.pli_base.specs.Statements.{Main, Ended}
use Rattle.pli_base.specs.declared.declaration.InitialValue.{InitialValue}
use Rattle.pli_base.specs.declared.declaration.InitialValue.TheVariants as initial
use Rattle.pli_declare.specs.declared.completed.ScopeAttribute.TheVariants as scopes
use Rattle.pli_map.specs.ParameterTypes.{Stated}
use Rattle.pli_map.specs.Description.{Description, FixedBinary, Bit, Pointer, Offset, Area, Structure}
use Rattle.pli_map.specs.Description.{NoMembers, MemberThen}
use Rattle.pli_program.specs.declared.kind.VariableKind.TheVariants.{Static, Controlled}
use Rattle.pli_declare.specs.ResolvedUnits.{ResolvedUnit}
use Rattle.pli_declare.specs.Symbols.{Symbol, SymbolKind, Variable, Member, Procedure, Entry}
use Rattle.pli_declare.specs.declared.block_numbers.ResolvedBlockKind.TheVariants as kinds
use Rattle.pli_declare.specs.declared.built_in.BuiltInFunction.TheVariants as functions
use Rattle.pli_declare.specs.declared.symbol.NameMeaning.{NameMeaning}
use Rattle.pli_declare.specs.declared.symbol.NameMeaning.TheVariants as meanings
use Rattle.pli_declare.specs.declared.symbol.StorageClass.{StorageClass}
use Rattle.pli_declare.specs.declared.symbol.StorageClass.TheVariants as classes
use Rattle.pli_type_rules.specs.NamedUnits.{named_as, named_unit}
use Rattle.pli_type_rules.specs.Names.{OfPointer, OfOffset, Begins, IsBased, NamedAs, AVariable, AFunction}
use Rattle.pli_type_rules.specs.Names.{AProcedure, NamedStorage}
use Rattle.pli_type_rules.specs.declared.beginning.Beginning.TheVariants as beginnings
use Rattle.pli_type_laws.specs.examples.ExampleTrees.{called}
use Rattle.pli_type_tree.specs.TypedTree.{OwnVariable, ExternalVariable, EntryPoint, OfBlock, OfEntry}
use Rattle.pli_type_tree.specs.TypedTree.{InSlot, OfProgram, NewestOf, Whole, Part, NoSubscript}
use Rattle.pli_value.specs.Value.{Number, Bits}

-- a declared name
abbrev pub symbol : Name → SymbolKind → Symbol
symbol name kind = record { identifier = called name 0; kind = kind }

-- an INTERNAL variable of its own
abbrev pub own : Description → StorageClass → List InitialValue → SymbolKind
own d class values = Variable d class scopes.Internal values None

-- a structure of two bits, as S
abbrev pub pair : Description
pair = Structure (MemberThen (Bit 1) (MemberThen (Bit 1) NoMembers))

-- a structure of one bit, as G
abbrev pub single : Description
single = Structure (MemberThen (Bit 1) NoMembers)

-- a structure of an offset, as U
abbrev pub holder : Description
holder = Structure (MemberThen Offset NoMembers)

-- what M declares
abbrev pub declared : List Symbol
declared =
    symbol (codes "S") (own pair classes.Static [])
    ∷ symbol (codes "A") (Member 0 (0 ∷ []) [] None)
    ∷ symbol (codes "B") (Member 0 (1 ∷ []) (initial.Bits (true ∷ []) ∷ []) None)
    ∷ symbol (codes "X") (own (Bit 1) classes.Automatic [])
    ∷ symbol (codes "Y")
    (own (FixedBinary 15) classes.Automatic
    (initial.Integer None (record { negative = false; value = 3 }) ∷ []))
    ∷ symbol (codes "E") (Entry (Stated (Bit 1) ∷ []) (Some Offset)
    (Some (record { block = 0; number = 13 })))
    ∷ symbol (codes "Z") (Variable (Bit 1) classes.Static scopes.External [] None)
    ∷ symbol (codes "C") (own (Bit 1) classes.Controlled (initial.Bits (true ∷ []) ∷ []))
    ∷ symbol (codes "D") (Variable (Bit 1) classes.Controlled scopes.External [] None)
    ∷ symbol (codes "P") (own Pointer classes.Automatic [])
    ∷ symbol (codes "F") (own (Bit 1) (classes.Based None) [])
    ∷ symbol (codes "G") (own single (classes.Based (Some (record { block = 0; number = 9 }))) [])
    ∷ symbol (codes "H") (Member 11 (0 ∷ []) (initial.Bits (true ∷ []) ∷ []) None)
    ∷ symbol (codes "R") (own (Area 64) classes.Automatic [])
    ∷ symbol (codes "U") (own holder classes.Automatic [])
    ∷ symbol (codes "O") (Member 14 (0 ∷ []) [] (Some (record { block = 0; number = 13 })))
    ∷ symbol (codes "V") (own (Bit 1) (classes.Based (Some (record { block = 0; number = 15 }))) []) ∷ []

-- what the names at tokens are, by their symbols
abbrev pub used : (at : ℕ) → Option NameMeaning
used at =
    if nat_eq at 50 then Some (meanings.Symbol (record { block = 0; number = 2 }))
    else if nat_eq at 52 then Some (meanings.Symbol (record { block = 0; number = 4 }))
    else if nat_eq at 54 then Some (meanings.BuiltIn functions.Abs)
    else if nat_eq at 56 then Some (meanings.Symbol (record { block = 1; number = 0 }))
    else if nat_eq at 58 then Some (meanings.Symbol (record { block = 0; number = 5 }))
    else if nat_eq at 60 then Some (meanings.Symbol (record { block = 0; number = 6 }))
    else if nat_eq at 62 then Some (meanings.Symbol (record { block = 0; number = 7 }))
    else if nat_eq at 64 then Some (meanings.Symbol (record { block = 0; number = 10 }))
    else if nat_eq at 66 then Some (meanings.Symbol (record { block = 0; number = 12 }))
    else if nat_eq at 68 then Some (meanings.Symbol (record { block = 0; number = 15 }))
    else if nat_eq at 70 then Some (meanings.Symbol (record { block = 0; number = 16 }))
    else None

-- the unit M, resolved
abbrev pub resolved : ResolvedUnit
resolved = record {
  tree = record {
    heading = record { name = called (codes "M") 0; number = 1; parameters = []; options = Main ∷ [] };
    statements = Ended;
    end = 3;
  };
  blocks = record {
    kind = kinds.Procedure;
    outer = None;
    statement = 1;
    name = Some (record { block = 1; number = 0 });
    parameters = [];
    symbols = declared;
  } ∷ [];
  outermost = symbol (codes "M") (Procedure 0 None None) ∷ [];
  meaning = used;
  statement_block = λ statement. Some 0;
}

-- what the name at a token means, inside M
abbrev pub meant_at : (at : ℕ) → NamedAs
meant_at at = named_as 63 resolved (0 ∷ []) (used at)

-- a variable of its own, or a member, that is no OFFSET
abbrev pub variable : NamedStorage → Description → (path : List ℕ) → NamedAs
variable storage whole path =
    AVariable (record { storage = storage; whole = Stated whole; path = path; area = None })

-- B is a member of a global, Y stands in the second slot, ABS is a built-in function, M the procedure, E an
-- entry whose offsets are of the area in the fourth slot, Z a global, C the newest generation of one; F is
-- the first BASED variable of the block, without a locator, and H a member of the second one, whose locator
-- is in the third slot; O is a member of what is in the fifth slot, of the area in the fourth, and it is
-- the locator of V
abbrev pub NamesOfUnit : Type 0
NamesOfUnit =
    (meant_at 50 ≡ variable (Begins (OfProgram 0) false) pair (1 ∷ []))
    × (meant_at 52 ≡ variable (Begins (InSlot 0 1) false) (FixedBinary 15) [])
    × (meant_at 54 ≡ AFunction functions.Abs)
    × (meant_at 56
    ≡ AProcedure (record { callee = OfBlock 0; parameters = []; returned = None; area = None }))
    × (meant_at 58
    ≡ AProcedure (record {
      callee = OfEntry 1;
      parameters = Stated (Bit 1) ∷ [];
      returned = Some Offset;
      area = Some (beginnings.InSlot 0 3);
    }))
    × (meant_at 60 ≡ variable (Begins (OfProgram 2) false) (Bit 1) [])
    × (meant_at 62 ≡ variable (Begins (NewestOf 3) false) (Bit 1) [])
    × (meant_at 64 ≡ variable (IsBased 0 0 None) (Bit 1) [])
    × (meant_at 66 ≡ variable (IsBased 0 1 (Some (OfPointer (Whole (InSlot 0 2))))) single (0 ∷ []))
    × (meant_at 68
    ≡ AVariable (record {
      storage = Begins (InSlot 0 4) false;
      whole = Stated holder;
      path = 0 ∷ [];
      area = Some (beginnings.InSlot 0 3);
    }))
    × (meant_at 70
    ≡ variable (IsBased 0 2
    (Some (OfOffset (Part (InSlot 0 4) 0 Offset NoSubscript) (beginnings.InSlot 0 3)))) (Bit 1) [])

-- AUTOMATIC: X without initial values, Y with 3, P, R and U; BASED: F, G, whose only byte is H, and V;
-- globals: S, whose second byte is B, E, Z, C, and D
abbrev pub VariablesOfUnit : Type 0
VariablesOfUnit =
    ((named_unit 63 resolved).automatic 0
    ≡ record { description = Bit 1; initial = [] }
    ∷ record { description = FixedBinary 15; initial = record { offset = 0; value = Number (pos 3) } ∷ [] }
    ∷ record { description = Pointer; initial = [] } ∷ record { description = Area 64; initial = [] }
    ∷ record { description = holder; initial = [] } ∷ [])
    × (((named_unit 63 resolved).naming []).based 0
    ≡ record { description = Bit 1; initial = [] }
    ∷ record { description = single; initial = record { offset = 0; value = Bits (true ∷ []) } ∷ [] }
    ∷ record { description = Bit 1; initial = [] } ∷ [])
    × ((named_unit 63 resolved).globals
    ≡ OwnVariable Static
    (record { description = pair; initial = record { offset = 1; value = Bits (true ∷ []) } ∷ [] })
    ∷ EntryPoint (codes "E") (record { parameters = Stated (Bit 1) ∷ []; result = Some Offset })
    ∷ ExternalVariable (codes "Z") Static (record { description = Bit 1; initial = [] })
    ∷ OwnVariable Controlled
    (record { description = Bit 1; initial = record { offset = 0; value = Bits (true ∷ []) } ∷ [] })
    ∷ ExternalVariable (codes "D") Controlled (record { description = Bit 1; initial = [] }) ∷ [])
