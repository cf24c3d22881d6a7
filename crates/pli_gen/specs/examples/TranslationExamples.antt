-- Worked examples of the translation.
use Rattle.std.specs.Prelude.{replicate, ◌≡◌, ℕ, pos, true, false, Some, None, [], ◌∷◌, map, codes, slice_get}
use Rattle.pli_base.specs.declared.statement.Condition.TheVariants as conditions
use Rattle.pli_run.specs.declared.ending.RunError.TheVariants.{NoReturnedValue}
use Rattle.pli_map.specs.Description.{FixedBinary, Character, Bit, Pointer, Offset, Area}
use Rattle.pli_map.specs.ParameterTypes.{Stated}
use Rattle.pli_operation.specs.declared.operation.Operation.TheVariants as calculate
use Rattle.pli_value.specs.Value.{Number, Characters}
use Rattle.pli_program.specs.declared.instruction.Instruction.TheVariants.{Step, Line, Jump, JumpUnless}
use Rattle.pli_program.specs.declared.instruction.Instruction.TheVariants.{Local, Field, Subscript, Constant}
use Rattle.pli_program.specs.declared.instruction.Instruction.TheVariants.{Load, Store, Copy, MakeDummy}
use Rattle.pli_program.specs.declared.instruction.Instruction.TheVariants.{Operate, Skip, Raise}
use Rattle.pli_program.specs.Program.{Procedure, BeginBlock, OnUnit}
use Rattle.pli_program.specs.Program as programs
use Rattle.pli_program.specs.declared.instruction.Instruction.TheVariants as op
use Rattle.pli_program.specs.Templates.{dummy}
use Rattle.pli_program.specs.declared.kind.VariableKind.TheVariants.{Static, Controlled}
use Rattle.pli_type_tree.specs.TypedTree.{InSlot, TypedExpression, Literal, Held, Calculated, Called, Whole}
use Rattle.pli_type_tree.specs.TypedTree.{TypedReference, Part, NoOperand, OperandThen, NoSubscript}
use Rattle.pli_type_tree.specs.TypedTree.{SubscriptThen, NoArgument, ByPlace, ByDummy, BlockHead, Statement}
use Rattle.pli_type_tree.specs.TypedTree.{Null, Assign, AssignAggregate, Put, If, Begin, While, Call, Goto}
use Rattle.pli_type_tree.specs.TypedTree.{Iterate, ToBy}
use Rattle.pli_type_tree.specs.TypedTree.{Stop, On, Revert, Signal, Allocate, Free, NoElse, Else}
use Rattle.pli_type_tree.specs.TypedTree.{NoStatement, StatementThen}
use Rattle.pli_type_tree.specs.Templates.{Template}
use Rattle.pli_type_tree.specs.TypedTree.{NewestOf, Generations, AllocatesControlled, FreesControlled}
use Rattle.pli_type_tree.specs.TypedTree.{Located, Address, AllocatesBased, FreesBased}
use Rattle.pli_type_tree.specs.TypedTree.{AsPointer, AsOffset, ByOperations, AsOffsetIn, AllocatesInArea}
use Rattle.pli_type_tree.specs.TypedTree.{AssignArea, EmptyArea}
use Rattle.pli_type_tree.specs.TypedTree.{OfBlock, OfEntry, TypedArguments, OwnVariable, ExternalVariable}
use Rattle.pli_type_tree.specs.TypedTree.{EntryPoint, TypedUnit, TypedProcedure}
use Rattle.pli_type_tree.specs.TypedTree as tree
use Rattle.pli_code.specs.CodeTables as tables
use Rattle.pli_gen_emit.specs.Encoding.{code_of}
use Rattle.pli_gen.specs.Limits.{is_too_long}
use Rattle.pli_gen.specs.WellNumbered.{IsWellNumbered}
use Rattle.pli_gen_emit.specs.TreeTranslation.{list_code, place_code, statement_code, unit_code}

-- the variable in the first slot
abbrev first : TypedReference
first = Whole (InSlot 0 0)

-- the variable in the second slot
abbrev second : TypedReference
second = Whole (InSlot 0 1)

-- a constant number
abbrev number : ℕ → TypedExpression
number n = Literal (Number (pos n))

-- statements 3 and 4: `X = 2 + 3; PUT SKIP LIST(X);`, with `DCL X FIXED BIN(31)`, at place 0
abbrev pub AssignedAndPrinted : Type 0
AssignedAndPrinted =
    list_code
    (StatementThen
    (Statement 3
    (Assign first
    (Calculated (tree.Fit (FixedBinary 31))
    (OperandThen
    (Calculated (tree.Operate calculate.Add) (OperandThen (number 2) (OperandThen (number 3) NoOperand)))
    NoOperand))))
    (StatementThen
    (Statement 4
    (Put true
    (Calculated (tree.Operate (calculate.ToCharacters 14)) (OperandThen (Held first) NoOperand) ∷ [])))
    NoStatement))
    0
    ≡ Step 3 ∷ Local 0 0 ∷ Constant (Number (pos 2)) ∷ Constant (Number (pos 3)) ∷ Operate calculate.Add
    ∷ op.Fit (FixedBinary 31) ∷ Store
    ∷ Step 4 ∷ Skip ∷ Local 0 0 ∷ Load ∷ Operate (calculate.ToCharacters 14) ∷ op.Put ∷ []

-- `S.B(1, 4, 1)`, with `DCL 1 S(2), 2 A FIXED BIN(31), 2 B(3:5, 2) CHAR(3)`
abbrev pub PartOfStructure : Type 0
PartOfStructure =
    place_code
    (Part (InSlot 0 0) 4 (Character 3)
    (SubscriptThen (record { low = pos 1; high = pos 2; multiplier = 24 }) (number 1)
    (SubscriptThen (record { low = pos 3; high = pos 5; multiplier = 6 }) (number 4)
    (SubscriptThen (record { low = pos 1; high = pos 2; multiplier = 3 }) (number 1) NoSubscript))))
    ≡ Local 0 0 ∷ Field 4 (Character 3)
    ∷ Constant (Number (pos 1)) ∷ Subscript (pos 1) (pos 2) 24
    ∷ Constant (Number (pos 4)) ∷ Subscript (pos 3) (pos 5) 6
    ∷ Constant (Number (pos 1)) ∷ Subscript (pos 1) (pos 2) 3 ∷ []

-- statement 2: `CALL P(X, 5);`, where block 1 is a procedure whose second parameter is FIXED BIN(15)
abbrev pub ArgumentsHanded : Type 0
ArgumentsHanded =
    statement_code
    (Statement 2
    (Call (OfBlock 1)
    (ByPlace first
    (ByDummy (FixedBinary 15)
    (Calculated (tree.Fit (FixedBinary 15)) (OperandThen (number 5) NoOperand)) NoArgument))))
    0
    ≡ Step 2 ∷ Local 0 0 ∷ Constant (Number (pos 5)) ∷ op.Fit (FixedBinary 15)
    ∷ MakeDummy (dummy (FixedBinary 15)) ∷ op.Call 1 2 ∷ []

-- statement 2: `S = T;`, of structures
abbrev pub AggregateCopied : Type 0
AggregateCopied =
    statement_code (Statement 2 (AssignAggregate first second)) 0
    ≡ Step 2 ∷ Local 0 0 ∷ Local 0 1 ∷ Copy ∷ []

-- statement 2: `DO X = 1 TO 3; ; END;`, with `DCL X FIXED BIN(15)`, at place 0
abbrev pub Counted : Type 0
Counted =
    statement_code
    (Statement 2
    (Iterate
    (record {
      control = first;
      conversion = ByOperations (tree.Fit (FixedBinary 15) ∷ []);
      start = number 1;
      range = ToBy (number 3) None;
      condition = None;
      temporary = 0;
    })
    (StatementThen (Statement 3 Null) NoStatement)))
    0
    ≡ Step 2 ∷ Constant (Number (pos 1)) ∷ op.SetTemporary 0 ∷ Constant (Number (pos 3)) ∷ op.SetTemporary 1
    ∷ Constant (Number (pos 1)) ∷ op.SetTemporary 2
    ∷ Local 0 0 ∷ op.TakeTemporary 0 ∷ op.Fit (FixedBinary 15) ∷ Store
    ∷ Local 0 0 ∷ Load ∷ op.TakeTemporary 1 ∷ op.TakeTemporary 2 ∷ Operate calculate.Within ∷ JumpUnless 28
    ∷ Step 2 ∷ Step 3
    ∷ Line 2 ∷ Local 0 0 ∷ Local 0 0 ∷ Load ∷ op.TakeTemporary 2 ∷ Operate calculate.Add
    ∷ op.Fit (FixedBinary 15) ∷ Store ∷ Jump 11 ∷ []

-- a block of this number, which begins at a statement and has no variables
abbrev head : (number statement : ℕ) → BlockHead
head n s = record { number = n; statement = s; variables = []; temporaries = 0 }

-- F()
abbrev call_of_f : TypedExpression
call_of_f = Called (OfBlock 2) NoArgument

-- M: PROC OPTIONS(MAIN); BEGIN; GOTO L; END; and after F, L: IF F() THEN ; ELSE STOP; DO WHILE(F()); ; END;
-- END M; its BEGIN is block 1
abbrev external : TypedProcedure
external = record {
  is_on_unit = false;
  head = head 0 1;
  parent = None;
  parameters = 0;
  function_end = None;
  statements =
      StatementThen (Statement 2 (Begin (head 1 2) (StatementThen (Statement 3 (Goto 1 7)) NoStatement)))
      (StatementThen (Statement 7 (If call_of_f (Statement 8 Null) (Else (Statement 9 Stop))))
      (StatementThen (Statement 10 (While call_of_f (StatementThen (Statement 11 Null) NoStatement)))
      NoStatement));
}

-- F: PROC RETURNS(BIT); END F; in M, which is block 2
abbrev function : TypedProcedure
function = record {
  is_on_unit = false;
  head = head 2 5;
  parent = Some 0;
  parameters = 0;
  function_end = Some 6;
  statements = NoStatement;
}

-- the unit of both
abbrev jumping : TypedUnit
jumping = record {
  name = codes "M";
  procedure = codes "M";
  is_main = true;
  signature = record { parameters = []; result = None };
  globals = [];
  procedures = external ∷ function ∷ [];
}

-- the GOTO of block 1 leads to place 2, where statement 7 begins
abbrev pub JumpsAndBlocks : Type 0
JumpsAndBlocks = (unit_code jumping []).instructions ≡
    map Some (Step 2 ∷ op.Begin 1
    ∷ Step 7 ∷ op.Call 2 0 ∷ JumpUnless 7 ∷ Step 8 ∷ Jump 9 ∷ Step 9 ∷ op.Stop
    ∷ Step 10 ∷ Line 10 ∷ op.Call 2 0 ∷ JumpUnless 16 ∷ Step 10 ∷ Step 11 ∷ Jump 10 ∷ op.Return 0
    ∷ Step 3 ∷ op.Goto 1 2 ∷ op.Return 0
    ∷ Line 6 ∷ Raise NoReturnedValue ∷ [])

-- and its blocks
abbrev pub WholeUnit : Type 0
WholeUnit = (unit_code jumping []).blocks ≡
    record {
      kind = Procedure;
      parent = None;
      parameters = 0;
      variables = [];
      temporaries = 0;
      entry = 0;
      statement = 1;
    }
    ∷ record {
      kind = BeginBlock;
      parent = Some 0;
      parameters = 0;
      variables = [];
      temporaries = 0;
      entry = 17;
      statement = 2;
    }
    ∷ record {
      kind = Procedure;
      parent = Some 0;
      parameters = 0;
      variables = [];
      temporaries = 0;
      entry = 20;
      statement = 5;
    } ∷ []

-- it is numbered well
abbrev pub NumberedWell : Type 0
NumberedWell = IsWellNumbered jumping

-- 5 as characters
abbrev characters_of_5 : TypedExpression
characters_of_5 = Calculated (tree.Operate (calculate.ToCharacters 4)) (OperandThen (number 5) NoOperand)

-- ABS(+5)
abbrev absolute_of_5 : TypedExpression
absolute_of_5 = Calculated (tree.Operate calculate.Absolute) (OperandThen (number 5) NoOperand)

-- M: PROC OPTIONS(MAIN); DCL C CHAR(3); CALL S(5); PUT LIST(C, 5, ABS(+5)); END M;
abbrev printing : TypedProcedure
printing = record {
  is_on_unit = false;
  head = record {
    number = 0;
    statement = 1;
    variables = record { description = Character 3; initial = [] } ∷ [];
    temporaries = 0;
  };
  parent = None;
  parameters = 0;
  function_end = None;
  statements =
      StatementThen
      (Statement 3
      (Call (OfBlock 1)
      (ByDummy (Character 2)
      (Calculated (tree.Fit (Character 2)) (OperandThen characters_of_5 NoOperand)) NoArgument)))
      (StatementThen
      (Statement 4
      (Put false
      (Held first ∷ characters_of_5
      ∷ Calculated (tree.Operate (calculate.ToCharacters 5)) (OperandThen absolute_of_5 NoOperand) ∷ [])))
      NoStatement);
}

-- S: PROC(P); DCL P CHAR(2); END S; in M
abbrev called : TypedProcedure
called = record {
  is_on_unit = false;
  head = head 1 5;
  parent = Some 0;
  parameters = 1;
  function_end = None;
  statements = NoStatement;
}

-- the unit of both
abbrev printing_unit : TypedUnit
printing_unit = record {
  name = codes "M";
  procedure = codes "M";
  is_main = true;
  signature = record { parameters = []; result = None };
  globals = [];
  procedures = printing ∷ called ∷ [];
}

-- the variable's description and that of the dummy argument; templates of these; the number once
abbrev pub TablesNumbered : Type 0
TablesNumbered = ((code_of printing_unit).descriptions ≡ Stated (Character 3) ∷ Stated (Character 2) ∷ [])
    × ((code_of printing_unit).templates
    ≡ record { description = 0; initial = [] } ∷ record { description = 1; initial = [] } ∷ [])
    × ((code_of printing_unit).values ≡ Number (pos 5) ∷ [])

-- the instructions with the numbers of what they name
abbrev pub InstructionsNumbered : Type 0
InstructionsNumbered = (code_of printing_unit).instructions
    ≡ op.Step 3 ∷ op.Constant 0 ∷ op.Operate (calculate.ToCharacters 4) ∷ op.Fit 1
    ∷ op.MakeDummy 1 ∷ op.Call 1 1
    ∷ op.Step 4 ∷ op.Local 0 0 ∷ op.Load ∷ op.Put ∷ op.Constant 0
    ∷ op.Operate (calculate.ToCharacters 4) ∷ op.Put ∷ op.Constant 0
    ∷ op.Operate calculate.Absolute ∷ op.Operate (calculate.ToCharacters 5) ∷ op.Put ∷ op.Return 0
    ∷ op.Return 0 ∷ []

-- its code with so many globals
abbrev with_globals : ℕ → tables.Code
with_globals n = record (code_of printing_unit) { globals = replicate n (tables.OwnVariable Static 0) }

-- its code with a RETURN that leads so many activations outward
abbrev with_outward : ℕ → tables.Code
with_outward n = record (code_of printing_unit) { instructions = op.Return n ∷ [] }

-- it is not too long; with 65,536 globals it would be, and with a number that has no room in its byte
abbrev pub LimitsKept : Type 0
LimitsKept = (is_too_long (code_of printing_unit) ≡ false)
    × (is_too_long (with_globals 65536) ≡ true) × (is_too_long (with_globals 65535) ≡ false)
    × (is_too_long (with_outward 256) ≡ true) × (is_too_long (with_outward 255) ≡ false)

-- (P), where P is the first parameter
abbrev of_p : TypedArguments
of_p = ByPlace first NoArgument

-- S: PROC(P); CALL G(P); IF F(P) THEN ; END S;
abbrev calling : TypedProcedure
calling = record {
  is_on_unit = false;
  head = head 0 1;
  parent = None;
  parameters = 1;
  function_end = None;
  statements =
      StatementThen (Statement 3 (Call (OfEntry 3) of_p))
      (StatementThen (Statement 4 (If (Called (OfEntry 1) of_p) (Statement 5 Null) NoElse)) NoStatement);
}

-- its unit, with DCL P CHAR(2), N FIXED BIN(15) STATIC EXTERNAL, F ENTRY(CHAR(2)) RETURNS(BIT(1)), V CHAR(2)
-- STATIC, G ENTRY(CHAR(2)) EXTERNAL
abbrev calling_unit : TypedUnit
calling_unit = record {
  name = codes "S";
  procedure = codes "S";
  is_main = false;
  signature = record { parameters = Stated (Character 2) ∷ []; result = None };
  globals =
      ExternalVariable (codes "N") Static (record { description = FixedBinary 15; initial = [] })
      ∷ EntryPoint (codes "F") (record { parameters = Stated (Character 2) ∷ []; result = Some (Bit 1) })
      ∷ OwnVariable Static (record { description = Character 2; initial = [] })
      ∷ EntryPoint (codes "G") (record { parameters = Stated (Character 2) ∷ []; result = None }) ∷ [];
  procedures = calling ∷ [];
}

-- the parameter's description comes first; then those of the globals
abbrev pub GlobalsNumbered : Type 0
GlobalsNumbered =
    ((code_of calling_unit).signature ≡ record { parameters = 0 ∷ []; result = None })
    × ((code_of calling_unit).descriptions
    ≡ Stated (Character 2) ∷ Stated (FixedBinary 15) ∷ Stated (Bit 1) ∷ [])
    × ((code_of calling_unit).templates
    ≡ record { description = 1; initial = [] } ∷ record { description = 0; initial = [] } ∷ [])
    × ((code_of calling_unit).globals
    ≡ tables.ExternalVariable (codes "N") Static 0
    ∷ tables.EntryPoint (codes "F") (record { parameters = 0 ∷ []; result = Some 2 })
    ∷ tables.OwnVariable Static 1
    ∷ tables.EntryPoint (codes "G") (record { parameters = 0 ∷ []; result = None }) ∷ [])

-- an entry is called by its number among them
abbrev pub EntriesCalled : Type 0
EntriesCalled = (code_of calling_unit).instructions
    ≡ op.Step 3 ∷ op.Local 0 0 ∷ op.CallExternal 3 1
    ∷ op.Step 4 ∷ op.Local 0 0 ∷ op.CallExternal 1 1 ∷ op.JumpUnless 8 ∷ op.Step 5
    ∷ op.Return 0 ∷ []

-- with the number of N among external variables and those of the units that have F and G
abbrev pub EntriesLinked : Type 0
EntriesLinked = (unit_code calling_unit (3 ∷ 4 ∷ 2 ∷ [])).globals
    ≡ programs.ExternalVariable 3 Static
    (record { description = FixedBinary 15; initial = Number (pos 0) ∷ [] })
    ∷ programs.EntryPoint 4
    ∷ programs.OwnVariable Static
    (record { description = Character 2; initial = Characters (codes "  ") ∷ [] })
    ∷ programs.EntryPoint 2 ∷ []

-- M: PROC OPTIONS(MAIN); DCL Q FIXED BIN(15) CTL INIT(7), N FIXED BIN(15) CTL EXTERNAL; ALLOCATE Q, N;
-- Q = ALLOCATION(N); FREE Q; END M;
abbrev stacking : TypedProcedure
stacking = record {
  is_on_unit = false;
  head = head 0 1;
  parent = None;
  parameters = 0;
  function_end = None;
  statements =
      StatementThen (Statement 3 (Allocate (AllocatesControlled 0 ∷ AllocatesControlled 1 ∷ [])))
      (StatementThen (Statement 4 (Assign (Whole (NewestOf 0)) (Generations 1)))
      (StatementThen (Statement 5 (Free (FreesControlled 0 ∷ []))) NoStatement));
}

-- its unit
abbrev stacking_unit : TypedUnit
stacking_unit = record {
  name = codes "M";
  procedure = codes "M";
  is_main = true;
  signature = record { parameters = []; result = None };
  globals =
      OwnVariable Controlled
      (record {
        description = FixedBinary 15;
        initial = record { offset = 0; value = Number (pos 7) } ∷ [];
      })
      ∷ ExternalVariable (codes "N") Controlled (record { description = FixedBinary 15; initial = [] }) ∷ [];
  procedures = stacking ∷ [];
}

-- each item of ALLOCATE and of FREE is an instruction; the place of the newest generation is the global's
abbrev pub GenerationsStacked : Type 0
GenerationsStacked = (code_of stacking_unit).instructions
    ≡ op.Step 3 ∷ op.AllocateControlled 0 ∷ op.AllocateControlled 1
    ∷ op.Step 4 ∷ op.Global 0 ∷ op.CountGenerations 1 ∷ op.Store
    ∷ op.Step 5 ∷ op.FreeControlled 0 ∷ op.Return 0 ∷ []

-- with the number of N among external variables; the initial values are those of each generation
abbrev pub ControlledLinked : Type 0
ControlledLinked =
    ((code_of stacking_unit).globals
    ≡ tables.OwnVariable Controlled 0 ∷ tables.ExternalVariable (codes "N") Controlled 1 ∷ [])
    × ((unit_code stacking_unit (2 ∷ [])).globals
    ≡ programs.OwnVariable Controlled (record { description = FixedBinary 15; initial = Number (pos 7) ∷ [] })
    ∷ programs.ExternalVariable 2 Controlled
    (record { description = FixedBinary 15; initial = Number (pos 0) ∷ [] }) ∷ [])

-- the variable in the third slot
abbrev third : TypedReference
third = Whole (InSlot 0 2)

-- what a variable that begins with 7 is made from
abbrev from_seven : Template
from_seven = record {
  description = FixedBinary 15;
  initial = record { offset = 0; value = Number (pos 7) } ∷ [];
}

-- M: PROC OPTIONS(MAIN); DCL (P, Q) POINTER, V FIXED BIN(15), B FIXED BIN(15) BASED(P) INIT(7);
-- ALLOCATE B, B SET(Q); V = Q -> B; P = ADDR(V); FREE Q -> B; END M;
abbrev pointing : TypedProcedure
pointing = record {
  is_on_unit = false;
  head = record {
    number = 0;
    statement = 1;
    variables =
        record { description = Pointer; initial = [] } ∷ record { description = Pointer; initial = [] }
        ∷ record { description = FixedBinary 15; initial = [] } ∷ [];
    temporaries = 2;
  };
  parent = None;
  parameters = 0;
  function_end = None;
  statements =
      StatementThen
      (Statement 3 (Allocate (AllocatesBased from_seven 0 first ∷ AllocatesBased from_seven 1 second ∷ [])))
      (StatementThen (Statement 4 (Assign third (Held (Whole (Located (Held second) (FixedBinary 15))))))
      (StatementThen (Statement 5 (Assign first (Address third)))
      (StatementThen (Statement 6 (Free (FreesBased (Held second) (FixedBinary 15) ∷ []))) NoStatement)));
}

-- its unit
abbrev pointing_unit : TypedUnit
pointing_unit = record {
  name = codes "M";
  procedure = codes "M";
  is_main = true;
  signature = record { parameters = []; result = None };
  globals = [];
  procedures = pointing ∷ [];
}

-- a new pointer is kept till its target's place is there; what a BASED variable is made from comes after the
-- variables of blocks
abbrev pub PointersFollowed : Type 0
PointersFollowed =
    ((code_of pointing_unit).templates
    ≡ record { description = 0; initial = [] } ∷ record { description = 1; initial = [] }
    ∷ record { description = 1; initial = record { offset = 0; value = Number (pos 7) } ∷ [] } ∷ [])
    × ((code_of pointing_unit).instructions
    ≡ op.Step 3 ∷ op.AllocateBased 2 ∷ op.SetTemporary 0 ∷ op.Local 0 0 ∷ op.TakeTemporary 0
    ∷ op.Store ∷ op.AllocateBased 2 ∷ op.SetTemporary 1 ∷ op.Local 0 1 ∷ op.TakeTemporary 1
    ∷ op.Store ∷ op.Step 4 ∷ op.Local 0 2 ∷ op.Local 0 1 ∷ op.Load ∷ op.Based 1 ∷ op.Load
    ∷ op.Store ∷ op.Step 5 ∷ op.Local 0 0 ∷ op.Local 0 2 ∷ op.AddressOf ∷ op.Store
    ∷ op.Step 6 ∷ op.Local 0 1 ∷ op.Load ∷ op.FreeBased 1 ∷ op.Return 0 ∷ [])

-- the variable in the fourth slot
abbrev fourth : TypedReference
fourth = Whole (InSlot 0 3)

-- M: PROC OPTIONS(MAIN); DCL (A, B) AREA(64), O OFFSET(A), P POINTER, V FIXED BIN(15) BASED(P) INIT(7);
-- ALLOCATE V IN(A) SET(O), V IN(B); P = O; O = P; B = A; A = EMPTY; END M;
abbrev holding : TypedProcedure
holding = record {
  is_on_unit = false;
  head = record {
    number = 0;
    statement = 1;
    variables =
        record { description = Area 64; initial = [] } ∷ record { description = Area 64; initial = [] }
        ∷ record { description = Offset; initial = [] } ∷ record { description = Pointer; initial = [] } ∷ [];
    temporaries = 2;
  };
  parent = None;
  parameters = 0;
  function_end = None;
  statements =
      StatementThen
      (Statement 3
      (Allocate
      (AllocatesInArea first from_seven 0 third (AsOffsetIn first)
      ∷ AllocatesInArea second from_seven 1 fourth (ByOperations []) ∷ [])))
      (StatementThen (Statement 4 (Assign fourth (AsPointer first (Held third))))
      (StatementThen (Statement 5 (Assign third (AsOffset first (Held fourth))))
      (StatementThen (Statement 6 (AssignArea second first))
      (StatementThen (Statement 7 (EmptyArea first)) NoStatement))));
}

-- its unit
abbrev holding_unit : TypedUnit
holding_unit = record {
  name = codes "M";
  procedure = codes "M";
  is_main = true;
  signature = record { parameters = []; result = None };
  globals = [];
  procedures = holding ∷ [];
}

-- a block of an area leads to where its item begins; what it is made from comes after the variables of
-- blocks; a locator becomes one of the other kind by the place of an area
abbrev pub AreasUsed : Type 0
AreasUsed =
    ((code_of holding_unit).descriptions
    ≡ Stated (Area 64) ∷ Stated Offset ∷ Stated Pointer ∷ Stated (FixedBinary 15) ∷ [])
    × ((code_of holding_unit).templates
    ≡ record { description = 0; initial = [] } ∷ record { description = 1; initial = [] }
    ∷ record { description = 2; initial = [] }
    ∷ record { description = 3; initial = record { offset = 0; value = Number (pos 7) } ∷ [] } ∷ [])
    × ((code_of holding_unit).instructions
    ≡ op.Step 3 ∷ op.Local 0 0 ∷ op.AllocateInArea 3 1 ∷ op.SetTemporary 0 ∷ op.Local 0 2
    ∷ op.TakeTemporary 0 ∷ op.Local 0 0 ∷ op.ToOffset ∷ op.Store
    ∷ op.Local 0 1 ∷ op.AllocateInArea 3 9 ∷ op.SetTemporary 1 ∷ op.Local 0 3
    ∷ op.TakeTemporary 1 ∷ op.Store
    ∷ op.Step 4 ∷ op.Local 0 3 ∷ op.Local 0 2 ∷ op.Load ∷ op.Local 0 0 ∷ op.ToPointer
    ∷ op.Store ∷ op.Step 5 ∷ op.Local 0 2 ∷ op.Local 0 3 ∷ op.Load ∷ op.Local 0 0
    ∷ op.ToOffset ∷ op.Store ∷ op.Step 6 ∷ op.Local 0 1 ∷ op.Local 0 0 ∷ op.AssignArea
    ∷ op.Step 7 ∷ op.Local 0 0 ∷ op.EmptyArea ∷ op.Return 0 ∷ [])

-- M: PROC OPTIONS(MAIN); ON FOFL BEGIN; REVERT FOFL; GOTO L; END; SIGNAL FOFL; L: ; END M; where ON is statement
-- 2, its unit's BEGIN statement 3, and L statement 7
abbrev pub establishing : TypedProcedure
establishing = record {
  is_on_unit = false;
  head = head 0 1;
  parent = None;
  parameters = 0;
  function_end = None;
  statements =
      StatementThen (Statement 2 (On conditions.FixedOverflow 1))
      (StatementThen (Statement 6 (Signal conditions.FixedOverflow))
      (StatementThen (Statement 7 Null) NoStatement));
}

-- its ON-unit, which is block 1; the BEGIN in it is block 2
abbrev pub taking : TypedProcedure
taking = record {
  is_on_unit = true;
  head = head 1 2;
  parent = Some 0;
  parameters = 0;
  function_end = None;
  statements =
      StatementThen
      (Statement 3
      (Begin (head 2 3)
      (StatementThen (Statement 4 (Revert conditions.FixedOverflow))
      (StatementThen (Statement 5 (Goto 2 7)) NoStatement)))) NoStatement;
}

-- the unit of both
abbrev pub establishing_unit : TypedUnit
establishing_unit = record {
  name = codes "M";
  procedure = codes "M";
  is_main = true;
  signature = record { parameters = []; result = None };
  globals = [];
  procedures = establishing ∷ taking ∷ [];
}

-- the code of an ON-unit is that of its statement, and then it returns; its block is one of its own kind
abbrev pub UnitsEstablished : Type 0
UnitsEstablished =
    ((code_of establishing_unit).instructions
    ≡ op.Step 2 ∷ op.On conditions.FixedOverflow 1 ∷ op.Step 6 ∷ op.Signal conditions.FixedOverflow
    ∷ op.Step 7 ∷ op.Return 0
    ∷ op.Step 3 ∷ op.Begin 2 ∷ op.Return 0
    ∷ op.Step 4 ∷ op.Revert conditions.FixedOverflow ∷ op.Step 5 ∷ op.Goto 2 4 ∷ op.Return 0 ∷ [])
    × (slice_get (unit_code establishing_unit []).blocks 1
    ≡ Some
    (record {
      kind = OnUnit;
      parent = Some 0;
      parameters = 0;
      variables = [];
      temporaries = 0;
      entry = 6;
      statement = 2;
    }))

-- it is numbered well: its ON names the ON-unit
abbrev pub UnitsNumbered : Type 0
UnitsNumbered = IsWellNumbered establishing_unit
