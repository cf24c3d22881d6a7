-- Worked examples of well-typed programs.
use Rattle.std.specs.Prelude.{ℕ, nat_eq, true, false, pos, Option, Some, None, List, [], ◌∷◌, codes, if◌then◌else◌}
use Rattle.pli_base.specs.declared.statement.Condition.TheVariants.{FixedOverflow}
use Rattle.pli_map.specs.Description.{Description, FixedBinary, Pointer, Offset, Area, Array}
use Rattle.pli_map.specs.ParameterTypes.{Stated, AnyString, AnyArray}
use Rattle.pli_map.specs.declared.description.Bounds.{Bounds}
use Rattle.pli_map.specs.declared.dimension.WhichBound.TheVariants.{High}
use Rattle.pli_map.specs.declared.parameter.StringForm.TheVariants.{Character}
use Rattle.pli_operation.specs.declared.operation.Operation.TheVariants.{Add, Compare, ToCharacters}
use Rattle.pli_operation.specs.declared.operation.Relation.TheVariants.{Less}
use Rattle.pli_value.specs.Value.{Number, Characters}
use Rattle.pli_program.specs.declared.kind.VariableKind.TheVariants.{Static, Controlled}
use Rattle.pli_type_tree.specs.Templates.{Template}
use Rattle.pli_type_tree.specs.TypedTree.{Fit, Operate, InSlot, OfProgram, NewestOf, Located}
use Rattle.pli_type_tree.specs.TypedTree.{OfBlock, OfEntry}
use Rattle.pli_type_tree.specs.TypedTree.{Signature, Global, OwnVariable, ExternalVariable, EntryPoint}
use Rattle.pli_type_tree.specs.TypedTree.{TypedUnit, TypedExpression, Generations, Address, AsPointer, Bounded}
use Rattle.pli_type_tree.specs.TypedTree.{ByOperations, AsOffsetIn, AllocatesControlled, AllocatesBased}
use Rattle.pli_type_tree.specs.TypedTree.{AllocatesInArea, FreesControlled, FreesBased, Allocate, Free}
use Rattle.pli_type_tree.specs.TypedTree.{AssignArea, EmptyArea}
use Rattle.pli_type_tree.specs.TypedTree.{Literal, Held, Calculated, Called, TypedReference, Whole, ElementOf}
use Rattle.pli_type_tree.specs.TypedTree.{NoOperand, OperandThen, NoArgument, ByPlace, ByString, BlockHead}
use Rattle.pli_type_tree.specs.TypedTree.{Statement, Assign, Put}
use Rattle.pli_type_tree.specs.TypedTree.{AssignString, Call}
use Rattle.pli_type_tree.specs.TypedTree.{If, Goto, ReturnValue, On, Revert, Signal, NoElse}
use Rattle.pli_type_tree.specs.TypedTree.{TypedStatements, Form, Group, Iterate}
use Rattle.pli_type_tree.specs.TypedTree.{TypedRange, ByTo, Repeated, NoStatement, StatementThen}
use Rattle.pli_type_tree.specs.TypedTree.{TypedProcedure}
use Rattle.pli_type_tree.specs.WellTyped.{KnownProcedure, block_of, IsTypedForm, AreTypedStatements}
use Rattle.pli_meaning_tree.specs.ProgramMeaning.{TypedProgram}
use Rattle.pli_meaning_typed.specs.TypedPrograms.{WellTyped, IsTypedProcedure, context_in}

-- FIXED BINARY(31), in P: PROCEDURE; DECLARE X FIXED BINARY(31); L: X = F(X); PUT LIST(X); IF X < 9 THEN GOTO
-- L; F: PROCEDURE(A) RETURNS(FIXED BINARY(31)); DECLARE A FIXED BINARY(31); RETURN(A + 1); END; END;
abbrev pub number : Description
number = FixedBinary 31

-- X in P, and A in F
abbrev pub counter : TypedReference
counter = Whole (InSlot 0 0)

-- A + 1, as F returns it
abbrev pub one_more : TypedExpression
one_more =
    Calculated (Fit number)
    (OperandThen
    (Calculated (Operate Add)
    (OperandThen (Held counter) (OperandThen (Literal (Number (pos 1))) NoOperand)))
    NoOperand)

-- X < 9
abbrev pub few : TypedExpression
few =
    Calculated (Operate (Compare Less))
    (OperandThen (Held counter) (OperandThen (Literal (Number (pos 9))) NoOperand))

-- the statements of P
abbrev pub counting : TypedStatements
counting =
    StatementThen (Statement 2 (Assign counter (Called (OfBlock 1) (ByPlace counter NoArgument))))
    (StatementThen
    (Statement 3 (Put false
    (Calculated (Operate (ToCharacters 14)) (OperandThen (Held counter) NoOperand) ∷ [])))
    (StatementThen (Statement 4 (If few (Statement 5 (Goto 0 2)) NoElse)) NoStatement))

-- those of F
abbrev pub returning : TypedStatements
returning = StatementThen (Statement 8 (ReturnValue 0 one_more)) NoStatement

-- the block of P
abbrev pub outer : BlockHead
outer = record {
  number = 0;
  statement = 1;
  variables = record { description = number; initial = [] } ∷ [];
  temporaries = 0;
}

-- the block of F
abbrev pub inner : BlockHead
inner = record { number = 1; statement = 6; variables = []; temporaries = 0 }

-- P
abbrev pub caller : TypedProcedure
caller = record {
  is_on_unit = false;
  head = outer;
  parent = None;
  parameters = 0;
  function_end = None;
  statements = counting;
}

-- F
abbrev pub successor : TypedProcedure
successor = record {
  is_on_unit = false;
  head = inner;
  parent = Some 0;
  parameters = 1;
  function_end = Some 9;
  statements = returning;
}

-- the program of P and F
abbrev pub example : TypedProgram
example = record {
  units =
      record {
        name = 80 ∷ [];
        procedure = 80 ∷ [];
        is_main = true;
        signature = record { parameters = []; result = None };
        globals = [];
        procedures = caller ∷ successor ∷ [];
      } ∷ [];
  main = 0;
  greatest = 31;
}

-- what P takes and gives
abbrev pub of_caller : KnownProcedure
of_caller = record { is_on_unit = false; parent = None; around = []; parameters = []; value = None }

-- what F takes and gives, and where it stands
abbrev pub of_successor : KnownProcedure
of_successor = record {
  is_on_unit = false;
  parent = Some 0;
  around = block_of outer [] counting ∷ [];
  parameters = Stated number ∷ [];
  value = Some number;
}

-- both, by their blocks
abbrev pub signatures : (number : ℕ) → Option KnownProcedure
signatures n = if nat_eq n 0 then Some of_caller else if nat_eq n 1 then Some of_successor else None

-- the program is well typed
abbrev pub ExampleIsWellTyped : Type 0
ExampleIsWellTyped = WellTyped example

-- `DO X = 1 BY 2 TO 9 WHILE(X < 9);` and `DO X = 1 REPEAT X + 1 WHILE(X < 9);`, with nothing between them and
-- their END
abbrev pub turning : TypedRange → Form
turning range =
    Iterate (record {
      control = counter;
      conversion = ByOperations (Fit number ∷ []);
      start = Literal (Number (pos 1));
      range = range;
      condition = Some few;
      temporary = 0;
    }) NoStatement

-- BY 2 TO 9
abbrev pub by_two : TypedRange
by_two = ByTo (Literal (Number (pos 2))) (Some (Literal (Number (pos 9))))

-- both groups are well typed in P
abbrev pub GroupsAreWellTyped : Type 0
GroupsAreWellTyped =
    IsTypedForm 31 (context_in [] signatures of_caller caller) (turning by_two)
    × IsTypedForm 31 (context_in [] signatures of_caller caller) (turning (Repeated one_more))

-- a variable without initial values
abbrev pub plain : Template
plain = record { description = number; initial = [] }

-- X, CONTROLLED
abbrev pub stacked : Global
stacked = OwnVariable Controlled plain

-- ALLOCATE X; X = ALLOCATION(X); FREE X;
abbrev pub allocating : TypedStatements
allocating =
    StatementThen (Statement 2 (Allocate (AllocatesControlled 0 ∷ [])))
    (StatementThen (Statement 3 (Assign (Whole (NewestOf 0)) (Generations 0)))
    (StatementThen (Statement 4 (Free (FreesControlled 0 ∷ []))) NoStatement))

-- they are well typed in P, where X is declared
abbrev pub StackIsWellTyped : Type 0
StackIsWellTyped = AreTypedStatements 31 (context_in (stacked ∷ []) signatures of_caller caller) allocating

-- P, STATIC, in P: PROCEDURE; DECLARE P POINTER STATIC, X FIXED BINARY(31) BASED(P);
abbrev pub pointing : Global
pointing = OwnVariable Static (record { description = Pointer; initial = [] })

-- P, where it is used
abbrev pub pointer : TypedReference
pointer = Whole (OfProgram 0)

-- X, where it is used
abbrev pub pointed : TypedReference
pointed = Whole (Located (Held pointer) number)

-- ALLOCATE X; X = X; P = ADDR(X); FREE X;
abbrev pub following : TypedStatements
following =
    StatementThen (Statement 2 (Allocate (AllocatesBased plain 0 pointer ∷ [])))
    (StatementThen (Statement 3 (Assign pointed (Held pointed)))
    (StatementThen (Statement 4 (Assign pointer (Address pointed)))
    (StatementThen (Statement 5 (Free (FreesBased (Held pointer) number ∷ []))) NoStatement)))

-- they are well typed in P
abbrev pub PointersAreWellTyped : Type 0
PointersAreWellTyped =
    AreTypedStatements 31 (context_in (pointing ∷ []) signatures of_caller caller) following

-- the area of P: PROCEDURE; DECLARE A AREA(64) STATIC, O OFFSET(A) STATIC, X FIXED BINARY(31) BASED(O);
abbrev pub declared_area : Global
declared_area = OwnVariable Static (record { description = Area 64; initial = [] })

-- the offset
abbrev pub declared_offset : Global
declared_offset = OwnVariable Static (record { description = Offset; initial = [] })

-- A, where it is used
abbrev pub area_used : TypedReference
area_used = Whole (OfProgram 0)

-- O, where it is used
abbrev pub offset_used : TypedReference
offset_used = Whole (OfProgram 1)

-- X, in the block of A to which O leads
abbrev pub block_used : TypedReference
block_used = Whole (Located (AsPointer area_used (Held offset_used)) number)

-- ALLOCATE X; X = X; A = A; A = EMPTY();
abbrev pub placing : TypedStatements
placing =
    StatementThen
    (Statement 2 (Allocate (AllocatesInArea area_used plain 0 offset_used (AsOffsetIn area_used) ∷ [])))
    (StatementThen (Statement 3 (Assign block_used (Held block_used)))
    (StatementThen (Statement 4 (AssignArea area_used area_used))
    (StatementThen (Statement 5 (EmptyArea area_used)) NoStatement)))

-- they are well typed in P
abbrev pub AreasAreWellTyped : Type 0
AreasAreWellTyped =
    AreTypedStatements 31 (context_in (declared_area ∷ declared_offset ∷ []) signatures of_caller caller)
    placing

-- FIXED BINARY(15)
abbrev pub short : Description
short = FixedBinary 15

-- (3)
abbrev pub three : List Bounds
three = record { low = pos 1; high = pos 3 } ∷ []

-- the block of Q, in P: PROCEDURE; DECLARE A(3) FIXED BINARY(15); CALL Q('AB', A); Q: PROCEDURE(C, B); DECLARE C
-- CHARACTER(*), B(*) FIXED BINARY(15); C = '1'; B(1) = HBOUND(B, 1); END; END;
abbrev pub star_head : BlockHead
star_head = record { number = 1; statement = 6; variables = []; temporaries = 0 }

-- the block of P
abbrev pub with_array : BlockHead
with_array = record {
  number = 0;
  statement = 1;
  variables = record { description = Array three short; initial = [] } ∷ [];
  temporaries = 0;
}

-- the statements of Q
abbrev pub star_statements : TypedStatements
star_statements =
    StatementThen (Statement 7 (AssignString (Whole (InSlot 0 0)) (Literal (Characters (codes "1")))))
    (StatementThen
    (Statement 8
    (Assign (ElementOf (InSlot 0 1) (OperandThen (Literal (Number (pos 1))) NoOperand))
    (Calculated (Fit short) (OperandThen (Bounded High 1 (Whole (InSlot 0 1))) NoOperand)))) NoStatement)

-- the call of it
abbrev pub star_call : Form
star_call =
    Call (OfBlock 1) (ByString Character (Literal (Characters (codes "AB"))) (ByPlace counter NoArgument))

-- P, with this one statement
abbrev pub star_caller : TypedProcedure
star_caller = record {
  is_on_unit = false;
  head = with_array;
  parent = None;
  parameters = 0;
  function_end = None;
  statements = StatementThen (Statement 2 star_call) NoStatement;
}

-- what Q takes, and where it stands
abbrev pub of_stars : KnownProcedure
of_stars = record {
  is_on_unit = false;
  parent = Some 0;
  around = block_of with_array [] star_caller.statements ∷ [];
  parameters = AnyString Character ∷ AnyArray 1 (Stated short) ∷ [];
  value = None;
}

-- Q
abbrev pub star_procedure : TypedProcedure
star_procedure = record {
  is_on_unit = false;
  head = star_head;
  parent = Some 0;
  parameters = 2;
  function_end = None;
  statements = star_statements;
}

-- P and Q, by their blocks
abbrev pub with_stars : (number : ℕ) → Option KnownProcedure
with_stars n = if nat_eq n 0 then Some of_caller else if nat_eq n 1 then Some of_stars else None

-- Q is well typed, and so is its call
abbrev pub StarsAreWellTyped : Type 0
StarsAreWellTyped =
    AreTypedStatements 31 (context_in [] with_stars of_stars star_procedure) star_statements
    × IsTypedForm 31 (context_in [] with_stars of_caller star_caller) star_call

-- GOTO L; as an ON-unit in P
abbrev pub jumping : TypedProcedure
jumping = record {
  is_on_unit = true;
  head = record { number = 1; statement = 6; variables = []; temporaries = 0 };
  parent = Some 0;
  parameters = 0;
  function_end = None;
  statements = StatementThen (Statement 6 (Goto 1 2)) NoStatement;
}

-- where it stands
abbrev pub of_jumping : KnownProcedure
of_jumping = record {
  is_on_unit = true;
  parent = Some 0;
  around = block_of outer [] counting ∷ [];
  parameters = [];
  value = None;
}

-- P and the ON-unit, by their blocks
abbrev pub with_unit : (number : ℕ) → Option KnownProcedure
with_unit n = if nat_eq n 0 then Some of_caller else if nat_eq n 1 then Some of_jumping else None

-- ON FIXEDOVERFLOW GOTO L; SIGNAL FIXEDOVERFLOW; REVERT FIXEDOVERFLOW;
abbrev pub handling : TypedStatements
handling =
    StatementThen (Statement 6 (On FixedOverflow 1))
    (StatementThen (Statement 7 (Signal FixedOverflow))
    (StatementThen (Statement 8 (Revert FixedOverflow)) NoStatement))

-- they are well typed in P, also in a group, and so is the ON-unit
abbrev pub ConditionsAreWellTyped : Type 0
ConditionsAreWellTyped =
    AreTypedStatements 31 (context_in [] with_unit of_caller caller) handling
    × IsTypedForm 31 (context_in [] with_unit of_caller caller) (Group handling)
    × IsTypedProcedure 31 [] with_unit of_jumping jumping

-- X, EXTERNAL
abbrev pub shared : Global
shared = ExternalVariable (codes "X") Static plain

-- what N takes and gives
abbrev pub numeric : Signature
numeric = record { parameters = Stated number ∷ []; result = Some number }

-- X, where it is used
abbrev pub shared_number : TypedReference
shared_number = Whole (OfProgram 0)

-- X = N(X);
abbrev pub asking : TypedStatements
asking =
    StatementThen
    (Statement 2 (Assign shared_number (Called (OfEntry 1) (ByPlace shared_number NoArgument)))) NoStatement

-- RETURN(X);
abbrev pub answering : TypedStatements
answering = StatementThen (Statement 2 (ReturnValue 0 (Held shared_number))) NoStatement

-- the block of either external procedure
abbrev pub external_head : BlockHead
external_head = record { number = 0; statement = 1; variables = []; temporaries = 0 }

-- M: PROCEDURE; X = N(X); END;
abbrev pub asker : TypedProcedure
asker = record {
  is_on_unit = false;
  head = external_head;
  parent = None;
  parameters = 0;
  function_end = None;
  statements = asking;
}

-- N: PROCEDURE(A) RETURNS(FIXED BINARY(31)); RETURN(X); END;
abbrev pub answerer : TypedProcedure
answerer = record {
  is_on_unit = false;
  head = external_head;
  parent = None;
  parameters = 1;
  function_end = Some 3;
  statements = answering;
}

-- the unit of M, which declares X FIXED BINARY(31) EXTERNAL and N ENTRY(FIXED BINARY(31)) RETURNS(FIXED
-- BINARY(31))
abbrev pub asking_unit : TypedUnit
asking_unit = record {
  name = codes "M";
  procedure = codes "M";
  is_main = true;
  signature = record { parameters = []; result = None };
  globals = shared ∷ EntryPoint (codes "N") numeric ∷ [];
  procedures = asker ∷ [];
}

-- the unit of N, which declares A FIXED BINARY(31) and X FIXED BINARY(31) EXTERNAL
abbrev pub answering_unit : TypedUnit
answering_unit = record {
  name = codes "N";
  procedure = codes "N";
  is_main = false;
  signature = numeric;
  globals = shared ∷ [];
  procedures = answerer ∷ [];
}

-- the program of both units is well typed
abbrev pub UnitsAreWellTyped : Type 0
UnitsAreWellTyped =
    WellTyped (record { units = asking_unit ∷ answering_unit ∷ []; main = 0; greatest = 31 })
