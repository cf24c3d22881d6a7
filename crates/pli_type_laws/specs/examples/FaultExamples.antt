-- Worked examples of faults: of each statement, whose tokens are counted from 0, all faults with their
-- tokens.
use Rattle.std.specs.Prelude.{◌≡◌, false, [], ◌∷◌, codes}
use Rattle.pli_base.specs.Statements.{NoElse, Else}
use Rattle.pli_base.specs.Syntax.{Referred, Parenthesized, Prefix, Infix, Named, Alone, Joined, Absent}
use Rattle.pli_base.specs.Syntax.{Given, Empty, Listed}
use Rattle.pli_base.specs.declared.syntax.InfixOperator.TheVariants as infixes
use Rattle.pli_base.specs.declared.syntax.Joining.TheVariants.{Member, Located}
use Rattle.pli_base.specs.declared.syntax.PrefixOperator.TheVariants as prefixes
use Rattle.pli_base.specs.declared.code.Code.TheVariants.{NotAVariable, AggregateNotAllowedHere}
use Rattle.pli_base.specs.declared.code.Code.TheVariants.{WrongNumberOfSubscripts, WrongOperandType}
use Rattle.pli_base.specs.declared.code.Code.TheVariants.{CannotAssign}
use Rattle.pli_base.specs.declared.code.Code.TheVariants.{WrongNumberOfArguments, NotCallableHere}
use Rattle.pli_base.specs.declared.code.Code.TheVariants.{LocatorMissingOrNotAllowed, WrongBuiltInArgument}
use Rattle.pli_type_laws.specs.examples.ExampleTrees.{faults, one, good, called, alone_named, named, text}
use Rattle.pli_type_laws.specs.examples.ExampleTrees.{of_bits}
use Rattle.pli_type_laws.specs.examples.ExampleTrees.{decimal, binary}
use Rattle.pli_type_laws.specs.examples.ExampleTrees.{assign, put, choice, null}
use Rattle.pli_type_laws.specs.examples.ExampleTrees.{x, n, v, c, a, r, p, q, s_a, w, w_d, t, label}
use Rattle.pli_type_laws.specs.examples.ExampleTrees.{procedure}
use Rattle.pli_type_laws.specs.examples.ExampleTrees.{abs}
use Rattle.pli_type_laws.specs.examples.ExampleTrees.{greatest, divide, length_of, index, low_bound}
use Rattle.pli_type_laws.specs.examples.ExampleTrees.{substring}

-- An IF has a fault of its own, and so has the statement after THEN; of a statement only the first fault
-- is told, operands before operators, and the target before the expression before `=`
abbrev pub OneFaultToAStatement : Type 0
OneFaultToAStatement =
    -- IF 1 THEN X = 2;
    (faults ((3, x) ∷ []) (choice 1 0 (decimal 1 1 1) (assign 2 3 (alone_named (codes "X") 3) 4 (decimal 2 1
    5)) NoElse) ≡ (record { code = WrongOperandType; at = 1 } ∷ record { code = CannotAssign; at = 4 } ∷
    []))
    -- X(1 + 'A') = 1 + 'B';
    × (faults ((0, x) ∷ []) (assign 1 0 (Named (called (codes "X") 0) (Given (Listed (Infix infixes.Add 3
    (decimal 1 1 2) (text (codes "A") 4)) Empty)) Alone) 6 (Infix infixes.Add 8 (decimal 1 1 7) (text (codes
    "B") 9))) ≡ one WrongOperandType 3)
    -- PUT LIST(1 + 'A', 1 + 'B');
    × (faults [] (put 1 0 false ((Infix infixes.Add 4 (decimal 1 1 3) (text (codes "A") 5)) ∷ (Infix
    infixes.Add 8 (decimal 1 1 7) (text (codes "B") 9)) ∷ [])) ≡ one WrongOperandType 4)
    -- N = 'A' + (1 + 'B');
    × (faults ((0, n) ∷ []) (assign 1 0 (alone_named (codes "N") 0) 1 (Infix infixes.Add 3 (text (codes "A")
    2) (Parenthesized 4 (Infix infixes.Add 6 (decimal 1 1 5) (text (codes "B") 7))))) ≡ one WrongOperandType
    6)
    -- N = (1 + 'A') + 'B';
    × (faults ((0, n) ∷ []) (assign 1 0 (alone_named (codes "N") 0) 1 (Infix infixes.Add 7 (Parenthesized 2
    (Infix infixes.Add 4 (decimal 1 1 3) (text (codes "A") 5))) (text (codes "B") 8))) ≡ one
    WrongOperandType 4)
    -- N(1) = 'A';
    × (faults ((0, n) ∷ []) (assign 1 0 (Named (called (codes "N") 0) (Given (Listed (decimal 1 1 2) Empty))
    Alone) 4 (text (codes "A") 5)) ≡ one WrongNumberOfSubscripts 0)
    -- X = 1 = 1 = 1;
    × (faults ((0, x) ∷ []) (assign 1 0 (alone_named (codes "X") 0) 1 (Infix infixes.Equal 5 (Infix
    infixes.Equal 3 (decimal 1 1 2) (decimal 1 1 4)) (decimal 1 1 6))) ≡ one WrongOperandType 5)
    -- X = 1 = 1 = '1'B;
    × (faults ((0, x) ∷ []) (assign 1 0 (alone_named (codes "X") 0) 1 (Infix infixes.Equal 5 (Infix
    infixes.Equal 3 (decimal 1 1 2) (decimal 1 1 4)) (of_bits (codes "1") 6))) ≡ good)
    -- IF X THEN ; ELSE N = 'A';
    × (faults ((1, x) ∷ (5, n) ∷ []) (choice 1 0 (named (codes "X") 1) (null 2 3) (Else (assign 3 5
    (alone_named (codes "N") 5) 6 (text (codes "A") 7)))) ≡ one CannotAssign 6)

-- Operators, conditions and subscripts take numbers or strings, the fault standing at the operator or at
-- the first token of the condition or subscript
abbrev pub OperatorsTakeTheirTypes : Type 0
OperatorsTakeTheirTypes =
    -- N = -X;
    (faults ((0, n) ∷ (3, x) ∷ []) (assign 1 0 (alone_named (codes "N") 0) 1 (Prefix prefixes.Minus 2 (named
    (codes "X") 3))) ≡ one WrongOperandType 2)
    -- X = ^1;
    × (faults ((0, x) ∷ []) (assign 1 0 (alone_named (codes "X") 0) 1 (Prefix prefixes.Not 2 (decimal 1 1
    3))) ≡ one WrongOperandType 2)
    -- X = X & 1;
    × (faults ((0, x) ∷ (2, x) ∷ []) (assign 1 0 (alone_named (codes "X") 0) 1 (Infix infixes.And 3 (named
    (codes "X") 2) (decimal 1 1 4))) ≡ one WrongOperandType 3)
    -- X = 'A' | X;
    × (faults ((0, x) ∷ (4, x) ∷ []) (assign 1 0 (alone_named (codes "X") 0) 1 (Infix infixes.Or 3 (text
    (codes "A") 2) (named (codes "X") 4))) ≡ one WrongOperandType 3)
    -- V = 5 || 'A';
    × (faults ((0, v) ∷ []) (assign 1 0 (alone_named (codes "V") 0) 1 (Infix infixes.Concatenate 3 (decimal
    5 1 2) (text (codes "A") 4))) ≡ one WrongOperandType 3)
    -- X = C = 1;
    × (faults ((0, x) ∷ (2, c) ∷ []) (assign 1 0 (alone_named (codes "X") 0) 1 (Infix infixes.Equal 3 (named
    (codes "C") 2) (decimal 1 1 4))) ≡ one WrongOperandType 3)
    -- IF (N) THEN ;
    × (faults ((2, n) ∷ []) (choice 1 0 (Parenthesized 1 (named (codes "N") 2)) (null 2 5) NoElse) ≡ one
    WrongOperandType 1)
    -- IF -N THEN ;
    × (faults ((2, n) ∷ []) (choice 1 0 (Prefix prefixes.Minus 1 (named (codes "N") 2)) (null 2 4) NoElse) ≡
    one WrongOperandType 1)
    -- IF C = X THEN ;
    × (faults ((1, c) ∷ (3, x) ∷ []) (choice 1 0 (Infix infixes.Equal 2 (named (codes "C") 1) (named (codes
    "X") 3)) (null 2 5) NoElse) ≡ good)
    -- A((X)) = X;
    × (faults ((0, a) ∷ (3, x) ∷ (7, x) ∷ []) (assign 1 0 (Named (called (codes "A") 0) (Given (Listed
    (Parenthesized 2 (named (codes "X") 3)) Empty)) Alone) 6 (named (codes "X") 7)) ≡ one WrongOperandType
    2)
    -- A(A) = X;
    × (faults ((0, a) ∷ (2, a) ∷ (5, x) ∷ []) (assign 1 0 (Named (called (codes "A") 0) (Given (Listed
    (named (codes "A") 2) Empty)) Alone) 4 (named (codes "X") 5)) ≡ one AggregateNotAllowedHere 2)

-- FIXED from FIXED, BIT from BIT, CHARACTER from all three, else T5 at `=`
abbrev pub AssignmentsConvert : Type 0
AssignmentsConvert =
    -- N = 'A';
    (faults ((0, n) ∷ []) (assign 1 0 (alone_named (codes "N") 0) 1 (text (codes "A") 2)) ≡ one CannotAssign
    1)
    -- X = 'A';
    × (faults ((0, x) ∷ []) (assign 1 0 (alone_named (codes "X") 0) 1 (text (codes "A") 2)) ≡ one
    CannotAssign 1)
    -- N = X;
    × (faults ((0, n) ∷ (2, x) ∷ []) (assign 1 0 (alone_named (codes "N") 0) 1 (named (codes "X") 2)) ≡ one
    CannotAssign 1)
    -- X = N;
    × (faults ((0, x) ∷ (2, n) ∷ []) (assign 1 0 (alone_named (codes "X") 0) 1 (named (codes "N") 2)) ≡ one
    CannotAssign 1)
    -- C = 5;
    × (faults ((0, c) ∷ []) (assign 1 0 (alone_named (codes "C") 0) 1 (decimal 5 1 2)) ≡ good)
    -- C = X;
    × (faults ((0, c) ∷ (2, x) ∷ []) (assign 1 0 (alone_named (codes "C") 0) 1 (named (codes "X") 2)) ≡
    good)
    -- V = C;
    × (faults ((0, v) ∷ (2, c) ∷ []) (assign 1 0 (alone_named (codes "V") 0) 1 (named (codes "C") 2)) ≡
    good)
    -- N = 40000;
    × (faults ((0, n) ∷ []) (assign 1 0 (alone_named (codes "N") 0) 1 (decimal 40000 5 2)) ≡ good)

-- A whole aggregate goes to one of equal description: bounds belong to it, names do not; it is no value, in
-- parentheses neither
abbrev pub AggregatesStandAlone : Type 0
AggregatesStandAlone =
    -- X = A;
    (faults ((0, x) ∷ (2, a) ∷ []) (assign 1 0 (alone_named (codes "X") 0) 1 (named (codes "A") 2)) ≡ one
    AggregateNotAllowedHere 2)
    -- A = X;
    × (faults ((0, a) ∷ (2, x) ∷ []) (assign 1 0 (alone_named (codes "A") 0) 1 (named (codes "X") 2)) ≡ one
    CannotAssign 1)
    -- A = 1;
    × (faults ((0, a) ∷ []) (assign 1 0 (alone_named (codes "A") 0) 1 (decimal 1 1 2)) ≡ one CannotAssign 1)
    -- A = (A);
    × (faults ((0, a) ∷ (3, a) ∷ []) (assign 1 0 (alone_named (codes "A") 0) 1 (Parenthesized 2 (named
    (codes "A") 3))) ≡ one AggregateNotAllowedHere 3)
    -- P = Q;
    × (faults ((0, p) ∷ (2, q) ∷ []) (assign 1 0 (alone_named (codes "P") 0) 1 (named (codes "Q") 2)) ≡ one
    CannotAssign 1)
    -- P = P;
    × (faults ((0, p) ∷ (2, p) ∷ []) (assign 1 0 (alone_named (codes "P") 0) 1 (named (codes "P") 2)) ≡
    good)
    -- W(1) = W(2);
    × (faults ((0, w) ∷ (5, w) ∷ []) (assign 1 0 (Named (called (codes "W") 0) (Given (Listed (decimal 1 1
    2) Empty)) Alone) 4 (Referred (Named (called (codes "W") 5) (Given (Listed (decimal 2 1 7) Empty))
    Alone))) ≡ good)
    -- W = W(1);
    × (faults ((0, w) ∷ (2, w) ∷ []) (assign 1 0 (alone_named (codes "W") 0) 1 (Referred (Named (called
    (codes "W") 2) (Given (Listed (decimal 1 1 4) Empty)) Alone))) ≡ one CannotAssign 1)
    -- PUT LIST(A);
    × (faults ((3, a) ∷ []) (put 1 0 false ((named (codes "A") 3) ∷ [])) ≡ one AggregateNotAllowedHere 3)
    -- IF A THEN ;
    × (faults ((1, a) ∷ []) (choice 1 0 (named (codes "A") 1) (null 2 3) NoElse) ≡ one
    AggregateNotAllowedHere 1)

-- All subscripts of all levels, wherever they stand, or none where no level above has any
abbrev pub SubscriptsAreCounted : Type 0
SubscriptsAreCounted =
    -- A('X', 1) = X;
    (faults ((0, a) ∷ (7, x) ∷ []) (assign 1 0 (Named (called (codes "A") 0) (Given (Listed (text (codes
    "X") 2) (Listed (decimal 1 1 4) Empty))) Alone) 6 (named (codes "X") 7)) ≡ one WrongOperandType 2)
    -- A(1, 2) = X;
    × (faults ((0, a) ∷ (7, x) ∷ []) (assign 1 0 (Named (called (codes "A") 0) (Given (Listed (decimal 1 1
    2) (Listed (decimal 2 1 4) Empty))) Alone) 6 (named (codes "X") 7)) ≡ one WrongNumberOfSubscripts 0)
    -- X() = X;
    × (faults ((0, x) ∷ (4, x) ∷ []) (assign 1 0 (Named (called (codes "X") 0) (Given Empty) Alone) 3 (named
    (codes "X") 4)) ≡ good)
    -- X = W(1).D(2);
    × (faults ((0, x) ∷ (2, w_d) ∷ []) (assign 1 0 (alone_named (codes "X") 0) 1 (Referred (Named (called
    (codes "W") 2) (Given (Listed (decimal 1 1 4) Empty)) (Joined Member (called (codes "D") 7) (Given
    (Listed (decimal 2 1 9) Empty)) Alone)))) ≡ good)
    -- X = W.D(1, 2);
    × (faults ((0, x) ∷ (2, w_d) ∷ []) (assign 1 0 (alone_named (codes "X") 0) 1 (Referred (Named (called
    (codes "W") 2) Absent (Joined Member (called (codes "D") 4) (Given (Listed (decimal 1 1 6) (Listed
    (decimal 2 1 8) Empty))) Alone)))) ≡ good)
    -- X = W(1, 2).D;
    × (faults ((0, x) ∷ (2, w_d) ∷ []) (assign 1 0 (alone_named (codes "X") 0) 1 (Referred (Named (called
    (codes "W") 2) (Given (Listed (decimal 1 1 4) (Listed (decimal 2 1 6) Empty))) (Joined Member (called
    (codes "D") 9) Absent Alone)))) ≡ good)
    -- X = D(1, 2);
    × (faults ((0, x) ∷ (2, w_d) ∷ []) (assign 1 0 (alone_named (codes "X") 0) 1 (Referred (Named (called
    (codes "D") 2) (Given (Listed (decimal 1 1 4) (Listed (decimal 2 1 6) Empty))) Alone))) ≡ good)
    -- X = W;
    × (faults ((0, x) ∷ (2, w) ∷ []) (assign 1 0 (alone_named (codes "X") 0) 1 (named (codes "W") 2)) ≡ one
    AggregateNotAllowedHere 2)
    -- X = W(1);
    × (faults ((0, x) ∷ (2, w) ∷ []) (assign 1 0 (alone_named (codes "X") 0) 1 (Referred (Named (called
    (codes "W") 2) (Given (Listed (decimal 1 1 4) Empty)) Alone))) ≡ one AggregateNotAllowedHere 2)
    -- X = W.D;
    × (faults ((0, x) ∷ (2, w_d) ∷ []) (assign 1 0 (alone_named (codes "X") 0) 1 (Referred (Named (called
    (codes "W") 2) Absent (Joined Member (called (codes "D") 4) Absent Alone)))) ≡ one
    WrongNumberOfSubscripts 2)
    -- X = W(1).D;
    × (faults ((0, x) ∷ (2, w_d) ∷ []) (assign 1 0 (alone_named (codes "X") 0) 1 (Referred (Named (called
    (codes "W") 2) (Given (Listed (decimal 1 1 4) Empty)) (Joined Member (called (codes "D") 7) Absent
    Alone)))) ≡ one WrongNumberOfSubscripts 2)
    -- S.A = 1;
    × (faults ((0, s_a) ∷ []) (assign 1 0 (Named (called (codes "S") 0) Absent (Joined Member (called (codes
    "A") 2) Absent Alone)) 3 (decimal 1 1 4)) ≡ one WrongNumberOfSubscripts 0)

-- Before what is not BASED no locator may stand; T2 and T3 come before T10, and a locator is a variable
-- itself
abbrev pub LocatorsAreNotAllowed : Type 0
LocatorsAreNotAllowed =
    -- PUT LIST(X -> A);
    (faults ((3, x) ∷ (5, a) ∷ []) (put 1 0 false ((Referred (Named (called (codes "X") 3) Absent (Joined
    Located (called (codes "A") 5) Absent Alone))) ∷ [])) ≡ one AggregateNotAllowedHere 5)
    -- PUT LIST(X -> A(1));
    × (faults ((3, x) ∷ (5, a) ∷ []) (put 1 0 false ((Referred (Named (called (codes "X") 3) Absent (Joined
    Located (called (codes "A") 5) (Given (Listed (decimal 1 1 7) Empty)) Alone))) ∷ [])) ≡ one
    LocatorMissingOrNotAllowed 5)
    -- PUT LIST(X -> A(1, 2));
    × (faults ((3, x) ∷ (5, a) ∷ []) (put 1 0 false ((Referred (Named (called (codes "X") 3) Absent (Joined
    Located (called (codes "A") 5) (Given (Listed (decimal 1 1 7) (Listed (decimal 2 1 9) Empty))) Alone)))
    ∷ [])) ≡ one WrongNumberOfSubscripts 5)
    -- PUT LIST(A -> X);
    × (faults ((3, a) ∷ (5, x) ∷ []) (put 1 0 false ((Referred (Named (called (codes "A") 3) Absent (Joined
    Located (called (codes "X") 5) Absent Alone))) ∷ [])) ≡ one AggregateNotAllowedHere 3)
    -- PUT LIST(L -> X);
    × (faults ((3, label) ∷ (5, x) ∷ []) (put 1 0 false ((Referred (Named (called (codes "L") 3) Absent
    (Joined Located (called (codes "X") 5) Absent Alone))) ∷ [])) ≡ one NotAVariable 3)
    -- X -> A(1) = X;
    × (faults ((0, x) ∷ (2, a) ∷ (7, x) ∷ []) (assign 1 0 (Named (called (codes "X") 0) Absent (Joined
    Located (called (codes "A") 2) (Given (Listed (decimal 1 1 4) Empty)) Alone)) 6 (named (codes "X") 7)) ≡
    one LocatorMissingOrNotAllowed 2)

-- Parentheses after what is no variable hold arguments, whose own faults come first; a function without
-- parentheses is no value
abbrev pub NamesOfNoVariable : Type 0
NamesOfNoVariable =
    -- PUT LIST(L(T));
    (faults ((3, label) ∷ (5, t) ∷ []) (put 1 0 false ((Referred (Named (called (codes "L") 3) (Given
    (Listed (named (codes "T") 5) Empty)) Alone)) ∷ [])) ≡ one NotAVariable 3)
    -- PUT LIST(L(1 + 'A'));
    × (faults ((3, label) ∷ []) (put 1 0 false ((Referred (Named (called (codes "L") 3) (Given (Listed
    (Infix infixes.Add 6 (decimal 1 1 5) (text (codes "A") 7)) Empty)) Alone)) ∷ [])) ≡ one WrongOperandType
    6)
    -- ABS(1) = 1;
    × (faults ((0, abs) ∷ []) (assign 1 0 (Named (called (codes "ABS") 0) (Given (Listed (decimal 1 1 2)
    Empty)) Alone) 4 (decimal 1 1 5)) ≡ one NotAVariable 0)
    -- ABS(1 + 'A') = 1;
    × (faults ((0, abs) ∷ []) (assign 1 0 (Named (called (codes "ABS") 0) (Given (Listed (Infix infixes.Add
    3 (decimal 1 1 2) (text (codes "A") 4)) Empty)) Alone) 6 (decimal 1 1 7)) ≡ one WrongOperandType 3)
    -- MAX('A', R) = 1;
    × (faults ((0, greatest) ∷ (4, r) ∷ []) (assign 1 0 (Named (called (codes "MAX") 0) (Given (Listed (text
    (codes "A") 2) (Listed (named (codes "R") 4) Empty))) Alone) 6 (decimal 1 1 7)) ≡ one NotAVariable 0)
    -- PUT LIST(X -> ABS('A'));
    × (faults ((3, x) ∷ (5, abs) ∷ []) (put 1 0 false ((Referred (Named (called (codes "X") 3) Absent
    (Joined Located (called (codes "ABS") 5) (Given (Listed (text (codes "A") 7) Empty)) Alone))) ∷ [])) ≡
    one NotAVariable 5)
    -- X = ABS;
    × (faults ((0, x) ∷ (2, abs) ∷ []) (assign 1 0 (alone_named (codes "X") 0) 1 (named (codes "ABS") 2)) ≡
    one NotAVariable 2)
    -- M = 1;
    × (faults ((0, procedure) ∷ []) (assign 1 0 (alone_named (codes "M") 0) 1 (decimal 1 1 2)) ≡ one
    NotAVariable 0)
    -- N = M;
    × (faults ((0, n) ∷ (2, procedure) ∷ []) (assign 1 0 (alone_named (codes "N") 0) 1 (named (codes "M")
    2)) ≡ one NotAVariable 2)
    -- N = M();
    × (faults ((0, n) ∷ (2, procedure) ∷ []) (assign 1 0 (alone_named (codes "N") 0) 1 (Referred (Named
    (called (codes "M") 2) (Given Empty) Alone))) ≡ one NotCallableHere 2)
    -- N = M(1);
    × (faults ((0, n) ∷ (2, procedure) ∷ []) (assign 1 0 (alone_named (codes "N") 0) 1 (Referred (Named
    (called (codes "M") 2) (Given (Listed (decimal 1 1 4) Empty)) Alone))) ≡ one WrongNumberOfArguments 2)
    -- N = ABS();
    × (faults ((0, n) ∷ (2, abs) ∷ []) (assign 1 0 (alone_named (codes "N") 0) 1 (Referred (Named (called
    (codes "ABS") 2) (Given Empty) Alone))) ≡ one WrongNumberOfArguments 2)

-- The faults in the arguments, then T6; with the right number T2 at an aggregate, then T13 at the name
abbrev pub FunctionsConvertNothing : Type 0
FunctionsConvertNothing =
    -- N = LENGTH(5);
    (faults ((0, n) ∷ (2, length_of) ∷ []) (assign 1 0 (alone_named (codes "N") 0) 1 (Referred (Named
    (called (codes "LENGTH") 2) (Given (Listed (decimal 5 1 4) Empty)) Alone))) ≡ one WrongBuiltInArgument
    2)
    -- N = INDEX('101', '0'B);
    × (faults ((0, n) ∷ (2, index) ∷ []) (assign 1 0 (alone_named (codes "N") 0) 1 (Referred (Named (called
    (codes "INDEX") 2) (Given (Listed (text (codes "101") 4) (Listed (of_bits (codes "0") 6) Empty)))
    Alone))) ≡ one WrongBuiltInArgument 2)
    -- V = SUBSTR(5, 1);
    × (faults ((0, v) ∷ (2, substring) ∷ []) (assign 1 0 (alone_named (codes "V") 0) 1 (Referred (Named
    (called (codes "SUBSTR") 2) (Given (Listed (decimal 5 1 4) (Listed (decimal 1 1 6) Empty))) Alone))) ≡
    one WrongBuiltInArgument 2)
    -- N = MAX('1'B, 1);
    × (faults ((0, n) ∷ (2, greatest) ∷ []) (assign 1 0 (alone_named (codes "N") 0) 1 (Referred (Named
    (called (codes "MAX") 2) (Given (Listed (of_bits (codes "1") 4) (Listed (decimal 1 1 6) Empty)))
    Alone))) ≡ one WrongBuiltInArgument 2)
    -- N = ABS(R, 1);
    × (faults ((0, n) ∷ (2, abs) ∷ (4, r) ∷ []) (assign 1 0 (alone_named (codes "N") 0) 1 (Referred (Named
    (called (codes "ABS") 2) (Given (Listed (named (codes "R") 4) (Listed (decimal 1 1 6) Empty))) Alone)))
    ≡ one WrongNumberOfArguments 2)
    -- N = ABS(1 + 'A', 1);
    × (faults ((0, n) ∷ (2, abs) ∷ []) (assign 1 0 (alone_named (codes "N") 0) 1 (Referred (Named (called
    (codes "ABS") 2) (Given (Listed (Infix infixes.Add 5 (decimal 1 1 4) (text (codes "A") 6)) (Listed
    (decimal 1 1 8) Empty))) Alone))) ≡ one WrongOperandType 5)
    -- N = MAX('A', R);
    × (faults ((0, n) ∷ (2, greatest) ∷ (6, r) ∷ []) (assign 1 0 (alone_named (codes "N") 0) 1 (Referred
    (Named (called (codes "MAX") 2) (Given (Listed (text (codes "A") 4) (Listed (named (codes "R") 6)
    Empty))) Alone))) ≡ one AggregateNotAllowedHere 6)

-- The precision of DIVIDE and the number of a dimension are decimal constants and nothing else; LBOUND
-- takes a whole array
abbrev pub BareConstants : Type 0
BareConstants =
    -- N = DIVIDE(1, 1, 15);
    (faults ((0, n) ∷ (2, divide) ∷ []) (assign 1 0 (alone_named (codes "N") 0) 1 (Referred (Named (called
    (codes "DIVIDE") 2) (Given (Listed (decimal 1 1 4) (Listed (decimal 1 1 6) (Listed (decimal 15 2 8)
    Empty)))) Alone))) ≡ good)
    -- N = DIVIDE(1, 1, 063);
    × (faults ((0, n) ∷ (2, divide) ∷ []) (assign 1 0 (alone_named (codes "N") 0) 1 (Referred (Named (called
    (codes "DIVIDE") 2) (Given (Listed (decimal 1 1 4) (Listed (decimal 1 1 6) (Listed (decimal 63 3 8)
    Empty)))) Alone))) ≡ good)
    -- N = DIVIDE(1, 1, (15));
    × (faults ((0, n) ∷ (2, divide) ∷ []) (assign 1 0 (alone_named (codes "N") 0) 1 (Referred (Named (called
    (codes "DIVIDE") 2) (Given (Listed (decimal 1 1 4) (Listed (decimal 1 1 6) (Listed (Parenthesized 8
    (decimal 15 2 9)) Empty)))) Alone))) ≡ one WrongBuiltInArgument 2)
    -- N = DIVIDE(1, 1, +15);
    × (faults ((0, n) ∷ (2, divide) ∷ []) (assign 1 0 (alone_named (codes "N") 0) 1 (Referred (Named (called
    (codes "DIVIDE") 2) (Given (Listed (decimal 1 1 4) (Listed (decimal 1 1 6) (Listed (Prefix prefixes.Plus
    8 (decimal 15 2 9)) Empty)))) Alone))) ≡ one WrongBuiltInArgument 2)
    -- N = DIVIDE(1, 1, 1B);
    × (faults ((0, n) ∷ (2, divide) ∷ []) (assign 1 0 (alone_named (codes "N") 0) 1 (Referred (Named (called
    (codes "DIVIDE") 2) (Given (Listed (decimal 1 1 4) (Listed (decimal 1 1 6) (Listed (binary 1 1 8)
    Empty)))) Alone))) ≡ one WrongBuiltInArgument 2)
    -- N = DIVIDE(1, 1, 64);
    × (faults ((0, n) ∷ (2, divide) ∷ []) (assign 1 0 (alone_named (codes "N") 0) 1 (Referred (Named (called
    (codes "DIVIDE") 2) (Given (Listed (decimal 1 1 4) (Listed (decimal 1 1 6) (Listed (decimal 64 2 8)
    Empty)))) Alone))) ≡ one WrongBuiltInArgument 2)
    -- N = DIVIDE(1, 1, 0);
    × (faults ((0, n) ∷ (2, divide) ∷ []) (assign 1 0 (alone_named (codes "N") 0) 1 (Referred (Named (called
    (codes "DIVIDE") 2) (Given (Listed (decimal 1 1 4) (Listed (decimal 1 1 6) (Listed (decimal 0 1 8)
    Empty)))) Alone))) ≡ one WrongBuiltInArgument 2)
    -- N = DIVIDE(1, 1, R);
    × (faults ((0, n) ∷ (2, divide) ∷ (8, r) ∷ []) (assign 1 0 (alone_named (codes "N") 0) 1 (Referred
    (Named (called (codes "DIVIDE") 2) (Given (Listed (decimal 1 1 4) (Listed (decimal 1 1 6) (Listed (named
    (codes "R") 8) Empty)))) Alone))) ≡ one WrongBuiltInArgument 2)
    -- N = LBOUND(A, 1);
    × (faults ((0, n) ∷ (2, low_bound) ∷ (4, a) ∷ []) (assign 1 0 (alone_named (codes "N") 0) 1 (Referred
    (Named (called (codes "LBOUND") 2) (Given (Listed (named (codes "A") 4) (Listed (decimal 1 1 6) Empty)))
    Alone))) ≡ good)
    -- N = LBOUND(A, 2);
    × (faults ((0, n) ∷ (2, low_bound) ∷ (4, a) ∷ []) (assign 1 0 (alone_named (codes "N") 0) 1 (Referred
    (Named (called (codes "LBOUND") 2) (Given (Listed (named (codes "A") 4) (Listed (decimal 2 1 6) Empty)))
    Alone))) ≡ one WrongBuiltInArgument 2)
    -- N = LBOUND(A(1), 1);
    × (faults ((0, n) ∷ (2, low_bound) ∷ (4, a) ∷ []) (assign 1 0 (alone_named (codes "N") 0) 1 (Referred
    (Named (called (codes "LBOUND") 2) (Given (Listed (Referred (Named (called (codes "A") 4) (Given (Listed
    (decimal 1 1 6) Empty)) Alone)) (Listed (decimal 1 1 9) Empty))) Alone))) ≡ one WrongBuiltInArgument 2)
    -- N = LBOUND((A), 1);
    × (faults ((0, n) ∷ (2, low_bound) ∷ (5, a) ∷ []) (assign 1 0 (alone_named (codes "N") 0) 1 (Referred
    (Named (called (codes "LBOUND") 2) (Given (Listed (Parenthesized 4 (named (codes "A") 5)) (Listed
    (decimal 1 1 8) Empty))) Alone))) ≡ one AggregateNotAllowedHere 5)
    -- N = LBOUND(N, 1);
    × (faults ((0, n) ∷ (2, low_bound) ∷ (4, n) ∷ []) (assign 1 0 (alone_named (codes "N") 0) 1 (Referred
    (Named (called (codes "LBOUND") 2) (Given (Listed (named (codes "N") 4) (Listed (decimal 1 1 6) Empty)))
    Alone))) ≡ one WrongBuiltInArgument 2)
    -- N = LBOUND(W.D, 1);
    × (faults ((0, n) ∷ (2, low_bound) ∷ (4, w_d) ∷ []) (assign 1 0 (alone_named (codes "N") 0) 1 (Referred
    (Named (called (codes "LBOUND") 2) (Given (Listed (Referred (Named (called (codes "W") 4) Absent (Joined
    Member (called (codes "D") 6) Absent Alone))) (Listed (decimal 1 1 8) Empty))) Alone))) ≡ one
    WrongNumberOfSubscripts 4)
    -- N = LBOUND(L, 1);
    × (faults ((0, n) ∷ (2, low_bound) ∷ (4, label) ∷ []) (assign 1 0 (alone_named (codes "N") 0) 1
    (Referred (Named (called (codes "LBOUND") 2) (Given (Listed (named (codes "L") 4) (Listed (decimal 1 1
    6) Empty))) Alone))) ≡ one NotAVariable 4)
    -- N = LBOUND(A, 1 + 'A');
    × (faults ((0, n) ∷ (2, low_bound) ∷ (4, a) ∷ []) (assign 1 0 (alone_named (codes "N") 0) 1 (Referred
    (Named (called (codes "LBOUND") 2) (Given (Listed (named (codes "A") 4) (Listed (Infix infixes.Add 7
    (decimal 1 1 6) (text (codes "A") 8)) Empty))) Alone))) ≡ one WrongOperandType 7)
