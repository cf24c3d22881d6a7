-- Worked examples: what statements and units are read as, and faults.
use Rattle.std.specs.Prelude.{◌≡◌, ℕ, Some, None, Result, Ok, [], ◌∷◌, codes, true, false}
use Rattle.pli_base.specs.Name.{Name}
use Rattle.pli_base.specs.Words.{Tokens}
use Rattle.pli_base.specs.Reading.{at_fault, Front, read_as}
use Rattle.pli_base.specs.Syntax.{Expression, Referred, Constant, Infix, Reference, Named, Alone, Absent}
use Rattle.pli_base.specs.Syntax.{Given, Empty, Listed}
use Rattle.pli_base.specs.declared.syntax.ConstantValue.TheVariants as constants
use Rattle.pli_base.specs.declared.syntax.Identifier.{Identifier}
use Rattle.pli_base.specs.declared.syntax.InfixOperator.TheVariants.{Equal}
use Rattle.pli_base.specs.declared.code.Code.TheVariants as faults
use Rattle.pli_base.specs.declared.token.Fault.{Fault}
use Rattle.pli_base.specs.declared.token.Sign.TheVariants.{Colon, Semicolon, OpenParenthesis}
use Rattle.pli_base.specs.declared.token.Sign.TheVariants.{CloseParenthesis, Equals}
use Rattle.pli_base.specs.declared.token.TokenText.{TokenText}
use Rattle.pli_base.specs.declared.token.TokenText.TheVariants.{Word, Decimal, Sign}
use Rattle.pli_base.specs.Declarations as declarations
use Rattle.pli_base.specs.Statements.{Main, Returns, Recursive, To, By, Iterate, While, Statement, Numbered}
use Rattle.pli_base.specs.Statements.{Body, Statements, Ended, Before, NoElse, Else, ExternalProcedure}
use Rattle.pli_base.specs.Statements as body
use Rattle.pli_parse_statement.specs.StatementReading.{statement_at, unit_of}
use Rattle.pli_parse_statement.specs.StatementWords.{standing, a_procedure}
use Rattle.pli_parse_statement.specs.declared.keyword.StatementStanding.TheVariants.{InGroup}
use Rattle.pli_base.specs.declared.statement.Condition.TheVariants as conditions

-- the token of a name
abbrev pub w : Name → TokenText
w n = Word n

-- the sign `(`
abbrev pub left : TokenText
left = Sign OpenParenthesis

-- the sign `)`
abbrev pub right : TokenText
right = Sign CloseParenthesis

-- the sign `:`
abbrev pub colon : TokenText
colon = Sign Colon

-- the sign `=`
abbrev pub equals : TokenText
equals = Sign Equals

-- the sign `;`
abbrev pub stop : TokenText
stop = Sign Semicolon

-- a constant of one digit
abbrev pub digit : ℕ → TokenText
digit v = Decimal v 1

-- a decimal constant of one digit, at a token
abbrev pub number : ℕ → ℕ → Expression
number at v = Constant at (constants.Decimal v 1)

-- a name at a token
abbrev pub named : Name → ℕ → Identifier
named n p = record { name = n; at = p }

-- a reference that is a name alone
abbrev pub variable : Name → ℕ → Reference
variable n p = Named (named n p) Absent Alone

-- such a reference as an expression
abbrev pub plain : Name → ℕ → Expression
plain n p = Referred (variable n p)

-- a statement of number 1 in a block's list, where six levels may be opened; its first token is token 0
abbrev pub reads : Tokens → Result (Front Statement) Fault
reads ts = statement_at 6 a_procedure 0 1 ts

-- as it is read, in front of the rest
abbrev pub statement : Body → ℕ → Tokens → Result (Front Statement) Fault
statement b next rest = read_as (Numbered 1 None 0 b) next rest

-- IF IF = THEN THEN THEN = ELSE; ELSE ELSE = IF;
abbrev pub KeywordsOfIf : Type 0
KeywordsOfIf =
    reads (w (codes "IF") ∷ w (codes "IF") ∷ equals ∷ w (codes "THEN") ∷ w (codes "THEN") ∷ w (codes "THEN")
    ∷ equals ∷ w (codes "ELSE") ∷ stop
    ∷ w (codes "ELSE") ∷ w (codes "ELSE") ∷ equals ∷ w (codes "IF") ∷ stop ∷ [])
    ≡ statement (body.If (Infix Equal 2 (plain (codes "IF") 1) (plain (codes "THEN") 3))
    (Numbered 2 None 5 (body.Assign (variable (codes "THEN") 5) 6 (plain (codes "ELSE") 7)))
    (Else (Numbered 3 None 10 (body.Assign (variable (codes "ELSE") 10) 11 (plain (codes "IF") 12))))) 14 []

-- DO DO = 1 TO TO; END;
abbrev pub KeywordsOfDo : Type 0
KeywordsOfDo =
    reads (w (codes "DO") ∷ w (codes "DO") ∷ equals ∷ digit 1 ∷ w (codes "TO") ∷ w (codes "TO") ∷ stop
    ∷ w (codes "END") ∷ stop ∷ [])
    ≡ statement
    (body.Do
    (Some (Iterate (variable (codes "DO") 1) 2 (number 3 1) (Some (To (plain (codes "TO") 5) None)) None))
    Ended 2) 9 []

-- PUT LIST(LIST);
abbrev pub KeywordsOfPut : Type 0
KeywordsOfPut = reads (w (codes "PUT") ∷ w (codes "LIST") ∷ left ∷ w (codes "LIST") ∷ right ∷ stop ∷ [])
    ≡ statement (body.Put false (plain (codes "LIST") 3 ∷ [])) 6 []

-- END: ; is a null statement
abbrev pub LabelThatIsKeyword : Type 0
LabelThatIsKeyword =
    reads (w (codes "END") ∷ colon ∷ stop ∷ [])
    ≡ read_as (Numbered 1 (Some (named (codes "END") 0)) 2 body.Null) 3 []

-- DECLARE(1) = 2; is an assignment
abbrev pub DeclareAssigned : Type 0
DeclareAssigned = reads (w (codes "DECLARE") ∷ left ∷ digit 1 ∷ right ∷ equals ∷ digit 2 ∷ stop ∷ [])
    ≡ statement
    (body.Assign (Named (named (codes "DECLARE") 0) (Given (Listed (number 2 1) Empty)) Alone) 4
    (number 5 2)) 7 []

-- IF A THEN IF B THEN; ELSE;
abbrev pub NearestIf : Type 0
NearestIf =
    reads (w (codes "IF") ∷ w (codes "A") ∷ w (codes "THEN") ∷ w (codes "IF") ∷ w (codes "B")
    ∷ w (codes "THEN") ∷ stop ∷ w (codes "ELSE") ∷ stop ∷ [])
    ≡ statement (body.If (plain (codes "A") 1)
    (Numbered 2 None 3
    (body.If (plain (codes "B") 4) (Numbered 3 None 6 body.Null) (Else (Numbered 4 None 8 body.Null))))
    NoElse) 9 []

-- IF A THEN IF B THEN; ELSE; ELSE STOP;
abbrev pub ElseOfBoth : Type 0
ElseOfBoth =
    reads (w (codes "IF") ∷ w (codes "A") ∷ w (codes "THEN") ∷ w (codes "IF") ∷ w (codes "B")
    ∷ w (codes "THEN") ∷ stop ∷ w (codes "ELSE") ∷ stop
    ∷ w (codes "ELSE") ∷ w (codes "STOP") ∷ stop ∷ [])
    ≡ statement (body.If (plain (codes "A") 1)
    (Numbered 2 None 3
    (body.If (plain (codes "B") 4) (Numbered 3 None 6 body.Null) (Else (Numbered 4 None 8 body.Null))))
    (Else (Numbered 5 None 10 body.Stop))) 12 []

-- IF A THEN; and then ELSE = 1;
abbrev pub ElseAssigned : Type 0
ElseAssigned =
    reads (w (codes "IF") ∷ w (codes "A") ∷ w (codes "THEN") ∷ stop ∷ w (codes "ELSE") ∷ equals ∷ digit 1
    ∷ stop ∷ [])
    ≡ statement (body.If (plain (codes "A") 1) (Numbered 2 None 3 body.Null) NoElse) 4 (w (codes "ELSE")
    ∷ equals ∷ digit 1 ∷ stop ∷ [])

-- IF A THEN; and then ELSE: ;
abbrev pub ElseLabel : Type 0
ElseLabel =
    reads (w (codes "IF") ∷ w (codes "A") ∷ w (codes "THEN") ∷ stop ∷ w (codes "ELSE") ∷ colon ∷ stop ∷ [])
    ≡ statement (body.If (plain (codes "A") 1) (Numbered 2 None 3 body.Null) NoElse) 4 (w (codes "ELSE")
    ∷ colon ∷ stop ∷ [])

-- L: DO WHILE(A); DCL X BIT; BEGIN; END; END L;
abbrev pub LabelledGroup : Type 0
LabelledGroup =
    reads (w (codes "L") ∷ colon ∷ w (codes "DO") ∷ w (codes "WHILE") ∷ left ∷ w (codes "A") ∷ right ∷ stop
    ∷ w (codes "DCL") ∷ w (codes "X") ∷ w (codes "BIT") ∷ stop
    ∷ w (codes "BEGIN") ∷ stop ∷ w (codes "END") ∷ stop ∷ w (codes "END") ∷ w (codes "L") ∷ stop ∷ [])
    ≡ read_as (Numbered 1 (Some (named (codes "L") 0)) 2 (body.Do (Some (While (plain (codes "A") 5)))
    (Before (Numbered 2 None 8 (body.Declare (record {
      level = None;
      names =
          record { name = codes "X"; at = 9 } ∷ [];
      dimensions =
          [];
      attributes = declarations.Simple (declarations.Bit None) ∷ [];
    } ∷ [])))
    (Before (Numbered 3 None 12 (body.Begin Ended 4)) Ended)) 5)) 19 []

-- ON FOFL GO TO L;
abbrev pub UnitOfGoTo : Type 0
UnitOfGoTo =
    reads (w (codes "ON") ∷ w (codes "FOFL") ∷ w (codes "GO") ∷ w (codes "TO") ∷ w (codes "L") ∷ stop ∷ [])
    ≡ statement (body.On conditions.FixedOverflow (Numbered 2 None 2 (body.Goto (named (codes "L") 4)))) 6 []

-- ALLOCATE B SET(P) IN(A);
abbrev pub SetBeforeIn : Type 0
SetBeforeIn =
    reads (w (codes "ALLOCATE") ∷ w (codes "B") ∷ w (codes "SET") ∷ left ∷ w (codes "P") ∷ right
    ∷ w (codes "IN") ∷ left ∷ w (codes "A") ∷ right ∷ stop ∷ [])
    ≡ statement (body.Allocate (record {
      name = named (codes "B") 1;
      area = Some (variable (codes "A") 8);
      target = Some (variable (codes "P") 4);
    } ∷ [])) 11 []

-- M: PROC OPTIONS(MAIN); F: PROC(A) RETURNS(BIT) RECURSIVE; RETURN(A); END F; PUT SKIP; END M;
abbrev pub WholeUnit : Type 0
WholeUnit =
    unit_of (w (codes "M") ∷ colon ∷ w (codes "PROC") ∷ w (codes "OPTIONS") ∷ left ∷ w (codes "MAIN") ∷ right
    ∷ stop
    ∷ w (codes "F") ∷ colon ∷ w (codes "PROC") ∷ left ∷ w (codes "A") ∷ right ∷ w (codes "RETURNS") ∷ left
    ∷ w (codes "BIT") ∷ right ∷ w (codes "RECURSIVE") ∷ stop
    ∷ w (codes "RETURN") ∷ left ∷ w (codes "A") ∷ right ∷ stop ∷ w (codes "END") ∷ w (codes "F") ∷ stop
    ∷ w (codes "PUT") ∷ w (codes "SKIP") ∷ stop ∷ w (codes "END") ∷ w (codes "M") ∷ stop ∷ [])
    ≡ Ok (record {
      heading = record { name = named (codes "M") 0; number = 1; parameters = []; options = Main ∷ [] };
      statements =
          Before (Numbered 2 (Some (named (codes "F") 8)) 10 (body.Procedure
          (record {
            name = named (codes "F") 8;
            number = 2;
            parameters = named (codes "A") 12
                ∷ [];
            options = Returns (declarations.Plain (declarations.Bit None) ∷ []) ∷ Recursive ∷ [];
          })
          (Before (Numbered 3 None 20 (body.Return (Some (plain (codes "A") 22)))) Ended) 4))
          (Before (Numbered 5 None 28 (body.Put true [])) Ended);
      end = 6;
    })

-- no text
abbrev pub NoText : Type 0
NoText = unit_of [] ≡ at_fault faults.NoProcedure 0

-- M: FOO
abbrev pub NoProcedureWord : Type 0
NoProcedureWord = unit_of (w (codes "M") ∷ colon ∷ w (codes "FOO") ∷ []) ≡ at_fault faults.NoProcedure 2

-- M: PROC FOO
abbrev pub NoSemicolon : Type 0
NoSemicolon =
    unit_of (w (codes "M") ∷ colon ∷ w (codes "PROC") ∷ w (codes "FOO") ∷ []) ≡ at_fault faults.EndMissing 3

-- M: PROC; X = 1
abbrev pub NoSemicolonAhead : Type 0
NoSemicolonAhead =
    unit_of (w (codes "M") ∷ colon ∷ w (codes "PROC") ∷ stop ∷ w (codes "X") ∷ equals ∷ digit 1 ∷ [])
    ≡ at_fault faults.EndMissing 6

-- M: PROC; END; X
abbrev pub TextAfterUnit : Type 0
TextAfterUnit =
    unit_of (w (codes "M") ∷ colon ∷ w (codes "PROC") ∷ stop ∷ w (codes "END") ∷ stop ∷ w (codes "X") ∷ [])
    ≡ at_fault faults.TextAfterEnd 6

-- X = ;
abbrev pub NoValue : Type 0
NoValue = reads (w (codes "X") ∷ equals ∷ stop ∷ []) ≡ at_fault faults.NotAStatement 0

-- GO L;
abbrev pub GoAlone : Type 0
GoAlone = reads (w (codes "GO") ∷ w (codes "L") ∷ stop ∷ []) ≡ at_fault faults.NotAStatement 0

-- PUT LIST();
abbrev pub NoItem : Type 0
NoItem =
    reads (w (codes "PUT") ∷ w (codes "LIST") ∷ left ∷ right ∷ stop ∷ [])
    ≡ at_fault faults.ExpressionExpected 3

-- PUT LIST(1;
abbrev pub ListNotClosed : Type 0
ListNotClosed =
    reads (w (codes "PUT") ∷ w (codes "LIST") ∷ left ∷ digit 1 ∷ stop ∷ [])
    ≡ at_fault faults.ParenthesisExpected 4

-- DO 5;
abbrev pub NumberAfterDo : Type 0
NumberAfterDo = reads (w (codes "DO") ∷ digit 5 ∷ stop ∷ []) ≡ at_fault faults.SemicolonExpected 1

-- GOTO 5;
abbrev pub NumberAfterGoto : Type 0
NumberAfterGoto = reads (w (codes "GOTO") ∷ digit 5 ∷ stop ∷ []) ≡ at_fault faults.NameExpected 1

-- IF X PUT LIST(1);
abbrev pub NoThen : Type 0
NoThen =
    reads (w (codes "IF") ∷ w (codes "X") ∷ w (codes "PUT") ∷ w (codes "LIST") ∷ left ∷ digit 1 ∷ right ∷ stop
    ∷ []) ≡ at_fault faults.ThenExpected 2

-- BEGIN; END Q;
abbrev pub NameOfNoLabel : Type 0
NameOfNoLabel =
    reads (w (codes "BEGIN") ∷ stop ∷ w (codes "END") ∷ w (codes "Q") ∷ stop ∷ [])
    ≡ at_fault faults.WrongEndName 3

-- BEGIN;
abbrev pub BlockNotEnded : Type 0
BlockNotEnded = reads (w (codes "BEGIN") ∷ stop ∷ []) ≡ at_fault faults.EndMissing 1

-- DO I 1 TO 3; END;
abbrev pub NoEquals : Type 0
NoEquals =
    reads (w (codes "DO") ∷ w (codes "I") ∷ digit 1 ∷ w (codes "TO") ∷ digit 3 ∷ stop ∷ w (codes "END") ∷ stop
    ∷ []) ≡ at_fault faults.BadDo 2

-- F: PROC RETURNS(); END F;
abbrev pub NoResult : Type 0
NoResult =
    reads (w (codes "F") ∷ colon ∷ w (codes "PROC") ∷ w (codes "RETURNS") ∷ left ∷ right ∷ stop
    ∷ w (codes "END") ∷ w (codes "F") ∷ stop ∷ []) ≡ at_fault faults.BadAttribute 5

-- DCL X(A) BIT;
abbrev pub NameAsBound : Type 0
NameAsBound =
    reads (w (codes "DCL") ∷ w (codes "X") ∷ left ∷ w (codes "A") ∷ right ∷ w (codes "BIT") ∷ stop ∷ [])
    ≡ at_fault faults.ConstantExpected 3

-- A: B: ;
abbrev pub TwoLabels : Type 0
TwoLabels = reads (w (codes "A") ∷ colon ∷ w (codes "B") ∷ colon ∷ stop ∷ []) ≡ at_fault faults.BadLabel 2

-- L: END;
abbrev pub LabelOfEnd : Type 0
LabelOfEnd = reads (w (codes "L") ∷ colon ∷ w (codes "END") ∷ stop ∷ []) ≡ at_fault faults.BadLabel 0

-- PROC;
abbrev pub ProcedureWithoutLabel : Type 0
ProcedureWithoutLabel = reads (w (codes "PROC") ∷ stop ∷ []) ≡ at_fault faults.BadLabel 0

-- ON FOO;
abbrev pub NoCondition : Type 0
NoCondition = reads (w (codes "ON") ∷ w (codes "FOO") ∷ stop ∷ []) ≡ at_fault faults.BadCondition 1

-- ON AREA BEGIN; RETURN; END;
abbrev pub ReturnInOnUnit : Type 0
ReturnInOnUnit =
    reads (w (codes "ON") ∷ w (codes "AREA") ∷ w (codes "BEGIN") ∷ stop ∷ w (codes "RETURN") ∷ stop
    ∷ w (codes "END") ∷ stop ∷ []) ≡ at_fault faults.MisplacedStatement 4

-- IF X THEN DCL Y BIT;
abbrev pub DeclareAfterThen : Type 0
DeclareAfterThen =
    reads (w (codes "IF") ∷ w (codes "X") ∷ w (codes "THEN") ∷ w (codes "DCL") ∷ w (codes "Y")
    ∷ w (codes "BIT") ∷ stop ∷ []) ≡ at_fault faults.MisplacedStatement 3

-- F: PROC; in a group
abbrev pub ProcedureInGroup : Type 0
ProcedureInGroup =
    statement_at 6 (standing InGroup a_procedure) 0 1 (w (codes "F") ∷ colon ∷ w (codes "PROC") ∷ stop ∷ [])
    ≡ at_fault faults.MisplacedStatement 0

-- PUT FILE(F);
abbrev pub NoPutOption : Type 0
NoPutOption =
    reads (w (codes "PUT") ∷ w (codes "FILE") ∷ left ∷ w (codes "F") ∷ right ∷ stop ∷ [])
    ≡ at_fault faults.BadOption 1

-- PUT SKIP SKIP;
abbrev pub TwoSkips : Type 0
TwoSkips =
    reads (w (codes "PUT") ∷ w (codes "SKIP") ∷ w (codes "SKIP") ∷ stop ∷ []) ≡ at_fault faults.BadOption 2

-- IF A THEN DO; END; where one level may be opened
abbrev pub GroupTooDeep : Type 0
GroupTooDeep =
    statement_at 1 a_procedure 0 1 (w (codes "IF") ∷ w (codes "A") ∷ w (codes "THEN") ∷ w (codes "DO") ∷ stop
    ∷ w (codes "END") ∷ stop ∷ []) ≡ at_fault faults.NestedTooDeep 3

-- IF (A) THEN; where one level may be opened
abbrev pub ConditionTooDeep : Type 0
ConditionTooDeep =
    statement_at 1 a_procedure 0 1 (w (codes "IF") ∷ left ∷ w (codes "A") ∷ right ∷ w (codes "THEN") ∷ stop
    ∷ []) ≡ at_fault faults.NestedTooDeep 1

-- DO I = 1 BY 2 TO 3 WHILE(B); END;
abbrev pub ByBeforeTo : Type 0
ByBeforeTo =
    reads (w (codes "DO") ∷ w (codes "I") ∷ equals ∷ digit 1 ∷ w (codes "BY") ∷ digit 2 ∷ w (codes "TO")
    ∷ digit 3 ∷ w (codes "WHILE") ∷ left ∷ w (codes "B") ∷ right ∷ stop
    ∷ w (codes "END") ∷ stop ∷ [])
    ≡ statement
    (body.Do
    (Some
    (Iterate (variable (codes "I") 1) 2 (number 3 1) (Some (By (number 5 2) (Some (number 7 3))))
    (Some (plain (codes "B") 10)))) Ended 2) 15 []

-- BEGIN; IF A THEN CALL F(); ON AREA; STOP; END;
abbrev pub NumbersInBlock : Type 0
NumbersInBlock =
    reads (w (codes "BEGIN") ∷ stop ∷ w (codes "IF") ∷ w (codes "A") ∷ w (codes "THEN") ∷ w (codes "CALL")
    ∷ w (codes "F") ∷ left ∷ right ∷ stop
    ∷ w (codes "ON") ∷ w (codes "AREA") ∷ stop ∷ w (codes "STOP") ∷ stop ∷ w (codes "END") ∷ stop ∷ [])
    ≡ statement (body.Begin
    (Before
    (Numbered 2 None 2
    (body.If (plain (codes "A") 3) (Numbered 3 None 5 (body.Call (named (codes "F") 6) (Given Empty)))
    NoElse))
    (Before (Numbered 4 None 10 (body.On conditions.Area (Numbered 5 None 12 body.Null)))
    (Before (Numbered 6 None 13 body.Stop) Ended))) 7) 17 []

-- IF A THEN DO; END; where two levels may be opened
abbrev pub DeepestGroup : Type 0
DeepestGroup =
    statement_at 2 a_procedure 0 1 (w (codes "IF") ∷ w (codes "A") ∷ w (codes "THEN") ∷ w (codes "DO") ∷ stop
    ∷ w (codes "END") ∷ stop ∷ [])
    ≡ statement (body.If (plain (codes "A") 1) (Numbered 2 None 3 (body.Do None Ended 3)) NoElse) 7 []

-- DO WHILE(A) = 1; END; where WHILE is the keyword
abbrev pub WhileAssigned : Type 0
WhileAssigned =
    reads (w (codes "DO") ∷ w (codes "WHILE") ∷ left ∷ w (codes "A") ∷ right ∷ equals ∷ digit 1 ∷ stop
    ∷ w (codes "END") ∷ stop ∷ []) ≡ at_fault faults.SemicolonExpected 5

-- F: PROC FOO;
abbrev pub NoProcedureOption : Type 0
NoProcedureOption =
    reads (w (codes "F") ∷ colon ∷ w (codes "PROC") ∷ w (codes "FOO") ∷ stop ∷ [])
    ≡ at_fault faults.SemicolonExpected 3

-- F: PROC OPTIONS(X);
abbrev pub NoMain : Type 0
NoMain =
    reads (w (codes "F") ∷ colon ∷ w (codes "PROC") ∷ w (codes "OPTIONS") ∷ left ∷ w (codes "X") ∷ right
    ∷ stop ∷ []) ≡ at_fault faults.BadOption 5

-- ALLOCATE X IN(A) IN(B);
abbrev pub TwoAreas : Type 0
TwoAreas =
    reads (w (codes "ALLOCATE") ∷ w (codes "X") ∷ w (codes "IN") ∷ left ∷ w (codes "A") ∷ right
    ∷ w (codes "IN") ∷ left ∷ w (codes "B") ∷ right ∷ stop ∷ []) ≡ at_fault faults.BadOption 6

-- IF A THEN L: ;
abbrev pub LabelAfterThen : Type 0
LabelAfterThen =
    reads (w (codes "IF") ∷ w (codes "A") ∷ w (codes "THEN") ∷ w (codes "L") ∷ colon ∷ stop ∷ [])
    ≡ at_fault faults.BadLabel 3

-- IF A THEN END;
abbrev pub EndAfterThen : Type 0
EndAfterThen =
    reads (w (codes "IF") ∷ w (codes "A") ∷ w (codes "THEN") ∷ w (codes "END") ∷ stop ∷ [])
    ≡ at_fault faults.MisplacedStatement 3

-- ELSE;
abbrev pub StrayElse : Type 0
StrayElse = reads (w (codes "ELSE") ∷ stop ∷ []) ≡ at_fault faults.NotAStatement 0

-- ON AREA IF A THEN;
abbrev pub IfAfterOn : Type 0
IfAfterOn =
    reads (w (codes "ON") ∷ w (codes "AREA") ∷ w (codes "IF") ∷ w (codes "A") ∷ w (codes "THEN") ∷ stop ∷ [])
    ≡ at_fault faults.MisplacedStatement 2

-- L: DCL X BIT;
abbrev pub LabelOfDeclare : Type 0
LabelOfDeclare =
    reads (w (codes "L") ∷ colon ∷ w (codes "DCL") ∷ w (codes "X") ∷ w (codes "BIT") ∷ stop ∷ [])
    ≡ at_fault faults.BadLabel 0

-- RETURN();
abbrev pub NoReturnedValue : Type 0
NoReturnedValue = reads (w (codes "RETURN") ∷ left ∷ right ∷ stop ∷ []) ≡ at_fault faults.ExpressionExpected 2

-- L: DO; BEGIN; END L; END L; where the nearest is the block
abbrev pub NameOfOuterLabel : Type 0
NameOfOuterLabel =
    reads (w (codes "L") ∷ colon ∷ w (codes "DO") ∷ stop ∷ w (codes "BEGIN") ∷ stop ∷ w (codes "END")
    ∷ w (codes "L") ∷ stop ∷ w (codes "END") ∷ w (codes "L") ∷ stop ∷ []) ≡ at_fault faults.WrongEndName 7

-- M: PROC; END M
abbrev pub EndNotEnded : Type 0
EndNotEnded =
    unit_of (w (codes "M") ∷ colon ∷ w (codes "PROC") ∷ stop ∷ w (codes "END") ∷ w (codes "M") ∷ [])
    ≡ at_fault faults.EndMissing 5
