-- Trees of statements, as definitions speak of them (X3.74): without where they lie in memory.
use Rattle.std.specs.Prelude.{ℕ, ◌+◌, Bool, List, Option}
use Rattle.pli_base.specs.Syntax.{Expression, Reference, Arguments}
use Rattle.pli_base.specs.declared.syntax.Identifier.{Identifier}
use Rattle.pli_base.specs.Declarations.{Item, DescribedAttribute}
use Rattle.pli_base.specs.declared.statement.Condition.{Condition}

-- an option of PROCEDURE; Returns has the attributes of the result
pub data ProcedureOption : Type 0 where
  Main : ProcedureOption
  Returns : (attributes : List DescribedAttribute) → ProcedureOption
  Recursive : ProcedureOption

-- a procedure up to its `;`, and the number of its PROCEDURE
pub record Heading : Type 0 where
  pub name : Identifier
  pub number : ℕ
  pub parameters : List Identifier
  pub options : List ProcedureOption

-- what limits or continues an iteration; the operands stand in the order of the text
pub data Range : Type 0 where
  To : (to : Expression) (by : Option Expression) → Range
  By : (by : Expression) (to : Option Expression) → Range
  Repeat : (next : Expression) → Range

-- the specification of a DO group; equals is the token of `=`
pub data Control : Type 0 where
  While : (condition : Expression) → Control
  Iterate : (variable : Reference) (equals : ℕ) (first : Expression) (range : Option Range)
      (condition : Option Expression) → Control

-- one variable of ALLOCATE, the area in IN and the locator in SET
pub record Allocation : Type 0 where
  pub name : Identifier
  pub area : Option Reference
  pub target : Option Reference

-- at is the first token after the label, equals the token of `=`, end the number of an END
mutual
  pub data Statement : Type 0 where
    Numbered : (number : ℕ) (label : Option Identifier) (at : ℕ) (body : Body) → Statement

  -- what a statement is, apart from its number and its label
  pub data Body : Type 0 where
    Null : Body
    Assign : (target : Reference) (equals : ℕ) (value : Expression) → Body
    Declare : (items : List Item) → Body
    Procedure : (heading : Heading) (statements : Statements) (end : ℕ) → Body
    Begin : (statements : Statements) (end : ℕ) → Body
    Do : (control : Option Control) (statements : Statements) (end : ℕ) → Body
    If : (condition : Expression) (consequence : Statement) (alternative : Alternative) → Body
    On : (condition : Condition) (unit : Statement) → Body
    Revert Signal : (condition : Condition) → Body
    Stop : Body
    Allocate : (allocations : List Allocation) → Body
    Free : (references : List Reference) → Body
    Call : (name : Identifier) (arguments : Arguments) → Body
    Goto : (label : Identifier) → Body
    Return : (value : Option Expression) → Body
    Put : (skip : Bool) (items : List Expression) → Body

  -- a list of statements
  pub data Statements : Type 0 where
    Ended : Statements
    Before : (first : Statement) (more : Statements) → Statements

  -- the ELSE of an IF, if it has one
  pub data Alternative : Type 0 where
    NoElse : Alternative
    Else : (statement : Statement) → Alternative

-- an external procedure
pub record ExternalProcedure : Type 0 where
  pub heading : Heading
  pub statements : Statements
  pub end : ℕ

-- how many statements begin in a statement, itself and each END included
abbrev mutual
  pub count : Statement → ℕ
  count (Numbered number label at body) = 1 + body_count body

  -- how many begin in what a statement holds, the END of a block or a group included
  pub body_count : Body → ℕ
  body_count (Procedure heading statements end) = list_count statements + 1
  body_count (Begin statements end) = list_count statements + 1
  body_count (Do control statements end) = list_count statements + 1
  body_count (If condition consequence alternative) = count consequence + alternative_count alternative
  body_count (On condition unit) = count unit
  body_count body = 0

  -- how many begin in the statements of a list
  pub list_count : Statements → ℕ
  list_count Ended = 0
  list_count (Before first more) = count first + list_count more

  -- how many begin in an ELSE
  pub alternative_count : Alternative → ℕ
  alternative_count NoElse = 0
  alternative_count (Else statement) = count statement

-- the last IF of a statement has no ELSE: an ELSE after it would be that IF's
abbrev mutual
  pub AwaitsElse : Statement → Type 0
  AwaitsElse (Numbered number label at body) = BodyAwaitsElse body

  -- the same of what a statement is: only an IF awaits one
  pub BodyAwaitsElse : Body → Type 0
  BodyAwaitsElse (If condition consequence alternative) = AlternativeAwaitsElse alternative
  BodyAwaitsElse body = ⊥

  -- an IF without ELSE awaits one; with ELSE, it does if the statement of its ELSE does
  pub AlternativeAwaitsElse : Alternative → Type 0
  AlternativeAwaitsElse NoElse = Unit {0}
  AlternativeAwaitsElse (Else statement) = AwaitsElse statement
