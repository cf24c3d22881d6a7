-- The table of diagnostics: each code once, with its place in their order, its label and its text (own).
use Rattle.std.specs.Prelude.{ℕ, List, codes}
use Rattle.pli_base.specs.declared.code.Code.{Code}
use Rattle.pli_base.specs.declared.code.Code.TheVariants.{UnendedComment, UnendedString, BadCharacter}
use Rattle.pli_base.specs.declared.code.Code.TheVariants.{BadNumber, NameTooLong, BadBits, NoSuchMember}
use Rattle.pli_base.specs.declared.code.Code.TheVariants.{RecursiveInclude, TooManyTokens, BadInclude}
use Rattle.pli_base.specs.declared.code.Code.TheVariants.{NoProcedure, NotAStatement, ExpressionExpected}
use Rattle.pli_base.specs.declared.code.Code.TheVariants.{ParenthesisExpected, SemicolonExpected}
use Rattle.pli_base.specs.declared.code.Code.TheVariants.{NameExpected, ThenExpected, WrongEndName}
use Rattle.pli_base.specs.declared.code.Code.TheVariants.{EndMissing, TextAfterEnd, BadDo, BadAttribute}
use Rattle.pli_base.specs.declared.code.Code.TheVariants.{ConstantExpected, BadLabel, BadCondition}
use Rattle.pli_base.specs.declared.code.Code.TheVariants.{NestedTooDeep, MisplacedStatement, BadOption}
use Rattle.pli_base.specs.declared.code.Code.TheVariants.{NotDeclared, DeclaredTwice, AttributesConflict}
use Rattle.pli_base.specs.declared.code.Code.TheVariants.{AttributesMissing, BadPrecision, BadLength}
use Rattle.pli_base.specs.declared.code.Code.TheVariants.{BadBounds, BadLevel, BadInitial, Ambiguous, BadGoto}
use Rattle.pli_base.specs.declared.code.Code.TheVariants.{BadLocatorOrAreaName, AreaNotAllowedHere}
use Rattle.pli_base.specs.declared.code.Code.TheVariants.{TooManyParameters, GenerationTooLarge}
use Rattle.pli_base.specs.declared.code.Code.TheVariants.{NotAVariable, AggregateNotAllowedHere}
use Rattle.pli_base.specs.declared.code.Code.TheVariants.{WrongNumberOfSubscripts, WrongOperandType}
use Rattle.pli_base.specs.declared.code.Code.TheVariants.{CannotAssign, WrongNumberOfArguments, WrongArgument}
use Rattle.pli_base.specs.declared.code.Code.TheVariants.{NotCallableHere, WrongReturn}
use Rattle.pli_base.specs.declared.code.Code.TheVariants.{LocatorMissingOrNotAllowed, CannotAllocateOrFree}
use Rattle.pli_base.specs.declared.code.Code.TheVariants.{BadControlVariable, WrongBuiltInArgument}
use Rattle.pli_base.specs.declared.code.Code.TheVariants.{CannotPrint, CodeTooLong, NoMainProcedure}
use Rattle.pli_base.specs.declared.code.Code.TheVariants.{TwoMainProcedures, Unresolved, DefinedTwice}
use Rattle.pli_base.specs.declared.code.Code.TheVariants.{Mismatch, ModuleTooLarge}

-- what stands in the table of a code: its place in the order of diagnostics, the letter and the number by
-- which a diagnostic is cited, and what it says
pub record CodeEntry : Type 0 where
  pub place : ℕ
  pub label : List ℕ
  pub text : List ℕ

-- an entry of these
abbrev pub entry : (place : ℕ) → (label text : List ℕ) → CodeEntry
entry place label text = record { place = place; label = label; text = text }

-- the table
abbrev pub code_entry : Code → CodeEntry
code_entry UnendedComment = entry 0 (codes "X1") (codes "UNENDED COMMENT")
code_entry UnendedString = entry 1 (codes "X2") (codes "UNENDED STRING")
code_entry BadCharacter = entry 2 (codes "X3") (codes "BAD CHARACTER")
code_entry BadNumber = entry 3 (codes "X4") (codes "BAD NUMBER")
code_entry NameTooLong = entry 4 (codes "X5") (codes "NAME TOO LONG")
code_entry BadBits = entry 5 (codes "X6") (codes "BAD BITS")
code_entry NoSuchMember = entry 6 (codes "I1") (codes "NO SUCH MEMBER")
code_entry RecursiveInclude = entry 7 (codes "I2") (codes "RECURSIVE INCLUDE")
code_entry TooManyTokens = entry 8 (codes "I3") (codes "TOO MANY TOKENS")
code_entry BadInclude = entry 9 (codes "I4") (codes "BAD INCLUDE")
code_entry NoProcedure = entry 10 (codes "P1") (codes "NO PROCEDURE")
code_entry NotAStatement = entry 11 (codes "P2") (codes "NOT A STATEMENT")
code_entry ExpressionExpected = entry 12 (codes "P3") (codes "EXPRESSION EXPECTED")
code_entry ParenthesisExpected = entry 13 (codes "P4") (codes "PARENTHESIS EXPECTED")
code_entry SemicolonExpected = entry 14 (codes "P5") (codes "SEMICOLON EXPECTED")
code_entry NameExpected = entry 15 (codes "P6") (codes "NAME EXPECTED")
code_entry ThenExpected = entry 16 (codes "P7") (codes "THEN EXPECTED")
code_entry WrongEndName = entry 17 (codes "P8") (codes "WRONG END NAME")
code_entry EndMissing = entry 18 (codes "P9") (codes "END MISSING")
code_entry TextAfterEnd = entry 19 (codes "P10") (codes "TEXT AFTER END")
code_entry BadDo = entry 20 (codes "P11") (codes "BAD DO")
code_entry BadAttribute = entry 21 (codes "P12") (codes "BAD ATTRIBUTE")
code_entry ConstantExpected = entry 22 (codes "P13") (codes "CONSTANT EXPECTED")
code_entry BadLabel = entry 23 (codes "P14") (codes "BAD LABEL")
code_entry BadCondition = entry 24 (codes "P15") (codes "BAD CONDITION")
code_entry NestedTooDeep = entry 25 (codes "P16") (codes "NESTED TOO DEEP")
code_entry MisplacedStatement = entry 26 (codes "P17") (codes "MISPLACED STATEMENT")
code_entry BadOption = entry 27 (codes "P18") (codes "BAD OPTION")
code_entry NotDeclared = entry 28 (codes "A1") (codes "NOT DECLARED")
code_entry DeclaredTwice = entry 29 (codes "A2") (codes "DECLARED TWICE")
code_entry AttributesConflict = entry 30 (codes "A3") (codes "ATTRIBUTES CONFLICT")
code_entry AttributesMissing = entry 31 (codes "A4") (codes "ATTRIBUTES MISSING")
code_entry BadPrecision = entry 32 (codes "A5") (codes "BAD PRECISION")
code_entry BadLength = entry 33 (codes "A6") (codes "BAD LENGTH")
code_entry BadBounds = entry 34 (codes "A7") (codes "BAD BOUNDS")
code_entry BadLevel = entry 35 (codes "A8") (codes "BAD LEVEL")
code_entry BadInitial = entry 36 (codes "A9") (codes "BAD INITIAL")
code_entry Ambiguous = entry 37 (codes "A10") (codes "AMBIGUOUS")
code_entry BadGoto = entry 38 (codes "A11") (codes "BAD GOTO")
code_entry BadLocatorOrAreaName = entry 39 (codes "A12") (codes "BAD LOCATOR OR AREA NAME")
code_entry AreaNotAllowedHere = entry 40 (codes "A13") (codes "AREA NOT ALLOWED HERE")
code_entry TooManyParameters = entry 41 (codes "A14") (codes "TOO MANY PARAMETERS")
code_entry GenerationTooLarge = entry 42 (codes "A15") (codes "GENERATION TOO LARGE")
code_entry NotAVariable = entry 43 (codes "T1") (codes "NOT A VARIABLE")
code_entry AggregateNotAllowedHere = entry 44 (codes "T2") (codes "AGGREGATE NOT ALLOWED HERE")
code_entry WrongNumberOfSubscripts = entry 45 (codes "T3") (codes "WRONG NUMBER OF SUBSCRIPTS")
code_entry WrongOperandType = entry 46 (codes "T4") (codes "WRONG OPERAND TYPE")
code_entry CannotAssign = entry 47 (codes "T5") (codes "CANNOT ASSIGN")
code_entry WrongNumberOfArguments = entry 48 (codes "T6") (codes "WRONG NUMBER OF ARGUMENTS")
code_entry WrongArgument = entry 49 (codes "T7") (codes "WRONG ARGUMENT")
code_entry NotCallableHere = entry 50 (codes "T8") (codes "NOT CALLABLE HERE")
code_entry WrongReturn = entry 51 (codes "T9") (codes "WRONG RETURN")
code_entry LocatorMissingOrNotAllowed = entry 52 (codes "T10") (codes "LOCATOR MISSING OR NOT ALLOWED")
code_entry CannotAllocateOrFree = entry 53 (codes "T11") (codes "CANNOT ALLOCATE OR FREE")
code_entry BadControlVariable = entry 54 (codes "T12") (codes "BAD CONTROL VARIABLE")
code_entry WrongBuiltInArgument = entry 55 (codes "T13") (codes "WRONG BUILT-IN ARGUMENT")
code_entry CannotPrint = entry 56 (codes "T14") (codes "CANNOT PRINT")
code_entry CodeTooLong = entry 57 (codes "G1") (codes "CODE TOO LONG")
code_entry NoMainProcedure = entry 58 (codes "N1") (codes "NO MAIN PROCEDURE")
code_entry TwoMainProcedures = entry 59 (codes "N2") (codes "TWO MAIN PROCEDURES")
code_entry Unresolved = entry 60 (codes "N3") (codes "UNRESOLVED")
code_entry DefinedTwice = entry 61 (codes "N4") (codes "DEFINED TWICE")
code_entry Mismatch = entry 62 (codes "N5") (codes "MISMATCH")
code_entry ModuleTooLarge = entry 63 (codes "N6") (codes "MODULE TOO LARGE")

-- the place of a code in the order of diagnostics
abbrev pub code_place : Code → ℕ
code_place c = (code_entry c).place

-- the letter and the number by which a diagnostic is cited
abbrev pub code_label : Code → List ℕ
code_label c = (code_entry c).label

-- what a diagnostic says
abbrev pub code_text : Code → List ℕ
code_text c = (code_entry c).text
