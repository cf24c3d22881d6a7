-- The derived order of codes is that of their places.
use Rattle.std.specs.Prelude.{◌≡◌, ℕ, ℤ, pos, List, [], ◌∷◌, slice_index_or, refl}
use Rattle.std.proofs.Common.{ap, ◌∙◌, arith}
use Rattle.std.proofs.lemmas.Bool.Decides.{nat_tests}
use Rattle.std.specs.Ordering.{int_cmp, nat_cmp}
use Rattle.pli_base.specs.Codes.{code_place}
use Rattle.pli_base.specs.declared.code.Code.{Code}
use Rattle.pli_base.specs.declared.code.Code.TheVariants.{UnendedComment, UnendedString, BadCharacter, BadNumber, NameTooLong, BadBits, NoSuchMember, RecursiveInclude, TooManyTokens, BadInclude, NoProcedure, NotAStatement, ExpressionExpected, ParenthesisExpected, SemicolonExpected, NameExpected, ThenExpected, WrongEndName, EndMissing, TextAfterEnd, BadDo, BadAttribute, ConstantExpected, BadLabel, BadCondition, NestedTooDeep, MisplacedStatement, BadOption, NotDeclared, DeclaredTwice, AttributesConflict, AttributesMissing, BadPrecision, BadLength, BadBounds, BadLevel, BadInitial, Ambiguous, BadGoto, BadLocatorOrAreaName, AreaNotAllowedHere, TooManyParameters, GenerationTooLarge, NotAVariable, AggregateNotAllowedHere, WrongNumberOfSubscripts, WrongOperandType, CannotAssign, WrongNumberOfArguments, WrongArgument, NotCallableHere, WrongReturn, LocatorMissingOrNotAllowed, CannotAllocateOrFree, BadControlVariable, WrongBuiltInArgument, CannotPrint, CodeTooLong, NoMainProcedure, TwoMainProcedures, Unresolved, DefinedTwice, Mismatch, ModuleTooLarge}
use Rattle.pli_base.specs.contracts.code.Code.{the_type}
use denote.Enum.Declared.{tag_of}

abbrev discriminants : List ℤ
discriminants = pos 0 ∷ pos 1 ∷ pos 2 ∷ pos 3 ∷ pos 4 ∷ pos 5 ∷ pos 6 ∷ pos 7 ∷ pos 8 ∷ pos 9 ∷ pos 10 ∷ pos 11 ∷ pos 12 ∷ pos 13 ∷ pos 14 ∷ pos 15 ∷ pos 16 ∷ pos 17 ∷ pos 18 ∷ pos 19 ∷ pos 20 ∷ pos 21 ∷ pos 22 ∷ pos 23 ∷ pos 24 ∷ pos 25 ∷ pos 26 ∷ pos 27 ∷ pos 28 ∷ pos 29 ∷ pos 30 ∷ pos 31 ∷ pos 32 ∷ pos 33 ∷ pos 34 ∷ pos 35 ∷ pos 36 ∷ pos 37 ∷ pos 38 ∷ pos 39 ∷ pos 40 ∷ pos 41 ∷ pos 42 ∷ pos 43 ∷ pos 44 ∷ pos 45 ∷ pos 46 ∷ pos 47 ∷ pos 48 ∷ pos 49 ∷ pos 50 ∷ pos 51 ∷ pos 52 ∷ pos 53 ∷ pos 54 ∷ pos 55 ∷ pos 56 ∷ pos 57 ∷ pos 58 ∷ pos 59 ∷ pos 60 ∷ pos 61 ∷ pos 62 ∷ pos 63 ∷ []

abbrev discriminant : Code → ℤ
discriminant c = slice_index_or discriminants (tag_of the_type c) (pos 0)

discriminant_place : (c : Code) → discriminant c ≡ pos (code_place c)
discriminant_place UnendedComment = refl
discriminant_place UnendedString = refl
discriminant_place BadCharacter = refl
discriminant_place BadNumber = refl
discriminant_place NameTooLong = refl
discriminant_place BadBits = refl
discriminant_place NoSuchMember = refl
discriminant_place RecursiveInclude = refl
discriminant_place TooManyTokens = refl
discriminant_place BadInclude = refl
discriminant_place NoProcedure = refl
discriminant_place NotAStatement = refl
discriminant_place ExpressionExpected = refl
discriminant_place ParenthesisExpected = refl
discriminant_place SemicolonExpected = refl
discriminant_place NameExpected = refl
discriminant_place ThenExpected = refl
discriminant_place WrongEndName = refl
discriminant_place EndMissing = refl
discriminant_place TextAfterEnd = refl
discriminant_place BadDo = refl
discriminant_place BadAttribute = refl
discriminant_place ConstantExpected = refl
discriminant_place BadLabel = refl
discriminant_place BadCondition = refl
discriminant_place NestedTooDeep = refl
discriminant_place MisplacedStatement = refl
discriminant_place BadOption = refl
discriminant_place NotDeclared = refl
discriminant_place DeclaredTwice = refl
discriminant_place AttributesConflict = refl
discriminant_place AttributesMissing = refl
discriminant_place BadPrecision = refl
discriminant_place BadLength = refl
discriminant_place BadBounds = refl
discriminant_place BadLevel = refl
discriminant_place BadInitial = refl
discriminant_place Ambiguous = refl
discriminant_place BadGoto = refl
discriminant_place BadLocatorOrAreaName = refl
discriminant_place AreaNotAllowedHere = refl
discriminant_place TooManyParameters = refl
discriminant_place GenerationTooLarge = refl
discriminant_place NotAVariable = refl
discriminant_place AggregateNotAllowedHere = refl
discriminant_place WrongNumberOfSubscripts = refl
discriminant_place WrongOperandType = refl
discriminant_place CannotAssign = refl
discriminant_place WrongNumberOfArguments = refl
discriminant_place WrongArgument = refl
discriminant_place NotCallableHere = refl
discriminant_place WrongReturn = refl
discriminant_place LocatorMissingOrNotAllowed = refl
discriminant_place CannotAllocateOrFree = refl
discriminant_place BadControlVariable = refl
discriminant_place WrongBuiltInArgument = refl
discriminant_place CannotPrint = refl
discriminant_place CodeTooLong = refl
discriminant_place NoMainProcedure = refl
discriminant_place TwoMainProcedures = refl
discriminant_place Unresolved = refl
discriminant_place DefinedTwice = refl
discriminant_place Mismatch = refl
discriminant_place ModuleTooLarge = refl

int_cmp-pos : (m n : ℕ) → int_cmp (pos m) (pos n) ≡ nat_cmp m n
int_cmp-pos m n = grind (arith, nat_tests)

pub derived_order : (a b : Code) → int_cmp (discriminant a) (discriminant b) ≡ nat_cmp (code_place a) (code_place b)
derived_order a b = ap (λ x. int_cmp x (discriminant b)) (discriminant_place a) ∙ ap (int_cmp (pos (code_place a))) (discriminant_place b) ∙ int_cmp-pos (code_place a) (code_place b)
