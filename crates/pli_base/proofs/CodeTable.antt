-- The table of diagnostics read backwards: from a label, or a text, to its code.
use Rattle.std.specs.Prelude.{◌≡◌, ℕ, List, [], ◌∷◌, Option, Some, nat_eq, find, refl}
use Rattle.std.proofs.Common.{sym, ap, ◌∙◌}
use Rattle.std.specs.Cmp.Lexicographic.{pointwise}
use Rattle.pli_base.specs.Codes.{code_label, code_text}
use Rattle.pli_base.specs.declared.code.Code.{Code}
use Rattle.pli_base.specs.declared.code.Code.TheVariants.{UnendedComment, UnendedString, BadCharacter, BadNumber, NameTooLong, BadBits, NoSuchMember, RecursiveInclude, TooManyTokens, BadInclude, NoProcedure, NotAStatement, ExpressionExpected, ParenthesisExpected, SemicolonExpected, NameExpected, ThenExpected, WrongEndName, EndMissing, TextAfterEnd, BadDo, BadAttribute, ConstantExpected, BadLabel, BadCondition, NestedTooDeep, MisplacedStatement, BadOption, NotDeclared, DeclaredTwice, AttributesConflict, AttributesMissing, BadPrecision, BadLength, BadBounds, BadLevel, BadInitial, Ambiguous, BadGoto, BadLocatorOrAreaName, AreaNotAllowedHere, TooManyParameters, GenerationTooLarge, NotAVariable, AggregateNotAllowedHere, WrongNumberOfSubscripts, WrongOperandType, CannotAssign, WrongNumberOfArguments, WrongArgument, NotCallableHere, WrongReturn, LocatorMissingOrNotAllowed, CannotAllocateOrFree, BadControlVariable, WrongBuiltInArgument, CannotPrint, CodeTooLong, NoMainProcedure, TwoMainProcedures, Unresolved, DefinedTwice, Mismatch, ModuleTooLarge}

abbrev all_codes : List Code
all_codes = UnendedComment ∷ UnendedString ∷ BadCharacter ∷ BadNumber ∷ NameTooLong ∷ BadBits ∷ NoSuchMember ∷ RecursiveInclude ∷ TooManyTokens ∷ BadInclude ∷ NoProcedure ∷ NotAStatement ∷ ExpressionExpected ∷ ParenthesisExpected ∷ SemicolonExpected ∷ NameExpected ∷ ThenExpected ∷ WrongEndName ∷ EndMissing ∷ TextAfterEnd ∷ BadDo ∷ BadAttribute ∷ ConstantExpected ∷ BadLabel ∷ BadCondition ∷ NestedTooDeep ∷ MisplacedStatement ∷ BadOption ∷ NotDeclared ∷ DeclaredTwice ∷ AttributesConflict ∷ AttributesMissing ∷ BadPrecision ∷ BadLength ∷ BadBounds ∷ BadLevel ∷ BadInitial ∷ Ambiguous ∷ BadGoto ∷ BadLocatorOrAreaName ∷ AreaNotAllowedHere ∷ TooManyParameters ∷ GenerationTooLarge ∷ NotAVariable ∷ AggregateNotAllowedHere ∷ WrongNumberOfSubscripts ∷ WrongOperandType ∷ CannotAssign ∷ WrongNumberOfArguments ∷ WrongArgument ∷ NotCallableHere ∷ WrongReturn ∷ LocatorMissingOrNotAllowed ∷ CannotAllocateOrFree ∷ BadControlVariable ∷ WrongBuiltInArgument ∷ CannotPrint ∷ CodeTooLong ∷ NoMainProcedure ∷ TwoMainProcedures ∷ Unresolved ∷ DefinedTwice ∷ Mismatch ∷ ModuleTooLarge ∷ []

abbrev by_label : List ℕ → Option Code
by_label label = find (λ c. pointwise nat_eq (code_label c) label) all_codes

abbrev by_text : List ℕ → Option Code
by_text text = find (λ c. pointwise nat_eq (code_text c) text) all_codes

-- each code is found by its label, and by its text
found : (c : Code) → (by_label (code_label c) ≡ Some c) × (by_text (code_text c) ≡ Some c)
found UnendedComment = (refl, refl)
found UnendedString = (refl, refl)
found BadCharacter = (refl, refl)
found BadNumber = (refl, refl)
found NameTooLong = (refl, refl)
found BadBits = (refl, refl)
found NoSuchMember = (refl, refl)
found RecursiveInclude = (refl, refl)
found TooManyTokens = (refl, refl)
found BadInclude = (refl, refl)
found NoProcedure = (refl, refl)
found NotAStatement = (refl, refl)
found ExpressionExpected = (refl, refl)
found ParenthesisExpected = (refl, refl)
found SemicolonExpected = (refl, refl)
found NameExpected = (refl, refl)
found ThenExpected = (refl, refl)
found WrongEndName = (refl, refl)
found EndMissing = (refl, refl)
found TextAfterEnd = (refl, refl)
found BadDo = (refl, refl)
found BadAttribute = (refl, refl)
found ConstantExpected = (refl, refl)
found BadLabel = (refl, refl)
found BadCondition = (refl, refl)
found NestedTooDeep = (refl, refl)
found MisplacedStatement = (refl, refl)
found BadOption = (refl, refl)
found NotDeclared = (refl, refl)
found DeclaredTwice = (refl, refl)
found AttributesConflict = (refl, refl)
found AttributesMissing = (refl, refl)
found BadPrecision = (refl, refl)
found BadLength = (refl, refl)
found BadBounds = (refl, refl)
found BadLevel = (refl, refl)
found BadInitial = (refl, refl)
found Ambiguous = (refl, refl)
found BadGoto = (refl, refl)
found BadLocatorOrAreaName = (refl, refl)
found AreaNotAllowedHere = (refl, refl)
found TooManyParameters = (refl, refl)
found GenerationTooLarge = (refl, refl)
found NotAVariable = (refl, refl)
found AggregateNotAllowedHere = (refl, refl)
found WrongNumberOfSubscripts = (refl, refl)
found WrongOperandType = (refl, refl)
found CannotAssign = (refl, refl)
found WrongNumberOfArguments = (refl, refl)
found WrongArgument = (refl, refl)
found NotCallableHere = (refl, refl)
found WrongReturn = (refl, refl)
found LocatorMissingOrNotAllowed = (refl, refl)
found CannotAllocateOrFree = (refl, refl)
found BadControlVariable = (refl, refl)
found WrongBuiltInArgument = (refl, refl)
found CannotPrint = (refl, refl)
found CodeTooLong = (refl, refl)
found NoMainProcedure = (refl, refl)
found TwoMainProcedures = (refl, refl)
found Unresolved = (refl, refl)
found DefinedTwice = (refl, refl)
found Mismatch = (refl, refl)
found ModuleTooLarge = (refl, refl)

same_code : (a b : Code) → Some a ≡ Some b → a ≡ b
same_code a b e = cc

pub one_code_by_label : (a b : Code) → code_label a ≡ code_label b → a ≡ b
one_code_by_label a b e = same_code a b (sym (found a).0 ∙ ap by_label e ∙ (found b).0)

pub one_code_by_text : (a b : Code) → code_text a ≡ code_text b → a ≡ b
one_code_by_text a b e = same_code a b (sym (found a).1 ∙ ap by_text e ∙ (found b).1)
