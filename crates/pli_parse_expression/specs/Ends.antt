-- What continues an expression or a reference that may end before it (X3.74): told by how it ends.
use Rattle.std.specs.Prelude.{◌≡◌, Bool, true, false, None, [], ◌∷◌}
use Rattle.pli_base.specs.Syntax.{Expression, Referred, Constant, Parenthesized, Prefix, Infix, Reference}
use Rattle.pli_base.specs.Syntax.{Named, JoinedParts, Alone, Joined, Arguments, Absent, Given}
use Rattle.pli_base.specs.declared.token.Sign.TheVariants.{Period, Arrow}
use Rattle.pli_base.specs.declared.token.TokenText.{TokenText}
use Rattle.pli_base.specs.declared.token.TokenText.TheVariants.{Sign}
use Rattle.pli_parse_expression.specs.Operators.{infix_of, continues_reference}
use Rattle.pli_base.specs.Words.{Tokens}

-- the signs that join a further name to a reference
abbrev pub joins : TokenText → Bool
joins (Sign Period) = true
joins (Sign Arrow) = true
joins t = false

-- `(`, `.` and `->` go on after a name, `.` and `->` after a list of arguments
abbrev pub goes_on_after : Arguments → TokenText → Bool
goes_on_after Absent t = continues_reference t
goes_on_after (Given list) t = joins t

-- after the last part
abbrev pub parts_go_on : Arguments → JoinedParts → TokenText → Bool
parts_go_on arguments Alone t = goes_on_after arguments t
parts_go_on arguments (Joined joining name later more) t = parts_go_on later more t

-- after a reference, by its last part
abbrev pub reference_goes_on : Reference → TokenText → Bool
reference_goes_on (Named name arguments more) t = parts_go_on arguments more t

-- after the last operand: nothing goes on with a constant or after a `)`
abbrev pub operand_goes_on : Expression → TokenText → Bool
operand_goes_on (Referred reference) t = reference_goes_on reference t
operand_goes_on (Constant at value) t = false
operand_goes_on (Parenthesized at inner) t = false
operand_goes_on (Prefix operator at operand) t = operand_goes_on operand t
operand_goes_on (Infix operator at left right) t = operand_goes_on right t

-- the first of the tokens does not go on
abbrev pub NoneGoesOn : (TokenText → Bool) → Tokens → Type 0
NoneGoesOn goes_on [] = Unit {0}
NoneGoesOn goes_on (t ∷ ts) = goes_on t ≡ false

-- the tokens do not continue the reference
abbrev pub ReferenceEnds : Reference → Tokens → Type 0
ReferenceEnds reference ts = NoneGoesOn (reference_goes_on reference) ts

-- nor begin with an infix operator
abbrev pub NoInfix : Tokens → Type 0
NoInfix [] = Unit {0}
NoInfix (t ∷ ts) = infix_of t ≡ None

-- the tokens do not continue the expression
abbrev pub ExpressionEnds : Expression → Tokens → Type 0
ExpressionEnds e ts = NoneGoesOn (operand_goes_on e) ts × NoInfix ts
