-- What ends an expression or a reference.
use Rattle.std.proofs.Common.{◌≡◌, false, [], ◌∷◌, None, refl}
use Rattle.pli_base.specs.Syntax.{Expression, Referred, Constant, Parenthesized, Prefix, Infix, Reference, Named, JoinedParts, Alone, Joined, Arguments, Absent, Given}
use Rattle.pli_base.specs.declared.token.Sign.TheVariants as signs
use Rattle.pli_base.specs.declared.token.TokenText.{TokenText}
use Rattle.pli_base.specs.declared.token.TokenText.TheVariants.{Sign}
use Rattle.pli_parse_expression.specs.Operators.{joining_at, continues_reference}
use Rattle.pli_base.specs.Words.{Tokens}
use Rattle.pli_parse_expression.specs.Expressions.{EndsReference, EndsExpression}
use Rattle.pli_parse_expression.specs.Ends.{goes_on_after, parts_go_on, operand_goes_on, NoneGoesOn, ReferenceEnds, ExpressionEnds}

-- the operand with which an expression ends
abbrev pub OperandEnds : Expression → Tokens → Type 0
OperandEnds e ts = NoneGoesOn (operand_goes_on e) ts

-- what continues nothing continues none
after_any : (a : Arguments) (t : TokenText) → continues_reference t ≡ false → goes_on_after a t ≡ false
after_any Absent t h = h
after_any (Given list) (Sign signs.Period) h = cc
after_any (Given list) (Sign signs.Arrow) h = cc
after_any (Given list) t h = refl

parts_any : (a : Arguments) (m : JoinedParts) (t : TokenText) → continues_reference t ≡ false → parts_go_on a m t ≡ false
parts_any a Alone t h = after_any a t h
parts_any a (Joined joining name later more) t h = parts_any later more t h

pub operand_any : (e : Expression) (t : TokenText) → continues_reference t ≡ false → operand_goes_on e t ≡ false
operand_any (Referred (Named name arguments more)) t h = parts_any arguments more t h
operand_any (Constant at value) t h = refl
operand_any (Parenthesized at inner) t h = refl
operand_any (Prefix operator at operand) t h = operand_any operand t h
operand_any (Infix operator at left right) t h = operand_any right t h

pub any_expression : (e : Expression) (ts : Tokens) → EndsExpression ts → ExpressionEnds e ts
any_expression e [] h = (tt, tt)
any_expression e (t ∷ ts) h = (operand_any e t h.0, h.1)

pub any_reference : (r : Reference) (ts : Tokens) → EndsReference ts → ReferenceEnds r ts
any_reference r [] h = tt
any_reference (Named name arguments more) (t ∷ ts) h = parts_any arguments more t h

-- the tokens do not begin with `(`
abbrev pub NotOpen : Tokens → Type 0
NotOpen [] = Unit {0}
NotOpen (Sign signs.OpenParenthesis ∷ ts) = ⊥
NotOpen (t ∷ ts) = Unit {0}

-- where no arguments stand no `(` does
abbrev pub ArgumentsEnd : Arguments → Tokens → Type 0
ArgumentsEnd Absent ts = NotOpen ts
ArgumentsEnd (Given list) ts = Unit {0}

pub arguments_end : (a : Arguments) (ts : Tokens) → NoneGoesOn (goes_on_after a) ts → ArgumentsEnd a ts
arguments_end Absent [] h = tt
arguments_end Absent (Sign signs.OpenParenthesis ∷ ts) h = cc
arguments_end Absent (t ∷ ts) h = tt
arguments_end (Given list) ts h = tt

pub not_joined : (a : Arguments) (ts : Tokens) → NoneGoesOn (goes_on_after a) ts → joining_at ts ≡ None
unfolding joining_at
not_joined a [] h = refl
not_joined Absent (Sign signs.Period ∷ ts) h = cc
not_joined Absent (Sign signs.Arrow ∷ ts) h = cc
not_joined (Given list) (Sign signs.Period ∷ ts) h = cc
not_joined (Given list) (Sign signs.Arrow ∷ ts) h = cc
not_joined a (t ∷ ts) h = refl

-- and back
pub none_goes_on : (a : Arguments) (ts : Tokens) → ArgumentsEnd a ts → joining_at ts ≡ None → NoneGoesOn (goes_on_after a) ts
unfolding joining_at
none_goes_on a [] closed h = tt
none_goes_on a (Sign signs.Period ∷ ts) closed h = cc
none_goes_on a (Sign signs.Arrow ∷ ts) closed h = cc
none_goes_on Absent (Sign signs.OpenParenthesis ∷ ts) closed h = absurd closed
none_goes_on Absent (t ∷ ts) closed h = refl
none_goes_on (Given list) (t ∷ ts) closed h = refl
