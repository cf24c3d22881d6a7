-- Expressions and references: which tokens spell which tree. Tokens are counted from 0, and p is the place of
-- the first.
use Rattle.std.specs.Prelude.{◌≡◌, ℕ, zero, suc, ◌+◌, ◌≤◌, ◌<◌, false, None, [], ◌∷◌, ◌++◌, length}
use Rattle.pli_base.specs.Syntax.{Expression, Referred, Constant, Parenthesized, Prefix, Infix, Reference}
use Rattle.pli_base.specs.Syntax.{Named, JoinedParts, Alone, Joined, Arguments, Absent, Given, Expressions}
use Rattle.pli_base.specs.Syntax.{Empty, Listed}
use Rattle.pli_base.specs.declared.token.Sign.TheVariants.{OpenParenthesis, CloseParenthesis, Comma}
use Rattle.pli_base.specs.declared.token.TokenText.TheVariants.{Word, Sign}
use Rattle.pli_parse_expression.specs.Operators.{operator_limit, operand_level, level, level_of, prefix_sign}
use Rattle.pli_parse_expression.specs.Operators.{infix_sign, joining_sign, constant_token, infix_of}
use Rattle.pli_parse_expression.specs.Operators.{continues_reference}
use Rattle.pli_base.specs.Words.{Tokens}

-- e1 = e2 {"|" e2}                     e2 = e3 {"&" e3}             e3 = e4 {comparison e4}
-- e4 = e5 {"||" e5}                    e5 = e6 {("+" | "-") e6}     e6 = e7 {"*" e7}
-- e7 = ("+" | "-" | "^") e7 | constant | "(" e1 ")" | reference
-- reference = name [arguments] {("." | "->") name [arguments]}      arguments = "(" [e1 {"," e1}] ")"
-- Infix operators of one level associate to the left: the left operand of one may be of its level, the right
-- one is above it (X3.74).
abbrev mutual
  pub SpellsExpression : ℕ → Tokens → Expression → Type 0
  SpellsExpression p ts (Referred reference) = SpellsReference p ts reference
  SpellsExpression p ts (Constant at value) = (ts ≡ constant_token value ∷ []) × (at ≡ p)
  SpellsExpression p ts (Parenthesized at inner) =
      (us : Tokens) × (ts ≡ Sign OpenParenthesis ∷ us ++ Sign CloseParenthesis ∷ []) × (at ≡ p)
      × SpellsExpression (p + 1) us inner
  SpellsExpression p ts (Prefix operator at operand) =
      (us : Tokens) × (ts ≡ Sign (prefix_sign operator) ∷ us) × (at ≡ p) × (level operand ≡ operand_level)
      × SpellsExpression (p + 1) us operand
  SpellsExpression p ts (Infix operator at left right) =
      (ls : Tokens) × (rs : Tokens) × (ts ≡ ls ++ Sign (infix_sign operator) ∷ rs) × (at ≡ p + length ls)
      × SpellsExpression p ls left × (level_of operator ≤ level left)
      × SpellsExpression (p + length ls + 1) rs right × (level_of operator < level right)

  -- a name, its arguments if it has any, and the parts that are joined to it
  pub SpellsReference : ℕ → Tokens → Reference → Type 0
  SpellsReference p ts (Named name arguments more) =
      (front : Tokens) × (rest : Tokens) × (ts ≡ Word name.name ∷ front ++ rest) × (name.at ≡ p)
      × SpellsArguments (p + 1) front arguments × SpellsJoined (p + 1 + length front) rest more

  -- each part after its sign, with its arguments if it has any
  pub SpellsJoined : ℕ → Tokens → JoinedParts → Type 0
  SpellsJoined p ts Alone = ts ≡ []
  SpellsJoined p ts (Joined joining name arguments more) =
      (front : Tokens) × (rest : Tokens) × (ts ≡ Sign (joining_sign joining) ∷ Word name.name ∷ front ++ rest)
      × (name.at ≡ p + 1)
      × SpellsArguments (p + 2) front arguments × SpellsJoined (p + 2 + length front) rest more

  -- nothing, or a list in parentheses
  pub SpellsArguments : ℕ → Tokens → Arguments → Type 0
  SpellsArguments p ts Absent = ts ≡ []
  SpellsArguments p ts (Given list) =
      (us : Tokens) × (ts ≡ Sign OpenParenthesis ∷ us ++ Sign CloseParenthesis ∷ [])
      × SpellsListed (p + 1) us list

  -- none, or several with commas between
  pub SpellsListed : ℕ → Tokens → Expressions → Type 0
  SpellsListed p ts Empty = ts ≡ []
  SpellsListed p ts (Listed e more) =
      (front : Tokens) × (rest : Tokens) × (ts ≡ front ++ rest) × SpellsExpression p front e
      × SpellsFurther (p + length front) rest more

  -- each after a comma
  pub SpellsFurther : ℕ → Tokens → Expressions → Type 0
  SpellsFurther p ts Empty = ts ≡ []
  SpellsFurther p ts (Listed e more) =
      (front : Tokens) × (rest : Tokens) × (ts ≡ Sign Comma ∷ front ++ rest)
      × SpellsExpression (p + 1) front e × SpellsFurther (p + 1 + length front) rest more

-- how many operators an expression has, with all that it contains; `.` and `->` are none
abbrev mutual
  pub operators : Expression → ℕ
  operators (Referred reference) = reference_operators reference
  operators (Constant at value) = 0
  operators (Parenthesized at inner) = operators inner
  operators (Prefix operator at operand) = 1 + operators operand
  operators (Infix operator at left right) = operators left + (1 + operators right)

  -- how many its lists of arguments have
  pub reference_operators : Reference → ℕ
  reference_operators (Named name arguments more) = argument_operators arguments + joined_operators more

  -- how many the arguments of joined parts have
  pub joined_operators : JoinedParts → ℕ
  joined_operators Alone = 0
  joined_operators (Joined joining name arguments more) = argument_operators arguments + joined_operators more

  -- how many a list of arguments has, if it stands
  pub argument_operators : Arguments → ℕ
  argument_operators Absent = 0
  argument_operators (Given list) = listed_operators list

  -- how many the expressions of a list have together
  pub listed_operators : Expressions → ℕ
  listed_operators Empty = 0
  listed_operators (Listed e more) = operators e + listed_operators more

-- what stands inside one level more fits in so many levels
abbrev pub Deeper : (ℕ → Type 0) → ℕ → Type 0
Deeper Fits zero = ⊥
Deeper Fits (suc levels) = Fits levels

-- parentheses and prefix operators open so many levels at most, one within another; those of argument lists
-- too
abbrev mutual
  pub NestsWithin : ℕ → Expression → Type 0
  NestsWithin n (Referred reference) = ReferenceNests n reference
  NestsWithin n (Constant at value) = Unit {0}
  NestsWithin n (Parenthesized at inner) = Deeper (λ m. NestsWithin m inner) n
  NestsWithin n (Prefix operator at operand) = Deeper (λ m. NestsWithin m operand) n
  NestsWithin n (Infix operator at left right) = NestsWithin n left × NestsWithin n right

  -- each list of arguments of a reference nests so
  pub ReferenceNests : ℕ → Reference → Type 0
  ReferenceNests n (Named name arguments more) = ArgumentsNest n arguments × JoinedNest n more

  -- each list of arguments of the joined parts nests so
  pub JoinedNest : ℕ → JoinedParts → Type 0
  JoinedNest n Alone = Unit {0}
  JoinedNest n (Joined joining name arguments more) = ArgumentsNest n arguments × JoinedNest n more

  -- a list of arguments opens a level
  pub ArgumentsNest : ℕ → Arguments → Type 0
  ArgumentsNest n Absent = Unit {0}
  ArgumentsNest n (Given list) = Deeper (λ m. ListNests m list) n

  -- each expression of a list nests so
  pub ListNests : ℕ → Expressions → Type 0
  ListNests n Empty = Unit {0}
  ListNests n (Listed e more) = NestsWithin n e × ListNests n more

-- an outermost expression where so many levels may still be opened
abbrev pub OutermostFits : (levels : ℕ) → Expression → Type 0
OutermostFits levels e = NestsWithin levels e × (operators e ≤ operator_limit)

-- an outermost expression: it is spelled so, and within the limits
abbrev pub SpellsOutermost : (levels p : ℕ) → Tokens → Expression → Type 0
SpellsOutermost levels p ts e = SpellsExpression p ts e × OutermostFits levels e

-- each expression of a list
abbrev pub Every : (Expression → Type 0) → Expressions → Type 0
Every Fits Empty = Unit {0}
Every Fits (Listed e more) = Fits e × Every Fits more

-- each list of arguments
abbrev pub GivenFits : (Expressions → Type 0) → Arguments → Type 0
GivenFits Fits Absent = Unit {0}
GivenFits Fits (Given list) = Fits list

-- the further names of a reference have arguments that fit
abbrev pub JoinedFits : (Expressions → Type 0) → JoinedParts → Type 0
JoinedFits Fits Alone = Unit {0}
JoinedFits Fits (Joined joining name arguments more) = GivenFits Fits arguments × JoinedFits Fits more

-- a reference has arguments that fit
abbrev pub ReferenceFits : (Expressions → Type 0) → Reference → Type 0
ReferenceFits Fits (Named name arguments more) = GivenFits Fits arguments × JoinedFits Fits more

-- a reference that is no part of an expression: each of its arguments is an outermost expression
abbrev pub SpellsReferenceAlone : (levels p : ℕ) → Tokens → Reference → Type 0
SpellsReferenceAlone levels p ts reference =
    SpellsReference p ts reference
    × ReferenceFits (λ list. Deeper (λ m. Every (OutermostFits m) list) levels) reference

-- the tokens do not continue a reference that ends before them
abbrev pub EndsReference : Tokens → Type 0
EndsReference [] = Unit {0}
EndsReference (t ∷ ts) = continues_reference t ≡ false

-- the tokens do not continue an expression that ends before them
abbrev pub EndsExpression : Tokens → Type 0
EndsExpression [] = Unit {0}
EndsExpression (t ∷ ts) = (continues_reference t ≡ false) × (infix_of t ≡ None)
