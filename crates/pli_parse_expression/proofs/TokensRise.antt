-- The tokens of a tree that is spelled rise in the order of the text.
use Rattle.std.proofs.Common.{◌≡◌, ◌≤◌, ◌+◌, ℕ, [], ◌∷◌, ◌++◌, Ok, length, ap, arith, length-append}
use Rattle.pli_base.specs.Syntax.{Expression, Referred, Constant, Parenthesized, Prefix, Infix, Reference, Named, JoinedParts, Alone, Joined, Arguments, Absent, Given, Expressions, Empty, Listed}
use Rattle.pli_base.specs.TreeTokens.{Rises, expression_tokens, reference_tokens, joined_tokens, argument_tokens, listed_tokens}
use Rattle.pli_base.specs.laws.TreeTokenLaws.{rises_within, rises_on}
use Rattle.pli_base.specs.declared.token.Sign.TheVariants.{CloseParenthesis}
use Rattle.pli_base.specs.declared.token.TokenText.TheVariants.{Sign}
use Rattle.pli_parse_expression.specs.Operators.{infix_sign}
use Rattle.pli_base.specs.Words.{Tokens}
use Rattle.pli_parse_expression.specs.Expressions.{SpellsExpression, SpellsReference, SpellsJoined, SpellsArguments, SpellsListed, SpellsFurther}
use Rattle.pli_base.specs.Reading.{Front}
use Rattle.pli_parse_expression.specs.declared.counted.Counted.{Counted}
use Rattle.pli_parse_expression.specs.Reading.{expression_at, reference_at}
use Rattle.pli_parse_expression.proofs.ReadIsSpelled.{expression_spelled, reference_spelled}

-- the arguments of a part, and the parts after it
part_rises : (low p high : ℕ) (front rest : Tokens) (arguments : Arguments) (more : JoinedParts) → low ≤ p
    → p + length front + length rest ≤ high → Rises p (argument_tokens arguments) (p + length front)
    → Rises (p + length front) (joined_tokens more) (p + length front + length rest)
    → Rises low (argument_tokens arguments ++ joined_tokens more) high
part_rises low p high front rest arguments more below above given later =
    rises_on (argument_tokens arguments) (joined_tokens more) low (p + length front) (p + length front) high (omega arith)
    (rises_within (argument_tokens arguments) p low (p + length front) (p + length front) below (omega arith) given)
    (rises_within (joined_tokens more) (p + length front) (p + length front) (p + length front + length rest) high (omega arith) above later)

mutual
  pub expression_rises : (p : ℕ) (ts : Tokens) (e : Expression) → SpellsExpression p ts e → Rises p (expression_tokens e) (p + length ts)
  expression_rises p ts (Referred reference) spelled = reference_rises p ts reference spelled
  expression_rises p ts (Constant at value) (shape, place) = (omega arith, omega (arith, ap length shape))
  expression_rises p ts (Parenthesized at inner) (us, shape, place, spelled) = (
    omega arith,
    rises_within (expression_tokens inner) (p + 1) (at + 1) (p + 1 + length us) (p + length ts) (omega arith) (omega (arith, ap length shape, length-append us (Sign CloseParenthesis ∷ []))) (expression_rises (p + 1) us inner spelled),
  )
  expression_rises p ts (Prefix operator at operand) (us, shape, place, tight, spelled) = (
    omega arith,
    rises_within (expression_tokens operand) (p + 1) (at + 1) (p + 1 + length us) (p + length ts) (omega arith) (omega (arith, ap length shape)) (expression_rises (p + 1) us operand spelled),
  )
  expression_rises p ts (Infix operator at left right) (ls, rs, shape, place, spelled, low, later, above) =
      let whole : length ts ≡ length ls + length (Sign (infix_sign operator) ∷ rs) = omega (arith, ap length shape, length-append ls (Sign (infix_sign operator) ∷ rs)) in
      rises_on (expression_tokens left) (at ∷ expression_tokens right) p (p + length ls) at (p + length ts) (omega arith) (expression_rises p ls left spelled) (
        omega arith,
        rises_within (expression_tokens right) (p + length ls + 1) (at + 1) (p + length ls + 1 + length rs) (p + length ts) (omega arith) (omega arith) (expression_rises (p + length ls + 1) rs right later),
      )

  pub reference_rises : (p : ℕ) (ts : Tokens) (r : Reference) → SpellsReference p ts r → Rises p (reference_tokens r) (p + length ts)
  reference_rises p ts (Named name arguments more) (front, rest, shape, place, spelled, later) = (
    omega arith,
    part_rises (name.at + 1) (p + 1) (p + length ts) front rest arguments more (omega arith) (omega (arith, ap length shape, length-append front rest))
        (arguments_rise (p + 1) front arguments spelled) (joined_rise (p + 1 + length front) rest more later),
  )

  pub joined_rise : (p : ℕ) (ts : Tokens) (m : JoinedParts) → SpellsJoined p ts m → Rises p (joined_tokens m) (p + length ts)
  joined_rise p ts Alone shape = omega arith
  joined_rise p ts (Joined joining name arguments more) (front, rest, shape, place, spelled, later) = (
    omega arith,
    part_rises (name.at + 1) (p + 2) (p + length ts) front rest arguments more (omega arith) (omega (arith, ap length shape, length-append front rest))
        (arguments_rise (p + 2) front arguments spelled) (joined_rise (p + 2 + length front) rest more later),
  )

  pub arguments_rise : (p : ℕ) (ts : Tokens) (a : Arguments) → SpellsArguments p ts a → Rises p (argument_tokens a) (p + length ts)
  arguments_rise p ts Absent shape = omega arith
  arguments_rise p ts (Given list) (us, shape, spelled) =
      rises_within (listed_tokens list) (p + 1) p (p + 1 + length us) (p + length ts) (omega arith) (omega (arith, ap length shape, length-append us (Sign CloseParenthesis ∷ []))) (list_rises (p + 1) us list spelled)

  list_rises : (p : ℕ) (ts : Tokens) (list : Expressions) → SpellsListed p ts list → Rises p (listed_tokens list) (p + length ts)
  list_rises p ts Empty shape = omega arith
  list_rises p ts (Listed e more) (front, rest, shape, spelled, later) =
      rises_on (expression_tokens e) (listed_tokens more) p (p + length front) (p + length front) (p + length ts) (omega arith) (expression_rises p front e spelled)
      (rises_within (listed_tokens more) (p + length front) (p + length front) (p + length front + length rest) (p + length ts) (omega arith) (omega (arith, ap length shape, length-append front rest)) (further_rise (p + length front) rest more later))

  further_rise : (p : ℕ) (ts : Tokens) (list : Expressions) → SpellsFurther p ts list → Rises p (listed_tokens list) (p + length ts)
  further_rise p ts Empty shape = omega arith
  further_rise p ts (Listed e more) (front, rest, shape, spelled, later) =
      rises_on (expression_tokens e) (listed_tokens more) p (p + 1 + length front) (p + 1 + length front) (p + length ts) (omega arith)
      (rises_within (expression_tokens e) (p + 1) p (p + 1 + length front) (p + 1 + length front) (omega arith) (omega arith) (expression_rises (p + 1) front e spelled))
      (rises_within (listed_tokens more) (p + 1 + length front) (p + 1 + length front) (p + 1 + length front + length rest) (p + length ts) (omega arith) (omega (arith, ap length shape, length-append front rest)) (further_rise (p + 1 + length front) rest more later))

pub expression_read_rises : (levels p : ℕ) (ts : Tokens) (x : Front (Counted Expression)) → expression_at levels 0 p ts ≡ Ok x → Rises p (expression_tokens x.value.tree) x.next
expression_read_rises levels p ts x h =
    let f = expression_spelled levels p ts x h in
    rises_within (expression_tokens x.value.tree) p p (p + length f.0) x.next (omega arith) (omega (arith, f.2)) (expression_rises p f.0 x.value.tree f.3.0)

pub reference_read_rises : (levels p : ℕ) (ts : Tokens) (x : Front (Counted Reference)) → reference_at levels p ts ≡ Ok x → Rises p (reference_tokens x.value.tree) x.next
reference_read_rises levels p ts x h =
    let f = reference_spelled levels p ts x h in
    rises_within (reference_tokens x.value.tree) p p (p + length f.0) x.next (omega arith) (omega (arith, f.2)) (reference_rises p f.0 x.value.tree f.3.0)
