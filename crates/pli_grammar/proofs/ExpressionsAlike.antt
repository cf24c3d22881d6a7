-- Expressions and references are read the same.
use Rattle.std.specs.Prelude.{◌≡◌, ℕ, zero, suc, ◌+◌, nat_lt, Bool, true, false, Option, Some, None, Result, Ok, Err, [], ◌∷◌, length, refl, option_map, if◌then◌else◌}
use Rattle.std.proofs.Common.{ap, sym, ◌∙◌}
use Rattle.std.proofs.Math.Path.{fun_ext}
use Rattle.pli_base.specs.Name.{Name}
use Rattle.pli_base.specs.Words.{Tokens, is_open, is_close, is_comma, name_first, rest_after}
use Rattle.pli_base.specs.Results.{◌>>=◌}
use Rattle.pli_base.specs.Reading.{Front, at_fault, misfit, read_as, mapped, taken}
use Rattle.pli_base.specs.Syntax.{Expression, Parenthesized, Prefix, Infix, Named, JoinedParts, Alone, Joined, Arguments, Absent, Given, Empty, Listed}
use Rattle.pli_base.specs.declared.code.Code.TheVariants.{ParenthesisExpected, NestedTooDeep}
use Rattle.pli_base.specs.declared.syntax.InfixOperator.{InfixOperator}
use Rattle.pli_base.specs.declared.syntax.PrefixOperator.{PrefixOperator}
use Rattle.pli_base.specs.declared.syntax.Joining.{Joining}
use Rattle.pli_base.specs.declared.token.Fault.{Fault}
use Rattle.pli_base.specs.declared.token.Sign.TheVariants as signs
use Rattle.pli_base.specs.declared.token.TokenText.{TokenText}
use Rattle.pli_base.specs.declared.token.TokenText.TheVariants.{Word, Sign}
use Rattle.pli_parse_expression.specs.Operators as was
use Rattle.pli_parse_expression.specs.Operators.{operator_limit, level_of, not_below, operator_at, joining_at, begins_expression}
use Rattle.pli_parse_expression.specs.Reading as old
use Rattle.pli_parse_expression.specs.declared.counted.Counted.{Counted}
use Rattle.pli_parse_expression.proofs.EndTools.{NotOpen}
use Rattle.pli_parse_expression.proofs.SpelledIsRead.{no_arguments}
use Rattle.pli_parse_declaration.specs.DeclarationReading.{name_from, name_at, identifier_at}
use Rattle.pli_parse_declaration.proofs.DeclarationSteps.{open_first}
use Rattle.pli_parse_statement.specs.StatementReading.{paired}
use Rattle.pli_grammar.specs.Readers.{Reader, either, token, by_meaning}
use Rattle.pli_grammar.specs.Expressions as new
use Rattle.pli_grammar.specs.Expressions.{Counting}
use Rattle.pli_grammar.proofs.ReadersAlike.{grouped, after, both}

-- ---- infix operators

abbrev priority_of : InfixOperator → InfixOperator × ℕ
priority_of o = (o, level_of o)

infix_of_same : (t : TokenText) → new.infix_of t ≡ option_map priority_of (was.infix_of t)
infix_of_same (Sign signs.Or) = refl
infix_of_same (Sign signs.And) = refl
infix_of_same (Sign signs.Equals) = refl
infix_of_same (Sign signs.NotEqual) = refl
infix_of_same (Sign signs.Less) = refl
infix_of_same (Sign signs.LessOrEqual) = refl
infix_of_same (Sign signs.Greater) = refl
infix_of_same (Sign signs.GreaterOrEqual) = refl
infix_of_same (Sign signs.Concatenate) = refl
infix_of_same (Sign signs.Plus) = refl
infix_of_same (Sign signs.Minus) = refl
infix_of_same (Sign signs.Times) = refl
infix_of_same t = refl

abbrev with_priority : InfixOperator × Tokens → (InfixOperator × ℕ) × Tokens
with_priority x = (priority_of x.0, x.1)

operator_same : (min : ℕ) (ts : Tokens) → new.operator_first min ts ≡ option_map with_priority (operator_at min ts)
unfolding operator_at
operator_same min [] = refl
operator_same min (t ∷ ts) = ap (λ o. paired ts (new.at_least min o)) (infix_of_same t) ∙ by (was.infix_of t)
  where
    limit : (o : InfixOperator) (b : Bool) → paired ts (if b then None else Some (priority_of o)) ≡ option_map with_priority (if b then None else Some (o, ts))
    limit o true = refl
    limit o false = refl

    by : (o : Option InfixOperator) → paired ts (new.at_least min (option_map priority_of o)) ≡ option_map with_priority (not_below min o ts)
    by None = refl
    by (Some o) = limit o (nat_lt (level_of o) min)

abbrev InfixSame : Counting Expression → ℕ → Type 0
InfixSame operand bound = (min : ℕ) (left : Expression) (count p : ℕ) (ts : Tokens) → new.infix_from operand bound min left count p ts ≡ old.infix_from operand bound min count left p ts

-- after one operator more, if there are not too many before it
limited_same : {A : Type 0} (b : Bool) (count p q : ℕ) (us : Tokens) (next : ℕ → Reader A) (read : Result (Front A) Fault) → next (count + 1) q us ≡ read
    → ((if b then new.given {A = Unit {0}} tt (count + 1) q us else at_fault NestedTooDeep p) >>= λ x. next x.value.count x.next x.rest) ≡ (if b then read else at_fault NestedTooDeep p)
limited_same true count p q us next read same = same
limited_same false count p q us next read same = refl

module _ (operand : Counting Expression) (bound : ℕ) (more : InfixSame operand bound) (min count : ℕ) (left : Expression) (p : ℕ) (ts : Tokens) where
  abbrev right_then : InfixOperator → ℕ → Reader (Counted Expression)
  right_then o n q us = operand n q us >>= λ x. new.infix_from operand bound (level_of o + 1) x.value.tree x.value.count x.next x.rest
      >>= λ y. new.infix_from operand bound min (Infix o p left y.value.tree) y.value.count y.next y.rest

  abbrev operated : (InfixOperator × ℕ) → Reader (Counted Expression)
  operated o q us =
      (if nat_lt count operator_limit then new.given {A = Unit {0}} tt (count + 1) q us else at_fault NestedTooDeep p)
      >>= λ z. operand z.value.count z.next z.rest
      >>= λ x. new.infix_from operand bound (o.1 + 1) x.value.tree x.value.count x.next x.rest
      >>= λ y. new.infix_from operand bound min (Infix o.0 p left y.value.tree) y.value.count y.next y.rest

  grouped_same : (o : Option (InfixOperator × Tokens))
      → by_meaning operated (new.given left count) p ts (option_map with_priority o) ≡ old.grouped operand (old.infix_from operand bound) min count left p ts o
  grouped_same None = refl
  grouped_same (Some (o, us)) =
      limited_same (nat_lt count operator_limit) count p (p + 1) us (right_then o)
      (old.operand_then operand (old.infix_from operand bound) (level_of o + 1) (count + 1) (p + 1) us >>= λ y. old.infix_from operand bound min y.value.count (Infix o p left y.value.tree) y.next y.rest)
      (after (operand (count + 1) (p + 1) us) _ _ (λ x. both (more (level_of o + 1) x.value.tree x.value.count x.next x.rest) (λ y. more min (Infix o p left y.value.tree) y.value.count y.next y.rest))
      ∙ sym (grouped (operand (count + 1) (p + 1) us) _ _))

infix_same : (operand : Counting Expression) (bound : ℕ) → InfixSame operand bound
unfolding new.infix_from old.infix_from
infix_same operand zero min left count p ts = refl
infix_same operand (suc bound) min left count p ts =
    ap (by_meaning (operated operand bound (infix_same operand bound) min count left p ts) (new.given left count) p ts) (operator_same min ts)
    ∙ grouped_same operand bound (infix_same operand bound) min count left p ts (operator_at min ts)

pub expression_of_same : (operand : Counting Expression) (count p : ℕ) (ts : Tokens) → new.expression_of operand count p ts ≡ old.expression_of operand count p ts
unfolding old.expression_of
expression_of_same operand count p ts = after (operand count p ts) _ _ (λ x. infix_same operand (length ts + 1) 0 x.value.tree x.value.count x.next x.rest)

-- ---- lists

close_same : {A : Type 0} (x : A) (count p : ℕ) (ts : Tokens)
    → (new.plain (token is_close ParenthesisExpected) count p ts >>= λ y. new.given x y.value.count y.next y.rest) ≡ old.closed x count p ts
close_same x count p ts = by (taken is_close ParenthesisExpected p ts)
  where
    by : (r : Result Tokens Fault)
        → (r >>= (λ us. read_as p (p + 1) us) >>= (λ y. read_as (old.counting y.value count) y.next y.rest) >>= λ y. new.given x y.value.count y.next y.rest)
        ≡ (r >>= λ us. old.counted x count (p + 1) us)
    by (Err e) = refl
    by (Ok us) = refl

module _ (one : Counting Expression) where
  further_same : (bound count p : ℕ) (ts : Tokens) → new.further one bound count p ts ≡ old.further_from one bound count p ts
  unfolding new.further old.further_from
  further_same zero count p ts = refl
  further_same (suc bound) count p ts = by (further_same bound) (rest_after is_comma ts)
    where
      by : ((n q : ℕ) (us : Tokens) → new.further one bound n q us ≡ old.further_from one bound n q us) → (o : Option Tokens)
          → either (λ q us. one count q us >>= λ x. new.further one bound x.value.count x.next x.rest >>= λ y. new.given (Listed x.value.tree y.value.tree) y.value.count y.next y.rest) (new.given Empty count) p ts o
          ≡ old.listed_after one (old.further_from one bound) count p ts o
      by more None = refl
      by more (Some us) = after (one count (p + 1) us) _ _ (λ x. both (more x.value.count x.next x.rest) (λ y. refl))

  list_same : (count p : ℕ) (ts : Tokens) → new.list one count p ts ≡ old.list_at one count p ts
  unfolding old.list_at old.listed_at
  list_same count p ts = by (begins_expression ts)
    where
      by : (b : Bool) → new.closing (λ n q us. if b then new.expressions one n q us else new.given Empty n q us) count p ts ≡ (if b then old.listed_at one count p ts else old.closed Empty count p ts)
      by false = close_same Empty count p ts
      by true =
          grouped (one count p ts) _ _
          ∙ after (one count p ts) _ _ (λ x. grouped (new.further one (length x.rest + 1) x.value.count x.next x.rest) _ _
          ∙ both (further_same (length x.rest + 1) x.value.count x.next x.rest) (λ y. close_same (Listed x.value.tree y.value.tree) y.value.count y.next y.rest))

-- ---- references

not_open : (ts : Tokens) → rest_after is_open ts ≡ None → NotOpen ts
unfolding rest_after
not_open [] h = tt
not_open (Sign signs.OpenParenthesis ∷ ts) h = let bad : ⊥ = cc in absurd bad
not_open (t ∷ ts) h = tt

module _ (one : Option (Counting Expression)) where
  abbrev given_one : (at : ℕ) → Counting Arguments
  given_one at = new.opened one at (λ one count p ts. new.list one count p ts >>= λ x. new.given (Given x.value.tree) x.value.count x.next x.rest)

  given_same : (o : Option (Counting Expression)) (count p : ℕ) (us : Tokens)
      → new.opened o p (λ one n q vs. new.list one n q vs >>= λ x. new.given (Given x.value.tree) x.value.count x.next x.rest) count (p + 1) us ≡ old.arguments_at o count p (Sign signs.OpenParenthesis ∷ us)
  unfolding old.arguments_at
  given_same None count p us = refl
  given_same (Some one) count p us = both (list_same one count (p + 1) us) (λ x. refl)

  pub arguments_same : (count p : ℕ) (ts : Tokens) → new.arguments one count p ts ≡ old.arguments_at one count p ts
  arguments_same count p ts = by (rest_after is_open ts) refl
    where
      by : (o : Option Tokens) → rest_after is_open ts ≡ o → either (given_one p count) (new.given Absent count) p ts o ≡ old.arguments_at one count p ts
      by None e = sym (no_arguments one count p ts (not_open ts e))
      by (Some us) e = given_same one count p us ∙ sym (ap (old.arguments_at one count p) (open_first ts us e))

  -- a part from its name on
  abbrev part_read : Counting JoinedParts → ℕ → Joining → Reader (Counted JoinedParts)
  part_read others count joining p ts =
      new.plain identifier_at count p ts >>= λ name. new.arguments one name.value.count name.next name.rest
      >>= λ x. others x.value.count x.next x.rest >>= λ y. new.given (Joined joining name.value.tree x.value.tree y.value.tree) y.value.count y.next y.rest

  joined_same : (bound count p : ℕ) (ts : Tokens) → new.joined one bound count p ts ≡ old.joined_from one bound count p ts
  unfolding new.joined old.joined_from identifier_at name_at
  joined_same zero count p ts = refl
  joined_same (suc bound) count p ts = by (joined_same bound) (joining_at ts)
    where
      part : ((n q : ℕ) (us : Tokens) → new.joined one bound n q us ≡ old.joined_from one bound n q us) → (joining : Joining) (q : ℕ) (us : Tokens) (o : Option (Name × Tokens))
          → (mapped (λ x. old.counting x count) (mapped (λ n. record { name = n; at = q }) (name_from q us o)) >>= λ name. new.arguments one name.value.count name.next name.rest
          >>= λ x. new.joined one bound x.value.count x.next x.rest >>= λ y. new.given (Joined joining name.value.tree x.value.tree y.value.tree) y.value.count y.next y.rest)
          ≡ old.part_after one (old.joined_from one bound) joining count q us o
      part more joining q us None = refl
      part more joining q us (Some n) = both (arguments_same count (q + 1) n.1) (λ x. both (more x.value.count x.next x.rest) (λ y. refl))

      by : ((n q : ℕ) (us : Tokens) → new.joined one bound n q us ≡ old.joined_from one bound n q us) → (o : Option (Joining × Tokens))
          → by_meaning (part_read (new.joined one bound) count) (new.given Alone count) p ts o ≡ old.parts_after one (old.joined_from one bound) count p ts o
      by more None = refl
      by more (Some (joining, us)) = part more joining (p + 1) us (name_first us)

  pub reference_same : (count p : ℕ) (ts : Tokens) → new.reference_of one count p ts ≡ old.reference_of one count p ts
  unfolding old.reference_of identifier_at name_at
  reference_same count p ts = by (name_first ts)
    where
      by : (o : Option (Name × Tokens))
          → (mapped (λ x. old.counting x count) (mapped (λ n. record { name = n; at = p }) (name_from p ts o)) >>= λ name. new.arguments one name.value.count name.next name.rest
          >>= λ x. new.joined one (length x.rest + 1) x.value.count x.next x.rest >>= λ y. new.given (Named name.value.tree x.value.tree y.value.tree) y.value.count y.next y.rest)
          ≡ old.reference_after one count p ts o
      by None = refl
      by (Some n) = both (arguments_same count (p + 1) n.1) (λ x. both (joined_same (length x.rest + 1) x.value.count x.next x.rest) (λ y. refl))

-- ---- operands

counting_alike : {A : Type 0} {r s : Counting A} → ((count p : ℕ) (ts : Tokens) → r count p ts ≡ s count p ts) → r ≡ s
counting_alike same = fun_ext (λ count. fun_ext (λ p. fun_ext (λ ts. same count p ts)))

expressions_same : (inside : Option (Counting Expression)) → option_map new.expression_of inside ≡ option_map old.expression_of inside
expressions_same None = refl
expressions_same (Some operand) = ap Some (counting_alike (expression_of_same operand))

module _ (inside : Option (Counting Expression)) where
  prefixed_same : (operator : PrefixOperator) (count p : ℕ) (us : Tokens) → new.prefixed inside operator p count (p + 1) us ≡ old.prefix_of inside operator count p us
  unfolding old.prefix_of
  prefixed_same operator count p us = limited_same (nat_lt count operator_limit) count p (p + 1) us
      (λ n q vs. new.opened inside p (λ operand. operand) n q vs >>= λ x. new.given (Prefix operator p x.value.tree) x.value.count x.next x.rest) _ (by inside)
    where
      by : (o : Option (Counting Expression)) → (new.opened o p (λ operand. operand) (count + 1) (p + 1) us >>= λ x. new.given (Prefix operator p x.value.tree) x.value.count x.next x.rest)
          ≡ old.opened o p (λ operand. operand (count + 1) (p + 1) us >>= λ x. old.counted (Prefix operator p x.value.tree) x.value.count x.next x.rest)
      by None = refl
      by (Some operand) = refl

  parenthesis_same : (count p : ℕ) (us : Tokens)
      → (new.closing (new.opened inside p new.expression_of) count (p + 1) us >>= λ x. new.given (Parenthesized p x.value.tree) x.value.count x.next x.rest) ≡ old.parenthesis_of inside count p us
  unfolding old.parenthesis_of
  parenthesis_same count p us = by inside
    where
      close : (x : Expression) (n q : ℕ) (r : Result Tokens Fault)
          → (r >>= (λ us. read_as q (q + 1) us) >>= (λ y. read_as (old.counting y.value n) y.next y.rest) >>= (λ y. new.given x y.value.count y.next y.rest)
          >>= λ y. new.given (Parenthesized p y.value.tree) y.value.count y.next y.rest)
          ≡ (r >>= λ us. old.counted (Parenthesized p x) n (q + 1) us)
      close x n q (Err e) = refl
      close x n q (Ok us) = refl

      by : (o : Option (Counting Expression)) → (new.closing (new.opened o p new.expression_of) count (p + 1) us >>= λ x. new.given (Parenthesized p x.value.tree) x.value.count x.next x.rest)
          ≡ old.opened o p (λ operand. old.expression_of operand count (p + 1) us >>= λ x. old.closed (Parenthesized p x.value.tree) x.value.count x.next x.rest)
      by None = refl
      by (Some operand) =
          grouped (new.expression_of operand count (p + 1) us) _ _
          ∙ both (expression_of_same operand count (p + 1) us) (λ x. close x.value.tree x.value.count x.next (taken is_close ParenthesisExpected x.next x.rest))

  operand_same : (count p : ℕ) (ts : Tokens) → new.operand_of inside count p ts ≡ old.operand_of inside count p ts
  unfolding old.operand_of old.constant_at misfit
  operand_same count p (Sign signs.OpenParenthesis ∷ us) = parenthesis_same count p us
  operand_same count p (Sign signs.Plus ∷ us) = prefixed_same _ count p us
  operand_same count p (Sign signs.Minus ∷ us) = prefixed_same _ count p us
  operand_same count p (Sign signs.Not ∷ us) = prefixed_same _ count p us
  operand_same count p (Word n ∷ us) =
      both (ap (λ (one : Option (Counting Expression)). new.reference_of one count p (Word n ∷ us)) (expressions_same inside)
      ∙ reference_same (option_map old.expression_of inside) count p (Word n ∷ us)) (λ x. refl)
  operand_same count p [] = refl
  operand_same count p (t ∷ us) = refl

inside_same : (levels : ℕ) → new.inside levels ≡ old.inside levels
unfolding new.inside old.inside
inside_same zero = refl
inside_same (suc levels) =
    ap (λ (o : Option (Counting Expression)). Some (new.operand_of o)) (inside_same levels) ∙ ap Some (counting_alike (operand_same (old.inside levels)))

-- ---- what is outermost

outermost_same : {A : Type 0} {r s : Counting A} → ((count p : ℕ) (ts : Tokens) → r count p ts ≡ s count p ts) → (p : ℕ) (ts : Tokens) → new.outermost r p ts ≡ mapped (λ x. x.tree) (s 0 p ts)
outermost_same same p ts = ap (mapped (λ x. x.tree)) (same 0 p ts)

pub expression_read : (levels p : ℕ) (ts : Tokens) → new.outermost (new.expression_of (new.operand_of (new.inside levels))) p ts ≡ mapped (λ x. x.tree) (old.expression_at levels 0 p ts)
unfolding old.expression_at
expression_read levels p ts =
    ap (λ (o : Option (Counting Expression)). new.outermost (new.expression_of (new.operand_of o)) p ts) (inside_same levels)
    ∙ ap (λ (operand : Counting Expression). new.outermost (new.expression_of operand) p ts) (counting_alike (operand_same (old.inside levels)))
    ∙ ap (mapped (λ x. x.tree)) (expression_of_same (old.operand_at levels) 0 p ts)

argument_same : (levels : ℕ) → new.argument levels ≡ option_map (old.argument_of true) (old.inside levels)
argument_same levels = ap (option_map (λ (operand : Counting Expression). new.plain (new.outermost (new.expression_of operand)))) (inside_same levels) ∙ by (old.inside levels)
  where
    one : (operand : Counting Expression) (count p : ℕ) (ts : Tokens) → new.plain (new.outermost (new.expression_of operand)) count p ts ≡ old.argument_of true operand count p ts
    one operand count p ts = grouped (new.expression_of operand 0 p ts) _ _ ∙ both (expression_of_same operand 0 p ts) (λ x. refl)

    by : (o : Option (Counting Expression)) → option_map (λ (operand : Counting Expression). new.plain (new.outermost (new.expression_of operand))) o ≡ option_map (old.argument_of true) o
    by None = refl
    by (Some operand) = ap Some (counting_alike (one operand))

pub reference_read : (levels p : ℕ) (ts : Tokens) → new.outermost (new.reference_of (new.argument levels)) p ts ≡ mapped (λ x. x.tree) (old.reference_at levels p ts)
unfolding old.reference_at
reference_read levels p ts =
    ap (λ (one : Option (Counting Expression)). new.outermost (new.reference_of one) p ts) (argument_same levels)
    ∙ ap (mapped (λ x. x.tree)) (reference_same (option_map (old.argument_of true) (old.inside levels)) 0 p ts)

pub arguments_read : (levels p : ℕ) (ts : Tokens) → new.outermost (new.arguments (new.argument levels)) p ts ≡ mapped (λ x. x.tree) (old.arguments_at (option_map (old.argument_of true) (old.inside levels)) 0 p ts)
arguments_read levels p ts =
    ap (λ (one : Option (Counting Expression)). new.outermost (new.arguments one) p ts) (argument_same levels)
    ∙ ap (mapped (λ x. x.tree)) (arguments_same (option_map (old.argument_of true) (old.inside levels)) 0 p ts)
