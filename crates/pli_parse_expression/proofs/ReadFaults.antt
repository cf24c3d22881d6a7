-- A fault of reading stands at one of the tokens, or at the last where they have ended.
use Rattle.std.proofs.Common.{◌≡◌, ◌<◌, ◌+◌, ℕ, suc, zero, nat_lt, Bool, true, false, cond, [], ◌∷◌, Option, Some, None, Result, Err, option_map, length, refl, ap, arith}
use Rattle.pli_base.specs.Name.{Name}
use Rattle.pli_base.specs.Syntax.{Expression, Referred, Parenthesized, Prefix, Infix, Reference, Named, JoinedParts, Joined, Arguments, Given, Expressions, Empty, Listed}
use Rattle.pli_base.specs.FaultPlaces.{FaultStands}
use Rattle.pli_base.specs.laws.FaultPlaceLaws.{passes_none, passes_one}
use Rattle.pli_parse_fault.proofs.ToldFaults.{told_first, told_stands}
use Rattle.pli_base.specs.declared.code.Code.TheVariants.{ExpressionExpected, ParenthesisExpected, NameExpected, NestedTooDeep}
use Rattle.pli_base.specs.declared.syntax.PrefixOperator.{PrefixOperator}
use Rattle.pli_base.specs.declared.syntax.PrefixOperator.TheVariants as prefixes
use Rattle.pli_base.specs.declared.syntax.InfixOperator.{InfixOperator}
use Rattle.pli_base.specs.declared.syntax.Joining.{Joining}
use Rattle.pli_base.specs.declared.token.Fault.{Fault}
use Rattle.pli_base.specs.declared.token.Sign.TheVariants as signs
use Rattle.pli_base.specs.declared.token.TokenText.{TokenText}
use Rattle.pli_base.specs.declared.token.TokenText.TheVariants.{Word, Decimal, Binary, Characters, Bits, Sign}
use Rattle.pli_parse_expression.specs.Operators.{operator_limit, level_of, operator_at, joining_at, begins_expression}
use Rattle.pli_base.specs.Words.{Tokens, name_first, rest_after, is_comma}
use Rattle.pli_base.specs.Reading.{Front}
use Rattle.pli_parse_expression.specs.declared.counted.Counted.{Counted}
use Rattle.pli_parse_expression.specs.Reading.{counted, counting, Reader, limited, opened, closed, operand_then, grouped, infix_from, expression_of, listed_after, further_from, listed_at, list_at, arguments_at, part_after, parts_after, joined_from, reference_after, reference_of, prefix_of, parenthesis_of, constant_at, operand_of, inside, operand_at, expression_at, argument_of, reference_at}
use Rattle.pli_base.specs.Results.{◌>>=◌}
use Rattle.pli_base.specs.Reading.{at_fault, taken}
use Rattle.pli_parse_fault.proofs.ReadingFaults.{Stands, misfit_stands, at_least, stands_after, stands_then, stands_made, fault_of}
use Rattle.pli_parse_expression.proofs.ReadingTools.{operator_ok, joining_ok, name_ok, comma_ok}

limited_stands : {A : Type 0} (least count p : ℕ) (ts : Tokens) (r : Result (Front (Counted A)) Fault) → 0 < length ts → Stands least p ts r → Stands least p ts (limited count p r)
limited_stands {A = A} least count p ts r some h = by (nat_lt count operator_limit)
  where
    by : (b : Bool) → Stands {A = Counted A} least p ts (cond b r (at_fault NestedTooDeep p))
    by true = h
    by false = told_first NestedTooDeep refl p ts some

pub closed_stands : {A : Type 0} (value : A) (count p : ℕ) (ts : Tokens) → Stands 1 p ts (closed value count p ts)
unfolding taken rest_after
closed_stands value count p [] = misfit_stands ParenthesisExpected refl p []
closed_stands value count p (Sign signs.CloseParenthesis ∷ ts) = passes_one p (Sign signs.CloseParenthesis ∷ ts) ts (omega arith)
closed_stands value count p (t ∷ ts) = misfit_stands ParenthesisExpected refl p (t ∷ ts)

-- a reader passes over a token at least
abbrev pub IsSound : Reader → Type 0
IsSound reader = (count p : ℕ) (ts : Tokens) → Stands 1 p ts (reader count p ts)

module _ (operand : Reader) (sound : IsSound operand) where
  abbrev LoopStands : ℕ → Type 0
  LoopStands bound = (min count : ℕ) (left : Expression) (p : ℕ) (ts : Tokens) → length ts < bound → Stands 0 p ts (infix_from operand bound min count left p ts)

  step_stands : (bound : ℕ) → LoopStands bound → (min count : ℕ) (left : Expression) (p : ℕ) (ts : Tokens) → length ts < suc bound → (o : Option (InfixOperator × Tokens)) → operator_at min ts ≡ o
      → Stands 0 p ts (grouped operand (infix_from operand bound) min count left p ts o)
  step_stands bound more min count left p ts small None found = passes_none p ts
  step_stands bound more min count left p ts small (Some x) found =
      let one : length ts ≡ suc (length x.1) = ap length (operator_ok min ts x found).0 in
      let top : ℕ = level_of x.0 + 1 in
      let right : Result (Front (Counted Expression)) Fault = operand_then operand (infix_from operand bound) top (count + 1) (p + 1) x.1 in
      let after : Front (Counted Expression) → Result (Front (Counted Expression)) Fault = λ y. infix_from operand bound min y.value.count (Infix x.0 p left y.value.tree) y.next y.rest in
      let right_stands : Stands 1 (p + 1) x.1 right =
      stands_then 1 0 (p + 1) x.1 (operand (count + 1) (p + 1) x.1) (λ z. infix_from operand bound top z.value.count z.value.tree z.next z.rest) (sound (count + 1) (p + 1) x.1)
      (λ z s. more top z.value.count z.value.tree z.next z.rest (omega (arith, s.0, s.1)))
      in
      let whole : Stands 1 (p + 1) x.1 (right >>= after) =
      stands_then 1 0 (p + 1) x.1 right after right_stands (λ y s. more min y.value.count (Infix x.0 p left y.value.tree) y.next y.rest (omega (arith, s.0, s.1)))
      in
      limited_stands 0 count p ts (right >>= after) (omega arith)
      (at_least 2 0 p ts (right >>= after) (omega arith) (stands_after 1 1 p (p + 1) ts x.1 (right >>= after) (passes_one p ts x.1 one) whole))

  pub loop_stands : (bound : ℕ) → LoopStands bound
  unfolding infix_from
  loop_stands zero min count left p ts small = absurd (omega arith)
  loop_stands (suc bound) min count left p ts small = step_stands bound (loop_stands bound) min count left p ts small (operator_at min ts) refl

  pub expression_sound : IsSound (expression_of operand)
  unfolding expression_of
  expression_sound count p ts =
      stands_then 1 0 p ts (operand count p ts) (λ z. infix_from operand (length ts + 1) 0 z.value.count z.value.tree z.next z.rest) (sound count p ts)
      (λ z s. loop_stands (length ts + 1) 0 z.value.count z.value.tree z.next z.rest (omega (arith, s.0, s.1)))

module _ (one : Reader) (sound : IsSound one) where
  abbrev FurtherStands : ℕ → Type 0
  FurtherStands bound = (count p : ℕ) (ts : Tokens) → length ts < bound → Stands 0 p ts (further_from one bound count p ts)

  further_step : (bound : ℕ) → FurtherStands bound → (count p : ℕ) (ts : Tokens) → length ts < suc bound → (o : Option Tokens) → rest_after is_comma ts ≡ o → Stands 0 p ts (listed_after one (further_from one bound) count p ts o)
  further_step bound more count p ts small None found = passes_none p ts
  further_step bound more count p ts small (Some us) found =
      let comma : length ts ≡ suc (length us) = ap length (comma_ok ts us found) in
      let read : Result (Front (Counted Expressions)) Fault = listed_after one (further_from one bound) count p ts (Some us) in
      let read_stands : Stands 1 (p + 1) us read =
      stands_then 1 0 (p + 1) us (one count (p + 1) us) (λ x. further_from one bound x.value.count x.next x.rest >>= λ y. counted (Listed x.value.tree y.value.tree) y.value.count y.next y.rest) (sound count (p + 1) us)
      (λ x s. stands_made 0 x.next x.rest (further_from one bound x.value.count x.next x.rest) (λ y. counting (Listed x.value.tree y.value.tree) y.value.count) (more x.value.count x.next x.rest (omega (arith, s.0, s.1))))
      in
      at_least 2 0 p ts read (omega arith) (stands_after 1 1 p (p + 1) ts us read (passes_one p ts us comma) read_stands)

  further_stands : (bound : ℕ) → FurtherStands bound
  unfolding further_from
  further_stands zero count p ts small = absurd (omega arith)
  further_stands (suc bound) count p ts small = further_step bound (further_stands bound) count p ts small (rest_after is_comma ts) refl

  pub listed_stands : (count p : ℕ) (ts : Tokens) → Stands 1 p ts (listed_at one count p ts)
  unfolding listed_at
  listed_stands count p ts =
      stands_then 1 0 p ts (one count p ts) (λ x. further_from one (length x.rest + 1) x.value.count x.next x.rest >>= λ y. closed (Listed x.value.tree y.value.tree) y.value.count y.next y.rest) (sound count p ts)
      (λ x s. at_least 1 0 x.next x.rest (further_from one (length x.rest + 1) x.value.count x.next x.rest >>= λ y. closed (Listed x.value.tree y.value.tree) y.value.count y.next y.rest) (omega arith)
      (stands_then 0 1 x.next x.rest (further_from one (length x.rest + 1) x.value.count x.next x.rest) (λ y. closed (Listed x.value.tree y.value.tree) y.value.count y.next y.rest)
      (further_stands (length x.rest + 1) x.value.count x.next x.rest (omega arith)) (λ y t. closed_stands (Listed x.value.tree y.value.tree) y.value.count y.next y.rest)))

  pub list_stands : (count p : ℕ) (ts : Tokens) → Stands 1 p ts (list_at one count p ts)
  unfolding list_at
  list_stands count p ts = by (begins_expression ts)
    where
      by : (b : Bool) → Stands 1 p ts (cond b (listed_at one count p ts) (closed Empty count p ts))
      by true = listed_stands count p ts
      by false = closed_stands Empty count p ts

-- what reads the expressions of a list is sound, if there is such
abbrev pub IsSoundWhere : Option Reader → Type 0
IsSoundWhere None = Unit {0}
IsSoundWhere (Some one) = IsSound one

opened_arguments : (one : Option Reader) → IsSoundWhere one → (count p : ℕ) (ts : Tokens)
    → Stands 0 p (Sign signs.OpenParenthesis ∷ ts) (opened one p (λ one. list_at one count (p + 1) ts >>= λ x. counted (Given x.value.tree) x.value.count x.next x.rest))
opened_arguments None sound count p ts = told_first NestedTooDeep refl p (Sign signs.OpenParenthesis ∷ ts) (omega arith)
opened_arguments (Some one) sound count p ts =
    let read : Result (Front (Counted Arguments)) Fault = list_at one count (p + 1) ts >>= λ x. counted (Given x.value.tree) x.value.count x.next x.rest in
    let us : Tokens = Sign signs.OpenParenthesis ∷ ts in
    at_least 2 0 p us read (omega arith)
    (stands_after 1 1 p (p + 1) us ts read (passes_one p us ts (omega arith)) (stands_made 1 (p + 1) ts (list_at one count (p + 1) ts) (λ x. counting (Given x.value.tree) x.value.count) (list_stands one sound count (p + 1) ts)))

pub arguments_stand : (one : Option Reader) → IsSoundWhere one → (count p : ℕ) (ts : Tokens) → Stands 0 p ts (arguments_at one count p ts)
unfolding arguments_at
arguments_stand one sound count p [] = passes_none p []
arguments_stand one sound count p (Sign signs.OpenParenthesis ∷ ts) = opened_arguments one sound count p ts
arguments_stand one sound count p (t ∷ ts) = passes_none p (t ∷ ts)

module _ (one : Option Reader) (sound : IsSoundWhere one) where
  abbrev PartsStand : ℕ → Type 0
  PartsStand bound = (count p : ℕ) (ts : Tokens) → length ts < bound → Stands 0 p ts (joined_from one bound count p ts)

  -- after `.` or `->`
  part_stands : (bound : ℕ) → PartsStand bound → (joining : Joining) (count p : ℕ) (ts : Tokens) → length ts < bound → (o : Option (Name × Tokens)) → name_first ts ≡ o
      → Stands 0 p ts (part_after one (joined_from one bound) joining count p ts o)
  part_stands bound more joining count p ts small None found = misfit_stands NameExpected refl p ts
  part_stands bound more joining count p ts small (Some n) found =
      let name : length ts ≡ suc (length n.1) = ap length (name_ok ts n found) in
      let read : Result (Front (Counted JoinedParts)) Fault = part_after one (joined_from one bound) joining count p ts (Some n) in
      let read_stands : Stands 0 (p + 1) n.1 read =
      stands_then 0 0 (p + 1) n.1 (arguments_at one count (p + 1) n.1)
      (λ x. joined_from one bound x.value.count x.next x.rest >>= λ y. counted (Joined joining (record { name = n.0; at = p }) x.value.tree y.value.tree) y.value.count y.next y.rest)
      (arguments_stand one sound count (p + 1) n.1)
      (λ x s. stands_made 0 x.next x.rest (joined_from one bound x.value.count x.next x.rest) (λ y. counting (Joined joining (record { name = n.0; at = p }) x.value.tree y.value.tree) y.value.count)
      (more x.value.count x.next x.rest (omega (arith, s.0, s.1))))
      in
      at_least 1 0 p ts read (omega arith) (stands_after 1 0 p (p + 1) ts n.1 read (passes_one p ts n.1 name) read_stands)

  parts_step : (bound : ℕ) → PartsStand bound → (count p : ℕ) (ts : Tokens) → length ts < suc bound → (o : Option (Joining × Tokens)) → joining_at ts ≡ o → Stands 0 p ts (parts_after one (joined_from one bound) count p ts o)
  parts_step bound more count p ts small None found = passes_none p ts
  parts_step bound more count p ts small (Some j) found =
      let sign : length ts ≡ suc (length j.1) = ap length (joining_ok ts j found) in
      let read : Result (Front (Counted JoinedParts)) Fault = part_after one (joined_from one bound) j.0 count (p + 1) j.1 (name_first j.1) in
      at_least 1 0 p ts read (omega arith) (stands_after 1 0 p (p + 1) ts j.1 read (passes_one p ts j.1 sign) (part_stands bound more j.0 count (p + 1) j.1 (omega arith) (name_first j.1) refl))

  parts_stand : (bound : ℕ) → PartsStand bound
  unfolding joined_from
  parts_stand zero count p ts small = absurd (omega arith)
  parts_stand (suc bound) count p ts small = parts_step bound (parts_stand bound) count p ts small (joining_at ts) refl

  reference_step : (count p : ℕ) (ts : Tokens) (o : Option (Name × Tokens)) → name_first ts ≡ o → Stands 1 p ts (reference_after one count p ts o)
  reference_step count p ts None found = misfit_stands NameExpected refl p ts
  reference_step count p ts (Some n) found =
      let name : length ts ≡ suc (length n.1) = ap length (name_ok ts n found) in
      let read : Result (Front (Counted Reference)) Fault = reference_after one count p ts (Some n) in
      let read_stands : Stands 0 (p + 1) n.1 read =
      stands_then 0 0 (p + 1) n.1 (arguments_at one count (p + 1) n.1)
      (λ x. joined_from one (length x.rest + 1) x.value.count x.next x.rest >>= λ y. counted (Named (record { name = n.0; at = p }) x.value.tree y.value.tree) y.value.count y.next y.rest)
      (arguments_stand one sound count (p + 1) n.1)
      (λ x s. stands_made 0 x.next x.rest (joined_from one (length x.rest + 1) x.value.count x.next x.rest) (λ y. counting (Named (record { name = n.0; at = p }) x.value.tree y.value.tree) y.value.count)
      (parts_stand (length x.rest + 1) x.value.count x.next x.rest (omega arith)))
      in
      stands_after 1 0 p (p + 1) ts n.1 read (passes_one p ts n.1 name) read_stands

  pub reference_stands : (count p : ℕ) (ts : Tokens) → Stands 1 p ts (reference_of one count p ts)
  unfolding reference_of
  reference_stands count p ts = reference_step count p ts (name_first ts) refl

pub mapped_sound : (one : Option Reader) → IsSoundWhere one → IsSoundWhere (option_map expression_of one)
mapped_sound None sound = tt
mapped_sound (Some operand) sound = expression_sound operand sound

prefix_stands : (one : Option Reader) → IsSoundWhere one → (operator : PrefixOperator) (count p : ℕ) (t : TokenText) (ts : Tokens) → Stands 1 p (t ∷ ts) (prefix_of one operator count p ts)
unfolding prefix_of
prefix_stands None sound operator count p t ts =
    limited_stands 1 count p (t ∷ ts) (at_fault NestedTooDeep p) (omega arith) (told_first NestedTooDeep refl p (t ∷ ts) (omega arith))
prefix_stands (Some operand) sound operator count p t ts =
    let read : Result (Front (Counted Expression)) Fault = operand (count + 1) (p + 1) ts >>= λ x. counted (Prefix operator p x.value.tree) x.value.count x.next x.rest in
    limited_stands 1 count p (t ∷ ts) read (omega arith)
    (at_least 2 1 p (t ∷ ts) read (omega arith)
    (stands_after 1 1 p (p + 1) (t ∷ ts) ts read (passes_one p (t ∷ ts) ts (omega arith)) (stands_made 1 (p + 1) ts (operand (count + 1) (p + 1) ts) (λ x. counting (Prefix operator p x.value.tree) x.value.count) (sound (count + 1) (p + 1) ts))))

parenthesis_stands : (one : Option Reader) → IsSoundWhere one → (count p : ℕ) (t : TokenText) (ts : Tokens) → Stands 1 p (t ∷ ts) (parenthesis_of one count p ts)
unfolding parenthesis_of
parenthesis_stands None sound count p t ts = told_first NestedTooDeep refl p (t ∷ ts) (omega arith)
parenthesis_stands (Some operand) sound count p t ts =
    let read : Result (Front (Counted Expression)) Fault = expression_of operand count (p + 1) ts >>= λ x. closed (Parenthesized p x.value.tree) x.value.count x.next x.rest in
    at_least 3 1 p (t ∷ ts) read (omega arith)
    (stands_after 1 2 p (p + 1) (t ∷ ts) ts read (passes_one p (t ∷ ts) ts (omega arith))
    (stands_then 1 1 (p + 1) ts (expression_of operand count (p + 1) ts) (λ x. closed (Parenthesized p x.value.tree) x.value.count x.next x.rest) (expression_sound operand sound count (p + 1) ts)
    (λ x s. closed_stands (Parenthesized p x.value.tree) x.value.count x.next x.rest)))

constant_stands : IsSound constant_at
unfolding constant_at
constant_stands count p [] = misfit_stands ExpressionExpected refl p []
constant_stands count p (Decimal v d ∷ ts) = passes_one p (Decimal v d ∷ ts) ts (omega arith)
constant_stands count p (Binary v d ∷ ts) = passes_one p (Binary v d ∷ ts) ts (omega arith)
constant_stands count p (Characters s ∷ ts) = passes_one p (Characters s ∷ ts) ts (omega arith)
constant_stands count p (Bits s ∷ ts) = passes_one p (Bits s ∷ ts) ts (omega arith)
constant_stands count p (t ∷ ts) = misfit_stands ExpressionExpected refl p (t ∷ ts)

pub operand_stands : (one : Option Reader) → IsSoundWhere one → IsSound (operand_of one)
unfolding operand_of
operand_stands one sound count p [] = constant_stands count p []
operand_stands one sound count p (Word n ∷ ts) =
    stands_made 1 p (Word n ∷ ts) (reference_of (option_map expression_of one) count p (Word n ∷ ts)) (λ x. counting (Referred x.value.tree) x.value.count) (reference_stands (option_map expression_of one) (mapped_sound one sound) count p (Word n ∷ ts))
operand_stands one sound count p (Sign signs.OpenParenthesis ∷ ts) = parenthesis_stands one sound count p (Sign signs.OpenParenthesis) ts
operand_stands one sound count p (Sign signs.Plus ∷ ts) = prefix_stands one sound prefixes.Plus count p (Sign signs.Plus) ts
operand_stands one sound count p (Sign signs.Minus ∷ ts) = prefix_stands one sound prefixes.Minus count p (Sign signs.Minus) ts
operand_stands one sound count p (Sign signs.Not ∷ ts) = prefix_stands one sound prefixes.Not count p (Sign signs.Not) ts
operand_stands one sound count p (t ∷ ts) = constant_stands count p (t ∷ ts)

pub inside_sound : (levels : ℕ) → IsSoundWhere (inside levels)
unfolding inside
inside_sound zero = tt
inside_sound (suc levels) = operand_stands (inside levels) (inside_sound levels)

pub expression_at_sound : (levels : ℕ) → IsSound (expression_at levels)
unfolding expression_at
expression_at_sound levels = expression_sound (operand_at levels) (operand_stands (inside levels) (inside_sound levels))

argument_sound : (one : Option Reader) → IsSoundWhere one → IsSoundWhere (option_map (argument_of true) one)
argument_sound None sound = tt
argument_sound (Some operand) sound = λ count p ts.
    stands_made 1 p ts (expression_of operand 0 p ts) (λ x. counting x.value.tree count) (expression_sound operand sound 0 p ts)

pub arguments_sound : (levels : ℕ) → IsSoundWhere (option_map (argument_of true) (inside levels))
arguments_sound levels = argument_sound (inside levels) (inside_sound levels)

pub reference_at_stands : (levels p : ℕ) (ts : Tokens) → Stands 1 p ts (reference_at levels p ts)
unfolding reference_at
reference_at_stands levels p ts = reference_stands (option_map (argument_of true) (inside levels)) (arguments_sound levels) 0 p ts

pub expression_fault_stands : (levels p : ℕ) (ts : Tokens) (f : Fault) → expression_at levels 0 p ts ≡ Err f → FaultStands p ts f
expression_fault_stands levels p ts f h = told_stands p ts f (fault_of 1 p ts (expression_at levels 0 p ts) f (expression_at_sound levels 0 p ts) h)

pub reference_fault_stands : (levels p : ℕ) (ts : Tokens) (f : Fault) → reference_at levels p ts ≡ Err f → FaultStands p ts f
reference_fault_stands levels p ts f h = told_stands p ts f (fault_of 1 p ts (reference_at levels p ts) f (reference_at_stands levels p ts) h)
