-- Loops over operators, parts and arguments: what was read so far, and what is still read.
use Rattle.std.proofs.Common.{◌≡◌, ◌+◌, ◌<◌, ◌≤◌, ℕ, suc, zero, Bool, true, false, nat_lt, cond, List, [], ◌∷◌, ◌++◌, Option, Some, None, Result, Ok, Err, length, refl, ap, ◌∙◌, sym, arith}
use Rattle.std.proofs.lemmas.Bool.{le-ltb, lt-ltb}
use Rattle.pli_base.specs.Name.{Name}
use Rattle.pli_base.specs.Syntax.{Expression, Infix, Named, JoinedParts, Alone, Joined, Arguments, Expressions, Empty, Listed}
use Rattle.pli_base.specs.views.SyntaxView.{expression_view}
use Rattle.pli_base.specs.declared.code.Code.TheVariants.{NestedTooDeep, NameExpected, ParenthesisExpected}
use Rattle.pli_base.specs.declared.syntax.Expression as made
use Rattle.pli_base.specs.declared.syntax.JoinedPart.{JoinedPart}
use Rattle.pli_base.specs.declared.syntax.InfixOperator.{InfixOperator}
use Rattle.pli_base.specs.declared.syntax.Joining.{Joining}
use Rattle.pli_base.specs.declared.token.Fault.{Fault}
use Rattle.pli_parse_expression.specs.Operators.{operator_limit, level_of, operator_at, joining_at}
use Rattle.pli_base.specs.Reading.{Front}
use Rattle.pli_parse_expression.specs.declared.counted.Counted.{Counted}
use Rattle.pli_parse_expression.specs.Reading.{counted, Reader, limited, operand_then, grouped, infix_from, right_of, closed, listed_after, further_from, listed_at, arguments_at, part_after, parts_after, joined_from, reference_after, reference_of}
use Rattle.pli_base.specs.declared.failure.Failure.TheVariants as errors
use Rattle.pli_base.specs.views.SyntaxView.{expressions_view, arguments_view, joined_view}
use Rattle.pli_base.specs.Words.{Tokens, name_first, rest_after, is_comma, is_close}
use Rattle.pli_base.specs.Results.{◌>>=◌}
use Rattle.pli_base.specs.Reading.{at_fault, misfit, taken}
use Rattle.pli_base.specs.declared.failure.Failure.{Failure}
use Rattle.pli_base.specs.answers.FailureAnswers.{Fails}

-- the operators that are left go on with the expression so far, for a bound that is great enough
abbrev pub OperatorsLeft : Reader → (min count : ℕ) → Expression → ℕ → Tokens → Result (Front (Counted Expression)) Fault → Type 0
OperatorsLeft operand min count left p ts total = (bound : ℕ) × (length ts < bound) × (infix_from operand bound min count left p ts ≡ total)

-- parts before others
abbrev pub parts_before : List JoinedPart → JoinedParts → JoinedParts
parts_before [] more = more
parts_before (x ∷ xs) more = Joined x.joining x.part.name (arguments_view x.part.arguments) (parts_before xs more)

abbrev pub with_parts : List JoinedPart → Result (Front (Counted JoinedParts)) Fault → Result (Front (Counted JoinedParts)) Fault
with_parts done read = read >>= λ y. counted (parts_before done y.value.tree) y.value.count y.next y.rest

abbrev pub PartsLeft : Option Reader → List JoinedPart → (count p : ℕ) → Tokens → Result (Front (Counted JoinedParts)) Fault → Type 0
PartsLeft one done count p ts total = (bound : ℕ) × (length ts < bound) × (with_parts done (joined_from one bound count p ts) ≡ total)

-- expressions before others
abbrev pub expressions_before : List made.Expression → Expressions → Expressions
expressions_before [] more = more
expressions_before (e ∷ es) more = Listed (expression_view e) (expressions_before es more)

-- the expressions that are left, after those so far, and the closing parenthesis
abbrev pub closed_list : List made.Expression → Result (Front (Counted Expressions)) Fault → Result (Front (Counted Expressions)) Fault
closed_list done read = read >>= λ y. closed (expressions_before done y.value.tree) y.value.count y.next y.rest

abbrev pub ListLeft : Reader → List made.Expression → (count p : ℕ) → Tokens → Result (Front (Counted Expressions)) Fault → Type 0
ListLeft one done count p ts total = (bound : ℕ) × (length ts < bound) × (closed_list done (further_from one bound count p ts) ≡ total)

-- where there are not too many operators, what comes of what is read
limited_then : (few : Bool) (p : ℕ) (read : Result (Front (Counted Expression)) Fault) (next : Front (Counted Expression) → Result (Front (Counted Expression)) Fault)
    → cond few (read >>= next) (at_fault NestedTooDeep p) ≡ (cond few read (at_fault NestedTooDeep p) >>= next)
limited_then true p read next = refl
limited_then false p read next = refl

-- after an infix operator
module _ (operand : Reader) (bound : ℕ) (o : InfixOperator) (count p : ℕ) (ts : Tokens) where
  pub too_many : operator_limit ≤ count → right_of operand bound o count p ts ≡ at_fault NestedTooDeep p
  too_many full = ap (λ b. cond b (operand_then operand (infix_from operand bound) (level_of o + 1) (count + 1) (p + 1) ts) (at_fault NestedTooDeep p)) (le-ltb count operator_limit full)

  within : count < operator_limit → right_of operand bound o count p ts ≡ operand_then operand (infix_from operand bound) (level_of o + 1) (count + 1) (p + 1) ts
  within few = ap (λ b. cond b (operand_then operand (infix_from operand bound) (level_of o + 1) (count + 1) (p + 1) ts) (at_fault NestedTooDeep p)) (lt-ltb count operator_limit few)

  pub operand_fails : (e : Failure Fault) → count < operator_limit → Fails e (operand (count + 1) (p + 1) ts) → Fails e (right_of operand bound o count p ts)
  operand_fails errors.OutOfMemory few h = tt
  operand_fails (errors.Fault f) few h = within few ∙ ap (λ r. r >>= λ z. infix_from operand bound (level_of o + 1) z.value.count z.value.tree z.next z.rest) h

  pub right_goes_on : (z : Front (Counted Expression)) (top : ℕ) → count < operator_limit → top ≡ level_of o + 1 → operand (count + 1) (p + 1) ts ≡ Ok z
      → right_of operand bound o count p ts ≡ infix_from operand bound top z.value.count z.value.tree z.next z.rest
  right_goes_on z top few above read =
      within few ∙ ap (λ r. r >>= λ z. infix_from operand bound (level_of o + 1) z.value.count z.value.tree z.next z.rest) read ∙ ap (λ m. infix_from operand bound m z.value.count z.value.tree z.next z.rest) (sym above)

-- after a left operand, where an infix operator stands
module _ (operand : Reader) (min count : ℕ) (left : Expression) (p : ℕ) (ts : Tokens) (o : InfixOperator × Tokens) (total : Result (Front (Counted Expression)) Fault) (found : operator_at min ts ≡ Some o) where
  -- what the operator leads to
  abbrev led : ℕ → Result (Front (Counted Expression)) Fault
  led bound = operand_then operand (infix_from operand bound) (level_of o.0 + 1) (count + 1) (p + 1) o.1 >>= λ y. infix_from operand bound min y.value.count (Infix o.0 p left y.value.tree) y.next y.rest

  turned : (bound : ℕ) → infix_from operand (suc bound) min count left p ts ≡ total → total ≡ limited count p (led bound)
  unfolding infix_from
  turned bound so_far = sym so_far ∙ ap (grouped operand (infix_from operand bound) min count left p ts) found

  -- what the operator's right operand leads to
  abbrev leads : ℕ → Front (Counted Expression) → Result (Front (Counted Expression)) Fault
  leads bound y = infix_from operand bound min y.value.count (Infix o.0 p left y.value.tree) y.next y.rest

  after_right : (bound : ℕ) → infix_from operand (suc bound) min count left p ts ≡ total → total ≡ (right_of operand bound o.0 count p o.1 >>= leads bound)
  after_right bound so_far =
      turned bound so_far
      ∙ limited_then (nat_lt count operator_limit) p (operand_then operand (infix_from operand bound) (level_of o.0 + 1) (count + 1) (p + 1) o.1) (leads bound)

  pub right_fails : (e : Failure Fault) → length o.1 < length ts → ((bound : ℕ) → length o.1 < bound → Fails e (right_of operand bound o.0 count p o.1))
      → OperatorsLeft operand min count left p ts total → Fails e total
  right_fails errors.OutOfMemory less h left_over = tt
  right_fails (errors.Fault f) less h (zero, small, so_far) = absurd (omega arith)
  right_fails (errors.Fault f) less h (suc bound, small, so_far) = after_right bound so_far ∙ ap (λ r. r >>= leads bound) (h bound (omega arith))

  pub goes_on : (y : Front (Counted Expression)) → length o.1 < length ts → length y.rest < length ts → ((bound : ℕ) → length o.1 < bound → right_of operand bound o.0 count p o.1 ≡ Ok y)
      → OperatorsLeft operand min count left p ts total → OperatorsLeft operand min y.value.count (Infix o.0 p left y.value.tree) y.next y.rest total
  goes_on y less shorter right (zero, small, so_far) = absurd (omega arith)
  goes_on y less shorter right (suc bound, small, so_far) = (bound, omega arith, sym (after_right bound so_far ∙ ap (λ r. r >>= leads bound) (right bound (omega arith))))

pub operators_end : (operand : Reader) (min count : ℕ) (left : Expression) (p : ℕ) (ts : Tokens) (total : Result (Front (Counted Expression)) Fault) → operator_at min ts ≡ None
    → OperatorsLeft operand min count left p ts total → total ≡ counted left count p ts
unfolding infix_from
operators_end operand min count left p ts total none (zero, small, so_far) = absurd (omega arith)
operators_end operand min count left p ts total none (suc bound, small, so_far) = sym so_far ∙ ap (grouped operand (infix_from operand bound) min count left p ts) none

parts_push : (done : List JoinedPart) (x : JoinedPart) (more : JoinedParts) → parts_before done (Joined x.joining x.part.name (arguments_view x.part.arguments) more) ≡ parts_before (done ++ x ∷ []) more
parts_push [] x more = refl
parts_push (y ∷ ys) x more = ap (Joined y.joining y.part.name (arguments_view y.part.arguments)) (parts_push ys x more)

parts_all : (done : List JoinedPart) → parts_before done Alone ≡ joined_view done
parts_all [] = refl
parts_all (y ∷ ys) = ap (Joined y.joining y.part.name (arguments_view y.part.arguments)) (parts_all ys)

parts_regroup : (done : List JoinedPart) (x : JoinedPart) (read : Result (Front (Counted JoinedParts)) Fault)
    → with_parts done (read >>= λ y. counted (Joined x.joining x.part.name (arguments_view x.part.arguments) y.value.tree) y.value.count y.next y.rest) ≡ with_parts (done ++ x ∷ []) read
parts_regroup done x (Ok y) = ap (λ v. counted v y.value.count y.next y.rest) (parts_push done x y.value.tree)
parts_regroup done x (Err f) = refl

-- where a part is joined
module _ (one : Option Reader) (done : List JoinedPart) (count p : ℕ) (ts : Tokens) (j : Joining × Tokens) (total : Result (Front (Counted JoinedParts)) Fault) (found : joining_at ts ≡ Some j) where
  joining_turned : (bound : ℕ) → with_parts done (joined_from one (suc bound) count p ts) ≡ total → total ≡ with_parts done (part_after one (joined_from one bound) j.0 count (p + 1) j.1 (name_first j.1))
  unfolding joined_from
  joining_turned bound so_far = sym so_far ∙ ap (λ o. with_parts done (parts_after one (joined_from one bound) count p ts o)) found

  pub no_name : name_first j.1 ≡ None → PartsLeft one done count p ts total → total ≡ Err (misfit NameExpected (p + 1) j.1)
  no_name none (zero, small, so_far) = absurd (omega arith)
  no_name none (suc bound, small, so_far) = joining_turned bound so_far ∙ ap (λ o. with_parts done (part_after one (joined_from one bound) j.0 count (p + 1) j.1 o)) none

  module _ (n : Name × Tokens) (named : name_first j.1 ≡ Some n) where
    -- after the name
    abbrev after_list : ℕ → Front (Counted Arguments) → Result (Front (Counted JoinedParts)) Fault
    after_list bound x = joined_from one bound x.value.count x.next x.rest >>= λ y. counted (Joined j.0 (record { name = n.0; at = p + 1 }) x.value.tree y.value.tree) y.value.count y.next y.rest

    after_name : (bound : ℕ) → with_parts done (joined_from one (suc bound) count p ts) ≡ total → total ≡ with_parts done (arguments_at one count (p + 1 + 1) n.1 >>= after_list bound)
    after_name bound so_far = joining_turned bound so_far ∙ ap (λ o. with_parts done (part_after one (joined_from one bound) j.0 count (p + 1) j.1 o)) named

    pub arguments_fail : (e : Failure Fault) → Fails e (arguments_at one count (p + 1 + 1) n.1) → PartsLeft one done count p ts total → Fails e total
    arguments_fail errors.OutOfMemory h left_over = tt
    arguments_fail (errors.Fault f) h (zero, small, so_far) = absurd (omega arith)
    arguments_fail (errors.Fault f) h (suc bound, small, so_far) = after_name bound so_far ∙ ap (λ r. with_parts done (r >>= after_list bound)) h

    pub part_goes_on : (x : JoinedPart) (a : Front (Counted Arguments)) → (◌≡◌ {A = JoinedParts} (Joined x.joining x.part.name (arguments_view x.part.arguments) Alone) (Joined j.0 (record { name = n.0; at = p + 1 }) a.value.tree Alone))
        → arguments_at one count (p + 1 + 1) n.1 ≡ Ok a → length a.rest < length ts → PartsLeft one done count p ts total → PartsLeft one (done ++ x ∷ []) a.value.count a.next a.rest total
    part_goes_on x a same read less (zero, small, so_far) = absurd (omega arith)
    part_goes_on x a same read less (suc bound, small, so_far) =
        let e1 : j.0 ≡ x.joining = cc in
        let e2 : record { name = n.0; at = p + 1 } ≡ x.part.name = cc in
        let e3 : a.value.tree ≡ arguments_view x.part.arguments = cc in
        let whole : total ≡ with_parts done (after_list bound a) = after_name bound so_far ∙ ap (λ r. with_parts done (r >>= after_list bound)) read in (
          bound,
          omega arith,
          sym (parts_regroup done x (joined_from one bound a.value.count a.next a.rest))
              ∙ ap (λ v. with_parts done (joined_from one bound a.value.count a.next a.rest >>= λ y. counted (Joined x.joining x.part.name v y.value.tree) y.value.count y.next y.rest)) (sym e3)
              ∙ ap (λ i. with_parts done (joined_from one bound a.value.count a.next a.rest >>= λ y. counted (Joined x.joining i a.value.tree y.value.tree) y.value.count y.next y.rest)) (sym e2)
              ∙ ap (λ i. with_parts done (joined_from one bound a.value.count a.next a.rest >>= λ y. counted (Joined i (record { name = n.0; at = p + 1 }) a.value.tree y.value.tree) y.value.count y.next y.rest)) (sym e1)
              ∙ sym whole,
        )

pub parts_begin : (one : Option Reader) (done : List JoinedPart) (bound count p : ℕ) (ts : Tokens) → done ≡ [] → length ts < bound → PartsLeft one done count p ts (joined_from one bound count p ts)
parts_begin one done bound count p ts none small = (bound, small, ap (λ xs. with_parts xs (joined_from one bound count p ts)) none ∙ same (joined_from one bound count p ts))
  where
    same : (read : Result (Front (Counted JoinedParts)) Fault) → with_parts [] read ≡ read
    same (Ok y) = refl
    same (Err f) = refl

pub parts_end : (one : Option Reader) (done : List JoinedPart) (count p : ℕ) (ts : Tokens) (total : Result (Front (Counted JoinedParts)) Fault) → joining_at ts ≡ None → PartsLeft one done count p ts total
    → total ≡ counted (joined_view done) count p ts
unfolding joined_from
parts_end one done count p ts total none (zero, small, so_far) = absurd (omega arith)
parts_end one done count p ts total none (suc bound, small, so_far) =
    sym so_far ∙ ap (λ o. with_parts done (parts_after one (joined_from one bound) count p ts o)) none
    ∙ ap (λ v. counted v count p ts) (parts_all done)

expressions_push : (done : List made.Expression) (e : made.Expression) (more : Expressions) → expressions_before done (Listed (expression_view e) more) ≡ expressions_before (done ++ e ∷ []) more
expressions_push [] e more = refl
expressions_push (d ∷ ds) e more = ap (Listed (expression_view d)) (expressions_push ds e more)

expressions_all : (done : List made.Expression) → expressions_before done Empty ≡ expressions_view done
expressions_all [] = refl
expressions_all (d ∷ ds) = ap (Listed (expression_view d)) (expressions_all ds)

expressions_regroup : (done : List made.Expression) (e : made.Expression) (read : Result (Front (Counted Expressions)) Fault)
    → closed_list done (read >>= λ y. counted (Listed (expression_view e) y.value.tree) y.value.count y.next y.rest) ≡ closed_list (done ++ e ∷ []) read
expressions_regroup done e (Ok y) = ap (λ v. closed v y.value.count y.next y.rest) (expressions_push done e y.value.tree)
expressions_regroup done e (Err f) = refl

-- where a comma stands
module _ (one : Reader) (done : List made.Expression) (count p : ℕ) (ts us : Tokens) (total : Result (Front (Counted Expressions)) Fault) (found : rest_after is_comma ts ≡ Some us) where
  abbrev after_one : ℕ → Front (Counted Expression) → Result (Front (Counted Expressions)) Fault
  after_one bound x = further_from one bound x.value.count x.next x.rest >>= λ y. counted (Listed x.value.tree y.value.tree) y.value.count y.next y.rest

  comma_turned : (bound : ℕ) → closed_list done (further_from one (suc bound) count p ts) ≡ total → total ≡ closed_list done (one count (p + 1) us >>= after_one bound)
  unfolding further_from
  comma_turned bound so_far = sym so_far ∙ ap (λ o. closed_list done (listed_after one (further_from one bound) count p ts o)) found

  pub one_fails : (e : Failure Fault) → Fails e (one count (p + 1) us) → ListLeft one done count p ts total → Fails e total
  one_fails errors.OutOfMemory h left_over = tt
  one_fails (errors.Fault f) h (zero, small, so_far) = absurd (omega arith)
  one_fails (errors.Fault f) h (suc bound, small, so_far) = comma_turned bound so_far ∙ ap (λ r. closed_list done (r >>= after_one bound)) h

  pub list_goes_on : (e : made.Expression) (x : Front (Counted Expression)) → x.value.tree ≡ expression_view e → one count (p + 1) us ≡ Ok x → length x.rest < length ts → ListLeft one done count p ts total → ListLeft one (done ++ e ∷ []) x.value.count x.next x.rest total
  list_goes_on e x same read less (zero, small, so_far) = absurd (omega arith)
  list_goes_on e x same read less (suc bound, small, so_far) = (
    bound,
    omega arith,
    sym (expressions_regroup done e (further_from one bound x.value.count x.next x.rest))
        ∙ ap (λ v. closed_list done (further_from one bound x.value.count x.next x.rest >>= λ y. counted (Listed v y.value.tree) y.value.count y.next y.rest)) (sym same)
        ∙ sym (comma_turned bound so_far ∙ ap (λ r. closed_list done (r >>= after_one bound)) read),
  )

pub first_fails : (one : Reader) (count p : ℕ) (ts : Tokens) (e : Failure Fault) → Fails e (one count p ts) → Fails e (listed_at one count p ts)
unfolding listed_at
first_fails one count p ts errors.OutOfMemory h = tt
first_fails one count p ts (errors.Fault f) h = ap (λ r. r >>= λ x. further_from one (length x.rest + 1) x.value.count x.next x.rest >>= λ y. closed (Listed x.value.tree y.value.tree) y.value.count y.next y.rest) h

pub list_begins : (one : Reader) (count p : ℕ) (ts : Tokens) (done : List made.Expression) (e : made.Expression) (x : Front (Counted Expression)) → done ≡ e ∷ [] → x.value.tree ≡ expression_view e → one count p ts ≡ Ok x
    → ListLeft one done x.value.count x.next x.rest (listed_at one count p ts)
unfolding listed_at
list_begins one count p ts done e x all same read = (
  length x.rest + 1,
  omega arith,
  ap (λ es. closed_list es (further_from one (length x.rest + 1) x.value.count x.next x.rest)) all
      ∙ ap (λ v. further_from one (length x.rest + 1) x.value.count x.next x.rest >>= λ y. closed (Listed v y.value.tree) y.value.count y.next y.rest) (sym same)
      ∙ sym (ap (λ r. r >>= λ x. further_from one (length x.rest + 1) x.value.count x.next x.rest >>= λ y. closed (Listed x.value.tree y.value.tree) y.value.count y.next y.rest) read),
)

module _ (one : Reader) (done : List made.Expression) (count p : ℕ) (ts : Tokens) (total : Result (Front (Counted Expressions)) Fault) (none : rest_after is_comma ts ≡ None) where
  list_turned : (bound : ℕ) → closed_list done (further_from one (suc bound) count p ts) ≡ total → total ≡ closed (expressions_view done) count p ts
  unfolding further_from
  list_turned bound so_far =
      sym so_far ∙ ap (λ o. closed_list done (listed_after one (further_from one bound) count p ts o)) none ∙ ap (λ v. closed v count p ts) (expressions_all done)

  pub close_fails : (e : Failure Fault) → Fails e (taken is_close ParenthesisExpected p ts) → ListLeft one done count p ts total → Fails e total
  close_fails errors.OutOfMemory h left_over = tt
  close_fails (errors.Fault f) h (zero, small, so_far) = absurd (omega arith)
  close_fails (errors.Fault f) h (suc bound, small, so_far) = list_turned bound so_far ∙ ap (λ r. r >>= λ us. counted (expressions_view done) count (p + 1) us) h

  pub list_ends : (us : Tokens) → taken is_close ParenthesisExpected p ts ≡ Ok us → ListLeft one done count p ts total → total ≡ counted (expressions_view done) count (p + 1) us
  list_ends us h (zero, small, so_far) = absurd (omega arith)
  list_ends us h (suc bound, small, so_far) = list_turned bound so_far ∙ ap (λ r. r >>= λ us. counted (expressions_view done) count (p + 1) us) h

pub reference_done : (one : Option Reader) (count p : ℕ) (ts : Tokens) (n : Name × Tokens) (a : Front (Counted Arguments)) (y : Front (Counted JoinedParts)) → name_first ts ≡ Some n → arguments_at one count (p + 1) n.1 ≡ Ok a
    → ((bound : ℕ) → length a.rest < bound → joined_from one bound a.value.count a.next a.rest ≡ Ok y)
    → reference_of one count p ts ≡ counted (Named (record { name = n.0; at = p }) a.value.tree y.value.tree) y.value.count y.next y.rest
unfolding reference_of
reference_done one count p ts n a y named read joined =
    ap (reference_after one count p ts) named
    ∙ ap (λ r. r >>= λ x. joined_from one (length x.rest + 1) x.value.count x.next x.rest >>= λ y. counted (Named (record { name = n.0; at = p }) x.value.tree y.value.tree) y.value.count y.next y.rest) read
    ∙ ap (λ r. r >>= λ y. counted (Named (record { name = n.0; at = p }) a.value.tree y.value.tree) y.value.count y.next y.rest) (joined (length a.rest + 1) (omega arith))
