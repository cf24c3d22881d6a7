-- Reading an expression or a reference stops at the first token that cannot stand.
use Rattle.std.proofs.Common.{◌≡◌, ◌<◌, ◌≤◌, ◌+◌, ℕ, suc, zero, nat_lt, Bool, true, false, cond, [], ◌∷◌, Option, Some, None, Result, Ok, Err, option_map, length, codes, refl, ap, ◌∙◌, sym, subst, arith, ⊎_elim, append-nil}
use Rattle.pli_base.specs.Name.{Name}
use Rattle.pli_base.specs.Words.{Tokens, name_first, rest_after, is_comma}
use Rattle.pli_base.specs.Results.{◌>>=◌}
use Rattle.pli_base.specs.Reading.{at_fault, misfit, taken}
use Rattle.pli_base.specs.FaultPlaces.{Passes}
use Rattle.pli_base.specs.Syntax.{Expression, Referred, Constant, Parenthesized, Prefix, Infix, Reference, Named, JoinedParts, Alone, Joined, Arguments, Absent, Given, Expressions, Empty, Listed}
use Rattle.pli_base.specs.declared.code.Code.TheVariants.{ExpressionExpected, ParenthesisExpected, NameExpected, NestedTooDeep}
use Rattle.pli_base.specs.declared.syntax.ConstantValue.{ConstantValue}
use Rattle.pli_base.specs.declared.syntax.ConstantValue.TheVariants as constants
use Rattle.pli_base.specs.declared.syntax.PrefixOperator.{PrefixOperator}
use Rattle.pli_base.specs.declared.syntax.PrefixOperator.TheVariants as prefixes
use Rattle.pli_base.specs.declared.syntax.InfixOperator.{InfixOperator}
use Rattle.pli_base.specs.declared.syntax.Joining.{Joining}
use Rattle.pli_base.specs.declared.token.Fault.{Fault}
use Rattle.pli_base.specs.declared.token.Sign.TheVariants as signs
use Rattle.pli_base.specs.declared.token.TokenText.{TokenText}
use Rattle.pli_base.specs.declared.token.TokenText.TheVariants.{Word, Decimal, Binary, Characters, Bits, Sign}
use Rattle.pli_parse_fault.specs.FirstFaults.{IsFirstFault}
use Rattle.pli_parse_fault.proofs.OnePlace.{one_place}
use Rattle.pli_parse_fault.proofs.ReadingStops.{Reads, SameFirst, Completes, Stops, EndsAfter, meets_again, after_token, rebound, misfit_stops, fault_stops, token_stops, nothing_stops, first_decides, stops_made, stops_then, is_first, whole_spells}
use Rattle.pli_parse_expression.specs.Operators.{operator_limit, level_of, prefix_sign, infix_sign, joining_sign, infix_of, not_below, operator_at, joining_at, begins_expression}
use Rattle.pli_parse_expression.specs.Expressions.{operators, EndsExpression, SpellsOutermost, SpellsReferenceAlone}
use Rattle.pli_base.specs.Reading.{Front}
use Rattle.pli_parse_expression.specs.declared.counted.Counted.{Counted}
use Rattle.pli_parse_expression.specs.Reading.{counted, Reader, limited, opened, closed, operand_then, grouped, infix_from, expression_of, listed_after, further_from, listed_at, list_at, arguments_at, part_after, parts_after, joined_from, reference_after, reference_of, prefix_of, parenthesis_of, constant_at, operand_of, inside, operand_at, expression_at, argument_of, reference_at}
use Rattle.pli_parse_expression.specs.Ends.{NoneGoesOn, NoInfix, goes_on_after}
use Rattle.pli_parse_expression.proofs.EndTools.{NotOpen, not_joined}
use Rattle.pli_parse_expression.proofs.ReadingTools.{operator_ok, joining_ok, name_ok, comma_ok}
use Rattle.pli_parse_fault.proofs.ReadingFaults.{Stands, stands_then}
use Rattle.pli_parse_expression.proofs.ReadFaults.{IsSound, IsSoundWhere, loop_stands, operand_stands, inside_sound, mapped_sound, arguments_sound, arguments_stand, closed_stands, listed_stands}
use Rattle.pli_parse_expression.proofs.ReadIsSpelled.{expression_spelled, reference_spelled}
use Rattle.pli_parse_expression.proofs.SpelledIsRead.{infix_is_none, infix_ends, operator_there, no_arguments, joining_there, prefix_there, expression_ends_read, reference_ends_read}

abbrev fronts : {A : Type 0} → Reads (Front (Counted A))
fronts {A = A} =
    record {
      next = λ x. x.next;
      rest = λ x. x.rest;
      put = λ x us. record { value = record { tree = x.value.tree; count = x.value.count }; next = x.next; rest = us };
    }

-- any tokens
abbrev Any : Tokens → Type 0
Any ts = Unit {0}

-- `)` stands first
abbrev Closes : Tokens → Type 0
Closes (Sign signs.CloseParenthesis ∷ ts) = Unit {0}
Closes ts = ⊥

ends_infix : (ts : Tokens) → EndsExpression ts → NoInfix ts
ends_infix [] h = tt
ends_infix (t ∷ ts) h = h.1

ends_parts : (ts : Tokens) → EndsExpression ts → NoneGoesOn (goes_on_after Absent) ts
ends_parts [] h = tt
ends_parts (t ∷ ts) h = h.0

ends_open : (ts : Tokens) → EndsExpression ts → NotOpen ts
ends_open [] h = tt
ends_open (Sign signs.OpenParenthesis ∷ ts) h = cc
ends_open (t ∷ ts) h = tt

closes_ends : (ts : Tokens) → Closes ts → EndsExpression ts
closes_ends [] h = absurd h
closes_ends (Sign signs.CloseParenthesis ∷ ts) h = (refl, refl)
closes_ends (t ∷ ts) h = absurd h

closes_comma : (ts : Tokens) → Closes ts → rest_after is_comma ts ≡ None
unfolding rest_after
closes_comma [] h = absurd h
closes_comma (Sign signs.CloseParenthesis ∷ ts) h = refl
closes_comma (t ∷ ts) h = absurd h

-- what the first token decides
none_below : (min : ℕ) (o : Option InfixOperator) (ts us : Tokens) → not_below min o ts ≡ None → not_below min o us ≡ None
none_below min None ts us h = refl
none_below min (Some o) ts us h = by (nat_lt (level_of o) min) h
  where
    by : (b : Bool) → ◌≡◌ {A = Option (InfixOperator × Tokens)} (cond b None (Some (o, ts))) None
        → ◌≡◌ {A = Option (InfixOperator × Tokens)} (cond b None (Some (o, us))) None
    by true h = refl
    by false h = cc

same_operator : (min : ℕ) (ts us : Tokens) → operator_at min ts ≡ None → SameFirst ts us → operator_at min us ≡ None
unfolding operator_at
same_operator min [] us h same = absurd same
same_operator min (t ∷ ts) us h same =
    meets_again (operator_at min) t ts us None (λ vs. none_below min (infix_of t) ts vs h) same

same_after : (fits : TokenText → Bool) (ts us : Tokens) → rest_after fits ts ≡ None → SameFirst ts us → rest_after fits us ≡ None
unfolding rest_after
same_after fits [] us h same = absurd same
same_after fits (t ∷ ts) us h same = meets_again (rest_after fits) t ts us None (λ vs. by (fits t) vs h) same
  where
    by : (b : Bool) (vs : Tokens) → ◌≡◌ {A = Option Tokens} (cond b (Some ts) None) None → ◌≡◌ {A = Option Tokens} (cond b (Some vs) None) None
    by true vs h = cc
    by false vs h = refl

same_joining : (ts us : Tokens) → joining_at ts ≡ None → SameFirst ts us → joining_at us ≡ None
unfolding joining_at
same_joining [] us h same = absurd same
same_joining (Sign signs.Period ∷ ts) us h same = cc
same_joining (Sign signs.Arrow ∷ ts) us h same = cc
same_joining (t ∷ ts) us h same = meets_again joining_at t ts us None (λ vs. refl) same

same_name : (ts us : Tokens) → name_first ts ≡ None → SameFirst ts us → name_first us ≡ None
unfolding name_first
same_name [] us h same = absurd same
same_name (Word n ∷ ts) us h same = cc
same_name (t ∷ ts) us h same = meets_again name_first t ts us None (λ vs. refl) same

same_open : (ts us : Tokens) → NotOpen ts → SameFirst ts us → NotOpen us
same_open [] us h same = absurd same
same_open (Sign signs.OpenParenthesis ∷ ts) us h same = absurd h
same_open (t ∷ ts) [] h same = absurd same
same_open (t ∷ ts) (u ∷ us) h same = subst (λ v. NotOpen (v ∷ us)) same tt

same_begin : (ts us : Tokens) → SameFirst ts us → begins_expression us ≡ begins_expression ts
unfolding begins_expression
same_begin [] us same = absurd same
same_begin (Sign signs.OpenParenthesis ∷ ts) us same = meets_again begins_expression (Sign signs.OpenParenthesis) ts us true (λ vs. refl) same
same_begin (Sign signs.Plus ∷ ts) us same = meets_again begins_expression (Sign signs.Plus) ts us true (λ vs. refl) same
same_begin (Sign signs.Minus ∷ ts) us same = meets_again begins_expression (Sign signs.Minus) ts us true (λ vs. refl) same
same_begin (Sign signs.Not ∷ ts) us same = meets_again begins_expression (Sign signs.Not) ts us true (λ vs. refl) same
same_begin (t ∷ ts) us same = meets_again begins_expression t ts us (begins_expression (t ∷ ts)) (λ vs. refl) same

-- what was passed over
passes_of : {A : Type 0} (least p : ℕ) (ts : Tokens) (r : Result (Front (Counted A)) Fault) (x : Front (Counted A)) → Stands least p ts r → r ≡ Ok x → Passes least p ts x.next x.rest
passes_of least p ts r x h e = subst (Stands least p ts) e h

-- a reader stops at a token that cannot stand
abbrev pub IsStopping : Reader → Type 0
IsStopping reader = (count p : ℕ) (ts : Tokens) → Stops fronts (λ b us. reader count p us) Any EndsExpression p ts (reader count p ts)

closed_stops : {A : Type 0} (First Last : Tokens → Type 0) → ((us : Tokens) → First (Sign signs.CloseParenthesis ∷ us)) → (value : A) (count p : ℕ) (ts : Tokens)
    → Stops fronts (λ b us. closed value count p us) First Last p ts (closed value count p ts)
unfolding taken rest_after misfit
closed_stops {A = A} First Last first value count p ts = by ts
  where
    end : Completes {X = Front (Counted A)} fronts (λ b us. closed value count p us) First Last []
    end = (
      Sign signs.CloseParenthesis ∷ [],
      (λ us last. (record { value = record { tree = value; count = count }; next = p + 1; rest = us }, λ b small. refl)),
      (λ none us last. first us),
    )

    by : (ts : Tokens) → Stops fronts (λ b us. closed value count p us) First Last p ts (closed value count p ts)
    by [] = misfit_stops fronts (λ b us. closed value count p us) First Last ParenthesisExpected p [] (λ us same. absurd same) end
    by (Sign signs.CloseParenthesis ∷ ts) = token_stops fronts (λ b us. closed value count p us) First Last p (Sign signs.CloseParenthesis) (record { value = record { tree = value; count = count }; next = p + 1; rest = ts }) refl (λ us b small. refl)
    by (t ∷ ts) = fault_stops fronts (λ b us. closed value count p us) First Last (record { code = ParenthesisExpected; at = p }) t ts (λ us b small. refl) end

module _ (operand : Reader) (stops : IsStopping operand) (sound : IsSound operand) where
  abbrev LoopStops : ℕ → Type 0
  LoopStops bound = (min count : ℕ) (left : Expression) (p : ℕ) (ts : Tokens) → length ts < bound
      → Stops fronts (λ b us. infix_from operand b min count left p us) EndsExpression EndsExpression p ts (infix_from operand bound min count left p ts)

  -- a loop ends before what continues no expression
  loop_ends : (min : ℕ) (made : Front (Counted Expression) → Expression) → EndsAfter fronts fronts (λ b z. infix_from operand b min z.value.count (made z) z.next z.rest) EndsExpression EndsExpression
  loop_ends min made = (
    [],
    (λ us last. last),
    (λ z us last.
        let w : Front (Counted Expression) = record { value = record { tree = z.value.tree; count = z.value.count }; next = z.next; rest = us } in (
          record { value = record { tree = made w; count = z.value.count }; next = z.next; rest = us },
          λ b small. infix_ends operand b min z.value.count (made w) z.next us small (infix_is_none min us (ends_infix us last)),
        )),
  )

  -- an infix operator after too many
  limit_stops : (min count : ℕ) (left : Expression) (p : ℕ) (o : InfixOperator) → min ≤ level_of o → nat_lt count operator_limit ≡ false → (us : Tokens) (b : ℕ) → length (Sign (infix_sign o) ∷ us) < b
      → infix_from operand b min count left p (Sign (infix_sign o) ∷ us) ≡ at_fault NestedTooDeep p
  unfolding infix_from
  limit_stops min count left p o high many us zero small = absurd (omega (arith, small))
  limit_stops min count left p o high many us (suc b) small =
      ap (grouped operand (infix_from operand b) min count left p (Sign (infix_sign o) ∷ us)) (operator_there min o us high)
      ∙ ap (λ q. cond q (operand_then operand (infix_from operand b) (level_of o + 1) (count + 1) (p + 1) us >>= λ y. infix_from operand b min y.value.count (Infix o p left y.value.tree) y.next y.rest) (at_fault NestedTooDeep p)) many

  -- after an infix operator
  operator_after : (min count : ℕ) (left : Expression) (p : ℕ) (o : InfixOperator) → min ≤ level_of o → nat_lt count operator_limit ≡ true → (b : ℕ) (us : Tokens) → length (Sign (infix_sign o) ∷ us) < b
      → (c : ℕ) × (length us < c) × (infix_from operand b min count left p (Sign (infix_sign o) ∷ us)
      ≡ (operand_then operand (infix_from operand c) (level_of o + 1) (count + 1) (p + 1) us >>= λ y. infix_from operand c min y.value.count (Infix o p left y.value.tree) y.next y.rest))
  unfolding infix_from
  operator_after min count left p o high few zero us small = absurd (omega (arith, small))
  operator_after min count left p o high few (suc b) us small = (
    b,
    omega (arith, small),
    ap (grouped operand (infix_from operand b) min count left p (Sign (infix_sign o) ∷ us)) (operator_there min o us high)
        ∙ ap (λ q. cond q (operand_then operand (infix_from operand b) (level_of o + 1) (count + 1) (p + 1) us >>= λ y. infix_from operand b min y.value.count (Infix o p left y.value.tree) y.next y.rest) (at_fault NestedTooDeep p)) few,
  )

  right_stops : (bound : ℕ) → LoopStops bound → (min count : ℕ) (left : Expression) (p : ℕ) (o : InfixOperator) (ts : Tokens) → length ts < bound
      → Stops fronts (λ b us. operand_then operand (infix_from operand b) (level_of o + 1) (count + 1) (p + 1) us >>= λ y. infix_from operand b min y.value.count (Infix o p left y.value.tree) y.next y.rest) Any EndsExpression (p + 1) ts
      (operand_then operand (infix_from operand bound) (level_of o + 1) (count + 1) (p + 1) ts >>= λ y. infix_from operand bound min y.value.count (Infix o p left y.value.tree) y.next y.rest)
  right_stops bound more min count left p o ts small =
      let top : ℕ = level_of o + 1 in
      let first : Result (Front (Counted Expression)) Fault = operand (count + 1) (p + 1) ts in
      let right : Result (Front (Counted Expression)) Fault = operand_then operand (infix_from operand bound) top (count + 1) (p + 1) ts in
      let passes : Stands 1 (p + 1) ts right =
      stands_then 1 0 (p + 1) ts first (λ z. infix_from operand bound top z.value.count z.value.tree z.next z.rest) (sound (count + 1) (p + 1) ts)
      (λ z s. loop_stands operand sound bound top z.value.count z.value.tree z.next z.rest (omega (arith, s.0, s.1, small)))
      in
      let right_stops : Stops fronts (λ b us. operand_then operand (infix_from operand b) top (count + 1) (p + 1) us) Any EndsExpression (p + 1) ts right =
      stops_then fronts fronts (λ b us. operand (count + 1) (p + 1) us) (λ b z. infix_from operand b top z.value.count z.value.tree z.next z.rest) (λ b us. operand_then operand (infix_from operand b) top (count + 1) (p + 1) us)
      Any EndsExpression EndsExpression (p + 1) ts (λ b us less. (b, less, refl)) (loop_ends top (λ z. z.value.tree)) first (λ z. infix_from operand bound top z.value.count z.value.tree z.next z.rest) (stops (count + 1) (p + 1) ts)
      (λ z e. let s = passes_of 1 (p + 1) ts first z (sound (count + 1) (p + 1) ts) e in more top z.value.count z.value.tree z.next z.rest (omega (arith, s.0, s.1, small)))
      in
      stops_then fronts fronts (λ b us. operand_then operand (infix_from operand b) top (count + 1) (p + 1) us) (λ b y. infix_from operand b min y.value.count (Infix o p left y.value.tree) y.next y.rest)
      (λ b us. operand_then operand (infix_from operand b) top (count + 1) (p + 1) us >>= λ y. infix_from operand b min y.value.count (Infix o p left y.value.tree) y.next y.rest)
      Any EndsExpression EndsExpression (p + 1) ts (λ b us less. (b, less, refl)) (loop_ends min (λ y. Infix o p left y.value.tree)) right (λ y. infix_from operand bound min y.value.count (Infix o p left y.value.tree) y.next y.rest) right_stops
      (λ y e. let s = passes_of 1 (p + 1) ts right y passes e in more min y.value.count (Infix o p left y.value.tree) y.next y.rest (omega (arith, s.0, s.1, small)))

  step_stops : (bound : ℕ) → LoopStops bound → (min count : ℕ) (left : Expression) (p : ℕ) (ts : Tokens) → length ts < suc bound → (o : Option (InfixOperator × Tokens)) → operator_at min ts ≡ o
      → Stops fronts (λ b us. infix_from operand b min count left p us) EndsExpression EndsExpression p ts (grouped operand (infix_from operand bound) min count left p ts o)
  step_stops bound more min count left p ts small None found =
      nothing_stops fronts (λ b us. infix_from operand b min count left p us) EndsExpression EndsExpression (λ us last. last) p (record { value = record { tree = left; count = count }; next = p; rest = ts }) refl
      (λ us goes b less. infix_ends operand b min count left p us less
      (⊎_elim (λ same. same_operator min ts us found same) (λ last. infix_is_none min us (ends_infix us last)) goes))
  step_stops bound more min count left p ts small (Some x) found =
      subst (λ us. Stops fronts (λ b us. infix_from operand b min count left p us) EndsExpression EndsExpression p us (limited count p read)) (sym shape.0) (by (nat_lt count operator_limit) refl)
    where
      shape : (ts ≡ Sign (infix_sign x.0) ∷ x.1) × (min ≤ level_of x.0)
      shape = operator_ok min ts x found

      less : length x.1 < bound
      less = omega (arith, small, ap length shape.0)

      read : Result (Front (Counted Expression)) Fault
      read = operand_then operand (infix_from operand bound) (level_of x.0 + 1) (count + 1) (p + 1) x.1 >>= λ y. infix_from operand bound min y.value.count (Infix x.0 p left y.value.tree) y.next y.rest

      by : (b : Bool) → nat_lt count operator_limit ≡ b
          → Stops fronts (λ b us. infix_from operand b min count left p us) EndsExpression EndsExpression p (Sign (infix_sign x.0) ∷ x.1) (cond b read (at_fault NestedTooDeep p))
      by true few =
          after_token fronts (Sign (infix_sign x.0)) (λ b us. operand_then operand (infix_from operand b) (level_of x.0 + 1) (count + 1) (p + 1) us >>= λ y. infix_from operand b min y.value.count (Infix x.0 p left y.value.tree) y.next y.rest)
          (λ b us. infix_from operand b min count left p us) Any EndsExpression EndsExpression p x.1 read (operator_after min count left p x.0 shape.1 few) (right_stops bound more min count left p x.0 x.1 less)
      by false many =
          fault_stops fronts (λ b us. infix_from operand b min count left p us) EndsExpression EndsExpression (record { code = NestedTooDeep; at = p }) (Sign (infix_sign x.0)) x.1 (λ us b less. limit_stops min count left p x.0 shape.1 many us b less)
          ([], (λ us last. (record { value = record { tree = left; count = count }; next = p; rest = us }, λ b less. infix_ends operand b min count left p us less (infix_is_none min us (ends_infix us last)))), (λ none us last. last))

  loop_stops : (bound : ℕ) → LoopStops bound
  unfolding infix_from
  loop_stops zero min count left p ts small = absurd (omega (arith, small))
  loop_stops (suc bound) min count left p ts small = step_stops bound (loop_stops bound) min count left p ts small (operator_at min ts) refl

  pub expression_stops : IsStopping (expression_of operand)
  unfolding expression_of
  expression_stops count p ts =
      stops_then fronts fronts (λ b us. operand count p us) (λ b z. infix_from operand b 0 z.value.count z.value.tree z.next z.rest) (λ b us. expression_of operand count p us)
      Any EndsExpression EndsExpression p ts (λ b us less. (length us + 1, omega arith, refl)) (loop_ends 0 (λ z. z.value.tree)) (operand count p ts) (λ z. infix_from operand (length ts + 1) 0 z.value.count z.value.tree z.next z.rest) (stops count p ts)
      (λ z e. let s = passes_of 1 p ts (operand count p ts) z (sound count p ts) e in loop_stops (length ts + 1) 0 z.value.count z.value.tree z.next z.rest (omega (arith, s.0, s.1)))

-- a list ends before what does not begin with a comma
further_ends : (one : Reader) (b count p : ℕ) (us : Tokens) → length us < b → rest_after is_comma us ≡ None → further_from one b count p us ≡ counted Empty count p us
unfolding further_from
further_ends one zero count p us small none = absurd (omega (arith, small))
further_ends one (suc b) count p us small none = ap (listed_after one (further_from one b) count p us) none

module _ (one : Reader) (stops : IsStopping one) (sound : IsSound one) where
  abbrev FurtherStops : ℕ → Type 0
  FurtherStops bound = (count p : ℕ) (ts : Tokens) → length ts < bound → Stops fronts (λ b us. further_from one b count p us) EndsExpression Closes p ts (further_from one bound count p ts)

  -- one expression more, after a comma
  comma_after : (count p b : ℕ) (us : Tokens) → length (Sign signs.Comma ∷ us) < b
      → (c : ℕ) × (length us < c) × (further_from one b count p (Sign signs.Comma ∷ us) ≡ listed_after one (further_from one c) count p us (Some us))
  unfolding further_from rest_after
  comma_after count p zero us small = absurd (omega (arith, small))
  comma_after count p (suc b) us small = (b, omega (arith, small), refl)

  further_step : (bound : ℕ) → FurtherStops bound → (count p : ℕ) (ts : Tokens) → length ts < suc bound → (o : Option Tokens) → rest_after is_comma ts ≡ o
      → Stops fronts (λ b us. further_from one b count p us) EndsExpression Closes p ts (listed_after one (further_from one bound) count p ts o)
  further_step bound more count p ts small None found =
      nothing_stops fronts (λ b us. further_from one b count p us) EndsExpression Closes closes_ends p (record { value = record { tree = Empty; count = count }; next = p; rest = ts }) refl
      (λ us goes b less. further_ends one b count p us less (⊎_elim (λ same. same_after is_comma ts us found same) (λ last. closes_comma us last) goes))
  further_step bound more count p ts small (Some vs) found =
      let comma : ts ≡ Sign signs.Comma ∷ vs = comma_ok ts vs found in
      let less : length vs < bound = omega (arith, small, ap length comma) in
      let after_one : Stops fronts (λ b us. listed_after one (further_from one b) count p us (Some us)) Any Closes (p + 1) vs (listed_after one (further_from one bound) count p vs (Some vs)) =
      stops_then fronts fronts (λ b us. one count (p + 1) us)
      (λ b x. further_from one b x.value.count x.next x.rest >>= λ y. counted (Listed x.value.tree y.value.tree) y.value.count y.next y.rest)
      (λ b us. listed_after one (further_from one b) count p us (Some us)) Any EndsExpression Closes (p + 1) vs (λ b us less. (b, less, refl)) (
        [],
        closes_ends,
        (λ x us last. (
          record { value = record { tree = Listed x.value.tree Empty; count = x.value.count }; next = x.next; rest = us },
          λ b less. ap (λ r. r >>= λ y. counted (Listed x.value.tree y.value.tree) y.value.count y.next y.rest) (further_ends one b x.value.count x.next us less (closes_comma us last)),
        )),
      )
      (one count (p + 1) vs) (λ x. further_from one bound x.value.count x.next x.rest >>= λ y. counted (Listed x.value.tree y.value.tree) y.value.count y.next y.rest) (stops count (p + 1) vs)
      (λ x e.
      let s = passes_of 1 (p + 1) vs (one count (p + 1) vs) x (sound count (p + 1) vs) e in
      stops_made fronts fronts (λ b us. further_from one b x.value.count x.next us) (λ y. record { value = record { tree = Listed x.value.tree y.value.tree; count = y.value.count }; next = y.next; rest = y.rest }) EndsExpression Closes x.next x.rest (further_from one bound x.value.count x.next x.rest)
      (λ y. refl) (λ y. refl) (λ y us. refl) (more x.value.count x.next x.rest (omega (arith, s.0, s.1, less))))
      in
      subst (λ us. Stops fronts (λ b us. further_from one b count p us) EndsExpression Closes p us (listed_after one (further_from one bound) count p vs (Some vs))) (sym comma)
      (after_token fronts (Sign signs.Comma) (λ b us. listed_after one (further_from one b) count p us (Some us)) (λ b us. further_from one b count p us) Any EndsExpression Closes p vs
      (listed_after one (further_from one bound) count p vs (Some vs)) (comma_after count p) after_one)

  further_stops : (bound : ℕ) → FurtherStops bound
  unfolding further_from
  further_stops zero count p ts small = absurd (omega (arith, small))
  further_stops (suc bound) count p ts small = further_step bound (further_stops bound) count p ts small (rest_after is_comma ts) refl

  listed_stops : (Last : Tokens → Type 0) (count p : ℕ) (ts : Tokens) → Stops fronts (λ b us. listed_at one count p us) Any Last p ts (listed_at one count p ts)
  unfolding listed_at taken rest_after
  listed_stops Last count p ts =
      stops_then fronts fronts (λ b us. one count p us) (λ b x. further_from one (length x.rest + 1) x.value.count x.next x.rest >>= λ y. closed (Listed x.value.tree y.value.tree) y.value.count y.next y.rest) (λ b us. listed_at one count p us)
      Any EndsExpression Last p ts (λ b us less. (b, less, refl)) (
        Sign signs.CloseParenthesis ∷ [],
        (λ us last. (refl, refl)),
        (λ x us last. (
          record { value = record { tree = Listed x.value.tree Empty; count = x.value.count }; next = x.next + 1; rest = us },
          λ b less. ap (λ r. r >>= λ y. closed (Listed x.value.tree y.value.tree) y.value.count y.next y.rest)
              (further_ends one (length (Sign signs.CloseParenthesis ∷ us) + 1) x.value.count x.next (Sign signs.CloseParenthesis ∷ us) (omega arith) refl),
        )),
      )
      (one count p ts) (λ x. further_from one (length x.rest + 1) x.value.count x.next x.rest >>= λ y. closed (Listed x.value.tree y.value.tree) y.value.count y.next y.rest) (stops count p ts)
      (λ x e.
      stops_then fronts fronts (λ b us. further_from one (length us + 1) x.value.count x.next us) (λ b y. closed (Listed x.value.tree y.value.tree) y.value.count y.next y.rest)
      (λ b us. further_from one (length us + 1) x.value.count x.next us >>= λ y. closed (Listed x.value.tree y.value.tree) y.value.count y.next y.rest) EndsExpression Closes Last x.next x.rest (λ b us less. (b, less, refl)) (
        Sign signs.CloseParenthesis ∷ [],
        (λ us last. tt),
        (λ y us last. (record { value = record { tree = Listed x.value.tree y.value.tree; count = y.value.count }; next = y.next + 1; rest = us }, λ b less. refl)),
      )
      (further_from one (length x.rest + 1) x.value.count x.next x.rest) (λ y. closed (Listed x.value.tree y.value.tree) y.value.count y.next y.rest)
      (rebound fronts (λ b us. further_from one b x.value.count x.next us) (λ b us. further_from one (length us + 1) x.value.count x.next us) EndsExpression Closes x.next x.rest (further_from one (length x.rest + 1) x.value.count x.next x.rest)
      (λ b us less. (length us + 1, omega arith, refl)) (further_stops (length x.rest + 1) x.value.count x.next x.rest (omega arith)))
      (λ y g. closed_stops Closes Last (λ us. tt) (Listed x.value.tree y.value.tree) y.value.count y.next y.rest))

  -- `)` alone
  list_completes : (Last : Tokens → Type 0) (count p : ℕ) → Completes {X = Front (Counted Expressions)} fronts (λ b us. list_at one count p us) Any Last []
  unfolding list_at begins_expression taken rest_after
  list_completes Last count p = (
    Sign signs.CloseParenthesis ∷ [],
    (λ us last. (record { value = record { tree = Empty; count = count }; next = p + 1; rest = us }, λ b less. refl)),
    (λ none us last. tt),
  )

  list_here : (count p : ℕ) (us : Tokens) (b : Bool) → begins_expression us ≡ b → list_at one count p us ≡ cond b (listed_at one count p us) (closed Empty count p us)
  unfolding list_at
  list_here count p us b e = ap (λ c. cond c (listed_at one count p us) (closed Empty count p us)) e

  list_stops : (Last : Tokens → Type 0) (count p : ℕ) (ts : Tokens) → Stops fronts (λ b us. list_at one count p us) Any Last p ts (list_at one count p ts)
  list_stops Last count p ts = subst (Stops fronts (λ b us. list_at one count p us) Any Last p ts) (sym (list_here count p ts (begins_expression ts) refl)) (by (begins_expression ts) refl)
    where
      passes : (r : Result (Front (Counted Expressions)) Fault) → Stands 1 p ts r → (x : Front (Counted Expressions)) → r ≡ Ok x → p < x.next
      passes r s x e = let less = passes_of 1 p ts r x s e in omega (arith, less.0)

      by : (c : Bool) → begins_expression ts ≡ c → Stops fronts (λ b us. list_at one count p us) Any Last p ts (cond c (listed_at one count p ts) (closed Empty count p ts))
      by true begins =
          first_decides fronts (λ b us. listed_at one count p us) (λ b us. list_at one count p us) Any Last p ts (listed_at one count p ts)
          (λ us same b. list_here count p us true (same_begin ts us same ∙ begins)) (passes (listed_at one count p ts) (listed_stands one sound count p ts)) (list_completes Last count p) (listed_stops Last count p ts)
      by false begins =
          first_decides fronts (λ b us. closed Empty count p us) (λ b us. list_at one count p us) Any Last p ts (closed Empty count p ts)
          (λ us same b. list_here count p us false (same_begin ts us same ∙ begins)) (passes (closed Empty count p ts) (closed_stands Empty count p ts)) (list_completes Last count p) (closed_stops Any Last (λ us. tt) Empty count p ts)

-- what reads the expressions of a list stops, if there is such
abbrev StopsWhere : Option Reader → Type 0
StopsWhere None = Unit {0}
StopsWhere (Some one) = IsStopping one

abbrev ArgumentsStop : (one : Option Reader) (count p : ℕ) (ts : Tokens) → Result (Front (Counted Arguments)) Fault → Type 0
ArgumentsStop one count p ts r = Stops fronts (λ b us. arguments_at one count p us) EndsExpression EndsExpression p ts r

opened_stop : (one : Option Reader) → StopsWhere one → IsSoundWhere one → (count p : ℕ) (ts : Tokens)
    → ArgumentsStop one count p (Sign signs.OpenParenthesis ∷ ts) (opened one p (λ one. list_at one count (p + 1) ts >>= λ x. counted (Given x.value.tree) x.value.count x.next x.rest))
unfolding arguments_at
opened_stop None stops sound count p ts =
    fault_stops fronts (λ b us. arguments_at None count p us) EndsExpression EndsExpression (record { code = NestedTooDeep; at = p }) (Sign signs.OpenParenthesis) ts (λ us b less. refl)
    ([], (λ us last. (record { value = record { tree = Absent; count = count }; next = p; rest = us }, λ b less. no_arguments None count p us (ends_open us last))), (λ none us last. last))
opened_stop (Some one) stops sound count p ts =
    after_token fronts (Sign signs.OpenParenthesis) (λ b us. list_at one count (p + 1) us >>= λ x. counted (Given x.value.tree) x.value.count x.next x.rest) (λ b us. arguments_at (Some one) count p us)
    Any EndsExpression EndsExpression p ts (list_at one count (p + 1) ts >>= λ x. counted (Given x.value.tree) x.value.count x.next x.rest) (λ b us less. (length us + 1, omega arith, refl))
    (stops_made fronts fronts (λ b us. list_at one count (p + 1) us) (λ x. record { value = record { tree = Given x.value.tree; count = x.value.count }; next = x.next; rest = x.rest }) Any EndsExpression (p + 1) ts (list_at one count (p + 1) ts)
    (λ x. refl) (λ x. refl) (λ x us. refl) (list_stops one stops sound EndsExpression count (p + 1) ts))

absent_stop : (one : Option Reader) (count p : ℕ) (ts : Tokens) → NotOpen ts → ArgumentsStop one count p ts (counted Absent count p ts)
absent_stop one count p ts none =
    nothing_stops fronts (λ b us. arguments_at one count p us) EndsExpression EndsExpression (λ us last. last) p (record { value = record { tree = Absent; count = count }; next = p; rest = ts }) refl
    (λ us goes b less. no_arguments one count p us (⊎_elim (λ same. same_open ts us none same) (λ last. ends_open us last) goes))

arguments_stop : (one : Option Reader) → StopsWhere one → IsSoundWhere one → (count p : ℕ) (ts : Tokens) → ArgumentsStop one count p ts (arguments_at one count p ts)
unfolding arguments_at
arguments_stop one stops sound count p [] = absent_stop one count p [] tt
arguments_stop one stops sound count p (Sign signs.OpenParenthesis ∷ ts) = opened_stop one stops sound count p ts
arguments_stop one stops sound count p (t ∷ ts) = absent_stop one count p (t ∷ ts) tt

-- parts end before what joins none
joined_ends : (one : Option Reader) (b count p : ℕ) (us : Tokens) → length us < b → joining_at us ≡ None → joined_from one b count p us ≡ counted Alone count p us
unfolding joined_from
joined_ends one zero count p us small none = absurd (omega (arith, small))
joined_ends one (suc b) count p us small none = ap (parts_after one (joined_from one b) count p us) none

ends_joining : (ts : Tokens) → EndsExpression ts → joining_at ts ≡ None
ends_joining ts h = not_joined Absent ts (ends_parts ts h)

-- a name that may stand where one must
abbrev a_name : TokenText
a_name = Word (codes "A")

-- a bound for the parts after arguments
abbrev IsBound : (ℕ → Tokens → ℕ) → Type 0
IsBound size = (b : ℕ) (us : Tokens) → length us < b → length us < size b us

-- the arguments after a name, and further parts
abbrev after_name : {A : Type 0} (one : Option Reader) (size : ℕ → Tokens → ℕ) (make : Arguments → JoinedParts → A) (count p b : ℕ) → Tokens → Result (Front (Counted A)) Fault
after_name one size make count p b us =
    arguments_at one count p us >>= λ x. joined_from one (size b x.rest) x.value.count x.next x.rest >>= λ y. counted (make x.value.tree y.value.tree) y.value.count y.next y.rest

-- the part without arguments, where nothing goes on
name_alone : {A : Type 0} (one : Option Reader) (size : ℕ → Tokens → ℕ) → IsBound size → (make : Arguments → JoinedParts → A) (count p b : ℕ) (us : Tokens) → length us < b → EndsExpression us
    → after_name one size make count p b us ≡ counted (make Absent Alone) count p us
name_alone one size bounds make count p b us less last =
    ap (λ r. r >>= λ x. joined_from one (size b x.rest) x.value.count x.next x.rest >>= λ y. counted (make x.value.tree y.value.tree) y.value.count y.next y.rest) (no_arguments one count p us (ends_open us last))
    ∙ ap (λ r. r >>= λ y. counted (make Absent y.value.tree) y.value.count y.next y.rest) (joined_ends one (size b us) count p us (bounds b us less) (ends_joining us last))

module _ (one : Option Reader) (stops : StopsWhere one) (sound : IsSoundWhere one) where
  abbrev PartsStop : ℕ → Type 0
  PartsStop bound = (count p : ℕ) (ts : Tokens) → length ts < bound → Stops fronts (λ b us. joined_from one b count p us) EndsExpression EndsExpression p ts (joined_from one bound count p ts)

  named_stops : {A : Type 0} (make : Arguments → JoinedParts → A) (size : ℕ → Tokens → ℕ) → IsBound size → (bound : ℕ) (count p : ℕ) (ts : Tokens)
      → ((us : Tokens) → length us ≤ length ts → PartsStop (size bound us)) → length ts < bound
      → Stops fronts (λ b us. after_name one size make count p b us) EndsExpression EndsExpression p ts (after_name one size make count p bound ts)
  named_stops make size bounds bound count p ts more small =
      stops_then fronts fronts (λ b us. arguments_at one count p us) (λ b x. joined_from one (size b x.rest) x.value.count x.next x.rest >>= λ y. counted (make x.value.tree y.value.tree) y.value.count y.next y.rest)
      (λ b us. after_name one size make count p b us) EndsExpression EndsExpression EndsExpression p ts (λ b us less. (b, less, refl)) (
        [],
        (λ us last. last),
        (λ x us last. (
          record { value = record { tree = make x.value.tree Alone; count = x.value.count }; next = x.next; rest = us },
          λ b less. ap (λ r. r >>= λ y. counted (make x.value.tree y.value.tree) y.value.count y.next y.rest) (joined_ends one (size b us) x.value.count x.next us (bounds b us less) (ends_joining us last)),
        )),
      )
      (arguments_at one count p ts) (λ x. joined_from one (size bound x.rest) x.value.count x.next x.rest >>= λ y. counted (make x.value.tree y.value.tree) y.value.count y.next y.rest) (arguments_stop one stops sound count p ts)
      (λ x e.
      let s = passes_of 0 p ts (arguments_at one count p ts) x (arguments_stand one sound count p ts) e in
      let few : length x.rest ≤ length ts = omega (arith, s.0, s.1) in
      stops_made fronts fronts (λ b us. joined_from one (size b us) x.value.count x.next us) (λ y. record { value = record { tree = make x.value.tree y.value.tree; count = y.value.count }; next = y.next; rest = y.rest }) EndsExpression EndsExpression x.next x.rest (joined_from one (size bound x.rest) x.value.count x.next x.rest)
      (λ y. refl) (λ y. refl) (λ y us. refl)
      (rebound fronts (λ b us. joined_from one b x.value.count x.next us) (λ b us. joined_from one (size b us) x.value.count x.next us) EndsExpression EndsExpression x.next x.rest (joined_from one (size bound x.rest) x.value.count x.next x.rest)
      (λ b us less. (size b us, bounds b us less, refl)) (more x.rest few x.value.count x.next x.rest (bounds bound x.rest (omega (arith, few, small))))))

  -- a name alone
  part_completes : (joining : Joining) (count p : ℕ) → Completes {X = Front (Counted JoinedParts)} fronts (λ b us. part_after one (joined_from one b) joining count p us (name_first us)) Any EndsExpression []
  unfolding name_first
  part_completes joining count p = (
    a_name ∷ [],
    (λ us last. (
      record { value = record { tree = Joined joining (record { name = codes "A"; at = p }) Absent Alone; count = count }; next = p + 1; rest = us },
      λ b less. name_alone one (λ b us. b) (λ b us small. small) (Joined joining (record { name = codes "A"; at = p })) count (p + 1) b us (omega (arith, less)) last,
    )),
    (λ none us last. tt),
  )

  part_stops : (bound : ℕ) → PartsStop bound → (joining : Joining) (count p : ℕ) (ts : Tokens) → length ts < bound → (o : Option (Name × Tokens)) → name_first ts ≡ o
      → Stops fronts (λ b us. part_after one (joined_from one b) joining count p us (name_first us)) Any EndsExpression p ts (part_after one (joined_from one bound) joining count p ts o)
  unfolding name_first
  part_stops bound more joining count p ts small None found =
      misfit_stops fronts (λ b us. part_after one (joined_from one b) joining count p us (name_first us)) Any EndsExpression NameExpected p ts
      (λ us same b less. ap (part_after one (joined_from one b) joining count p us) (same_name ts us found same)) (part_completes joining count p)
  part_stops bound more joining count p ts small (Some n) found =
      let name : ts ≡ Word n.0 ∷ n.1 = name_ok ts n found in
      let less : length n.1 < bound = omega (arith, small, ap length name) in
      let make : Arguments → JoinedParts → JoinedParts = λ a m. Joined joining (record { name = n.0; at = p }) a m in
      subst (λ us. Stops fronts (λ b us. part_after one (joined_from one b) joining count p us (name_first us)) Any EndsExpression p us (part_after one (joined_from one bound) joining count p ts (Some n))) (sym name)
      (after_token fronts (Word n.0) (λ b us. after_name one (λ b us. b) make count (p + 1) b us) (λ b us. part_after one (joined_from one b) joining count p us (name_first us)) EndsExpression Any EndsExpression p n.1
      (part_after one (joined_from one bound) joining count p ts (Some n)) (λ b us small. (b, omega (arith, small), refl))
      (named_stops make (λ b us. b) (λ b us small. small) bound count (p + 1) n.1 (λ us few. more) less))

  -- after the sign that joins a part
  sign_after : (j : Joining) (count p b : ℕ) (us : Tokens) → length (Sign (joining_sign j) ∷ us) < b
      → (c : ℕ) × (length us < c) × (joined_from one b count p (Sign (joining_sign j) ∷ us) ≡ part_after one (joined_from one c) j count (p + 1) us (name_first us))
  unfolding joined_from
  sign_after j count p zero us small = absurd (omega (arith, small))
  sign_after j count p (suc b) us small = (b, omega (arith, small), ap (parts_after one (joined_from one b) count p (Sign (joining_sign j) ∷ us)) (joining_there j us))

  parts_step : (bound : ℕ) → PartsStop bound → (count p : ℕ) (ts : Tokens) → length ts < suc bound → (o : Option (Joining × Tokens)) → joining_at ts ≡ o
      → Stops fronts (λ b us. joined_from one b count p us) EndsExpression EndsExpression p ts (parts_after one (joined_from one bound) count p ts o)
  parts_step bound more count p ts small None found =
      nothing_stops fronts (λ b us. joined_from one b count p us) EndsExpression EndsExpression (λ us last. last) p (record { value = record { tree = Alone; count = count }; next = p; rest = ts }) refl
      (λ us goes b less. joined_ends one b count p us less (⊎_elim (λ same. same_joining ts us found same) (λ last. ends_joining us last) goes))
  parts_step bound more count p ts small (Some j) found =
      let sign : ts ≡ Sign (joining_sign j.0) ∷ j.1 = joining_ok ts j found in
      let less : length j.1 < bound = omega (arith, small, ap length sign) in
      subst (λ us. Stops fronts (λ b us. joined_from one b count p us) EndsExpression EndsExpression p us (part_after one (joined_from one bound) j.0 count (p + 1) j.1 (name_first j.1))) (sym sign)
      (after_token fronts (Sign (joining_sign j.0)) (λ b us. part_after one (joined_from one b) j.0 count (p + 1) us (name_first us)) (λ b us. joined_from one b count p us) Any EndsExpression EndsExpression p j.1
      (part_after one (joined_from one bound) j.0 count (p + 1) j.1 (name_first j.1)) (sign_after j.0 count p) (part_stops bound more j.0 count (p + 1) j.1 less (name_first j.1) refl))

  parts_stop : (bound : ℕ) → PartsStop bound
  unfolding joined_from
  parts_stop zero count p ts small = absurd (omega (arith, small))
  parts_stop (suc bound) count p ts small = parts_step bound (parts_stop bound) count p ts small (joining_at ts) refl

  reference_step : (count p : ℕ) (ts : Tokens) (o : Option (Name × Tokens)) → name_first ts ≡ o → Stops fronts (λ b us. reference_of one count p us) Any EndsExpression p ts (reference_after one count p ts o)
  unfolding reference_of name_first
  reference_step count p ts None found =
      misfit_stops fronts (λ b us. reference_of one count p us) Any EndsExpression NameExpected p ts (λ us same b less. ap (reference_after one count p us) (same_name ts us found same)) (
        a_name ∷ [],
        (λ us last. (
          record { value = record { tree = Named (record { name = codes "A"; at = p }) Absent Alone; count = count }; next = p + 1; rest = us },
          λ b less. name_alone one (λ b us. length us + 1) (λ b us small. omega arith) (Named (record { name = codes "A"; at = p })) count (p + 1) b us (omega (arith, less)) last,
        )),
        (λ none us last. tt),
      )
  reference_step count p ts (Some n) found =
      let make : Arguments → JoinedParts → Reference = λ a m. Named (record { name = n.0; at = p }) a m in
      subst (λ us. Stops fronts (λ b us. reference_of one count p us) Any EndsExpression p us (reference_after one count p ts (Some n))) (sym (name_ok ts n found))
      (after_token fronts (Word n.0) (λ b us. after_name one (λ b us. length us + 1) make count (p + 1) b us) (λ b us. reference_of one count p us) EndsExpression Any EndsExpression p n.1
      (reference_after one count p ts (Some n)) (λ b us small. (length us + 1, omega arith, refl))
      (named_stops make (λ b us. length us + 1) (λ b us small. omega arith) (length n.1 + 1) count (p + 1) n.1 (λ us few. parts_stop (length us + 1)) (omega arith)))

  pub reference_stops : (count p : ℕ) (ts : Tokens) → Stops fronts (λ b us. reference_of one count p us) Any EndsExpression p ts (reference_of one count p ts)
  unfolding reference_of
  reference_stops count p ts = reference_step count p ts (name_first ts) refl

mapped_stops : (one : Option Reader) → StopsWhere one → IsSoundWhere one → StopsWhere (option_map expression_of one)
mapped_stops None stops sound = tt
mapped_stops (Some operand) stops sound = expression_stops operand stops sound

-- a constant alone
operand_completes : (one : Option Reader) (count p : ℕ) → Completes {X = Front (Counted Expression)} fronts (λ b us. operand_of one count p us) Any EndsExpression []
unfolding operand_of constant_at
operand_completes one count p = (
  Decimal 1 1 ∷ [],
  (λ us last. (record { value = record { tree = Constant p (constants.Decimal 1 1); count = count }; next = p + 1; rest = us }, λ b less. refl)),
  (λ none us last. tt),
)

abbrev OperandStops : (one : Option Reader) (count p : ℕ) (ts : Tokens) → Result (Front (Counted Expression)) Fault → Type 0
OperandStops one count p ts r = Stops fronts (λ b us. operand_of one count p us) Any EndsExpression p ts r

prefix_stops : (one : Option Reader) → StopsWhere one → (operator : PrefixOperator) (count p : ℕ) (ts : Tokens) → OperandStops one count p (Sign (prefix_sign operator) ∷ ts) (prefix_of one operator count p ts)
unfolding prefix_of
prefix_stops None stops operator count p ts = by (nat_lt count operator_limit) refl
  where
    deep : (b : Bool) (r : Result (Front (Counted Expression)) Fault) → r ≡ at_fault NestedTooDeep p → cond b r (at_fault NestedTooDeep p) ≡ at_fault NestedTooDeep p
    deep true r e = e
    deep false r e = refl

    by : (b : Bool) → nat_lt count operator_limit ≡ b → OperandStops None count p (Sign (prefix_sign operator) ∷ ts) (cond b (at_fault NestedTooDeep p) (at_fault NestedTooDeep p))
    by true few =
        fault_stops fronts (λ b us. operand_of None count p us) Any EndsExpression (record { code = NestedTooDeep; at = p }) (Sign (prefix_sign operator)) ts
        (λ us b less. prefix_there None operator count p us ∙ deep (nat_lt count operator_limit) (at_fault NestedTooDeep p) refl) (operand_completes None count p)
    by false many =
        fault_stops fronts (λ b us. operand_of None count p us) Any EndsExpression (record { code = NestedTooDeep; at = p }) (Sign (prefix_sign operator)) ts
        (λ us b less. prefix_there None operator count p us ∙ deep (nat_lt count operator_limit) (at_fault NestedTooDeep p) refl) (operand_completes None count p)
prefix_stops (Some operand) stops operator count p ts = by (nat_lt count operator_limit) refl
  where
    read : Tokens → Result (Front (Counted Expression)) Fault
    read us = operand (count + 1) (p + 1) us >>= λ x. counted (Prefix operator p x.value.tree) x.value.count x.next x.rest

    by : (b : Bool) → nat_lt count operator_limit ≡ b → OperandStops (Some operand) count p (Sign (prefix_sign operator) ∷ ts) (cond b (read ts) (at_fault NestedTooDeep p))
    by true few =
        after_token fronts (Sign (prefix_sign operator)) (λ b us. read us) (λ b us. operand_of (Some operand) count p us) Any Any EndsExpression p ts (read ts)
        (λ b us less. (length us + 1, omega arith, prefix_there (Some operand) operator count p us ∙ ap (λ c. cond c (read us) (at_fault NestedTooDeep p)) few))
        (stops_made fronts fronts (λ b us. operand (count + 1) (p + 1) us) (λ x. record { value = record { tree = Prefix operator p x.value.tree; count = x.value.count }; next = x.next; rest = x.rest }) Any EndsExpression (p + 1) ts (operand (count + 1) (p + 1) ts)
        (λ x. refl) (λ x. refl) (λ x us. refl) (stops (count + 1) (p + 1) ts))
    by false many =
        fault_stops fronts (λ b us. operand_of (Some operand) count p us) Any EndsExpression (record { code = NestedTooDeep; at = p }) (Sign (prefix_sign operator)) ts
        (λ us b less. prefix_there (Some operand) operator count p us ∙ ap (λ c. cond c (read us) (at_fault NestedTooDeep p)) many) (operand_completes (Some operand) count p)

parenthesis_stops : (one : Option Reader) → StopsWhere one → IsSoundWhere one → (count p : ℕ) (ts : Tokens) → OperandStops one count p (Sign signs.OpenParenthesis ∷ ts) (parenthesis_of one count p ts)
unfolding operand_of parenthesis_of taken rest_after
parenthesis_stops None stops sound count p ts =
    fault_stops fronts (λ b us. operand_of None count p us) Any EndsExpression (record { code = NestedTooDeep; at = p }) (Sign signs.OpenParenthesis) ts (λ us b less. refl) (operand_completes None count p)
parenthesis_stops (Some operand) stops sound count p ts =
    after_token fronts (Sign signs.OpenParenthesis) (λ b us. expression_of operand count (p + 1) us >>= λ x. closed (Parenthesized p x.value.tree) x.value.count x.next x.rest) (λ b us. operand_of (Some operand) count p us) Any Any EndsExpression p ts
    (expression_of operand count (p + 1) ts >>= λ x. closed (Parenthesized p x.value.tree) x.value.count x.next x.rest) (λ b us less. (length us + 1, omega arith, refl))
    (stops_then fronts fronts (λ b us. expression_of operand count (p + 1) us) (λ b x. closed (Parenthesized p x.value.tree) x.value.count x.next x.rest)
    (λ b us. expression_of operand count (p + 1) us >>= λ x. closed (Parenthesized p x.value.tree) x.value.count x.next x.rest) Any EndsExpression EndsExpression (p + 1) ts (λ b us less. (b, less, refl)) (
      Sign signs.CloseParenthesis ∷ [],
      (λ us last. (refl, refl)),
      (λ x us last. (record { value = record { tree = Parenthesized p x.value.tree; count = x.value.count }; next = x.next + 1; rest = us }, λ b less. refl)),
    )
    (expression_of operand count (p + 1) ts) (λ x. closed (Parenthesized p x.value.tree) x.value.count x.next x.rest) (expression_stops operand stops sound count (p + 1) ts)
    (λ x e. closed_stops EndsExpression EndsExpression (λ us. (refl, refl)) (Parenthesized p x.value.tree) x.value.count x.next x.rest))

constant_stops : (one : Option Reader) (count p : ℕ) (t : TokenText) (v : ConstantValue) (ts : Tokens) → ((us : Tokens) → operand_of one count p (t ∷ us) ≡ counted (Constant p v) count (p + 1) us)
    → OperandStops one count p (t ∷ ts) (counted (Constant p v) count (p + 1) ts)
constant_stops one count p t v ts all =
    token_stops fronts (λ b us. operand_of one count p us) Any EndsExpression p t (record { value = record { tree = Constant p v; count = count }; next = p + 1; rest = ts }) refl (λ us b less. all us)

word_here : (one : Option Reader) (n : Name) (count p : ℕ) (ts us : Tokens) → SameFirst (Word n ∷ ts) us
    → operand_of one count p us ≡ (reference_of (option_map expression_of one) count p us >>= λ x. counted (Referred x.value.tree) x.value.count x.next x.rest)
unfolding operand_of
word_here one n count p ts [] same = absurd same
word_here one n count p ts (u ∷ us) same =
    subst (λ v. operand_of one count p (v ∷ us) ≡ (reference_of (option_map expression_of one) count p (v ∷ us) >>= λ x. counted (Referred x.value.tree) x.value.count x.next x.rest)) same refl

operand_stops : (one : Option Reader) → StopsWhere one → IsSoundWhere one → IsStopping (operand_of one)
unfolding operand_of constant_at misfit
operand_stops one stops sound count p [] = misfit_stops fronts (λ b us. operand_of one count p us) Any EndsExpression ExpressionExpected p [] (λ us same. absurd same) (operand_completes one count p)
operand_stops one stops sound count p (Word n ∷ ts) =
    first_decides fronts (λ b us. reference_of (option_map expression_of one) count p us >>= λ x. counted (Referred x.value.tree) x.value.count x.next x.rest) (λ b us. operand_of one count p us) Any EndsExpression p (Word n ∷ ts)
    (operand_of one count p (Word n ∷ ts)) (λ us same b. word_here one n count p ts us same)
    (λ x e. let s = passes_of 1 p (Word n ∷ ts) (operand_of one count p (Word n ∷ ts)) x (operand_stands one sound count p (Word n ∷ ts)) e in omega (arith, s.0)) (operand_completes one count p)
    (stops_made fronts fronts (λ b us. reference_of (option_map expression_of one) count p us) (λ x. record { value = record { tree = Referred x.value.tree; count = x.value.count }; next = x.next; rest = x.rest }) Any EndsExpression p (Word n ∷ ts) (reference_of (option_map expression_of one) count p (Word n ∷ ts))
    (λ x. refl) (λ x. refl) (λ x us. refl) (reference_stops (option_map expression_of one) (mapped_stops one stops sound) (mapped_sound one sound) count p (Word n ∷ ts)))
operand_stops one stops sound count p (Decimal v d ∷ ts) = constant_stops one count p (Decimal v d) (constants.Decimal v d) ts (λ us. refl)
operand_stops one stops sound count p (Binary v d ∷ ts) = constant_stops one count p (Binary v d) (constants.Binary v d) ts (λ us. refl)
operand_stops one stops sound count p (Characters s ∷ ts) = constant_stops one count p (Characters s) (constants.Characters s) ts (λ us. refl)
operand_stops one stops sound count p (Bits s ∷ ts) = constant_stops one count p (Bits s) (constants.Bits s) ts (λ us. refl)
operand_stops one stops sound count p (Sign signs.OpenParenthesis ∷ ts) = parenthesis_stops one stops sound count p ts
operand_stops one stops sound count p (Sign signs.Plus ∷ ts) = prefix_stops one stops prefixes.Plus count p ts
operand_stops one stops sound count p (Sign signs.Minus ∷ ts) = prefix_stops one stops prefixes.Minus count p ts
operand_stops one stops sound count p (Sign signs.Not ∷ ts) = prefix_stops one stops prefixes.Not count p ts
operand_stops one stops sound count p (t ∷ ts) =
    fault_stops fronts (λ b us. operand_of one count p us) Any EndsExpression (record { code = ExpressionExpected; at = p }) t ts (λ us b less. refl) (operand_completes one count p)

inside_stops : (levels : ℕ) → StopsWhere (inside levels)
unfolding inside
inside_stops zero = tt
inside_stops (suc levels) = operand_stops (inside levels) (inside_stops levels) (inside_sound levels)

expression_at_stops : (levels : ℕ) → IsStopping (expression_at levels)
unfolding expression_at
expression_at_stops levels = expression_stops (operand_at levels) (operand_stops (inside levels) (inside_stops levels) (inside_sound levels)) (operand_stands (inside levels) (inside_sound levels))

argument_stops : (one : Option Reader) → StopsWhere one → IsSoundWhere one → StopsWhere (option_map (argument_of true) one)
argument_stops None stops sound = tt
argument_stops (Some operand) stops sound = λ count p ts.
    stops_made fronts fronts (λ b us. expression_of operand 0 p us) (λ x. record { value = record { tree = x.value.tree; count = count }; next = x.next; rest = x.rest }) Any EndsExpression p ts (expression_of operand 0 p ts)
    (λ x. refl) (λ x. refl) (λ x us. refl) (expression_stops operand stops sound 0 p ts)

reference_at_stops : (levels p : ℕ) (ts : Tokens) → Stops fronts (λ b us. reference_at levels p us) Any EndsExpression p ts (reference_at levels p ts)
unfolding reference_at
reference_at_stops levels p ts = reference_stops (option_map (argument_of true) (inside levels)) (argument_stops (inside levels) (inside_stops levels) (inside_sound levels)) (arguments_sound levels) 0 p ts

pub expression_first_fault : (levels p : ℕ) (ts : Tokens) (f : Fault) → expression_at levels 0 p ts ≡ Err f → IsFirstFault (SpellsOutermost levels) p ts f
expression_first_fault levels p ts f h =
    is_first fronts (SpellsOutermost levels) (expression_at levels 0 p) Any EndsExpression tt (λ x. refl) p ts f
    (λ us x read none. let s = expression_spelled levels p us x read in (x.value.tree, whole_spells (SpellsOutermost levels) p us s.0 x.rest x.value.tree s.1 none s.3))
    (λ us e spelled. (
      record { value = record { tree = e; count = operators e }; next = p + length us; rest = [] },
      ap (expression_at levels 0 p) (sym (append-nil us)) ∙ expression_ends_read levels p us [] e spelled (tt, tt),
    ))
    (subst (Stops fronts (λ b us. expression_at levels 0 p us) Any EndsExpression p ts) h (expression_at_stops levels 0 p ts))

pub reference_first_fault : (levels p : ℕ) (ts : Tokens) (f : Fault) → reference_at levels p ts ≡ Err f → IsFirstFault (SpellsReferenceAlone levels) p ts f
reference_first_fault levels p ts f h =
    is_first fronts (SpellsReferenceAlone levels) (reference_at levels p) Any EndsExpression tt (λ x. refl) p ts f
    (λ us x read none. let s = reference_spelled levels p us x read in (x.value.tree, whole_spells (SpellsReferenceAlone levels) p us s.0 x.rest x.value.tree s.1 none s.3))
    (λ us r spelled. (
      record { value = record { tree = r; count = 0 }; next = p + length us; rest = [] },
      ap (reference_at levels p) (sym (append-nil us)) ∙ reference_ends_read levels p us [] r spelled tt,
    ))
    (subst (Stops fronts (λ b us. reference_at levels p us) Any EndsExpression p ts) h (reference_at_stops levels p ts))

pub expression_place : (levels p : ℕ) (ts : Tokens) (f g : Fault) → IsFirstFault (SpellsOutermost levels) p ts f → IsFirstFault (SpellsOutermost levels) p ts g → f.at ≡ g.at
expression_place levels p ts f g = one_place (SpellsOutermost levels) p ts f g

pub reference_place : (levels p : ℕ) (ts : Tokens) (f g : Fault) → IsFirstFault (SpellsReferenceAlone levels) p ts f → IsFirstFault (SpellsReferenceAlone levels) p ts g → f.at ≡ g.at
reference_place levels p ts f g = one_place (SpellsReferenceAlone levels) p ts f g
