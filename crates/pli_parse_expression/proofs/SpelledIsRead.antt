-- What is spelled so is read.
use Rattle.std.proofs.Common.{◌≡◌, ◌+◌, ◌<◌, ◌≤◌, ℕ, suc, zero, nat_lt, Bool, true, false, cond, [], ◌∷◌, ◌++◌, Option, Some, None, Result, option_map, length, refl, ap, ◌∙◌, sym, subst, arith, append_assoc, length-append}
use Rattle.std.proofs.lemmas.Bool.{lt-ltb, le-ltb, ltb-true}
use Rattle.pli_base.specs.Syntax.{Expression, Referred, Constant, Parenthesized, Prefix, Infix, Reference, Named, JoinedParts, Alone, Joined, Arguments, Absent, Given, Expressions, Empty, Listed}
use Rattle.pli_base.specs.declared.code.Code.TheVariants.{NestedTooDeep}
use Rattle.pli_base.specs.declared.syntax.ConstantValue.{ConstantValue}
use Rattle.pli_base.specs.declared.syntax.ConstantValue.TheVariants as constants
use Rattle.pli_base.specs.declared.syntax.PrefixOperator.{PrefixOperator}
use Rattle.pli_base.specs.declared.syntax.PrefixOperator.TheVariants as prefixes
use Rattle.pli_base.specs.declared.syntax.InfixOperator.{InfixOperator}
use Rattle.pli_base.specs.declared.syntax.InfixOperator.TheVariants.{Or}
use Rattle.pli_base.specs.declared.syntax.Joining.{Joining}
use Rattle.pli_base.specs.declared.syntax.Joining.TheVariants.{Member, Located}
use Rattle.pli_base.specs.declared.token.Fault.{Fault}
use Rattle.pli_base.specs.declared.token.Sign.TheVariants as signs
use Rattle.pli_base.specs.declared.token.TokenText.TheVariants.{Word, Sign}
use Rattle.pli_parse_expression.specs.Operators.{operator_limit, operand_level, level, level_of, prefix_sign, infix_sign, joining_sign, infix_of, not_below, operator_at, joining_at, begins_expression, continues_reference}
use Rattle.pli_parse_expression.specs.Expressions.{SpellsExpression, SpellsReference, SpellsJoined, SpellsArguments, SpellsListed, SpellsFurther, operators, reference_operators, listed_operators, Deeper, NestsWithin, ReferenceNests, JoinedNest, ArgumentsNest, ListNests, OutermostFits, SpellsOutermost, Every, GivenFits, JoinedFits, ReferenceFits, SpellsReferenceAlone, EndsReference, EndsExpression}
use Rattle.pli_base.specs.Reading.{Front}
use Rattle.pli_parse_expression.specs.declared.counted.Counted.{Counted}
use Rattle.pli_parse_expression.specs.Reading.{counted, Reader, closed, operand_then, grouped, infix_from, expression_of, further_from, listed_at, list_at, arguments_at, parts_after, joined_from, reference_of, prefix_of, parenthesis_of, constant_at, operand_of, inside, operand_at, expression_at, outermost, argument_of, reference_at}
use Rattle.pli_parse_expression.specs.Ends.{parts_go_on, NoneGoesOn, ReferenceEnds, NoInfix, ExpressionEnds}
use Rattle.pli_parse_expression.proofs.EndTools.{OperandEnds, operand_any, any_expression, any_reference, NotOpen, ArgumentsEnd, arguments_end, not_joined}
use Rattle.pli_parse_expression.proofs.ReadingTools.{level_small}
use Rattle.pli_parse_fault.proofs.StepLemmas.{same_ok}
use Rattle.pli_parse_expression.proofs.ReadIsSpelled.{IsOperandOf, total, count_given, count_joined, count_reference, total_is, reference_is, ListFits}
use Rattle.pli_base.specs.Words.{Tokens, name_first, rest_after}
use Rattle.pli_base.specs.Results.{◌>>=◌}
use Rattle.pli_base.specs.Reading.{at_fault, taken}

-- the reader reads what is spelled so, before what stops it
abbrev pub ReadsAgain : (Fits : Expression → Type 0) → (count_of : Expression → ℕ) → (Stops : Expression → Tokens → Type 0) → Reader → Type 0
ReadsAgain Fits count_of Stops reader = (e : Expression) (count p : ℕ) (ts more : Tokens) → SpellsExpression p ts e → Fits e → count + count_of e ≤ operator_limit → Stops e more
    → reader count p (ts ++ more) ≡ counted e (count + count_of e) (p + length ts) more

-- where nothing was passed over
nothing_read : {A : Type 0} (value : A) (count p : ℕ) (rest : Tokens) → counted value count p rest ≡ counted value (count + 0) (p + 0) rest
nothing_read value count p rest =
    let e : count ≡ count + 0 = omega arith in
    let q : p ≡ p + 0 = omega arith in
    ap (λ n. counted value n p rest) e ∙ ap (λ m. counted value (count + 0) m rest) q

closing_read : {A : Type 0} (value : A) (count p : ℕ) (rest : Tokens) → counted value count (p + 1) rest ≡ counted value (count + 0) (p + 0 + 1) rest
closing_read value count p rest =
    let e : count ≡ count + 0 = omega arith in
    let q : p + 1 ≡ p + 0 + 1 = omega arith in
    ap (λ n. counted value n (p + 1) rest) e ∙ ap (λ m. counted value (count + 0) m rest) q

pub infix_is_none : (min : ℕ) (ts : Tokens) → NoInfix ts → operator_at min ts ≡ None
unfolding operator_at
infix_is_none min [] h = refl
infix_is_none min (t ∷ ts) h = ap (λ o. not_below min o ts) h

infix_of_sign : (o : InfixOperator) → infix_of (Sign (infix_sign o)) ≡ Some o
infix_of_sign Or = refl
infix_of_sign o = refl

infix_is_no_part : (o : InfixOperator) → continues_reference (Sign (infix_sign o)) ≡ false
infix_is_no_part Or = refl
infix_is_no_part o = refl

pub operator_there : (min : ℕ) (o : InfixOperator) (ts : Tokens) → min ≤ level_of o → operator_at min (Sign (infix_sign o) ∷ ts) ≡ Some (o, ts)
unfolding operator_at
operator_there min o ts high = ap (λ p. not_below min p ts) (infix_of_sign o) ∙ ap (λ b. cond b None (Some (o, ts))) (le-ltb (level_of o) min high)

operator_low : (min : ℕ) (o : InfixOperator) (ts : Tokens) → level_of o < min → operator_at min (Sign (infix_sign o) ∷ ts) ≡ None
unfolding operator_at
operator_low min o ts low = ap (λ p. not_below min p ts) (infix_of_sign o) ∙ ap (λ b. cond b None (Some (o, ts))) (lt-ltb (level_of o) min low)

not_below_higher : (min top : ℕ) (o : Option InfixOperator) (ts : Tokens) → not_below min o ts ≡ None → min ≤ top → not_below top o ts ≡ None
not_below_higher min top None ts h high = refl
not_below_higher min top (Some o) ts h high = go (nat_lt (level_of o) min) refl h
  where
    go : (b : Bool) → nat_lt (level_of o) min ≡ b → ◌≡◌ {A = Option (InfixOperator × Tokens)} (cond b None (Some (o, ts))) None → not_below top (Some o) ts ≡ None
    go true is h = ap (λ b. cond b None (Some (o, ts))) (lt-ltb (level_of o) top (omega (arith, ltb-true (level_of o) min is)))
    go false is h = cc

-- where no operator of one level or more stands, none of a higher level does
operator_higher : (min top : ℕ) (ts : Tokens) → operator_at min ts ≡ None → min ≤ top → operator_at top ts ≡ None
unfolding operator_at
operator_higher min top [] h high = refl
operator_higher min top (t ∷ ts) h high = not_below_higher min top (infix_of t) ts h high

pub infix_ends : (operand : Reader) (bound min count : ℕ) (left : Expression) (p : ℕ) (ts : Tokens) → length ts < bound → operator_at min ts ≡ None → infix_from operand bound min count left p ts ≡ counted left count p ts
unfolding infix_from
infix_ends operand zero min count left p ts small none = absurd (omega arith)
infix_ends operand (suc bound) min count left p ts small none = ap (grouped operand (infix_from operand bound) min count left p ts) none

module _ (levels : ℕ) (operand : Reader) (operand_again : ReadsAgain (IsOperandOf levels) operators OperandEnds operand) where
  -- after the expression the loop goes on, with a bound that is still great enough
  abbrev Climbs : (e : Expression) (min bound count p : ℕ) (ts more : Tokens) → Type 0
  Climbs e min bound count p ts more =
      (b : ℕ) × (length more < b) × (operand_then operand (infix_from operand bound) min count p (ts ++ more) ≡ infix_from operand b min (count + operators e) e (p + length ts) more)

  climb_operand : (e : Expression) → level e ≡ operand_level → (min bound count p : ℕ) (ts more : Tokens) → SpellsExpression p ts e → NestsWithin levels e → count + operators e ≤ operator_limit → OperandEnds e more
      → length (ts ++ more) < bound → Climbs e min bound count p ts more
  climb_operand e is min bound count p ts more spelled nests few stops small = (
    bound,
    omega (arith, length-append ts more),
    ap (λ r. r >>= λ z. infix_from operand bound min z.value.count z.value.tree z.next z.rest) (operand_again e count p ts more spelled (nests, is) few stops),
  )

  climb_infix : (o : InfixOperator) (l r : Expression) (min count p q : ℕ) (ls rs more : Tokens) (b : ℕ) (read : Result (Front (Counted Expression)) Fault) → min ≤ level_of o → count < operator_limit
      → operator_at (level_of o + 1) more ≡ None → length (Sign (infix_sign o) ∷ (rs ++ more)) < b
      → read ≡ infix_from operand b min count l p (Sign (infix_sign o) ∷ (rs ++ more))
      → ((bound : ℕ) → length (rs ++ more) < bound → Climbs r (level_of o + 1) bound (count + 1) (p + 1) rs more)
      → (c : ℕ) × (length more < c) × (read ≡ infix_from operand c min (count + 1 + operators r) (Infix o p l r) (p + 1 + length rs) more)
  unfolding infix_from
  climb_infix o l r min count p q ls rs more zero read high few none small so_far right = absurd (omega arith)
  climb_infix o l r min count p q ls rs more (suc bound) read high few none small so_far right =
      let i = right bound (omega arith) in
      let further : Result (Front (Counted Expression)) Fault = operand_then operand (infix_from operand bound) (level_of o + 1) (count + 1) (p + 1) (rs ++ more) >>= λ y. infix_from operand bound min y.value.count (Infix o p l y.value.tree) y.next y.rest in (
        bound,
        omega (arith, length-append rs more),
        so_far
            ∙ ap (grouped operand (infix_from operand bound) min count l p (Sign (infix_sign o) ∷ (rs ++ more))) (operator_there min o (rs ++ more) high)
            ∙ ap (λ b. cond b further (at_fault NestedTooDeep p)) (lt-ltb count operator_limit few)
            ∙ ap (λ r. r >>= λ y. infix_from operand bound min y.value.count (Infix o p l y.value.tree) y.next y.rest) (i.2 ∙ infix_ends operand i.0 (level_of o + 1) (count + 1 + operators r) r (p + 1 + length rs) more i.1 none),
      )

  climb_again : (e : Expression) (min bound count p : ℕ) (ts more : Tokens) → SpellsExpression p ts e → NestsWithin levels e → count + operators e ≤ operator_limit → min ≤ level e → OperandEnds e more
      → operator_at (suc (level e)) more ≡ None → length (ts ++ more) < bound → Climbs e min bound count p ts more
  climb_again (Referred r) min bound count p ts more spelled nests few high stops none small = climb_operand (Referred r) refl min bound count p ts more spelled nests few stops small
  climb_again (Constant at v) min bound count p ts more spelled nests few high stops none small = climb_operand (Constant at v) refl min bound count p ts more spelled nests few stops small
  climb_again (Parenthesized at e) min bound count p ts more spelled nests few high stops none small = climb_operand (Parenthesized at e) refl min bound count p ts more spelled nests few stops small
  climb_again (Prefix o at e) min bound count p ts more spelled nests few high stops none small = climb_operand (Prefix o at e) refl min bound count p ts more spelled nests few stops small
  climb_again (Infix o at l r) min bound count p ts more (ls, rs, shape, place, left, low, right, above) nests few high stops none small =
      let whole : ts ++ more ≡ ls ++ Sign (infix_sign o) ∷ (rs ++ more) = ap (λ us. us ++ more) shape ∙ append_assoc ls (Sign (infix_sign o) ∷ rs) more in
      let is_top : suc (level_of o) ≡ level_of o + 1 = omega arith in
      let none_top : operator_at (level_of o + 1) more ≡ None = ap (λ n. operator_at n more) (sym is_top) ∙ none in
      let i = climb_again l min bound count p ls (Sign (infix_sign o) ∷ (rs ++ more)) left nests.0 (omega arith) (omega arith) (operand_any l (Sign (infix_sign o)) (infix_is_no_part o)) (operator_low (suc (level l)) o (rs ++ more) (omega arith)) (omega (arith, ap length whole)) in
      let j = climb_infix o l r min (count + operators l) (p + length ls) p ls rs more i.0 (operand_then operand (infix_from operand bound) min count p (ls ++ Sign (infix_sign o) ∷ (rs ++ more))) high (omega arith) none_top i.1 i.2
      (λ b less. climb_again r (level_of o + 1) b (count + operators l + 1) (p + length ls + 1) rs more right nests.1 (omega arith) (omega arith) stops
      (operator_higher (suc (level_of o)) (suc (level r)) more none (omega arith)) less) in
      let summed : count + operators l + 1 + operators r ≡ count + (operators l + (1 + operators r)) = omega arith in
      let after : p + length ls + 1 + length rs ≡ p + length ts = omega (arith, ap length shape, length-append ls (Sign (infix_sign o) ∷ rs)) in (
        j.0,
        j.1,
        ap (operand_then operand (infix_from operand bound) min count p) whole
            ∙ j.2
            ∙ ap (λ n. infix_from operand j.0 min n (Infix o (p + length ls) l r) (p + length ls + 1 + length rs) more) summed
            ∙ ap (λ q. infix_from operand j.0 min (count + operators (Infix o at l r)) (Infix o q l r) (p + length ls + 1 + length rs) more) (sym place)
            ∙ ap (λ q. infix_from operand j.0 min (count + operators (Infix o at l r)) (Infix o at l r) q more) after,
      )

  pub expression_again : ReadsAgain (NestsWithin levels) operators ExpressionEnds (expression_of operand)
  unfolding expression_of
  expression_again e count p ts more spelled nests few stops =
      let i = climb_again e 0 (length (ts ++ more) + 1) count p ts more spelled nests few (omega arith) stops.0 (infix_is_none (suc (level e)) more stops.1) (omega arith) in
      i.2 ∙ infix_ends operand i.0 0 (count + operators e) e (p + length ts) more i.1 (infix_is_none 0 more stops.1)

begins : (e : Expression) (p : ℕ) (ts more : Tokens) → SpellsExpression p ts e → begins_expression (ts ++ more) ≡ true
unfolding begins_expression
begins (Referred (Named name arguments parts)) p ts more spelled = ap (λ us. begins_expression (us ++ more)) spelled.2
begins (Constant at (constants.Decimal v d)) p ts more spelled = ap (λ us. begins_expression (us ++ more)) spelled.0
begins (Constant at (constants.Binary v d)) p ts more spelled = ap (λ us. begins_expression (us ++ more)) spelled.0
begins (Constant at (constants.Characters s)) p ts more spelled = ap (λ us. begins_expression (us ++ more)) spelled.0
begins (Constant at (constants.Bits s)) p ts more spelled = ap (λ us. begins_expression (us ++ more)) spelled.0
begins (Parenthesized at e) p ts more spelled = ap (λ us. begins_expression (us ++ more)) spelled.1
begins (Prefix prefixes.Plus at e) p ts more spelled = ap (λ us. begins_expression (us ++ more)) spelled.1
begins (Prefix prefixes.Minus at e) p ts more spelled = ap (λ us. begins_expression (us ++ more)) spelled.1
begins (Prefix prefixes.Not at e) p ts more spelled = ap (λ us. begins_expression (us ++ more)) spelled.1
begins (Infix o at l r) p ts more (ls, rs, shape, place, left, low, right, above) =
    ap (λ us. begins_expression (us ++ more)) shape ∙ ap begins_expression (append_assoc ls (Sign (infix_sign o) ∷ rs) more) ∙ begins l p ls (Sign (infix_sign o) ∷ rs ++ more) left

further_stops : (list : Expressions) (p : ℕ) (ts more : Tokens) → SpellsFurther p ts list → EndsExpression (ts ++ Sign signs.CloseParenthesis ∷ more)
further_stops Empty p ts more shape = subst (λ us. EndsExpression (us ++ Sign signs.CloseParenthesis ∷ more)) (sym shape) (refl, refl)
further_stops (Listed e list) p ts more spelled = subst (λ us. EndsExpression (us ++ Sign signs.CloseParenthesis ∷ more)) (sym spelled.2) (refl, refl)

module _ (Fits : Expression → Type 0) (count_of : Expression → ℕ) (one : Reader) (one_again : ReadsAgain Fits count_of ExpressionEnds one) where
  further_again : (list : Expressions) (bound count p : ℕ) (ts more : Tokens) → SpellsFurther p ts list → Every Fits list → count + total count_of list ≤ operator_limit → length (ts ++ Sign signs.CloseParenthesis ∷ more) < bound
      → further_from one bound count p (ts ++ Sign signs.CloseParenthesis ∷ more) ≡ counted list (count + total count_of list) (p + length ts) (Sign signs.CloseParenthesis ∷ more)
  unfolding further_from rest_after
  further_again list zero count p ts more spelled fits few small = absurd (omega arith)
  further_again Empty (suc bound) count p ts more shape fits few small =
      ap (λ us. further_from one (suc bound) count p (us ++ Sign signs.CloseParenthesis ∷ more)) shape ∙ nothing_read Empty count p (Sign signs.CloseParenthesis ∷ more) ∙ ap (λ (us : Tokens). counted Empty (count + 0) (p + length us) (Sign signs.CloseParenthesis ∷ more)) (sym shape)
  further_again (Listed e list) (suc bound) count p ts more (front, rest, shape, spelled, later) fits few small =
      let whole : ts ++ Sign signs.CloseParenthesis ∷ more ≡ Sign signs.Comma ∷ (front ++ (rest ++ Sign signs.CloseParenthesis ∷ more)) =
      ap (λ us. us ++ Sign signs.CloseParenthesis ∷ more) shape ∙ ap (λ us. Sign signs.Comma ∷ us) (append_assoc front rest (Sign signs.CloseParenthesis ∷ more)) in
      let less : length (rest ++ Sign signs.CloseParenthesis ∷ more) < bound = omega (arith, small, ap length whole, length-append front (rest ++ Sign signs.CloseParenthesis ∷ more)) in
      let summed : count + count_of e + total count_of list ≡ count + (count_of e + total count_of list) = omega arith in
      let place : p + 1 + length front + length rest ≡ p + length ts = omega (arith, ap length shape, length-append front rest) in
      ap (further_from one (suc bound) count p) whole
      ∙ ap (λ r. r >>= λ x. further_from one bound x.value.count x.next x.rest >>= λ y. counted (Listed x.value.tree y.value.tree) y.value.count y.next y.rest)
      (one_again e count (p + 1) front (rest ++ Sign signs.CloseParenthesis ∷ more) spelled fits.0 (omega arith) (any_expression e (rest ++ Sign signs.CloseParenthesis ∷ more) (further_stops list (p + 1 + length front) rest more later)))
      ∙ ap (λ r. r >>= λ y. counted (Listed e y.value.tree) y.value.count y.next y.rest) (further_again list bound (count + count_of e) (p + 1 + length front) rest more later fits.1 (omega arith) less)
      ∙ ap (λ n. counted (Listed e list) n (p + 1 + length front + length rest) (Sign signs.CloseParenthesis ∷ more)) summed
      ∙ ap (λ q. counted (Listed e list) (count + (count_of e + total count_of list)) q (Sign signs.CloseParenthesis ∷ more)) place

  pub list_again : (list : Expressions) (count p : ℕ) (ts more : Tokens) → SpellsListed p ts list → Every Fits list → count + total count_of list ≤ operator_limit
      → list_at one count p (ts ++ Sign signs.CloseParenthesis ∷ more) ≡ counted list (count + total count_of list) (p + length ts + 1) more
  unfolding list_at listed_at taken rest_after begins_expression
  list_again Empty count p ts more shape fits few =
      ap (λ us. list_at one count p (us ++ Sign signs.CloseParenthesis ∷ more)) shape ∙ closing_read Empty count p more ∙ ap (λ (us : Tokens). counted Empty (count + 0) (p + length us + 1) more) (sym shape)
  list_again (Listed e list) count p ts more (front, rest, shape, spelled, later) fits few =
      let tail : Tokens = rest ++ Sign signs.CloseParenthesis ∷ more in
      let whole : ts ++ Sign signs.CloseParenthesis ∷ more ≡ front ++ tail = ap (λ us. us ++ Sign signs.CloseParenthesis ∷ more) shape ∙ append_assoc front rest (Sign signs.CloseParenthesis ∷ more) in
      let summed : count + count_of e + total count_of list ≡ count + (count_of e + total count_of list) = omega arith in
      let place : p + length front + length rest + 1 ≡ p + length ts + 1 = omega (arith, ap length shape, length-append front rest) in
      ap (list_at one count p) whole
      ∙ ap (λ b. cond b (listed_at one count p (front ++ tail)) (closed Empty count p (front ++ tail))) (begins e p front tail spelled)
      ∙ ap (λ r. r >>= λ x. further_from one (length x.rest + 1) x.value.count x.next x.rest >>= λ y. closed (Listed x.value.tree y.value.tree) y.value.count y.next y.rest)
      (one_again e count p front tail spelled fits.0 (omega arith) (any_expression e tail (further_stops list (p + length front) rest more later)))
      ∙ ap (λ r. r >>= λ y. closed (Listed e y.value.tree) y.value.count y.next y.rest) (further_again list (length tail + 1) (count + count_of e) (p + length front) rest more later fits.1 (omega arith) (omega arith))
      ∙ ap (λ n. counted (Listed e list) n (p + length front + length rest + 1) more) summed
      ∙ ap (λ q. counted (Listed e list) (count + (count_of e + total count_of list)) q more) place

-- a reader of arguments reads lists again that fit
abbrev pub ListsAgain : (Fits : Expressions → Type 0) → (count_of : Expressions → ℕ) → Option Reader → Type 0
ListsAgain Fits count_of None = (list : Expressions) → Fits list → ⊥
ListsAgain Fits count_of (Some one) = (list : Expressions) (count p : ℕ) (ts more : Tokens) → SpellsListed p ts list → Fits list → count + count_of list ≤ operator_limit
    → list_at one count p (ts ++ Sign signs.CloseParenthesis ∷ more) ≡ counted list (count + count_of list) (p + length ts + 1) more

pub no_arguments : (one : Option Reader) (count p : ℕ) (ts : Tokens) → NotOpen ts → arguments_at one count p ts ≡ counted Absent count p ts
unfolding arguments_at
no_arguments one count p [] h = refl
no_arguments one count p (Sign signs.OpenParenthesis ∷ ts) h = absurd h
no_arguments one count p (t ∷ ts) h = refl

-- after arguments, where parts may be joined
joined_end : (a : Arguments) (m : JoinedParts) (p : ℕ) (ts more : Tokens) → SpellsJoined p ts m → NoneGoesOn (parts_go_on a m) more → ArgumentsEnd a (ts ++ more)
joined_end a Alone p ts more shape stops = subst (λ us. ArgumentsEnd a (us ++ more)) (sym shape) (arguments_end a more stops)
joined_end Absent (Joined Member name arguments m) p ts more spelled stops = subst (λ us. NotOpen (us ++ more)) (sym spelled.2) tt
joined_end Absent (Joined Located name arguments m) p ts more spelled stops = subst (λ us. NotOpen (us ++ more)) (sym spelled.2) tt
joined_end (Given list) (Joined joining name arguments m) p ts more spelled stops = tt

pub joining_there : (j : Joining) (ts : Tokens) → joining_at (Sign (joining_sign j) ∷ ts) ≡ Some (j, ts)
unfolding joining_at
joining_there Member ts = refl
joining_there Located ts = refl

module _ (Fits : Expressions → Type 0) (count_of : Expressions → ℕ) where
  arguments_again : (one : Option Reader) → ListsAgain Fits count_of one → (arguments : Arguments) (count p : ℕ) (ts more : Tokens) → SpellsArguments p ts arguments → GivenFits Fits arguments
      → count + count_given count_of arguments ≤ operator_limit → ArgumentsEnd arguments more → arguments_at one count p (ts ++ more) ≡ counted arguments (count + count_given count_of arguments) (p + length ts) more
  unfolding arguments_at
  arguments_again one lists Absent count p ts more shape fits few closed =
      let e : count ≡ count + 0 = omega arith in
      let q : p ≡ p + 0 = omega arith in
      ap (λ us. arguments_at one count p (us ++ more)) shape ∙ no_arguments one count p more closed ∙ ap (λ n. counted Absent n p more) e ∙ ap (λ m. counted Absent (count + 0) m more) q
      ∙ ap (λ (us : Tokens). counted Absent (count + 0) (p + length us) more) (sym shape)
  arguments_again None lists (Given list) count p ts more (us, shape, spelled) fits few closed = absurd (lists list fits)
  arguments_again (Some one) lists (Given list) count p ts more (us, shape, spelled) fits few closed =
      let whole : ts ++ more ≡ Sign signs.OpenParenthesis ∷ (us ++ Sign signs.CloseParenthesis ∷ more) = ap (λ vs. vs ++ more) shape ∙ ap (λ vs. Sign signs.OpenParenthesis ∷ vs) (append_assoc us (Sign signs.CloseParenthesis ∷ []) more) in
      let place : p + 1 + length us + 1 ≡ p + length ts = omega (arith, ap length shape, length-append us (Sign signs.CloseParenthesis ∷ [])) in
      ap (arguments_at (Some one) count p) whole
      ∙ ap (λ r. r >>= λ x. counted (Given x.value.tree) x.value.count x.next x.rest) (lists list count (p + 1) us more spelled fits few)
      ∙ ap (λ q. counted (Given list) (count + count_of list) q more) place

  module _ (one : Option Reader) (lists : ListsAgain Fits count_of one) where
    parts_again : (before : Arguments) (m : JoinedParts) (bound count p : ℕ) (ts more : Tokens) → SpellsJoined p ts m → JoinedFits Fits m → count + count_joined count_of m ≤ operator_limit → NoneGoesOn (parts_go_on before m) more → length (ts ++ more) < bound
        → joined_from one bound count p (ts ++ more) ≡ counted m (count + count_joined count_of m) (p + length ts) more
    unfolding joined_from name_first
    parts_again before m zero count p ts more spelled fits few stops small = absurd (omega arith)
    parts_again before Alone (suc bound) count p ts more shape fits few stops small =
        let e : count ≡ count + 0 = omega arith in
        let q : p ≡ p + 0 = omega arith in
        ap (λ us. joined_from one (suc bound) count p (us ++ more)) shape
        ∙ ap (parts_after one (joined_from one bound) count p more) (not_joined before more stops)
        ∙ ap (λ n. counted Alone n p more) e ∙ ap (λ m. counted Alone (count + 0) m more) q ∙ ap (λ (us : Tokens). counted Alone (count + 0) (p + length us) more) (sym shape)
    parts_again before (Joined joining name arguments m) (suc bound) count p ts more (front, rest, shape, at, spelled, later) fits few stops small =
        let tail : Tokens = front ++ (rest ++ more) in
        let whole : ts ++ more ≡ Sign (joining_sign joining) ∷ Word name.name ∷ tail = ap (λ us. us ++ more) shape ∙ ap (λ us. Sign (joining_sign joining) ∷ Word name.name ∷ us) (append_assoc front rest more) in
        let there : p + 2 ≡ p + 1 + 1 = omega arith in
        let further : p + 2 + length front ≡ p + 1 + 1 + length front = omega arith in
        let less : length (rest ++ more) < bound = omega (arith, small, ap length whole, length-append front (rest ++ more)) in
        let summed : count + count_given count_of arguments + count_joined count_of m ≡ count + (count_given count_of arguments + count_joined count_of m) = omega arith in
        let place : p + 1 + 1 + length front + length rest ≡ p + length ts = omega (arith, ap length shape, length-append front rest) in
        let read = arguments_again one lists arguments count (p + 1 + 1) front (rest ++ more) (subst (λ q. SpellsArguments q front arguments) there spelled) fits.0 (omega arith) (joined_end arguments m (p + 2 + length front) rest more later stops) in
        ap (joined_from one (suc bound) count p) whole
        ∙ ap (parts_after one (joined_from one bound) count p (Sign (joining_sign joining) ∷ Word name.name ∷ tail)) (joining_there joining (Word name.name ∷ tail))
        ∙ ap (λ r. r >>= λ x. joined_from one bound x.value.count x.next x.rest >>= λ y. counted (Joined joining (record { name = name.name; at = p + 1 }) x.value.tree y.value.tree) y.value.count y.next y.rest) read
        ∙ ap (λ r. r >>= λ y. counted (Joined joining (record { name = name.name; at = p + 1 }) arguments y.value.tree) y.value.count y.next y.rest)
        (parts_again arguments m bound (count + count_given count_of arguments) (p + 1 + 1 + length front) rest more (subst (λ q. SpellsJoined q rest m) further later) fits.1 (omega arith) stops less)
        ∙ ap (λ q. counted (Joined joining (record { name = name.name; at = q }) arguments m) (count + count_given count_of arguments + count_joined count_of m) (p + 1 + 1 + length front + length rest) more) (sym at)
        ∙ ap (λ n. counted (Joined joining name arguments m) n (p + 1 + 1 + length front + length rest) more) summed
        ∙ ap (λ q. counted (Joined joining name arguments m) (count + (count_given count_of arguments + count_joined count_of m)) q more) place

    pub reference_again : (r : Reference) (count p : ℕ) (ts more : Tokens) → SpellsReference p ts r → ReferenceFits Fits r → count + count_reference count_of r ≤ operator_limit → ReferenceEnds r more
        → reference_of one count p (ts ++ more) ≡ counted r (count + count_reference count_of r) (p + length ts) more
    unfolding reference_of name_first
    reference_again (Named name arguments m) count p ts more (front, rest, shape, at, spelled, later) fits few stops =
        let tail : Tokens = front ++ (rest ++ more) in
        let whole : ts ++ more ≡ Word name.name ∷ tail = ap (λ us. us ++ more) shape ∙ ap (λ us. Word name.name ∷ us) (append_assoc front rest more) in
        let summed : count + count_given count_of arguments + count_joined count_of m ≡ count + (count_given count_of arguments + count_joined count_of m) = omega arith in
        let place : p + 1 + length front + length rest ≡ p + length ts = omega (arith, ap length shape, length-append front rest) in
        let read = arguments_again one lists arguments count (p + 1) front (rest ++ more) spelled fits.0 (omega arith) (joined_end arguments m (p + 1 + length front) rest more later stops) in
        ap (reference_of one count p) whole
        ∙ ap (λ r. r >>= λ x. joined_from one (length x.rest + 1) x.value.count x.next x.rest >>= λ y. counted (Named (record { name = name.name; at = p }) x.value.tree y.value.tree) y.value.count y.next y.rest) read
        ∙ ap (λ r. r >>= λ y. counted (Named (record { name = name.name; at = p }) arguments y.value.tree) y.value.count y.next y.rest)
        (parts_again arguments m (length (rest ++ more) + 1) (count + count_given count_of arguments) (p + 1 + length front) rest more later fits.1 (omega arith) stops (omega arith))
        ∙ ap (λ q. counted (Named (record { name = name.name; at = q }) arguments m) (count + count_given count_of arguments + count_joined count_of m) (p + 1 + length front + length rest) more) (sym at)
        ∙ ap (λ n. counted (Named name arguments m) n (p + 1 + length front + length rest) more) summed
        ∙ ap (λ q. counted (Named name arguments m) (count + (count_given count_of arguments + count_joined count_of m)) q more) place

-- what reads operands one level deeper reads them again
abbrev pub OperandsAgain : ℕ → Option Reader → Type 0
OperandsAgain zero None = Unit {0}
OperandsAgain zero (Some operand) = ⊥
OperandsAgain (suc n) None = ⊥
OperandsAgain (suc n) (Some operand) = ReadsAgain (IsOperandOf n) operators OperandEnds operand

every_nests : (n : ℕ) (list : Expressions) → ListNests n list → Every (NestsWithin n) list
every_nests n Empty h = tt
every_nests n (Listed e list) h = (h.0, every_nests n list h.1)

given_fits : (n : ℕ) (arguments : Arguments) → ArgumentsNest n arguments → GivenFits (ListFits n) arguments
given_fits n Absent h = tt
given_fits n (Given list) h = h

joined_fit : (n : ℕ) (m : JoinedParts) → JoinedNest n m → JoinedFits (ListFits n) m
joined_fit n Alone h = tt
joined_fit n (Joined joining name arguments m) h = (given_fits n arguments h.0, joined_fit n m h.1)

reference_fits : (n : ℕ) (r : Reference) → ReferenceNests n r → ReferenceFits (ListFits n) r
reference_fits n (Named name arguments m) h = (given_fits n arguments h.0, joined_fit n m h.1)

lists_again : (n : ℕ) (one : Option Reader) → OperandsAgain n one → ListsAgain (ListFits n) listed_operators (option_map expression_of one)
lists_again zero None again = λ list fits. fits
lists_again zero (Some operand) again = absurd again
lists_again (suc n) None again = absurd again
lists_again (suc n) (Some operand) again = λ list count p ts more spelled fits few.
    let e : total operators list ≡ listed_operators list = total_is list in
    list_again (NestsWithin n) operators (expression_of operand) (expression_again n operand again) list count p ts more spelled (every_nests n list fits) (omega (arith, e))
    ∙ ap (λ k. counted list (count + k) (p + length ts + 1) more) e

referred_again : (n : ℕ) (one : Option Reader) → OperandsAgain n one → (r : Reference) (count p : ℕ) (ts more : Tokens) → SpellsReference p ts r → ReferenceNests n r → count + reference_operators r ≤ operator_limit → ReferenceEnds r more
    → operand_of one count p (ts ++ more) ≡ counted (Referred r) (count + reference_operators r) (p + length ts) more
unfolding operand_of
referred_again n one again (Named name arguments m) count p ts more spelled nests few stops =
    let r : Reference = Named name arguments m in
    let e : count_reference listed_operators r ≡ reference_operators r = reference_is r in
    let shape = spelled.2 in
    ap (λ us. operand_of one count p (us ++ more)) shape
    ∙ ap (λ us. reference_of (option_map expression_of one) count p (us ++ more) >>= λ x. counted (Referred x.value.tree) x.value.count x.next x.rest) (sym shape)
    ∙ ap (λ q. q >>= λ x. counted (Referred x.value.tree) x.value.count x.next x.rest)
    (reference_again (ListFits n) listed_operators (option_map expression_of one) (lists_again n one again) r count p ts more spelled (reference_fits n r nests) (omega (arith, e)) stops)
    ∙ ap (λ k. counted (Referred r) (count + k) (p + length ts) more) e

constant_again : (one : Option Reader) (at : ℕ) (v : ConstantValue) (count p : ℕ) (ts more : Tokens) → SpellsExpression p ts (Constant at v) → operand_of one count p (ts ++ more) ≡ counted (Constant at v) (count + 0) (p + length ts) more
unfolding operand_of constant_at
constant_again one at (constants.Decimal v d) count p ts more (shape, place) =
    let e : count ≡ count + 0 = omega arith in
    ap (λ us. operand_of one count p (us ++ more)) shape ∙ ap (λ n. counted (Constant p (constants.Decimal v d)) n (p + 1) more) e ∙ ap (λ q. counted (Constant q (constants.Decimal v d)) (count + 0) (p + 1) more) (sym place)
    ∙ ap (λ (us : Tokens). counted (Constant at (constants.Decimal v d)) (count + 0) (p + length us) more) (sym shape)
constant_again one at (constants.Binary v d) count p ts more (shape, place) =
    let e : count ≡ count + 0 = omega arith in
    ap (λ us. operand_of one count p (us ++ more)) shape ∙ ap (λ n. counted (Constant p (constants.Binary v d)) n (p + 1) more) e ∙ ap (λ q. counted (Constant q (constants.Binary v d)) (count + 0) (p + 1) more) (sym place)
    ∙ ap (λ (us : Tokens). counted (Constant at (constants.Binary v d)) (count + 0) (p + length us) more) (sym shape)
constant_again one at (constants.Characters v) count p ts more (shape, place) =
    let e : count ≡ count + 0 = omega arith in
    ap (λ us. operand_of one count p (us ++ more)) shape ∙ ap (λ n. counted (Constant p (constants.Characters v)) n (p + 1) more) e ∙ ap (λ q. counted (Constant q (constants.Characters v)) (count + 0) (p + 1) more) (sym place)
    ∙ ap (λ (us : Tokens). counted (Constant at (constants.Characters v)) (count + 0) (p + length us) more) (sym shape)
constant_again one at (constants.Bits v) count p ts more (shape, place) =
    let e : count ≡ count + 0 = omega arith in
    ap (λ us. operand_of one count p (us ++ more)) shape ∙ ap (λ n. counted (Constant p (constants.Bits v)) n (p + 1) more) e ∙ ap (λ q. counted (Constant q (constants.Bits v)) (count + 0) (p + 1) more) (sym place)
    ∙ ap (λ (us : Tokens). counted (Constant at (constants.Bits v)) (count + 0) (p + length us) more) (sym shape)

parenthesis_again : (n : ℕ) (one : Option Reader) → OperandsAgain n one → (at : ℕ) (e : Expression) (count p : ℕ) (ts more : Tokens) → SpellsExpression p ts (Parenthesized at e) → NestsWithin n (Parenthesized at e)
    → count + operators e ≤ operator_limit → operand_of one count p (ts ++ more) ≡ counted (Parenthesized at e) (count + operators e) (p + length ts) more
unfolding operand_of parenthesis_of taken rest_after
parenthesis_again zero one again at e count p ts more spelled nests few = absurd nests
parenthesis_again (suc n) None again at e count p ts more spelled nests few = absurd again
parenthesis_again (suc n) (Some operand) again at e count p ts more (us, shape, place, spelled) nests few =
    let whole : ts ++ more ≡ Sign signs.OpenParenthesis ∷ (us ++ Sign signs.CloseParenthesis ∷ more) = ap (λ vs. vs ++ more) shape ∙ ap (λ vs. Sign signs.OpenParenthesis ∷ vs) (append_assoc us (Sign signs.CloseParenthesis ∷ []) more) in
    let after : p + 1 + length us + 1 ≡ p + length ts = omega (arith, ap length shape, length-append us (Sign signs.CloseParenthesis ∷ [])) in
    ap (operand_of (Some operand) count p) whole
    ∙ ap (λ r. r >>= λ x. closed (Parenthesized p x.value.tree) x.value.count x.next x.rest) (expression_again n operand again e count (p + 1) us (Sign signs.CloseParenthesis ∷ more) spelled nests few (any_expression e (Sign signs.CloseParenthesis ∷ more) (refl, refl)))
    ∙ ap (λ q. counted (Parenthesized q e) (count + operators e) (p + 1 + length us + 1) more) (sym place)
    ∙ ap (λ q. counted (Parenthesized at e) (count + operators e) q more) after

pub prefix_there : (one : Option Reader) (o : PrefixOperator) (count p : ℕ) (ts : Tokens) → operand_of one count p (Sign (prefix_sign o) ∷ ts) ≡ prefix_of one o count p ts
unfolding operand_of
prefix_there one prefixes.Plus count p ts = refl
prefix_there one prefixes.Minus count p ts = refl
prefix_there one prefixes.Not count p ts = refl

prefix_again : (n : ℕ) (one : Option Reader) → OperandsAgain n one → (o : PrefixOperator) (at : ℕ) (e : Expression) (count p : ℕ) (ts more : Tokens) → SpellsExpression p ts (Prefix o at e) → NestsWithin n (Prefix o at e)
    → count + (1 + operators e) ≤ operator_limit → OperandEnds e more → operand_of one count p (ts ++ more) ≡ counted (Prefix o at e) (count + (1 + operators e)) (p + length ts) more
unfolding prefix_of
prefix_again zero one again o at e count p ts more spelled nests few stops = absurd nests
prefix_again (suc n) None again o at e count p ts more spelled nests few stops = absurd again
prefix_again (suc n) (Some operand) again o at e count p ts more (us, shape, place, is, spelled) nests few stops =
    let after : p + 1 + length us ≡ p + length ts = omega (arith, ap length shape) in
    let summed : count + 1 + operators e ≡ count + (1 + operators e) = omega arith in
    let read : Result (Front (Counted Expression)) Fault = operand (count + 1) (p + 1) (us ++ more) >>= λ x. counted (Prefix o p x.value.tree) x.value.count x.next x.rest in
    ap (λ vs. operand_of (Some operand) count p (vs ++ more)) shape
    ∙ prefix_there (Some operand) o count p (us ++ more)
    ∙ ap (λ b. cond b read (at_fault NestedTooDeep p)) (lt-ltb count operator_limit (omega arith))
    ∙ ap (λ r. r >>= λ x. counted (Prefix o p x.value.tree) x.value.count x.next x.rest) (again e (count + 1) (p + 1) us more spelled (nests, is) (omega arith) stops)
    ∙ ap (λ q. counted (Prefix o q e) (count + 1 + operators e) (p + 1 + length us) more) (sym place)
    ∙ ap (λ k. counted (Prefix o at e) k (p + 1 + length us) more) summed
    ∙ ap (λ q. counted (Prefix o at e) (count + (1 + operators e)) q more) after

operand_again : (n : ℕ) (one : Option Reader) → OperandsAgain n one → ReadsAgain (IsOperandOf n) operators OperandEnds (operand_of one)
operand_again n one again (Referred r) count p ts more spelled fits few stops = referred_again n one again r count p ts more spelled fits.0 few stops
operand_again n one again (Constant at v) count p ts more spelled fits few stops = constant_again one at v count p ts more spelled
operand_again n one again (Parenthesized at e) count p ts more spelled fits few stops = parenthesis_again n one again at e count p ts more spelled fits.0 few
operand_again n one again (Prefix o at e) count p ts more spelled fits few stops = prefix_again n one again o at e count p ts more spelled fits.0 few stops
operand_again n one again (Infix o at l r) count p ts more spelled fits few stops = let small : level_of o < operand_level = level_small o in absurd (omega (arith, fits.1))

inside_again : (n : ℕ) → OperandsAgain n (inside n)
unfolding inside
inside_again zero = tt
inside_again (suc n) = operand_again n (inside n) (inside_again n)

pub expression_at_again : (levels : ℕ) → ReadsAgain (NestsWithin levels) operators ExpressionEnds (expression_at levels)
unfolding expression_at
expression_at_again levels = expression_again levels (operand_at levels) (operand_again levels (inside levels) (inside_again levels))

outermost_again : (n : ℕ) (operand : Reader) → ReadsAgain (IsOperandOf n) operators OperandEnds operand → ReadsAgain (OutermostFits n) (λ e. 0) ExpressionEnds (outermost (expression_of operand))
outermost_again n operand again e count p ts more spelled fits few stops =
    let none : count ≡ count + 0 = omega arith in
    ap (λ r. r >>= λ x. counted x.value.tree count x.next x.rest) (expression_again n operand again e 0 p ts more spelled fits.0 (omega (arith, fits.1)) stops)
    ∙ ap (λ k. counted e k (p + length ts) more) none

outermost_lists : (n : ℕ) (one : Option Reader) → OperandsAgain n one → ListsAgain (λ list. Deeper (λ m. Every (OutermostFits m) list) n) (total (λ e. 0)) (option_map (argument_of true) one)
outermost_lists zero None again = λ list fits. fits
outermost_lists zero (Some operand) again = absurd again
outermost_lists (suc n) None again = absurd again
outermost_lists (suc n) (Some operand) again = list_again (OutermostFits n) (λ e. 0) (outermost (expression_of operand)) (outermost_again n operand again)

no_total : (list : Expressions) → total (λ e. 0) list ≡ 0
no_total Empty = refl
no_total (Listed e list) = omega (arith, no_total list)

no_given : (arguments : Arguments) → count_given (total (λ e. 0)) arguments ≡ 0
no_given Absent = refl
no_given (Given list) = no_total list

no_joined : (m : JoinedParts) → count_joined (total (λ e. 0)) m ≡ 0
no_joined Alone = refl
no_joined (Joined joining name arguments m) = omega (arith, no_given arguments, no_joined m)

no_reference : (r : Reference) → count_reference (total (λ e. 0)) r ≡ 0
no_reference (Named name arguments m) = omega (arith, no_given arguments, no_joined m)

pub expression_ends_read : (levels p : ℕ) (ts more : Tokens) (e : Expression) → SpellsOutermost levels p ts e → ExpressionEnds e more
    → expression_at levels 0 p (ts ++ more) ≡ counted e (operators e) (p + length ts) more
expression_ends_read levels p ts more e spelled stops =
    let none : 0 + operators e ≡ operators e = omega arith in
    expression_at_again levels e 0 p ts more spelled.0 spelled.1.0 (omega (arith, spelled.1.1)) stops ∙ ap (λ k. counted e k (p + length ts) more) none

pub reference_ends_read : (levels p : ℕ) (ts more : Tokens) (r : Reference) → SpellsReferenceAlone levels p ts r → ReferenceEnds r more
    → reference_at levels p (ts ++ more) ≡ counted r 0 (p + length ts) more
unfolding reference_at
reference_ends_read levels p ts more r spelled stops =
    let none : 0 + count_reference (total (λ e. 0)) r ≡ 0 = omega (arith, no_reference r) in
    reference_again (λ list. Deeper (λ m. Every (OutermostFits m) list) levels) (total (λ e. 0)) (option_map (argument_of true) (inside levels)) (outermost_lists levels (inside levels) (inside_again levels))
    r 0 p ts more spelled.0 spelled.1 (omega (arith, none)) stops
    ∙ ap (λ k. counted r k (p + length ts) more) none

-- before tokens that continue none
pub expression_is_read : (levels p : ℕ) (ts more : Tokens) (e : Expression) → SpellsOutermost levels p ts e → EndsExpression more
    → expression_at levels 0 p (ts ++ more) ≡ counted e (operators e) (p + length ts) more
expression_is_read levels p ts more e spelled stops = expression_ends_read levels p ts more e spelled (any_expression e more stops)

pub reference_is_read : (levels p : ℕ) (ts more : Tokens) (r : Reference) → SpellsReferenceAlone levels p ts r → EndsReference more
    → reference_at levels p (ts ++ more) ≡ counted r 0 (p + length ts) more
reference_is_read levels p ts more r spelled stops = reference_ends_read levels p ts more r spelled (any_reference r more stops)

same_value : {A : Type 0} (e f : A) (m n p q : ℕ) (ts us : Tokens) → counted e m p ts ≡ counted f n q us → e ≡ f
same_value e f m n p q ts us h = ap (λ (x : Front (Counted _)). x.value.tree) (same_ok h)

pub at_most_one : (levels p : ℕ) (ts : Tokens) (e f : Expression) → SpellsOutermost levels p ts e → SpellsOutermost levels p ts f → e ≡ f
at_most_one levels p ts e f h g =
    same_value e f (operators e) (operators f) (p + length ts) (p + length ts) [] [] (sym (expression_is_read levels p ts [] e h tt) ∙ expression_is_read levels p ts [] f g tt)

pub at_most_one_reference : (levels p : ℕ) (ts : Tokens) (r s : Reference) → SpellsReferenceAlone levels p ts r → SpellsReferenceAlone levels p ts s → r ≡ s
at_most_one_reference levels p ts r s h g =
    same_value r s 0 0 (p + length ts) (p + length ts) [] [] (sym (reference_is_read levels p ts [] r h tt) ∙ reference_is_read levels p ts [] s g tt)
