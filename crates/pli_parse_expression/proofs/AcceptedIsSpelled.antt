-- What is accepted as an assignment is spelled by a reference, `=` and one expression.
use Rattle.std.proofs.Common.{◌≡◌, ◌+◌, ◌<◌, ◌≤◌, ℕ, suc, zero, nat_lt, Bool, true, false, List, [], ◌∷◌, ◌++◌, Option, Some, None, length, refl, ap, ◌∙◌, sym, subst, arith, append_assoc, length-append, ◌⊎◌, ⊎_elim, inl, inr}
use Rattle.std.proofs.lemmas.List.{append-nil}
use Rattle.std.proofs.lemmas.Bool.{ltb-true, ltb-false}
use Rattle.pli_base.specs.Syntax.{Expression, Referred, Constant, Parenthesized, Prefix, Infix, Named, JoinedParts, Alone, Joined, Absent, Given, Expressions, Empty, Listed}
use Rattle.pli_base.specs.Syntax as tree
use Rattle.pli_base.specs.declared.syntax.ConstantValue.{ConstantValue}
use Rattle.pli_base.specs.declared.syntax.ConstantValue.TheVariants as constants
use Rattle.pli_base.specs.declared.syntax.PrefixOperator.{PrefixOperator}
use Rattle.pli_base.specs.declared.syntax.PrefixOperator.TheVariants as prefixes
use Rattle.pli_base.specs.declared.syntax.InfixOperator.{InfixOperator}
use Rattle.pli_base.specs.declared.syntax.Joining.{Joining}
use Rattle.pli_base.specs.declared.syntax.Joining.TheVariants.{Member, Located}
use Rattle.pli_base.specs.declared.token.Sign.TheVariants as signs
use Rattle.pli_base.specs.declared.token.TokenText.{TokenText}
use Rattle.pli_base.specs.declared.token.TokenText.TheVariants as tokens
use Rattle.pli_parse_expression.specs.Operators.{operand_level, level, level_of, prefix_sign, infix_sign, joining_sign, constant_token, infix_of}
use Rattle.pli_parse_expression.specs.Expressions.{SpellsExpression, SpellsJoined, SpellsArguments, SpellsListed, SpellsFurther}
use Rattle.pli_parse_expression.specs.AssignmentGrammar.{IsAssignment}
use Rattle.pli_parse_expression.specs.Assignments.{may_end, accepts, is_assignment}
use Rattle.pli_parse_expression.specs.declared.assignment.State.TheVariants.{NameWanted, OperandWanted, ListBegun, AfterName, AfterList, AfterOperand}
use Rattle.pli_parse_expression.specs.declared.assignment.Frame.{Frame}
use Rattle.pli_parse_expression.specs.declared.assignment.Frame.TheVariants.{Target, Whole, Group, Arguments}
use Rattle.pli_parse_expression.proofs.ReadingTools.{infix_is, level_small}
use Rattle.pli_parse_expression.proofs.SpelledIsAccepted.{InExpression, infix_on}
use Rattle.pli_base.specs.Words.{Tokens}

-- an operator and its right operand after an expression: it takes as much of the expression's end as its priority lets it
abbrev Inserted : (e : Expression) (q : ℕ) (ls rs : Tokens) (o : InfixOperator) → Type 0
Inserted e q ls rs o = (new : Expression) × SpellsExpression q (ls ++ tokens.Sign (infix_sign o) ∷ rs) new × ((level new ≡ level_of o) ⊎ (level new ≡ level e))

outside : (e : Expression) (q : ℕ) (ls rs : Tokens) (o : InfixOperator) (r : Expression) → SpellsExpression q ls e → SpellsExpression (q + length ls + 1) rs r → level r ≡ operand_level → level_of o ≤ level e → Inserted e q ls rs o
outside e q ls rs o r left right is low =
    let small : level_of o < operand_level = level_small o in
    (Infix o (q + length ls) e r, (ls, rs, refl, refl, left, low, right, omega (arith, is)), inl refl)

inside_or_not : (m n : ℕ) → (n ≤ m) ⊎ (m < n)
inside_or_not m n = go (nat_lt m n) refl
  where
    go : (b : Bool) → nat_lt m n ≡ b → (n ≤ m) ⊎ (m < n)
    go true is = inr (ltb-true m n is)
    go false is = inl (ltb-false m n is)

insert : (e : Expression) (q : ℕ) (ls rs : Tokens) (o : InfixOperator) (r : Expression) → SpellsExpression q ls e → SpellsExpression (q + length ls + 1) rs r → level r ≡ operand_level → Inserted e q ls rs o
insert (Referred x) q ls rs o r left right is = let small : level_of o < operand_level = level_small o in outside (Referred x) q ls rs o r left right is (omega arith)
insert (Constant at v) q ls rs o r left right is = let small : level_of o < operand_level = level_small o in outside (Constant at v) q ls rs o r left right is (omega arith)
insert (Parenthesized at e) q ls rs o r left right is = let small : level_of o < operand_level = level_small o in outside (Parenthesized at e) q ls rs o r left right is (omega arith)
insert (Prefix p at e) q ls rs o r left right is = let small : level_of o < operand_level = level_small o in outside (Prefix p at e) q ls rs o r left right is (omega arith)
insert (Infix p at l m) q ls rs o r (xs, ys, shape, place, left, low, middle, above) right is =
    ⊎_elim (λ h. outside (Infix p at l m) q ls rs o r (xs, ys, shape, place, left, low, middle, above) right is h)
    (λ h.
    let there : q + length ls + 1 ≡ q + length xs + 1 + length ys + 1 = omega (arith, ap length shape, length-append xs (tokens.Sign (infix_sign p) ∷ ys)) in
    let i = insert m (q + length xs + 1) ys rs o r middle (subst (λ n. SpellsExpression n rs r) there right) is in
    let high : level_of p < level i.0 = ⊎_elim (λ e. subst (λ n. level_of p < n) (sym e) h) (λ e. subst (λ n. level_of p < n) (sym e) above) i.2 in (
      Infix p at l i.0,
      (xs, ys ++ tokens.Sign (infix_sign o) ∷ rs, ap (λ us. us ++ tokens.Sign (infix_sign o) ∷ rs) shape ∙ append_assoc xs (tokens.Sign (infix_sign p) ∷ ys) (tokens.Sign (infix_sign o) ∷ rs), place, left, low, i.1, high),
      inr refl,
    )) (inside_or_not (level_of p) (level_of o))

-- no infix operator stands first
abbrev NoInfix : Tokens → Type 0
NoInfix [] = Unit {0}
NoInfix (t ∷ ts) = infix_of t ≡ None

-- what the test has passed, with what is known of it and of the tokens that are left, and what it goes on with
record FrontFound (A : Type 0) (Spells : Tokens → A → Type 0) (Leaves : A → Tokens → Type 0) (f : Frame) (fs : List Frame) (ts : Tokens) : Type 0 where
  front : Tokens
  more : Tokens
  value : A
  whole : ts ≡ front ++ more
  spelled : Spells front value
  leaves : Leaves value more
  goes : accepts AfterOperand f fs more ≡ true

abbrev OperandFound : ℕ → Frame → List Frame → Tokens → Type 0
OperandFound p = FrontFound Expression (SpellsExpression p) (λ e us. level e ≡ operand_level)

abbrev ExpressionFound : (q : ℕ) (before : Tokens) → Frame → List Frame → Tokens → Type 0
ExpressionFound q before = FrontFound Expression (λ us e. SpellsExpression q (before ++ us) e) (λ e us. NoInfix us)

abbrev JoinedFound : ℕ → Frame → List Frame → Tokens → Type 0
JoinedFound p = FrontFound JoinedParts (SpellsJoined p) (λ m us. Unit {0})

record PartFound (p : ℕ) (f : Frame) (fs : List Frame) (ts : Tokens) : Type 0 where
  front : Tokens
  rest : Tokens
  more : Tokens
  arguments : tree.Arguments
  joined : JoinedParts
  whole : ts ≡ (front ++ rest) ++ more
  given : SpellsArguments p front arguments
  spelled : SpellsJoined (p + length front) rest joined
  goes : accepts AfterOperand f fs more ≡ true

record ListFound (Spells : ℕ → Tokens → Expressions → Type 0) (p : ℕ) (f : Frame) (fs : List Frame) (ts : Tokens) : Type 0 where
  front : Tokens
  more : Tokens
  value : Expressions
  whole : ts ≡ front ++ tokens.Sign signs.CloseParenthesis ∷ more
  spelled : Spells p front value
  goes : accepts AfterList f fs more ≡ true

-- for fewer than n tokens
record Found (n : ℕ) : Type 0 where
  joined : (p : ℕ) (f : Frame) (fs : List Frame) (ts : Tokens) → length ts < n → accepts AfterList f fs ts ≡ true → JoinedFound p f fs ts
  part : (p : ℕ) (f : Frame) (fs : List Frame) (ts : Tokens) → length ts < n → accepts AfterName f fs ts ≡ true → PartFound p f fs ts
  operand : (p : ℕ) (f : Frame) (fs : List Frame) (ts : Tokens) → InExpression f → length ts < n → accepts OperandWanted f fs ts ≡ true → OperandFound p f fs ts
  further : (q p : ℕ) (e : Expression) (before : Tokens) (f : Frame) (fs : List Frame) (ts : Tokens) → InExpression f → length ts < n → SpellsExpression q before e → p ≡ q + length before → accepts AfterOperand f fs ts ≡ true
      → ExpressionFound q before f fs ts
  expression : (p : ℕ) (f : Frame) (fs : List Frame) (ts : Tokens) → InExpression f → length ts < n → accepts OperandWanted f fs ts ≡ true → ExpressionFound p [] f fs ts
  list : (p : ℕ) (f : Frame) (fs : List Frame) (ts : Tokens) → length ts < n → accepts ListBegun Arguments (f ∷ fs) ts ≡ true → ListFound SpellsListed p f fs ts
  rest : (p : ℕ) (f : Frame) (fs : List Frame) (ts : Tokens) → length ts < n → NoInfix ts → accepts AfterOperand Arguments (f ∷ fs) ts ≡ true → ListFound SpellsFurther p f fs ts

ends_alike : (f : Frame) → may_end AfterList f ≡ may_end AfterOperand f
ends_alike Target = refl
ends_alike Whole = refl
ends_alike Group = refl
ends_alike Arguments = refl

name_ends_alike : (f : Frame) → may_end AfterName f ≡ may_end AfterOperand f
name_ends_alike Target = refl
name_ends_alike Whole = refl
name_ends_alike Group = refl
name_ends_alike Arguments = refl

module _ (n : ℕ) (found : Found n) where
  named_part : (j : Joining) (p : ℕ) (f : Frame) (fs : List Frame) (ts : Tokens) → length ts < n → accepts NameWanted f fs ts ≡ true → JoinedFound p f fs (tokens.Sign (joining_sign j) ∷ ts)
  unfolding accepts
  named_part j p f fs [] small h = cc
  named_part j p f fs (tokens.Word w ∷ ts) small h =
      let i = found.part (p + 2) f fs ts (omega arith) h in
      record {
        front = tokens.Sign (joining_sign j) ∷ tokens.Word w ∷ (i.front ++ i.rest);
        more = i.more;
        value = Joined j (record { name = w; at = p + 1 }) i.arguments i.joined;
        whole = ap (λ us. tokens.Sign (joining_sign j) ∷ tokens.Word w ∷ us) i.whole;
        spelled = (i.front, i.rest, refl, refl, i.given, i.spelled);
        leaves = tt;
        goes = i.goes;
      }
  named_part j p f fs (tokens.Sign signs.Comma ∷ ts) small h = cc
  named_part j p f fs (t ∷ ts) small h = cc

  joined_next : (p : ℕ) (f : Frame) (fs : List Frame) (ts : Tokens) → length ts < suc n → accepts AfterList f fs ts ≡ true → JoinedFound p f fs ts
  unfolding accepts
  joined_next p f fs [] small h = record { front = []; more = []; value = Alone; whole = refl; spelled = refl; leaves = tt; goes = sym (ends_alike f) ∙ h }
  joined_next p f fs (tokens.Sign signs.Period ∷ ts) small h = named_part Member p f fs ts (omega arith) h
  joined_next p f fs (tokens.Sign signs.Arrow ∷ ts) small h = named_part Located p f fs ts (omega arith) h
  joined_next p f fs (t ∷ ts) small h = record { front = []; more = t ∷ ts; value = Alone; whole = refl; spelled = refl; leaves = tt; goes = h }

  without_list : (p : ℕ) (f : Frame) (fs : List Frame) (ts : Tokens) → length ts < suc n → accepts AfterList f fs ts ≡ true → PartFound p f fs ts
  without_list p f fs ts small h =
      let i = joined_next p f fs ts small h in
      let there : p ≡ p + 0 = omega arith in
      record { front = []; rest = i.front; more = i.more; arguments = Absent; joined = i.value; whole = i.whole; given = refl; spelled = subst (λ q. SpellsJoined q i.front i.value) there i.spelled; goes = i.goes }

  part_next : (p : ℕ) (f : Frame) (fs : List Frame) (ts : Tokens) → length ts < suc n → accepts AfterName f fs ts ≡ true → PartFound p f fs ts
  unfolding accepts
  part_next p f fs [] small h = without_list p f fs [] small (ends_alike f ∙ sym (name_ends_alike f) ∙ h)
  part_next p f fs (tokens.Sign signs.OpenParenthesis ∷ ts) small h =
      let l = found.list (p + 1) f fs ts (omega arith) h in
      let less : length l.more < n = omega (arith, small, ap length l.whole, length-append l.front (tokens.Sign signs.CloseParenthesis ∷ l.more)) in
      let i = found.joined (p + 1 + length l.front + 1) f fs l.more less l.goes in
      let there : p + 1 + length l.front + 1 ≡ p + length (tokens.Sign signs.OpenParenthesis ∷ l.front ++ tokens.Sign signs.CloseParenthesis ∷ []) = omega (arith, length-append l.front (tokens.Sign signs.CloseParenthesis ∷ [])) in
      record {
        front = tokens.Sign signs.OpenParenthesis ∷ l.front ++ tokens.Sign signs.CloseParenthesis ∷ [];
        rest = i.front;
        more = i.more;
        arguments = Given l.value;
        joined = i.value;
        whole = ap (λ us. tokens.Sign signs.OpenParenthesis ∷ us) (l.whole ∙ ap (λ us. l.front ++ tokens.Sign signs.CloseParenthesis ∷ us) i.whole ∙ closing l.front i.front i.more);
        given = (l.front, refl, l.spelled);
        spelled = subst (λ q. SpellsJoined q i.front i.value) there i.spelled;
        goes = i.goes;
      }
    where
      closing : (a b c : Tokens) → a ++ tokens.Sign signs.CloseParenthesis ∷ (b ++ c) ≡ ((a ++ tokens.Sign signs.CloseParenthesis ∷ []) ++ b) ++ c
      closing a b c = simp append_assoc
  part_next p f fs (t ∷ ts) small h = without_list p f fs (t ∷ ts) small h

  constant_found : (v : ConstantValue) (p : ℕ) (f : Frame) (fs : List Frame) (ts : Tokens) → accepts AfterOperand f fs ts ≡ true → OperandFound p f fs (constant_token v ∷ ts)
  constant_found v p f fs ts h = record { front = constant_token v ∷ []; more = ts; value = Constant p v; whole = refl; spelled = (refl, refl); leaves = refl; goes = h }

  prefix_found : (o : PrefixOperator) (p : ℕ) (f : Frame) (fs : List Frame) (ts : Tokens) → InExpression f → length ts < n → accepts OperandWanted f fs ts ≡ true → OperandFound p f fs (tokens.Sign (prefix_sign o) ∷ ts)
  prefix_found o p f fs ts within small h =
      let i = found.operand (p + 1) f fs ts within small h in
      record {
        front = tokens.Sign (prefix_sign o) ∷ i.front;
        more = i.more;
        value = Prefix o p i.value;
        whole = ap (λ us. tokens.Sign (prefix_sign o) ∷ us) i.whole;
        spelled = (i.front, refl, refl, i.leaves, i.spelled);
        leaves = refl;
        goes = i.goes;
      }

  group_ends : (f : Frame) (fs : List Frame) (ts : Tokens) → NoInfix ts → accepts AfterOperand Group (f ∷ fs) ts ≡ true → (us : Tokens) × (ts ≡ tokens.Sign signs.CloseParenthesis ∷ us) × (accepts AfterOperand f fs us ≡ true)
  unfolding accepts
  group_ends f fs [] stops h = cc
  group_ends f fs (tokens.Sign signs.CloseParenthesis ∷ ts) stops h = (ts, refl, h)
  group_ends f fs (t ∷ ts) stops h = cc

  operand_next : (p : ℕ) (f : Frame) (fs : List Frame) (ts : Tokens) → InExpression f → length ts < suc n → accepts OperandWanted f fs ts ≡ true → OperandFound p f fs ts
  unfolding accepts
  operand_next p f fs [] within small h = cc
  operand_next p f fs (tokens.Word w ∷ ts) within small h =
      let i = found.part (p + 1) f fs ts (omega arith) h in
      record {
        front = tokens.Word w ∷ (i.front ++ i.rest);
        more = i.more;
        value = Referred (Named (record { name = w; at = p }) i.arguments i.joined);
        whole = ap (λ us. tokens.Word w ∷ us) i.whole;
        spelled = (i.front, i.rest, refl, refl, i.given, i.spelled);
        leaves = refl;
        goes = i.goes;
      }
  operand_next p f fs (tokens.Decimal v d ∷ ts) within small h = constant_found (constants.Decimal v d) p f fs ts h
  operand_next p f fs (tokens.Binary v d ∷ ts) within small h = constant_found (constants.Binary v d) p f fs ts h
  operand_next p f fs (tokens.Characters v ∷ ts) within small h = constant_found (constants.Characters v) p f fs ts h
  operand_next p f fs (tokens.Bits v ∷ ts) within small h = constant_found (constants.Bits v) p f fs ts h
  operand_next p f fs (tokens.Sign signs.OpenParenthesis ∷ ts) within small h =
      let i = found.expression (p + 1) Group (f ∷ fs) ts tt (omega arith) h in
      let g = group_ends f fs i.more i.leaves i.goes in
      record {
        front = tokens.Sign signs.OpenParenthesis ∷ i.front ++ tokens.Sign signs.CloseParenthesis ∷ [];
        more = g.0;
        value = Parenthesized p i.value;
        whole = ap (λ us. tokens.Sign signs.OpenParenthesis ∷ us) (i.whole ∙ ap (λ us. i.front ++ us) g.1 ∙ sym (append_assoc i.front (tokens.Sign signs.CloseParenthesis ∷ []) g.0));
        spelled = (i.front, refl, refl, i.spelled);
        leaves = refl;
        goes = g.2;
      }
  operand_next p f fs (tokens.Sign signs.Plus ∷ ts) within small h = prefix_found prefixes.Plus p f fs ts within (omega arith) h
  operand_next p f fs (tokens.Sign signs.Minus ∷ ts) within small h = prefix_found prefixes.Minus p f fs ts within (omega arith) h
  operand_next p f fs (tokens.Sign signs.Not ∷ ts) within small h = prefix_found prefixes.Not p f fs ts within (omega arith) h
  operand_next p f fs (t ∷ ts) within small h = cc

  infix_found : (o : InfixOperator) (q p : ℕ) (e : Expression) (before : Tokens) (f : Frame) (fs : List Frame) (ts : Tokens) → InExpression f → length ts < n → SpellsExpression q before e → p ≡ q + length before
      → accepts OperandWanted f fs ts ≡ true → ExpressionFound q before f fs (tokens.Sign (infix_sign o) ∷ ts)
  infix_found o q p e before f fs ts within small spelled place h =
      let i = found.operand (q + length before + 1) f fs ts within small h in
      let j = insert e q before i.front o i.value spelled i.spelled i.leaves in
      let now : Tokens = before ++ tokens.Sign (infix_sign o) ∷ i.front in
      let less : length i.more < n = omega (arith, small, ap length i.whole, length-append i.front i.more) in
      let k = found.further q (q + length now) j.0 now f fs i.more within less j.1 refl i.goes in
      record {
        front = tokens.Sign (infix_sign o) ∷ (i.front ++ k.front);
        more = k.more;
        value = k.value;
        whole = ap (λ us. tokens.Sign (infix_sign o) ∷ us) (i.whole ∙ ap (λ us. i.front ++ us) k.whole ∙ sym (append_assoc i.front k.front k.more));
        spelled = subst (λ us. SpellsExpression q us k.value) (append_assoc before (tokens.Sign (infix_sign o) ∷ i.front) k.front) k.spelled;
        leaves = k.leaves;
        goes = k.goes;
      }

  further_at : (q p : ℕ) (e : Expression) (before : Tokens) (f : Frame) (fs : List Frame) (t : TokenText) (ts : Tokens) (o : Option InfixOperator) → infix_of t ≡ o → InExpression f → length ts < n → SpellsExpression q before e
      → p ≡ q + length before → accepts AfterOperand f fs (t ∷ ts) ≡ true → ExpressionFound q before f fs (t ∷ ts)
  further_at q p e before f fs t ts None is within small spelled place h =
      record { front = []; more = t ∷ ts; value = e; whole = refl; spelled = subst (λ us. SpellsExpression q us e) (sym (append-nil before)) spelled; leaves = is; goes = h }
  further_at q p e before f fs t ts (Some o) is within small spelled place h =
      let sign : t ≡ tokens.Sign (infix_sign o) = infix_is t o is in
      subst (λ u. ExpressionFound q before f fs (u ∷ ts)) (sym sign)
      (infix_found o q p e before f fs ts within small spelled place (sym (infix_on AfterOperand f fs o ts tt within) ∙ ap (λ u. accepts AfterOperand f fs (u ∷ ts)) (sym sign) ∙ h))

  further_next : (q p : ℕ) (e : Expression) (before : Tokens) (f : Frame) (fs : List Frame) (ts : Tokens) → InExpression f → length ts < suc n → SpellsExpression q before e → p ≡ q + length before → accepts AfterOperand f fs ts ≡ true
      → ExpressionFound q before f fs ts
  further_next q p e before f fs [] within small spelled place h =
      record { front = []; more = []; value = e; whole = refl; spelled = subst (λ us. SpellsExpression q us e) (sym (append-nil before)) spelled; leaves = tt; goes = h }
  further_next q p e before f fs (t ∷ ts) within small spelled place h = further_at q p e before f fs t ts (infix_of t) refl within (omega arith) spelled place h

  expression_next : (p : ℕ) (f : Frame) (fs : List Frame) (ts : Tokens) → InExpression f → length ts < suc n → accepts OperandWanted f fs ts ≡ true → ExpressionFound p [] f fs ts
  expression_next p f fs ts within small h =
      let i = operand_next p f fs ts within small h in
      let less : length i.more < suc n = omega (arith, small, ap length i.whole, length-append i.front i.more) in
      let k = further_next p (p + length i.front) i.value i.front f fs i.more within less i.spelled refl i.goes in
      record {
        front = i.front ++ k.front;
        more = k.more;
        value = k.value;
        whole = i.whole ∙ ap (λ us. i.front ++ us) k.whole ∙ sym (append_assoc i.front k.front k.more);
        spelled = k.spelled;
        leaves = k.leaves;
        goes = k.goes;
      }

  rest_next : (p : ℕ) (f : Frame) (fs : List Frame) (ts : Tokens) → length ts < suc n → NoInfix ts → accepts AfterOperand Arguments (f ∷ fs) ts ≡ true → ListFound SpellsFurther p f fs ts
  unfolding accepts
  rest_next p f fs [] small stops h = cc
  rest_next p f fs (tokens.Sign signs.CloseParenthesis ∷ ts) small stops h = record { front = []; more = ts; value = Empty; whole = refl; spelled = refl; goes = h }
  rest_next p f fs (tokens.Sign signs.Comma ∷ ts) small stops h =
      let i = found.expression (p + 1) Arguments (f ∷ fs) ts tt (omega arith) h in
      let less : length i.more < n = omega (arith, small, ap length i.whole, length-append i.front i.more) in
      let k = found.rest (p + 1 + length i.front) f fs i.more less i.leaves i.goes in
      record {
        front = tokens.Sign signs.Comma ∷ (i.front ++ k.front);
        more = k.more;
        value = Listed i.value k.value;
        whole = ap (λ us. tokens.Sign signs.Comma ∷ us) (i.whole ∙ ap (λ us. i.front ++ us) k.whole ∙ sym (append_assoc i.front k.front (tokens.Sign signs.CloseParenthesis ∷ k.more)));
        spelled = (i.front, k.front, refl, i.spelled, k.spelled);
        goes = k.goes;
      }
  rest_next p f fs (t ∷ ts) small stops h = cc

  list_of : (p : ℕ) (f : Frame) (fs : List Frame) (ts : Tokens) → length ts < suc n → accepts OperandWanted Arguments (f ∷ fs) ts ≡ true → ListFound SpellsListed p f fs ts
  list_of p f fs ts small h =
      let i = expression_next p Arguments (f ∷ fs) ts tt small h in
      let less : length i.more < suc n = omega (arith, small, ap length i.whole, length-append i.front i.more) in
      let k = rest_next (p + length i.front) f fs i.more less i.leaves i.goes in
      record {
        front = i.front ++ k.front;
        more = k.more;
        value = Listed i.value k.value;
        whole = i.whole ∙ ap (λ us. i.front ++ us) k.whole ∙ sym (append_assoc i.front k.front (tokens.Sign signs.CloseParenthesis ∷ k.more));
        spelled = (i.front, k.front, refl, i.spelled, k.spelled);
        goes = k.goes;
      }

  list_next : (p : ℕ) (f : Frame) (fs : List Frame) (ts : Tokens) → length ts < suc n → accepts ListBegun Arguments (f ∷ fs) ts ≡ true → ListFound SpellsListed p f fs ts
  unfolding accepts
  list_next p f fs [] small h = cc
  list_next p f fs (tokens.Sign signs.CloseParenthesis ∷ ts) small h = record { front = []; more = ts; value = Empty; whole = refl; spelled = refl; goes = h }
  list_next p f fs (t ∷ ts) small h = list_of p f fs (t ∷ ts) small h

found_all : (n : ℕ) → Found n
found_all zero =
    record {
      joined = λ p f fs ts small h. absurd (omega arith);
      part = λ p f fs ts small h. absurd (omega arith);
      operand = λ p f fs ts within small h. absurd (omega arith);
      further = λ q p e before f fs ts within small spelled place h. absurd (omega arith);
      expression = λ p f fs ts within small h. absurd (omega arith);
      list = λ p f fs ts small h. absurd (omega arith);
      rest = λ p f fs ts small stops h. absurd (omega arith);
    }
found_all (suc n) =
    let found = found_all n in
    record {
      joined = joined_next n found;
      part = part_next n found;
      operand = operand_next n found;
      further = further_next n found;
      expression = expression_next n found;
      list = list_next n found;
      rest = rest_next n found;
    }

target_ends : (ts : Tokens) → accepts AfterOperand Target [] ts ≡ true → (us : Tokens) × (ts ≡ tokens.Sign signs.Equals ∷ us) × (accepts OperandWanted Whole [] us ≡ true)
unfolding accepts
target_ends [] h = cc
target_ends (tokens.Sign signs.Equals ∷ ts) h = (ts, refl, h)
target_ends (t ∷ ts) h = cc

whole_ends : (ts : Tokens) → NoInfix ts → accepts AfterOperand Whole [] ts ≡ true → ts ≡ []
unfolding accepts
whole_ends [] stops h = refl
whole_ends (tokens.Sign signs.Comma ∷ ts) stops h = cc
whole_ends (t ∷ ts) stops h = cc

from_name : (p : ℕ) (ts : Tokens) → accepts NameWanted Target [] ts ≡ true → IsAssignment p ts
unfolding accepts
from_name p [] h = cc
from_name p (tokens.Word w ∷ ts) h =
    let i = (found_all (length ts + 1)).part (p + 1) Target [] ts (omega arith) h in
    let g = target_ends i.more i.goes in
    let ls : Tokens = tokens.Word w ∷ (i.front ++ i.rest) in
    let k = (found_all (length g.0 + 1)).expression (p + length ls + 1) Whole [] g.0 tt (omega arith) g.2 in
    let none : k.more ≡ [] = whole_ends k.more k.leaves k.goes in
    let all : g.0 ≡ k.front = k.whole ∙ ap (λ us. k.front ++ us) none ∙ append-nil k.front in (
      ls,
      k.front,
      Named (record { name = w; at = p }) i.arguments i.joined,
      k.value,
      ap (λ us. tokens.Word w ∷ us) (i.whole ∙ ap (λ us. (i.front ++ i.rest) ++ us) (g.1 ∙ ap (λ us. tokens.Sign signs.Equals ∷ us) all)),
      (i.front, i.rest, refl, refl, i.given, i.spelled),
      k.spelled,
    )
from_name p (tokens.Sign signs.Comma ∷ ts) h = cc
from_name p (t ∷ ts) h = cc

pub accepted_is_assignment : (p : ℕ) (ts : Tokens) → is_assignment ts ≡ true → IsAssignment p ts
unfolding is_assignment
accepted_is_assignment p ts h = from_name p ts h
