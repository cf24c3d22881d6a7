-- What is read is spelled so.
use Rattle.std.proofs.Common.{◌≡◌, ◌+◌, ◌<◌, ◌≤◌, ℕ, suc, zero, Bool, true, false, cond, [], ◌∷◌, ◌++◌, Option, Some, None, Result, Ok, option_map, length, refl, ap, ◌∙◌, sym, subst, arith, append_assoc, length-append}
use Rattle.std.proofs.lemmas.List.{append-nil}
use Rattle.pli_base.specs.Name.{Name}
use Rattle.pli_base.specs.Syntax.{Expression, Referred, Constant, Parenthesized, Prefix, Infix, Reference, Named, JoinedParts, Alone, Joined, Arguments, Absent, Given, Expressions, Empty, Listed}
use Rattle.pli_base.specs.declared.code.Code.TheVariants.{ExpressionExpected, NameExpected}
use Rattle.pli_base.specs.declared.syntax.ConstantValue.TheVariants as constants
use Rattle.pli_base.specs.declared.syntax.PrefixOperator.{PrefixOperator}
use Rattle.pli_base.specs.declared.syntax.PrefixOperator.TheVariants as prefixes
use Rattle.pli_base.specs.declared.syntax.InfixOperator.{InfixOperator}
use Rattle.pli_base.specs.declared.syntax.Joining.{Joining}
use Rattle.pli_base.specs.declared.token.Fault.{Fault}
use Rattle.pli_base.specs.declared.token.Sign.TheVariants as signs
use Rattle.pli_base.specs.declared.token.TokenText.{TokenText}
use Rattle.pli_base.specs.declared.token.TokenText.TheVariants.{Word, Decimal, Binary, Characters, Bits, Sign}
use Rattle.pli_parse_expression.specs.Operators.{operator_limit, operand_level, level, level_of, prefix_sign, infix_sign, joining_sign, constant_token, operator_at, joining_at, begins_expression}
use Rattle.pli_parse_expression.specs.Expressions.{SpellsExpression, SpellsReference, SpellsJoined, SpellsArguments, SpellsListed, SpellsFurther, operators, reference_operators, joined_operators, listed_operators, Deeper, NestsWithin, ReferenceNests, JoinedNest, ArgumentsNest, ListNests, OutermostFits, SpellsOutermost, Every, GivenFits, JoinedFits, ReferenceFits, SpellsReferenceAlone}
use Rattle.pli_base.specs.Reading.{Front}
use Rattle.pli_parse_expression.specs.declared.counted.Counted.{Counted}
use Rattle.pli_parse_expression.specs.Reading.{counted, Reader, opened, closed, operand_then, grouped, infix_from, expression_of, listed_after, further_from, listed_at, list_at, arguments_at, part_after, parts_after, joined_from, reference_after, reference_of, prefix_of, parenthesis_of, constant_at, operand_of, inside, operand_at, expression_at, outermost, argument_of, reference_at}
use Rattle.pli_parse_expression.specs.laws.Laws.{FrontSpells}
use Rattle.pli_parse_expression.proofs.ReadingTools.{limited_ok, wanted_none, closed_ok, operator_ok, operator_below, level_small, none_above, joining_ok, name_ok, comma_ok}
use Rattle.pli_parse_fault.proofs.StepLemmas.{same_ok, bind_ok}
use Rattle.pli_base.specs.Words.{Tokens, name_first, rest_after, is_comma}
use Rattle.pli_base.specs.Results.{◌>>=◌}

-- the front of the tokens spells what was read, which has so many operators and fits; the rest is left
pub record IsRead {A : Type 0} (Spells : ℕ → Tokens → A → Type 0) (count_of : A → ℕ) (Fits : A → Type 0) (count p : ℕ) (ts : Tokens) (x : Front (Counted A)) : Type 0 where
  pub front : Tokens
  pub whole : ts ≡ front ++ x.rest
  pub spelled : Spells p front x.value.tree
  pub place : x.next ≡ p + length front
  pub counted : x.value.count ≡ count + count_of x.value.tree
  pub few : count ≤ operator_limit → x.value.count ≤ operator_limit
  pub fits : Fits x.value.tree

abbrev pub IsReadBy : (Fits : Expression → Type 0) → (count_of : Expression → ℕ) → Reader → Type 0
IsReadBy Fits count_of reader = (count p : ℕ) (ts : Tokens) (x : Front (Counted Expression)) → reader count p ts ≡ Ok x → IsRead SpellsExpression count_of Fits count p ts x

regroup : (a b c d : Tokens) → a ++ (b ++ (c ++ d)) ≡ ((a ++ b) ++ c) ++ d
regroup a b c d = simp append_assoc

-- what goes on after a left operand
record Goes (levels min : ℕ) (left : Expression) (q count p : ℕ) (ls ts : Tokens) (x : Front (Counted Expression)) : Type 0 where
  more : Tokens
  whole : ts ≡ more ++ x.rest
  spelled : SpellsExpression q (ls ++ more) x.value.tree
  place : x.next ≡ p + length more
  counted : x.value.count + operators left ≡ count + operators x.value.tree
  few : count ≤ operator_limit → x.value.count ≤ operator_limit
  fits : NestsWithin levels x.value.tree
  high : min ≤ level x.value.tree
  stopped : operator_at min x.rest ≡ None

-- an operand was read
abbrev pub IsOperandOf : ℕ → Expression → Type 0
IsOperandOf levels e = NestsWithin levels e × (level e ≡ operand_level)

module _ (levels : ℕ) (operand : Reader) (operand_read : IsReadBy (IsOperandOf levels) operators operand) where
  abbrev LoopReads : ℕ → Type 0
  LoopReads bound = (min count q p : ℕ) (left : Expression) (ls ts : Tokens) (x : Front (Counted Expression)) → SpellsExpression q ls left → NestsWithin levels left → p ≡ q + length ls → min ≤ level left
      → operator_at (suc (level left)) ts ≡ None → infix_from operand bound min count left p ts ≡ Ok x → Goes levels min left q count p ls ts x

  step_reads : (bound : ℕ) → LoopReads bound → (min count q p : ℕ) (left : Expression) (ls ts : Tokens) (x : Front (Counted Expression)) (o : Option (InfixOperator × Tokens)) → operator_at min ts ≡ o
      → SpellsExpression q ls left → NestsWithin levels left → p ≡ q + length ls → min ≤ level left
      → operator_at (suc (level left)) ts ≡ None → grouped operand (infix_from operand bound) min count left p ts o ≡ Ok x → Goes levels min left q count p ls ts x
  step_reads bound more_read min count q p left ls ts x None found spelled nests place high low h =
      subst (Goes levels min left q count p ls ts) (same_ok h) (record {
        more = [];
        whole = refl;
        spelled = subst (λ us. SpellsExpression q us left) (sym (append-nil ls)) spelled;
        place = omega arith;
        counted = refl;
        few = λ f. f;
        fits = nests;
        high = high;
        stopped = found;
      })
  step_reads bound more_read min count q p left ls ts x (Some o) found spelled nests place high low h =
      let top : ℕ = level_of o.0 + 1 in
      let g = limited_ok count p (operand_then operand (infix_from operand bound) top (count + 1) (p + 1) o.1 >>= λ y. infix_from operand bound min y.value.count (Infix o.0 p left y.value.tree) y.next y.rest) x h in
      let b = bind_ok (operand_then operand (infix_from operand bound) top (count + 1) (p + 1) o.1) (λ y. infix_from operand bound min y.value.count (Infix o.0 p left y.value.tree) y.next y.rest) x g.1 in
      let a = bind_ok (operand (count + 1) (p + 1) o.1) (λ z. infix_from operand bound top z.value.count z.value.tree z.next z.rest) b.0 b.1 in
      let y = b.0 in
      let z = a.0 in
      let s = operand_read (count + 1) (p + 1) o.1 z a.1 in
      let small : level_of o.0 < operand_level = level_small o.0 in
      let above : operator_at (suc (level z.value.tree)) z.rest ≡ None = ap (λ n. operator_at (suc n) z.rest) s.fits.1 ∙ none_above z.rest in
      let r = more_read top z.value.count (p + 1) z.next z.value.tree s.front z.rest y s.spelled s.fits.0 s.place (omega (arith, s.fits.1)) above a.2 in
      let op = operator_ok min ts o found in
      let below : level_of o.0 < suc (level left) = operator_below min (suc (level left)) ts o found low in
      let back : Tokens = s.front ++ r.more in
      let new : Tokens = ls ++ Sign (infix_sign o.0) ∷ back in
      let there : p + 1 ≡ q + length ls + 1 = omega arith in
      let is_top : top ≡ suc (level_of o.0) = omega arith in
      let t = more_read min y.value.count q y.next (Infix o.0 p left y.value.tree) new y.rest x
      (ls, back, refl, place, spelled, omega arith, subst (λ m. SpellsExpression m back y.value.tree) there r.spelled, omega (arith, r.high)) (nests, r.fits)
      (omega (arith, r.place, s.place, place, length-append ls (Sign (infix_sign o.0) ∷ back), length-append s.front r.more)) op.1 (ap (λ m. operator_at m y.rest) (sym is_top) ∙ r.stopped) b.2 in
      record {
        more = Sign (infix_sign o.0) ∷ (back ++ t.more);
        whole = op.0 ∙ ap (λ us. Sign (infix_sign o.0) ∷ us) (s.whole ∙ ap (λ us. s.front ++ us) (r.whole ∙ ap (λ us. r.more ++ us) t.whole) ∙ regroup s.front r.more t.more x.rest);
        spelled = subst (λ us. SpellsExpression q us x.value.tree) (append_assoc ls (Sign (infix_sign o.0) ∷ back) t.more) t.spelled;
        place = omega (arith, t.place, r.place, s.place, length-append back t.more, length-append s.front r.more);
        counted = omega (arith, t.counted, r.counted, s.counted);
        few = λ f. t.few (r.few (s.few (omega (arith, g.0))));
        fits = t.fits;
        high = t.high;
        stopped = t.stopped;
      }

  loop_reads : (bound : ℕ) → LoopReads bound
  unfolding infix_from
  loop_reads zero min count q p left ls ts x spelled nests place high low h = absurd (wanted_none ExpressionExpected p ts x h)
  loop_reads (suc bound) min count q p left ls ts x spelled nests place high low h =
      step_reads bound (loop_reads bound) min count q p left ls ts x (operator_at min ts) refl spelled nests place high low h

  pub expression_read : IsReadBy (NestsWithin levels) operators (expression_of operand)
  unfolding expression_of
  expression_read count p ts x h =
      let a = bind_ok (operand count p ts) (λ z. infix_from operand (length ts + 1) 0 z.value.count z.value.tree z.next z.rest) x h in
      let z = a.0 in
      let s = operand_read count p ts z a.1 in
      let above : operator_at (suc (level z.value.tree)) z.rest ≡ None = ap (λ n. operator_at (suc n) z.rest) s.fits.1 ∙ none_above z.rest in
      let r = loop_reads (length ts + 1) 0 z.value.count p z.next z.value.tree s.front z.rest x s.spelled s.fits.0 s.place (omega arith) above a.2 in
      record {
        front = s.front ++ r.more;
        whole = s.whole ∙ ap (λ us. s.front ++ us) r.whole ∙ sym (append_assoc s.front r.more x.rest);
        spelled = r.spelled;
        place = omega (arith, r.place, s.place, length-append s.front r.more);
        counted = omega (arith, r.counted, s.counted);
        few = λ f. r.few (s.few f);
        fits = r.fits;
      }

-- lists: the operators of each expression, and what fits for each
abbrev pub total : (Expression → ℕ) → Expressions → ℕ
total count_of Empty = 0
total count_of (Listed e more) = count_of e + total count_of more

-- a list and the parenthesis after it
abbrev pub SpellsClosed : ℕ → Tokens → Expressions → Type 0
SpellsClosed p ts list = (us : Tokens) × (ts ≡ us ++ Sign signs.CloseParenthesis ∷ []) × SpellsListed p us list

module _ (Fits : Expression → Type 0) (count_of : Expression → ℕ) (one : Reader) (one_read : IsReadBy Fits count_of one) where
  abbrev FurtherReads : ℕ → Type 0
  FurtherReads bound = (count p : ℕ) (ts : Tokens) (x : Front (Counted Expressions)) → further_from one bound count p ts ≡ Ok x → IsRead SpellsFurther (total count_of) (Every Fits) count p ts x

  further_step : (bound : ℕ) → FurtherReads bound → (count p : ℕ) (ts : Tokens) (x : Front (Counted Expressions)) (o : Option Tokens) → rest_after is_comma ts ≡ o → listed_after one (further_from one bound) count p ts o ≡ Ok x
      → IsRead SpellsFurther (total count_of) (Every Fits) count p ts x
  further_step bound more_read count p ts x None found h =
      subst (IsRead SpellsFurther (total count_of) (Every Fits) count p ts) (same_ok h) (record { front = []; whole = refl; spelled = refl; place = omega arith; counted = omega arith; few = λ f. f; fits = tt })
  further_step bound more_read count p ts x (Some us) found h =
      let a = bind_ok (one count (p + 1) us) _ x h in
      let b = bind_ok (further_from one bound a.0.value.count a.0.next a.0.rest) _ x a.2 in
      let s = one_read count (p + 1) us a.0 a.1 in
      let r = more_read a.0.value.count a.0.next a.0.rest b.0 b.1 in
      subst (IsRead SpellsFurther (total count_of) (Every Fits) count p ts) (same_ok b.2) (record {
        front = Sign signs.Comma ∷ (s.front ++ r.front);
        whole = comma_ok ts us found ∙ ap (λ vs. Sign signs.Comma ∷ vs) (s.whole ∙ ap (λ vs. s.front ++ vs) r.whole ∙ sym (append_assoc s.front r.front b.0.rest));
        spelled = (s.front, r.front, refl, s.spelled, subst (λ q. SpellsFurther q r.front b.0.value.tree) s.place r.spelled);
        place = omega (arith, r.place, s.place, length-append s.front r.front);
        counted = omega (arith, r.counted, s.counted);
        few = λ f. r.few (s.few f);
        fits = (s.fits, r.fits);
      })

  further_reads : (bound : ℕ) → FurtherReads bound
  unfolding further_from
  further_reads zero count p ts x h = absurd (wanted_none ExpressionExpected p ts x h)
  further_reads (suc bound) count p ts x h = further_step bound (further_reads bound) count p ts x (rest_after is_comma ts) refl h

  listed_reads : (count p : ℕ) (ts : Tokens) (x : Front (Counted Expressions)) → listed_at one count p ts ≡ Ok x → IsRead SpellsClosed (total count_of) (Every Fits) count p ts x
  unfolding listed_at
  listed_reads count p ts x h =
      let a = bind_ok (one count p ts) _ x h in
      let b = bind_ok (further_from one (length a.0.rest + 1) a.0.value.count a.0.next a.0.rest) _ x a.2 in
      let s = one_read count p ts a.0 a.1 in
      let r = further_reads (length a.0.rest + 1) a.0.value.count a.0.next a.0.rest b.0 b.1 in
      let c = closed_ok (Listed a.0.value.tree b.0.value.tree) b.0.value.count b.0.next b.0.rest x b.2 in
      subst (IsRead SpellsClosed (total count_of) (Every Fits) count p ts) c.2 (record {
        front = (s.front ++ r.front) ++ Sign signs.CloseParenthesis ∷ [];
        whole = s.whole ∙ ap (λ vs. s.front ++ vs) (r.whole ∙ ap (λ vs. r.front ++ vs) c.1) ∙ regroup s.front r.front (Sign signs.CloseParenthesis ∷ []) c.0;
        spelled = (s.front ++ r.front, refl, (s.front, r.front, refl, s.spelled, subst (λ q. SpellsFurther q r.front b.0.value.tree) s.place r.spelled));
        place = omega (arith, r.place, s.place, length-append s.front r.front, length-append (s.front ++ r.front) (Sign signs.CloseParenthesis ∷ []));
        counted = omega (arith, r.counted, s.counted);
        few = λ f. r.few (s.few f);
        fits = (s.fits, r.fits);
      })

  empty_reads : (count p : ℕ) (ts : Tokens) (x : Front (Counted Expressions)) → closed Empty count p ts ≡ Ok x → IsRead SpellsClosed (total count_of) (Every Fits) count p ts x
  empty_reads count p ts x h =
      let c = closed_ok Empty count p ts x h in
      subst (IsRead SpellsClosed (total count_of) (Every Fits) count p ts) c.2 (record {
        front = Sign signs.CloseParenthesis ∷ [];
        whole = c.1;
        spelled = ([], refl, refl);
        place = omega arith;
        counted = omega arith;
        few = λ f. f;
        fits = tt;
      })

  list_step : (b : Bool) (count p : ℕ) (ts : Tokens) (x : Front (Counted Expressions)) → cond b (listed_at one count p ts) (closed Empty count p ts) ≡ Ok x → IsRead SpellsClosed (total count_of) (Every Fits) count p ts x
  list_step true count p ts x h = listed_reads count p ts x h
  list_step false count p ts x h = empty_reads count p ts x h

  pub list_reads : (count p : ℕ) (ts : Tokens) (x : Front (Counted Expressions)) → list_at one count p ts ≡ Ok x → IsRead SpellsClosed (total count_of) (Every Fits) count p ts x
  unfolding list_at
  list_reads count p ts x h = list_step (begins_expression ts) count p ts x h

-- the same with other words for its number of operators and for what fits
pub counted_as : {A : Type 0} (Spells : ℕ → Tokens → A → Type 0) (count_of other_count : A → ℕ) (Fits Others : A → Type 0) (count p : ℕ) (ts : Tokens) (x : Front (Counted A))
    → ((v : A) → count_of v ≡ other_count v) → ((v : A) → Fits v → Others v) → IsRead Spells count_of Fits count p ts x → IsRead Spells other_count Others count p ts x
counted_as Spells count_of other_count Fits Others count p ts x same fit r =
    record { front = r.front; whole = r.whole; spelled = r.spelled; place = r.place; counted = r.counted ∙ ap (λ n. count + n) (same x.value.tree); few = r.few; fits = fit x.value.tree r.fits }

-- argument lists, and parts with them: the operators of each list, and what fits for each
abbrev pub ListsReadBy : (Fits : Expressions → Type 0) → (count_of : Expressions → ℕ) → Option Reader → Type 0
ListsReadBy Fits count_of None = Unit {0}
ListsReadBy Fits count_of (Some one) = (count p : ℕ) (ts : Tokens) (x : Front (Counted Expressions)) → list_at one count p ts ≡ Ok x → IsRead SpellsClosed count_of Fits count p ts x

abbrev pub count_given : (Expressions → ℕ) → Arguments → ℕ
count_given count_of Absent = 0
count_given count_of (Given list) = count_of list

abbrev pub count_joined : (Expressions → ℕ) → JoinedParts → ℕ
count_joined count_of Alone = 0
count_joined count_of (Joined joining name arguments more) = count_given count_of arguments + count_joined count_of more

abbrev pub count_reference : (Expressions → ℕ) → Reference → ℕ
count_reference count_of (Named name arguments more) = count_given count_of arguments + count_joined count_of more

module _ (Fits : Expressions → Type 0) (count_of : Expressions → ℕ) where
  abbrev ArgumentsRead : (count p : ℕ) (ts : Tokens) (x : Front (Counted Arguments)) → Type 0
  ArgumentsRead count p ts x = IsRead SpellsArguments (count_given count_of) (GivenFits Fits) count p ts x

  opened_reads : (one : Option Reader) → ListsReadBy Fits count_of one → (count p : ℕ) (ts : Tokens) (x : Front (Counted Arguments))
      → opened one p (λ one. list_at one count (p + 1) ts >>= λ y. counted (Given y.value.tree) y.value.count y.next y.rest) ≡ Ok x → ArgumentsRead count p (Sign signs.OpenParenthesis ∷ ts) x
  opened_reads None lists count p ts x h = cc
  opened_reads (Some one) lists count p ts x h =
      let a = bind_ok (list_at one count (p + 1) ts) _ x h in
      let s = lists count (p + 1) ts a.0 a.1 in
      subst (ArgumentsRead count p (Sign signs.OpenParenthesis ∷ ts)) (same_ok a.2) (record {
        front = Sign signs.OpenParenthesis ∷ s.front;
        whole = ap (λ us. Sign signs.OpenParenthesis ∷ us) s.whole;
        spelled = (s.spelled.0, ap (λ us. Sign signs.OpenParenthesis ∷ us) s.spelled.1, s.spelled.2);
        place = omega (arith, s.place);
        counted = s.counted;
        few = s.few;
        fits = s.fits;
      })

  absent_reads : (count p : ℕ) (ts : Tokens) (x : Front (Counted Arguments)) → ◌≡◌ {A = Result (Front (Counted Arguments)) Fault} (counted Absent count p ts) (Ok x) → ArgumentsRead count p ts x
  absent_reads count p ts x h = subst (ArgumentsRead count p ts) (same_ok h) (record { front = []; whole = refl; spelled = refl; place = omega arith; counted = omega arith; few = λ f. f; fits = tt })

  arguments_read : (one : Option Reader) → ListsReadBy Fits count_of one → (count p : ℕ) (ts : Tokens) (x : Front (Counted Arguments)) → arguments_at one count p ts ≡ Ok x → ArgumentsRead count p ts x
  unfolding arguments_at
  arguments_read one lists count p [] x h = absent_reads count p [] x h
  arguments_read one lists count p (Sign signs.OpenParenthesis ∷ ts) x h = opened_reads one lists count p ts x h
  arguments_read one lists count p (t ∷ ts) x h = absent_reads count p (t ∷ ts) x h

  module _ (one : Option Reader) (lists : ListsReadBy Fits count_of one) where
    abbrev PartsRead : (count p : ℕ) (ts : Tokens) (x : Front (Counted JoinedParts)) → Type 0
    PartsRead count p ts x = IsRead SpellsJoined (count_joined count_of) (JoinedFits Fits) count p ts x

    abbrev MoreRead : ℕ → Type 0
    MoreRead bound = (count p : ℕ) (ts : Tokens) (x : Front (Counted JoinedParts)) → joined_from one bound count p ts ≡ Ok x → PartsRead count p ts x

    part_step : (bound : ℕ) → MoreRead bound → (joining : Joining) (count p : ℕ) (us : Tokens) (x : Front (Counted JoinedParts)) (o : Option (Name × Tokens)) → name_first us ≡ o
        → part_after one (joined_from one bound) joining count (p + 1) us o ≡ Ok x → PartsRead count p (Sign (joining_sign joining) ∷ us) x
    part_step bound more_read joining count p us x None found h = absurd (wanted_none NameExpected (p + 1) us x h)
    part_step bound more_read joining count p us x (Some n) found h =
        let a = bind_ok (arguments_at one count (p + 1 + 1) n.1) _ x h in
        let b = bind_ok (joined_from one bound a.0.value.count a.0.next a.0.rest) _ x a.2 in
        let s = arguments_read one lists count (p + 1 + 1) n.1 a.0 a.1 in
        let r = more_read a.0.value.count a.0.next a.0.rest b.0 b.1 in
        let there : p + 1 + 1 ≡ p + 2 = omega arith in
        let further : a.0.next ≡ p + 2 + length s.front = omega (arith, s.place) in
        subst (PartsRead count p (Sign (joining_sign joining) ∷ us)) (same_ok b.2) (record {
          front = Sign (joining_sign joining) ∷ Word n.0 ∷ (s.front ++ r.front);
          whole = ap (λ vs. Sign (joining_sign joining) ∷ vs) (name_ok us n found ∙ ap (λ vs. Word n.0 ∷ vs) (s.whole ∙ ap (λ vs. s.front ++ vs) r.whole ∙ sym (append_assoc s.front r.front b.0.rest)));
          spelled = (s.front, r.front, refl, refl, subst (λ q. SpellsArguments q s.front a.0.value.tree) there s.spelled, subst (λ q. SpellsJoined q r.front b.0.value.tree) further r.spelled);
          place = omega (arith, r.place, s.place, length-append s.front r.front);
          counted = omega (arith, r.counted, s.counted);
          few = λ f. r.few (s.few f);
          fits = (s.fits, r.fits);
        })

    parts_step : (bound : ℕ) → MoreRead bound → (count p : ℕ) (ts : Tokens) (x : Front (Counted JoinedParts)) (o : Option (Joining × Tokens)) → joining_at ts ≡ o → parts_after one (joined_from one bound) count p ts o ≡ Ok x → PartsRead count p ts x
    parts_step bound more_read count p ts x None found h =
        subst (PartsRead count p ts) (same_ok h) (record { front = []; whole = refl; spelled = refl; place = omega arith; counted = omega arith; few = λ f. f; fits = tt })
    parts_step bound more_read count p ts x (Some j) found h =
        subst (λ us. PartsRead count p us x) (sym (joining_ok ts j found)) (part_step bound more_read j.0 count p j.1 x (name_first j.1) refl h)

    parts_read : (bound : ℕ) → MoreRead bound
    unfolding joined_from
    parts_read zero count p ts x h = absurd (wanted_none NameExpected p ts x h)
    parts_read (suc bound) count p ts x h = parts_step bound (parts_read bound) count p ts x (joining_at ts) refl h

    reference_step : (count p : ℕ) (ts : Tokens) (x : Front (Counted Reference)) (o : Option (Name × Tokens)) → name_first ts ≡ o → reference_after one count p ts o ≡ Ok x → IsRead SpellsReference (count_reference count_of) (ReferenceFits Fits) count p ts x
    reference_step count p ts x None found h = absurd (wanted_none NameExpected p ts x h)
    reference_step count p ts x (Some n) found h =
        let a = bind_ok (arguments_at one count (p + 1) n.1) _ x h in
        let b = bind_ok (joined_from one (length a.0.rest + 1) a.0.value.count a.0.next a.0.rest) _ x a.2 in
        let s = arguments_read one lists count (p + 1) n.1 a.0 a.1 in
        let r = parts_read (length a.0.rest + 1) a.0.value.count a.0.next a.0.rest b.0 b.1 in
        subst (IsRead SpellsReference (count_reference count_of) (ReferenceFits Fits) count p ts) (same_ok b.2) (record {
          front = Word n.0 ∷ (s.front ++ r.front);
          whole = name_ok ts n found ∙ ap (λ vs. Word n.0 ∷ vs) (s.whole ∙ ap (λ vs. s.front ++ vs) r.whole ∙ sym (append_assoc s.front r.front b.0.rest));
          spelled = (s.front, r.front, refl, refl, s.spelled, subst (λ q. SpellsJoined q r.front b.0.value.tree) s.place r.spelled);
          place = omega (arith, r.place, s.place, length-append s.front r.front);
          counted = omega (arith, r.counted, s.counted);
          few = λ f. r.few (s.few f);
          fits = (s.fits, r.fits);
        })

    pub reference_reads : (count p : ℕ) (ts : Tokens) (x : Front (Counted Reference)) → reference_of one count p ts ≡ Ok x → IsRead SpellsReference (count_reference count_of) (ReferenceFits Fits) count p ts x
    unfolding reference_of
    reference_reads count p ts x h = reference_step count p ts x (name_first ts) refl h

-- the words of the grammar for operators and nesting, and those for lists
pub total_is : (list : Expressions) → total operators list ≡ listed_operators list
total_is Empty = refl
total_is (Listed e more) = ap (λ n. operators e + n) (total_is more)

pub joined_is : (m : JoinedParts) → count_joined listed_operators m ≡ joined_operators m
joined_is Alone = refl
joined_is (Joined joining name Absent more) = ap (λ n. 0 + n) (joined_is more)
joined_is (Joined joining name (Given list) more) = ap (λ n. listed_operators list + n) (joined_is more)

pub reference_is : (r : Reference) → count_reference listed_operators r ≡ reference_operators r
reference_is (Named name Absent more) = ap (λ n. 0 + n) (joined_is more)
reference_is (Named name (Given list) more) = ap (λ n. listed_operators list + n) (joined_is more)

pub list_nests : (n : ℕ) (list : Expressions) → Every (NestsWithin n) list → ListNests n list
list_nests n Empty h = tt
list_nests n (Listed e more) h = (h.0, list_nests n more h.1)

abbrev pub ListFits : ℕ → Expressions → Type 0
ListFits n list = Deeper (λ m. ListNests m list) n

pub given_nests : (n : ℕ) (arguments : Arguments) → GivenFits (ListFits n) arguments → ArgumentsNest n arguments
given_nests n Absent h = tt
given_nests n (Given list) h = h

pub joined_nests : (n : ℕ) (m : JoinedParts) → JoinedFits (ListFits n) m → JoinedNest n m
joined_nests n Alone h = tt
joined_nests n (Joined joining name arguments more) h = (given_nests n arguments h.0, joined_nests n more h.1)

pub reference_nests : (n : ℕ) (r : Reference) → ReferenceFits (ListFits n) r → ReferenceNests n r
reference_nests n (Named name arguments more) h = (given_nests n arguments h.0, joined_nests n more h.1)

-- what reads operands one level deeper
abbrev pub OperandsReadBy : ℕ → Option Reader → Type 0
OperandsReadBy n None = Unit {0}
OperandsReadBy zero (Some operand) = ⊥
OperandsReadBy (suc n) (Some operand) = IsReadBy (IsOperandOf n) operators operand

abbrev OperandRead : (n count p : ℕ) → Tokens → Front (Counted Expression) → Type 0
OperandRead n count p ts x = IsRead SpellsExpression operators (IsOperandOf n) count p ts x

lists_read : (n : ℕ) (one : Option Reader) → OperandsReadBy n one → ListsReadBy (ListFits n) listed_operators (option_map expression_of one)
lists_read n None reads = tt
lists_read zero (Some operand) reads = absurd reads
lists_read (suc n) (Some operand) reads = λ count p ts x h.
    counted_as SpellsClosed (total operators) listed_operators (Every (NestsWithin n)) (ListNests n) count p ts x total_is (list_nests n)
    (list_reads (NestsWithin n) operators (expression_of operand) (expression_read n operand reads) count p ts x h)

referred_read : (n : ℕ) (one : Option Reader) → OperandsReadBy n one → (count p : ℕ) (ts : Tokens) (x : Front (Counted Expression))
    → (reference_of (option_map expression_of one) count p ts >>= λ y. counted (Referred y.value.tree) y.value.count y.next y.rest) ≡ Ok x → OperandRead n count p ts x
referred_read n one reads count p ts x h =
    let a = bind_ok (reference_of (option_map expression_of one) count p ts) _ x h in
    let s = counted_as SpellsReference (count_reference listed_operators) reference_operators (ReferenceFits (ListFits n)) (ReferenceNests n) count p ts a.0 reference_is (reference_nests n)
    (reference_reads (ListFits n) listed_operators (option_map expression_of one) (lists_read n one reads) count p ts a.0 a.1) in
    subst (OperandRead n count p ts) (same_ok a.2) (record { front = s.front; whole = s.whole; spelled = s.spelled; place = s.place; counted = s.counted; few = s.few; fits = (s.fits, refl) })

prefix_opened : (n : ℕ) (one : Option Reader) → OperandsReadBy n one → (operator : PrefixOperator) (count p : ℕ) (ts : Tokens) (x : Front (Counted Expression)) → count < operator_limit
    → opened one p (λ operand. operand (count + 1) (p + 1) ts >>= λ y. counted (Prefix operator p y.value.tree) y.value.count y.next y.rest) ≡ Ok x
    → OperandRead n count p (Sign (prefix_sign operator) ∷ ts) x
prefix_opened n None reads operator count p ts x few h = cc
prefix_opened zero (Some operand) reads operator count p ts x few h = absurd reads
prefix_opened (suc n) (Some operand) reads operator count p ts x few h =
    let a = bind_ok (operand (count + 1) (p + 1) ts) _ x h in
    let s = reads (count + 1) (p + 1) ts a.0 a.1 in
    subst (OperandRead (suc n) count p (Sign (prefix_sign operator) ∷ ts)) (same_ok a.2) (record {
      front = Sign (prefix_sign operator) ∷ s.front;
      whole = ap (λ us. Sign (prefix_sign operator) ∷ us) s.whole;
      spelled = (s.front, refl, refl, s.fits.1, s.spelled);
      place = omega (arith, s.place);
      counted = omega (arith, s.counted);
      few = λ f. s.few (omega arith);
      fits = (s.fits.0, refl);
    })

prefix_read : (n : ℕ) (one : Option Reader) → OperandsReadBy n one → (operator : PrefixOperator) (count p : ℕ) (ts : Tokens) (x : Front (Counted Expression)) → prefix_of one operator count p ts ≡ Ok x
    → OperandRead n count p (Sign (prefix_sign operator) ∷ ts) x
unfolding prefix_of
prefix_read n one reads operator count p ts x h =
    let g = limited_ok count p (opened one p (λ operand. operand (count + 1) (p + 1) ts >>= λ y. counted (Prefix operator p y.value.tree) y.value.count y.next y.rest)) x h in
    prefix_opened n one reads operator count p ts x g.0 g.1

parenthesis_read : (n : ℕ) (one : Option Reader) → OperandsReadBy n one → (count p : ℕ) (ts : Tokens) (x : Front (Counted Expression)) → parenthesis_of one count p ts ≡ Ok x → OperandRead n count p (Sign signs.OpenParenthesis ∷ ts) x
unfolding parenthesis_of
parenthesis_read n None reads count p ts x h = cc
parenthesis_read zero (Some operand) reads count p ts x h = absurd reads
parenthesis_read (suc n) (Some operand) reads count p ts x h =
    let a = bind_ok (expression_of operand count (p + 1) ts) _ x h in
    let s = expression_read n operand reads count (p + 1) ts a.0 a.1 in
    let c = closed_ok (Parenthesized p a.0.value.tree) a.0.value.count a.0.next a.0.rest x a.2 in
    subst (OperandRead (suc n) count p (Sign signs.OpenParenthesis ∷ ts)) c.2 (record {
      front = Sign signs.OpenParenthesis ∷ (s.front ++ Sign signs.CloseParenthesis ∷ []);
      whole = ap (λ us. Sign signs.OpenParenthesis ∷ us) (s.whole ∙ ap (λ us. s.front ++ us) c.1 ∙ sym (append_assoc s.front (Sign signs.CloseParenthesis ∷ []) c.0));
      spelled = (s.front, refl, refl, s.spelled);
      place = omega (arith, s.place, length-append s.front (Sign signs.CloseParenthesis ∷ []));
      counted = s.counted;
      few = s.few;
      fits = (s.fits, refl);
    })

constant_step : (n count p : ℕ) (t : TokenText) (v : _) (ts : Tokens) (x : Front (Counted Expression)) → t ≡ constant_token v
    → ◌≡◌ {A = Result (Front (Counted Expression)) Fault} (counted (Constant p v) count (p + 1) ts) (Ok x) → OperandRead n count p (t ∷ ts) x
constant_step n count p t v ts x is h =
    subst (OperandRead n count p (t ∷ ts)) (same_ok h) (record {
      front = t ∷ [];
      whole = refl;
      spelled = (ap (λ u. u ∷ []) is, refl);
      place = refl;
      counted = omega arith;
      few = λ f. f;
      fits = (tt, refl);
    })

constant_read : (n count p : ℕ) (ts : Tokens) (x : Front (Counted Expression)) → constant_at count p ts ≡ Ok x → OperandRead n count p ts x
unfolding constant_at
constant_read n count p [] x h = absurd (wanted_none ExpressionExpected p [] x h)
constant_read n count p (Decimal v d ∷ ts) x h = constant_step n count p (Decimal v d) (constants.Decimal v d) ts x refl h
constant_read n count p (Binary v d ∷ ts) x h = constant_step n count p (Binary v d) (constants.Binary v d) ts x refl h
constant_read n count p (Characters s ∷ ts) x h = constant_step n count p (Characters s) (constants.Characters s) ts x refl h
constant_read n count p (Bits s ∷ ts) x h = constant_step n count p (Bits s) (constants.Bits s) ts x refl h
constant_read n count p (t ∷ ts) x h = absurd (wanted_none ExpressionExpected p (t ∷ ts) x h)

operand_read : (n : ℕ) (one : Option Reader) → OperandsReadBy n one → IsReadBy (IsOperandOf n) operators (operand_of one)
unfolding operand_of
operand_read n one reads count p [] x h = constant_read n count p [] x h
operand_read n one reads count p (Word w ∷ ts) x h = referred_read n one reads count p (Word w ∷ ts) x h
operand_read n one reads count p (Sign signs.OpenParenthesis ∷ ts) x h = parenthesis_read n one reads count p ts x h
operand_read n one reads count p (Sign signs.Plus ∷ ts) x h = prefix_read n one reads prefixes.Plus count p ts x h
operand_read n one reads count p (Sign signs.Minus ∷ ts) x h = prefix_read n one reads prefixes.Minus count p ts x h
operand_read n one reads count p (Sign signs.Not ∷ ts) x h = prefix_read n one reads prefixes.Not count p ts x h
operand_read n one reads count p (t ∷ ts) x h = constant_read n count p (t ∷ ts) x h

inside_read : (n : ℕ) → OperandsReadBy n (inside n)
unfolding inside
inside_read zero = tt
inside_read (suc n) = operand_read n (inside n) (inside_read n)

pub expression_at_read : (levels : ℕ) → IsReadBy (NestsWithin levels) operators (expression_at levels)
unfolding expression_at
expression_at_read levels = expression_read levels (operand_at levels) (operand_read levels (inside levels) (inside_read levels))

-- an argument that is an outermost expression
pub outermost_read : (n : ℕ) (reader : Reader) → IsReadBy (NestsWithin n) operators reader → IsReadBy (OutermostFits n) (λ e. 0) (outermost reader)
outermost_read n reader reads count p ts x h =
    let a = bind_ok (reader 0 p ts) _ x h in
    let s = reads 0 p ts a.0 a.1 in
    let few : operators a.0.value.tree ≤ operator_limit = omega (arith, s.counted, s.few (omega arith)) in
    subst (IsRead SpellsExpression (λ e. 0) (OutermostFits n) count p ts) (same_ok a.2) (record {
      front = s.front;
      whole = s.whole;
      spelled = s.spelled;
      place = s.place;
      counted = omega arith;
      few = λ f. f;
      fits = (s.fits, few);
    })

outermost_lists : (n : ℕ) (one : Option Reader) → OperandsReadBy n one → ListsReadBy (λ list. Deeper (λ m. Every (OutermostFits m) list) n) (total (λ e. 0)) (option_map (argument_of true) one)
outermost_lists n None reads = tt
outermost_lists zero (Some operand) reads = absurd reads
outermost_lists (suc n) (Some operand) reads = λ count p ts x h.
    list_reads (OutermostFits n) (λ e. 0) (outermost (expression_of operand)) (outermost_read n (expression_of operand) (expression_read n operand reads)) count p ts x h

pub reference_at_read : (levels p : ℕ) (ts : Tokens) (x : Front (Counted Reference)) → reference_at levels p ts ≡ Ok x
    → IsRead SpellsReference (count_reference (total (λ e. 0))) (ReferenceFits (λ list. Deeper (λ m. Every (OutermostFits m) list) levels)) 0 p ts x
unfolding reference_at
reference_at_read levels p ts x h =
    reference_reads (λ list. Deeper (λ m. Every (OutermostFits m) list) levels) (total (λ e. 0)) (option_map (argument_of true) (inside levels)) (outermost_lists levels (inside levels) (inside_read levels)) 0 p ts x h

pub expression_spelled : (levels p : ℕ) (ts : Tokens) (x : Front (Counted Expression)) → expression_at levels 0 p ts ≡ Ok x → FrontSpells (SpellsOutermost levels) p ts x
expression_spelled levels p ts x h =
    let s = expression_at_read levels 0 p ts x h in
    let few : operators x.value.tree ≤ operator_limit = omega (arith, s.counted, s.few (omega arith)) in
    (s.front, s.whole, s.place, (s.spelled, (s.fits, few)))

pub reference_spelled : (levels p : ℕ) (ts : Tokens) (x : Front (Counted Reference)) → reference_at levels p ts ≡ Ok x → FrontSpells (SpellsReferenceAlone levels) p ts x
reference_spelled levels p ts x h = let s = reference_at_read levels p ts x h in (s.front, s.whole, s.place, (s.spelled, s.fits))
