-- What is read ends where it is left off: the tokens that are left do not continue it, and no longer front spells one.
use Rattle.std.proofs.Common.{◌≡◌, ◌≤◌, ◌+◌, ℕ, suc, zero, nat_lt, Bool, true, false, cond, [], ◌∷◌, ◌++◌, Option, Some, None, Result, Ok, option_map, length, refl, ap, ◌∙◌, sym, subst, arith}
use Rattle.std.proofs.lemmas.Bool.{ltb-true}
use Rattle.std.proofs.lemmas.List.{append-nil}
use Rattle.pli_base.specs.laws.FrontLaws.{no_longer}
use Rattle.pli_base.specs.Name.{Name}
use Rattle.pli_base.specs.Syntax.{Expression, Referred, Constant, Parenthesized, Prefix, Infix, Reference, JoinedParts, Arguments, Absent, Given}
use Rattle.pli_base.specs.declared.code.Code.TheVariants.{ExpressionExpected, NameExpected}
use Rattle.pli_base.specs.declared.syntax.ConstantValue.{ConstantValue}
use Rattle.pli_base.specs.declared.syntax.ConstantValue.TheVariants as constants
use Rattle.pli_base.specs.declared.syntax.PrefixOperator.{PrefixOperator}
use Rattle.pli_base.specs.declared.syntax.PrefixOperator.TheVariants as prefixes
use Rattle.pli_base.specs.declared.syntax.InfixOperator.{InfixOperator}
use Rattle.pli_base.specs.declared.syntax.Joining.{Joining}
use Rattle.pli_base.specs.declared.token.Fault.{Fault}
use Rattle.pli_base.specs.declared.token.Sign.TheVariants as signs
use Rattle.pli_base.specs.declared.token.TokenText.{TokenText}
use Rattle.pli_base.specs.declared.token.TokenText.TheVariants.{Word, Decimal, Binary, Characters, Bits, Sign}
use Rattle.pli_parse_expression.specs.Operators.{infix_of, not_below, level_of, operator_at, joining_at}
use Rattle.pli_base.specs.Words.{Tokens, name_first}
use Rattle.pli_parse_expression.specs.Expressions.{operators, SpellsOutermost, SpellsReferenceAlone}
use Rattle.pli_parse_expression.specs.Ends.{parts_go_on, NoneGoesOn, ReferenceEnds, NoInfix, ExpressionEnds}
use Rattle.pli_base.specs.Reading.{Front}
use Rattle.pli_parse_expression.specs.declared.counted.Counted.{Counted}
use Rattle.pli_parse_expression.specs.Reading.{counted, Reader, opened, closed, operand_then, grouped, infix_from, expression_of, list_at, arguments_at, part_after, parts_after, joined_from, reference_after, reference_of, prefix_of, parenthesis_of, constant_at, operand_of, inside, operand_at, expression_at, argument_of, reference_at}
use Rattle.pli_base.specs.Results.{◌>>=◌}
use Rattle.pli_parse_expression.proofs.ReadingTools.{limited_ok, wanted_none, closed_ok}
use Rattle.pli_parse_fault.proofs.StepLemmas.{same_ok, bind_ok}
use Rattle.pli_parse_expression.specs.laws.Laws.{FrontSpells}
use Rattle.pli_parse_expression.proofs.ReadIsSpelled.{expression_spelled, reference_spelled}
use Rattle.pli_parse_expression.proofs.SpelledIsRead.{expression_ends_read, reference_ends_read}
use Rattle.pli_parse_expression.proofs.EndTools.{OperandEnds, ArgumentsEnd, none_goes_on}

-- after a constant and a `)`
nothing_goes_on : (ts : Tokens) → NoneGoesOn (λ t. false) ts
nothing_goes_on [] = tt
nothing_goes_on (t ∷ ts) = refl

-- what reads operands leaves off where they end
abbrev Stops : Reader → Type 0
Stops operand = (count p : ℕ) (ts : Tokens) (x : Front (Counted Expression)) → operand count p ts ≡ Ok x → OperandEnds x.value.tree x.rest

module _ (operand : Reader) (stops : Stops operand) where
  abbrev LoopStops : ℕ → Type 0
  LoopStops bound = (min count : ℕ) (left : Expression) (p : ℕ) (ts : Tokens) (x : Front (Counted Expression)) → OperandEnds left ts → infix_from operand bound min count left p ts ≡ Ok x → OperandEnds x.value.tree x.rest × (operator_at min x.rest ≡ None)

  step_stops : (bound : ℕ) → LoopStops bound → (min count : ℕ) (left : Expression) (p : ℕ) (ts : Tokens) (x : Front (Counted Expression)) → OperandEnds left ts → (o : Option (InfixOperator × Tokens)) → operator_at min ts ≡ o
      → grouped operand (infix_from operand bound) min count left p ts o ≡ Ok x → OperandEnds x.value.tree x.rest × (operator_at min x.rest ≡ None)
  step_stops bound more min count left p ts x ends None found h =
      subst (λ (y : Front (Counted Expression)). OperandEnds y.value.tree y.rest × (operator_at min y.rest ≡ None)) (same_ok h) (ends, found)
  step_stops bound more min count left p ts x ends (Some o) found h =
      let top : ℕ = level_of o.0 + 1 in
      let g = limited_ok count p (operand_then operand (infix_from operand bound) top (count + 1) (p + 1) o.1 >>= λ y. infix_from operand bound min y.value.count (Infix o.0 p left y.value.tree) y.next y.rest) x h in
      let b = bind_ok (operand_then operand (infix_from operand bound) top (count + 1) (p + 1) o.1) (λ y. infix_from operand bound min y.value.count (Infix o.0 p left y.value.tree) y.next y.rest) x g.1 in
      let a = bind_ok (operand (count + 1) (p + 1) o.1) (λ z. infix_from operand bound top z.value.count z.value.tree z.next z.rest) b.0 b.1 in
      let r = more top a.0.value.count a.0.value.tree a.0.next a.0.rest b.0 (stops (count + 1) (p + 1) o.1 a.0 a.1) a.2 in
      more min b.0.value.count (Infix o.0 p left b.0.value.tree) b.0.next b.0.rest x r.0 b.2

  loop_stops : (bound : ℕ) → LoopStops bound
  unfolding infix_from
  loop_stops zero min count left p ts x ends h = absurd (wanted_none ExpressionExpected p ts x h)
  loop_stops (suc bound) min count left p ts x ends h = step_stops bound (loop_stops bound) min count left p ts x ends (operator_at min ts) refl h

  pub expression_stops : (count p : ℕ) (ts : Tokens) (x : Front (Counted Expression)) → expression_of operand count p ts ≡ Ok x → OperandEnds x.value.tree x.rest × (operator_at 0 x.rest ≡ None)
  unfolding expression_of
  expression_stops count p ts x h =
      let a = bind_ok (operand count p ts) (λ z. infix_from operand (length ts + 1) 0 z.value.count z.value.tree z.next z.rest) x h in
      loop_stops (length ts + 1) 0 a.0.value.count a.0.value.tree a.0.next a.0.rest x (stops count p ts a.0 a.1) a.2

-- no infix operator is of level 0
below_none : (o : Option InfixOperator) (ts : Tokens) → not_below 0 o ts ≡ None → o ≡ None
below_none None ts h = refl
below_none (Some o) ts h = by (nat_lt (level_of o) 0) refl h
  where
    by : (b : Bool) → nat_lt (level_of o) 0 ≡ b → ◌≡◌ {A = Option (InfixOperator × Tokens)} (cond b None (Some (o, ts))) None → Some o ≡ None
    by true is g = absurd (omega (arith, ltb-true (level_of o) 0 is))
    by false is g = cc

no_infix : (ts : Tokens) → operator_at 0 ts ≡ None → NoInfix ts
unfolding operator_at
no_infix [] h = tt
no_infix (t ∷ ts) h = below_none (infix_of t) ts h

opened_end : (one : Option Reader) (count p : ℕ) (ts : Tokens) (x : Front (Counted Arguments))
    → opened one p (λ one. list_at one count (p + 1) ts >>= λ y. counted (Given y.value.tree) y.value.count y.next y.rest) ≡ Ok x → ArgumentsEnd x.value.tree x.rest
opened_end None count p ts x h = cc
opened_end (Some one) count p ts x h =
    let a = bind_ok (list_at one count (p + 1) ts) _ x h in
    subst (λ (y : Front (Counted Arguments)). ArgumentsEnd y.value.tree y.rest) (same_ok a.2) tt

absent_end : (count p : ℕ) (ts : Tokens) (x : Front (Counted Arguments)) → ArgumentsEnd Absent ts → ◌≡◌ {A = Result (Front (Counted Arguments)) Fault} (counted Absent count p ts) (Ok x) → ArgumentsEnd x.value.tree x.rest
absent_end count p ts x closed h = subst (λ (y : Front (Counted Arguments)). ArgumentsEnd y.value.tree y.rest) (same_ok h) closed

arguments_stop : (one : Option Reader) (count p : ℕ) (ts : Tokens) (x : Front (Counted Arguments)) → arguments_at one count p ts ≡ Ok x → ArgumentsEnd x.value.tree x.rest
unfolding arguments_at
arguments_stop one count p [] x h = absent_end count p [] x tt h
arguments_stop one count p (Sign signs.OpenParenthesis ∷ ts) x h = opened_end one count p ts x h
arguments_stop one count p (t ∷ ts) x h = absent_end count p (t ∷ ts) x tt h

module _ (one : Option Reader) where
  abbrev PartsStop : ℕ → Type 0
  PartsStop bound = (a : Arguments) (count p : ℕ) (ts : Tokens) (x : Front (Counted JoinedParts)) → ArgumentsEnd a ts → joined_from one bound count p ts ≡ Ok x → NoneGoesOn (parts_go_on a x.value.tree) x.rest

  part_stops : (bound : ℕ) → PartsStop bound → (a : Arguments) (joining : Joining) (count p : ℕ) (us : Tokens) (x : Front (Counted JoinedParts)) (o : Option (Name × Tokens)) → part_after one (joined_from one bound) joining count p us o ≡ Ok x
      → NoneGoesOn (parts_go_on a x.value.tree) x.rest
  part_stops bound more a joining count p us x None h = absurd (wanted_none NameExpected p us x h)
  part_stops bound more a joining count p us x (Some n) h =
      let s = bind_ok (arguments_at one count (p + 1) n.1) _ x h in
      let b = bind_ok (joined_from one bound s.0.value.count s.0.next s.0.rest) _ x s.2 in
      subst (λ (y : Front (Counted JoinedParts)). NoneGoesOn (parts_go_on a y.value.tree) y.rest) (same_ok b.2)
      (more s.0.value.tree s.0.value.count s.0.next s.0.rest b.0 (arguments_stop one count (p + 1) n.1 s.0 s.1) b.1)

  parts_step : (bound : ℕ) → PartsStop bound → (a : Arguments) (count p : ℕ) (ts : Tokens) (x : Front (Counted JoinedParts)) → ArgumentsEnd a ts → (o : Option (Joining × Tokens)) → joining_at ts ≡ o
      → parts_after one (joined_from one bound) count p ts o ≡ Ok x → NoneGoesOn (parts_go_on a x.value.tree) x.rest
  parts_step bound more a count p ts x closed None found h = subst (λ (y : Front (Counted JoinedParts)). NoneGoesOn (parts_go_on a y.value.tree) y.rest) (same_ok h) (none_goes_on a ts closed found)
  parts_step bound more a count p ts x closed (Some j) found h = part_stops bound more a j.0 count (p + 1) j.1 x (name_first j.1) h

  parts_stop : (bound : ℕ) → PartsStop bound
  unfolding joined_from
  parts_stop zero a count p ts x closed h = absurd (wanted_none NameExpected p ts x h)
  parts_stop (suc bound) a count p ts x closed h = parts_step bound (parts_stop bound) a count p ts x closed (joining_at ts) refl h

  reference_step : (count p : ℕ) (ts : Tokens) (x : Front (Counted Reference)) (o : Option (Name × Tokens)) → reference_after one count p ts o ≡ Ok x → ReferenceEnds x.value.tree x.rest
  reference_step count p ts x None h = absurd (wanted_none NameExpected p ts x h)
  reference_step count p ts x (Some n) h =
      let a = bind_ok (arguments_at one count (p + 1) n.1) _ x h in
      let b = bind_ok (joined_from one (length a.0.rest + 1) a.0.value.count a.0.next a.0.rest) _ x a.2 in
      subst (λ (y : Front (Counted Reference)). ReferenceEnds y.value.tree y.rest) (same_ok b.2)
      (parts_stop (length a.0.rest + 1) a.0.value.tree a.0.value.count a.0.next a.0.rest b.0 (arguments_stop one count (p + 1) n.1 a.0 a.1) b.1)

  pub reference_stops : (count p : ℕ) (ts : Tokens) (x : Front (Counted Reference)) → reference_of one count p ts ≡ Ok x → ReferenceEnds x.value.tree x.rest
  unfolding reference_of
  reference_stops count p ts x h = reference_step count p ts x (name_first ts) h

-- what reads operands one level deeper
abbrev StopsWhere : Option Reader → Type 0
StopsWhere None = Unit {0}
StopsWhere (Some operand) = Stops operand

abbrev Ended : Front (Counted Expression) → Type 0
Ended x = OperandEnds x.value.tree x.rest

prefix_opened : (one : Option Reader) → StopsWhere one → (operator : PrefixOperator) (count p : ℕ) (ts : Tokens) (x : Front (Counted Expression))
    → opened one p (λ operand. operand (count + 1) (p + 1) ts >>= λ y. counted (Prefix operator p y.value.tree) y.value.count y.next y.rest) ≡ Ok x → Ended x
prefix_opened None stops operator count p ts x h = cc
prefix_opened (Some operand) stops operator count p ts x h =
    let a = bind_ok (operand (count + 1) (p + 1) ts) _ x h in
    subst Ended (same_ok a.2) (stops (count + 1) (p + 1) ts a.0 a.1)

prefix_stops : (one : Option Reader) → StopsWhere one → (operator : PrefixOperator) (count p : ℕ) (ts : Tokens) (x : Front (Counted Expression)) → prefix_of one operator count p ts ≡ Ok x → Ended x
unfolding prefix_of
prefix_stops one stops operator count p ts x h =
    let g = limited_ok count p (opened one p (λ operand. operand (count + 1) (p + 1) ts >>= λ y. counted (Prefix operator p y.value.tree) y.value.count y.next y.rest)) x h in
    prefix_opened one stops operator count p ts x g.1

parenthesis_stops : (one : Option Reader) (count p : ℕ) (ts : Tokens) (x : Front (Counted Expression)) → parenthesis_of one count p ts ≡ Ok x → Ended x
unfolding parenthesis_of
parenthesis_stops None count p ts x h = cc
parenthesis_stops (Some operand) count p ts x h =
    let a = bind_ok (expression_of operand count (p + 1) ts) _ x h in
    let c = closed_ok (Parenthesized p a.0.value.tree) a.0.value.count a.0.next a.0.rest x a.2 in
    subst Ended c.2 (nothing_goes_on c.0)

constant_ended : (count p : ℕ) (v : ConstantValue) (ts : Tokens) (x : Front (Counted Expression)) → ◌≡◌ {A = Result (Front (Counted Expression)) Fault} (counted (Constant p v) count (p + 1) ts) (Ok x) → Ended x
constant_ended count p v ts x h = subst Ended (same_ok h) (nothing_goes_on ts)

constant_stops : Stops constant_at
unfolding constant_at
constant_stops count p [] x h = absurd (wanted_none ExpressionExpected p [] x h)
constant_stops count p (Decimal v d ∷ ts) x h = constant_ended count p (constants.Decimal v d) ts x h
constant_stops count p (Binary v d ∷ ts) x h = constant_ended count p (constants.Binary v d) ts x h
constant_stops count p (Characters s ∷ ts) x h = constant_ended count p (constants.Characters s) ts x h
constant_stops count p (Bits s ∷ ts) x h = constant_ended count p (constants.Bits s) ts x h
constant_stops count p (t ∷ ts) x h = absurd (wanted_none ExpressionExpected p (t ∷ ts) x h)

referred_stops : (one : Option Reader) (count p : ℕ) (ts : Tokens) (x : Front (Counted Expression))
    → (reference_of one count p ts >>= λ y. counted (Referred y.value.tree) y.value.count y.next y.rest) ≡ Ok x → Ended x
referred_stops one count p ts x h =
    let a = bind_ok (reference_of one count p ts) _ x h in
    subst Ended (same_ok a.2) (reference_stops one count p ts a.0 a.1)

operand_stops : (one : Option Reader) → StopsWhere one → Stops (operand_of one)
unfolding operand_of
operand_stops one stops count p [] x h = constant_stops count p [] x h
operand_stops one stops count p (Word w ∷ ts) x h = referred_stops (option_map expression_of one) count p (Word w ∷ ts) x h
operand_stops one stops count p (Sign signs.OpenParenthesis ∷ ts) x h = parenthesis_stops one count p ts x h
operand_stops one stops count p (Sign signs.Plus ∷ ts) x h = prefix_stops one stops prefixes.Plus count p ts x h
operand_stops one stops count p (Sign signs.Minus ∷ ts) x h = prefix_stops one stops prefixes.Minus count p ts x h
operand_stops one stops count p (Sign signs.Not ∷ ts) x h = prefix_stops one stops prefixes.Not count p ts x h
operand_stops one stops count p (t ∷ ts) x h = constant_stops count p (t ∷ ts) x h

inside_stops : (levels : ℕ) → StopsWhere (inside levels)
unfolding inside
inside_stops zero = tt
inside_stops (suc levels) = operand_stops (inside levels) (inside_stops levels)

pub expression_at_ends : (levels p : ℕ) (ts : Tokens) (x : Front (Counted Expression)) → expression_at levels 0 p ts ≡ Ok x → ExpressionEnds x.value.tree x.rest
unfolding expression_at
expression_at_ends levels p ts x h =
    let s = expression_stops (operand_at levels) (operand_stops (inside levels) (inside_stops levels)) 0 p ts x h in
    (s.0, no_infix x.rest s.1)

pub reference_at_ends : (levels p : ℕ) (ts : Tokens) (x : Front (Counted Reference)) → reference_at levels p ts ≡ Ok x → ReferenceEnds x.value.tree x.rest
unfolding reference_at
reference_at_ends levels p ts x h = reference_stops (option_map (argument_of true) (inside levels)) 0 p ts x h

-- the first token alone decides
ends_of_front : (goes_on : TokenText → Bool) (us more : Tokens) → NoneGoesOn goes_on (us ++ more) → NoneGoesOn goes_on us
ends_of_front goes_on [] more h = tt
ends_of_front goes_on (t ∷ us) more h = h

infix_of_front : (us more : Tokens) → NoInfix (us ++ more) → NoInfix us
infix_of_front [] more h = tt
infix_of_front (t ∷ us) more h = h

rest_same : {A : Type 0} (v w : A) (m n p q : ℕ) (us vs : Tokens)
    → ◌≡◌ {A = Result (Front (Counted A)) Fault} (counted v m p us) (counted w n q vs) → us ≡ vs
rest_same v w m n p q us vs h = ap (λ (x : Front (Counted _)). x.rest) (same_ok h)

-- what is read is spelled by the longest front that spells any: where it is left off it ends, and what ends is read
longest : {A : Type 0} (one : ℕ → Tokens → Result (Front (Counted A)) Fault) (count : A → ℕ) (Spells : ℕ → Tokens → A → Type 0)
    (Ends : A → Tokens → Type 0)
    → ((p : ℕ) (ts : Tokens) (x : Front (Counted A)) → one p ts ≡ Ok x → FrontSpells Spells p ts x × Ends x.value.tree x.rest)
    → ((v : A) (us more : Tokens) → Ends v (us ++ more) → Ends v us) → ((v : A) → Ends v [])
    → ((p : ℕ) (ts more : Tokens) (v : A) → Spells p ts v → Ends v more
    → one p (ts ++ more) ≡ counted v (count v) (p + length ts) more)
    → (p : ℕ) (ts : Tokens) (x : Front (Counted A)) → one p ts ≡ Ok x
    → (longer more : Tokens) (v : A) → ts ≡ longer ++ more → Spells p longer v → p + length longer ≤ x.next
longest one count Spells Ends read fronts nothing again p ts x h longer more v whole spelled =
    let r = read p ts x h in
    let f = r.0 in
    no_longer x.next p ts f.0 x.rest longer more f.1 f.2 whole
    (λ us shape rest.
    let first = again p f.0 us x.value.tree f.3 (fronts x.value.tree us more (subst (Ends x.value.tree) rest r.1)) in
    let second = again p longer [] v spelled (nothing v) in
    rest_same x.value.tree v (count x.value.tree) (count v) (p + length f.0) (p + length longer) us []
    (sym first ∙ ap (one p) (sym shape ∙ sym (append-nil longer)) ∙ second))

pub expression_longest : (levels p : ℕ) (ts : Tokens) (x : Front (Counted Expression)) → expression_at levels 0 p ts ≡ Ok x
    → (longer more : Tokens) (e : Expression) → ts ≡ longer ++ more → SpellsOutermost levels p longer e → p + length longer ≤ x.next
expression_longest levels =
    longest (expression_at levels 0) operators (SpellsOutermost levels) ExpressionEnds
    (λ p ts x h. (expression_spelled levels p ts x h, expression_at_ends levels p ts x h))
    (λ e us more h. (ends_of_front _ us more h.0, infix_of_front us more h.1)) (λ e. (tt, tt)) (expression_ends_read levels)

pub reference_longest : (levels p : ℕ) (ts : Tokens) (x : Front (Counted Reference)) → reference_at levels p ts ≡ Ok x
    → (longer more : Tokens) (r : Reference) → ts ≡ longer ++ more → SpellsReferenceAlone levels p longer r → p + length longer ≤ x.next
reference_longest levels =
    longest (reference_at levels) (λ r. 0) (SpellsReferenceAlone levels) ReferenceEnds
    (λ p ts x h. (reference_spelled levels p ts x h, reference_at_ends levels p ts x h))
    (λ r us more h. ends_of_front _ us more h) (λ r. tt) (reference_ends_read levels)
