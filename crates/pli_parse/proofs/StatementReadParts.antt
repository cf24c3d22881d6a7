-- What is read is spelled so: the parts of statements.
use Rattle.std.proofs.Common.{◌≡◌, ◌+◌, ℕ, Bool, true, false, cond, [], ◌∷◌, ◌++◌, Option, Some, None, Result, Ok, length, codes, refl, ap, ◌∙◌, subst, arith}
use Rattle.pli_base.specs.Name.{Name}
use Rattle.pli_base.specs.laws.NameLaws.{equal_from_pointwise}
use Rattle.pli_base.specs.Words.{Tokens, same_name, is_open, rest_after}
use Rattle.pli_base.specs.Results.{◌>>=◌}
use Rattle.pli_base.specs.Reading.{Front, read_as, enclosed, if_open}
use Rattle.pli_base.specs.Syntax.{Expression}
use Rattle.pli_base.specs.declared.code.Code.TheVariants.{BadDo}
use Rattle.pli_base.specs.declared.token.Fault.{Fault}
use Rattle.pli_base.specs.declared.token.Sign.TheVariants.{OpenParenthesis, Equals}
use Rattle.pli_base.specs.declared.token.TokenText.TheVariants.{Word, Sign}
use Rattle.pli_parse_expression.specs.Expressions.{SpellsOutermost}
use Rattle.pli_parse_declaration.specs.DeclarationGrammar.{SpellsFront}
use Rattle.pli_parse_declaration.proofs.DeclarationSteps.{mapped_ok, open_first, two}
use Rattle.pli_parse_fault.proofs.StepLemmas.{same_ok, bind_ok}
use Rattle.pli_parse_declaration.proofs.DeclarationRead.{Reads, enclosed_spelled}
use Rattle.pli_base.specs.Statements.{Range, To, By, Control}
use Rattle.pli_parse_statement.specs.StatementWords.{condition_of}
use Rattle.pli_parse_statement.specs.StatementReading.{expression_in, reference_in, parenthesized, condition_from, condition_at, optional_at, RangeWord, ToWord, ByWord, RepeatWord, range_first, range_from, range_at, Specified, Unspecified, Conditioned, Iterated, specified, control_from, control_at}
use Rattle.pli_parse_statement.specs.StatementGrammar.{SpellsCondition, SpellsEnclosed, SpellsOptional, SpellsRange, BeginsWithWhile, SpellsControl}
use Rattle.pli_base.specs.declared.statement.Condition.{Condition}
use Rattle.pli_parse.proofs.StatementReadTools.{expression_reads, reference_reads, parenthesized_reads, optional_reads, equals_ok}
use Rattle.pli_parse.proofs.WordsFirst.{range_spelling, range_begins}

-- in parentheses, or not there
abbrev pub MaybeEnclosed : {A : Type 0} → (ℕ → Tokens → A → Type 0) → ℕ → Tokens → Option A → Type 0
MaybeEnclosed Spells p ts None = ts ≡ []
MaybeEnclosed Spells p ts (Some x) = SpellsEnclosed Spells p ts x

pub open_reads : {A : Type 0} (one : ℕ → Tokens → Result (Front A) Fault) (Spells : ℕ → Tokens → A → Type 0) → Reads one Spells → Reads (λ p ts. if_open one p ts (rest_after is_open ts)) (MaybeEnclosed Spells)
open_reads one Spells reads p ts y h = by (rest_after is_open ts) refl h
  where
    by : (o : Option Tokens) → rest_after is_open ts ≡ o → if_open one p ts o ≡ Ok y → SpellsFront (MaybeEnclosed Spells) p ts y
    by None e g = subst (SpellsFront (MaybeEnclosed Spells) p ts) (same_ok g) ([], refl, omega arith, refl)
    by (Some us) e g =
        let m = mapped_ok Some (enclosed (one (p + 1) us)) y g in
        let f = enclosed_spelled one Spells reads p ts us (open_first ts us e) m.0 m.1 in
        subst (SpellsFront (MaybeEnclosed Spells) p ts) m.2 (f.0, f.1, f.2, f.3)

-- a condition
pub condition_reads : Reads condition_at (λ p ts c. SpellsCondition ts c)
unfolding condition_at
condition_reads p [] y h = cc
condition_reads p (Word n ∷ us) y h = by (condition_of n) refl h
  where
    by : (o : Option Condition) → condition_of n ≡ o → condition_from p us o ≡ Ok y → SpellsFront (λ p ts c. SpellsCondition ts c) p (Word n ∷ us) y
    by (Some c) e g = subst (SpellsFront (λ p ts c. SpellsCondition ts c) p (Word n ∷ us)) (same_ok g) (Word n ∷ [], refl, refl, (n, refl, e))
    by None e g = cc
condition_reads p (t ∷ us) y h = cc

-- the range of an iteration
-- an expression after the word, and after it another after the other word
range_two : (levels : ℕ) (w : RangeWord) (other : Name) (make : Expression → Option Expression → Range)
    → ((p : ℕ) (front rest : Tokens) (x : Expression) (y : Option Expression) → SpellsOutermost levels (p + 1) front x
    → SpellsOptional other (SpellsOutermost levels) (p + 1 + length front) rest y → SpellsRange levels p (Word (range_spelling w) ∷ (front ++ rest)) (Some (make x y)))
    → (p : ℕ) (ts us : Tokens) (y : Front (Option Range)) → range_first ts ≡ Some (w, us)
    → (expression_in levels (p + 1) us >>= λ x. optional_at other (expression_in levels) x.next x.rest >>= λ z. read_as (Some (make x.value z.value)) z.next z.rest) ≡ Ok y
    → SpellsFront (SpellsRange levels) p ts y
range_two levels w other make spells p ts us y e g =
    let a = bind_ok (expression_in levels (p + 1) us) _ y g in
    let f = expression_reads levels (p + 1) us a.0 a.1 in
    let m = bind_ok (optional_at other (expression_in levels) a.0.next a.0.rest) _ y a.2 in
    let o = optional_reads other (expression_in levels) (SpellsOutermost levels) (expression_reads levels) a.0.next a.0.rest m.0 m.1 in
    let t = two (p + 1) a.0.next m.0.next us a.0.rest m.0.rest f.0 o.0 f.1 f.2 o.1 o.2 in
    subst (SpellsFront (SpellsRange levels) p ts) (same_ok m.2) (
      Word (range_spelling w) ∷ (f.0 ++ o.0),
      range_begins ts us w e ∙ ap (λ vs. Word (range_spelling w) ∷ vs) t.0,
      omega (arith, t.1),
      spells p f.0 o.0 a.0.value m.0.value f.3 (subst (λ q. SpellsOptional other (SpellsOutermost levels) q o.0 m.0.value) f.2 o.3),
    )

pub range_reads : (levels : ℕ) → Reads (range_at levels) (SpellsRange levels)
unfolding range_at
range_reads levels p ts y h = by (range_first ts) refl h
  where
    by : (o : Option (RangeWord × Tokens)) → range_first ts ≡ o → range_from levels p ts o ≡ Ok y → SpellsFront (SpellsRange levels) p ts y
    by None e g = subst (SpellsFront (SpellsRange levels) p ts) (same_ok g) ([], refl, omega arith, refl)
    by (Some (ToWord, us)) e g = range_two levels ToWord (codes "BY") To (λ p front rest x y a b. (front, rest, refl, a, b)) p ts us y e g
    by (Some (ByWord, us)) e g = range_two levels ByWord (codes "TO") By (λ p front rest x y a b. (front, rest, refl, a, b)) p ts us y e g
    by (Some (RepeatWord, us)) e g =
        let m = mapped_ok _ (expression_in levels (p + 1) us) y g in
        let f = expression_reads levels (p + 1) us m.0 m.1 in
        subst (SpellsFront (SpellsRange levels) p ts) m.2 (
          Word (codes "REPEAT") ∷ f.0,
          range_begins ts us RepeatWord e ∙ ap (λ vs. Word (codes "REPEAT") ∷ vs) f.1,
          omega (arith, f.2),
          (f.0, refl, f.3),
        )

-- the specification of a group
conditioned_is : (ts us : Tokens) → specified ts ≡ Conditioned us → ts ≡ Word (codes "WHILE") ∷ us
unfolding specified
conditioned_is [] us h = cc
conditioned_is (Word n ∷ Sign OpenParenthesis ∷ ts) us h = by (same_name n (codes "WHILE")) refl h
  where
    by : (b : Bool) → same_name n (codes "WHILE") ≡ b → cond b (Conditioned (Sign OpenParenthesis ∷ ts)) Iterated ≡ Conditioned us → Word n ∷ Sign OpenParenthesis ∷ ts ≡ Word (codes "WHILE") ∷ us
    by true e g =
        let same : Sign OpenParenthesis ∷ ts ≡ us = cc in
        ap (λ m. Word m ∷ Sign OpenParenthesis ∷ ts) (equal_from_pointwise n (codes "WHILE") e) ∙ ap (λ vs. Word (codes "WHILE") ∷ vs) same
    by false e g = cc
conditioned_is (Word n ∷ ts) us h = cc
conditioned_is (t ∷ ts) us h = cc

no_while : (ts front rest : Tokens) → specified ts ≡ Iterated → ts ≡ front ++ rest → BeginsWithWhile front → ⊥
unfolding specified
no_while ts front rest h shape (us, e) =
    let begins : specified ts ≡ Conditioned (Sign OpenParenthesis ∷ (us ++ rest)) = ap specified (shape ∙ ap (λ vs. vs ++ rest) e) in
    cc

iteration_reads : (levels p : ℕ) (ts : Tokens) (y : Front (Option Control)) → specified ts ≡ Iterated → control_from levels p ts Iterated ≡ Ok y → SpellsFront (SpellsControl levels) p ts y
iteration_reads levels p ts y iterated h =
    let v = bind_ok (reference_in levels p ts) _ y h in
    let vs = reference_reads levels p ts v.0 v.1 in
    let u = equals_ok BadDo v.0.next v.0.rest _ y v.2 in
    let f = bind_ok (expression_in levels (v.0.next + 1) u.0) _ y u.2 in
    let fs = expression_reads levels (v.0.next + 1) u.0 f.0 f.1 in
    let r = bind_ok (range_at levels f.0.next f.0.rest) _ y f.2 in
    let rs = range_reads levels f.0.next f.0.rest r.0 r.1 in
    let c = bind_ok (optional_at (codes "WHILE") (parenthesized (expression_in levels)) r.0.next r.0.rest) _ y r.2 in
    let cs = optional_reads (codes "WHILE") (parenthesized (expression_in levels)) (SpellsEnclosed (SpellsOutermost levels)) (parenthesized_reads (expression_in levels) (SpellsOutermost levels) (expression_reads levels)) r.0.next r.0.rest c.0 c.1 in
    let rc = two f.0.next r.0.next c.0.next f.0.rest r.0.rest c.0.rest rs.0 cs.0 rs.1 rs.2 cs.1 cs.2 in
    let fc = two (v.0.next + 1) f.0.next c.0.next u.0 f.0.rest c.0.rest fs.0 (rs.0 ++ cs.0) fs.1 fs.2 rc.0 rc.1 in
    let all = two p v.0.next c.0.next ts v.0.rest c.0.rest vs.0 (Sign Equals ∷ (fs.0 ++ (rs.0 ++ cs.0))) vs.1 vs.2 (u.1 ∙ ap (λ ws. Sign Equals ∷ ws) fc.0) (omega (arith, fc.1)) in
    let first_place : v.0.next + 1 ≡ p + length vs.0 + 1 = ap (λ q. q + 1) vs.2 in
    let range_place : f.0.next ≡ p + length vs.0 + 1 + length fs.0 = fs.2 ∙ ap (λ q. q + length fs.0) first_place in
    let condition_place : r.0.next ≡ p + length vs.0 + 1 + length fs.0 + length rs.0 = rs.2 ∙ ap (λ q. q + length rs.0) range_place in
    subst (SpellsFront (SpellsControl levels) p ts) (same_ok c.2) (
      vs.0 ++ (Sign Equals ∷ (fs.0 ++ (rs.0 ++ cs.0))),
      all.0,
      all.1,
      (
        vs.0,
        fs.0,
        rs.0,
        cs.0,
        refl,
        no_while ts (vs.0 ++ (Sign Equals ∷ (fs.0 ++ (rs.0 ++ cs.0)))) c.0.rest iterated all.0,
        vs.2,
        vs.3,
        subst (λ q. SpellsOutermost levels q fs.0 f.0.value) first_place fs.3,
        subst (λ q. SpellsRange levels q rs.0 r.0.value) range_place rs.3,
        subst (λ q. SpellsOptional (codes "WHILE") (SpellsEnclosed (SpellsOutermost levels)) q cs.0 c.0.value) condition_place cs.3,
      ),
    )

pub control_reads : (levels : ℕ) → Reads (control_at levels) (SpellsControl levels)
unfolding control_at
control_reads levels p ts y h = by (specified ts) refl h
  where
    by : (s : Specified) → specified ts ≡ s → control_from levels p ts s ≡ Ok y → SpellsFront (SpellsControl levels) p ts y
    by Unspecified e g = subst (SpellsFront (SpellsControl levels) p ts) (same_ok g) ([], refl, omega arith, refl)
    by (Conditioned us) e g =
        let m = mapped_ok _ (parenthesized (expression_in levels) (p + 1) us) y g in
        let f = parenthesized_reads (expression_in levels) (SpellsOutermost levels) (expression_reads levels) (p + 1) us m.0 m.1 in
        subst (SpellsFront (SpellsControl levels) p ts) m.2 (
          Word (codes "WHILE") ∷ f.0,
          conditioned_is ts us e ∙ ap (λ vs. Word (codes "WHILE") ∷ vs) f.1,
          omega (arith, f.2),
          (f.0, refl, f.3),
        )
    by Iterated e g = iteration_reads levels p ts y e g
