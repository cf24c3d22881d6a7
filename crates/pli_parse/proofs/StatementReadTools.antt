-- Steps of reading statements, taken apart.
use Rattle.std.proofs.Common.{◌≡◌, ◌+◌, ℕ, Bool, true, false, cond, [], ◌∷◌, Option, Some, None, Result, Ok, Err, length, refl, ap, ◌∙◌, sym, subst, arith}
use Rattle.pli_base.specs.Name.{Name}
use Rattle.pli_base.specs.laws.NameLaws.{equal_from_pointwise}
use Rattle.pli_base.specs.Words.{Tokens, same_name, is_semicolon, is_open, is_word, rest_after}
use Rattle.pli_base.specs.Results.{◌>>=◌}
use Rattle.pli_base.specs.Reading.{Front, taken}
use Rattle.pli_parse_expression.specs.declared.counted.Counted.{Counted}
use Rattle.pli_base.specs.declared.code.Code.{Code}
use Rattle.pli_base.specs.declared.code.Code.TheVariants.{SemicolonExpected, ParenthesisExpected}
use Rattle.pli_base.specs.declared.token.Fault.{Fault}
use Rattle.pli_base.specs.declared.token.Sign.TheVariants.{Semicolon, Equals}
use Rattle.pli_base.specs.declared.token.TokenText.{TokenText}
use Rattle.pli_base.specs.declared.token.TokenText.TheVariants.{Word, Sign}
use Rattle.pli_parse_expression.specs.Reading as expressions
use Rattle.pli_parse_expression.specs.Expressions.{SpellsOutermost, SpellsReferenceAlone}
use Rattle.pli_parse_expression.proofs.ReadIsSpelled.{expression_spelled, reference_spelled}
use Rattle.pli_parse_declaration.specs.DeclarationReading.{list_at}
use Rattle.pli_parse_declaration.specs.DeclarationGrammar.{SpellsFront, SpellsListed}
use Rattle.pli_parse_declaration.proofs.DeclarationSteps.{mapped_ok, first_is, open_first, semicolon_first, taken_ok}
use Rattle.pli_parse_fault.proofs.StepLemmas.{same_ok, some_same, bind_ok}
use Rattle.pli_parse_declaration.proofs.DeclarationRead.{Reads, enclosed_spelled, listed_reads}
use Rattle.pli_parse_statement.specs.StatementWords.{after_word}
use Rattle.pli_parse_statement.specs.StatementReading.{uncounted, expression_in, reference_in, stopped, parenthesized, is_equals, if_word, optional_at}
use Rattle.pli_parse_statement.specs.StatementGrammar.{SpellsEnclosed, SpellsOptional}
use Rattle.pli_parse_declaration.specs.declared.list.Separator.TheVariants.{Commas}

-- the count of operators is dropped
pub uncounted_ok : {A : Type 0} (r : Result (Front (Counted A)) Fault) (y : Front A) → uncounted r ≡ Ok y → (x : Front (Counted A)) × (r ≡ Ok x) × (record { value = x.value.tree; next = x.next; rest = x.rest } ≡ y)
uncounted_ok (Ok x) y h = (x, refl, same_ok h)
uncounted_ok (Err e) y h = cc

pub expression_reads : (levels : ℕ) → Reads (expression_in levels) (SpellsOutermost levels)
unfolding expression_in
expression_reads levels p ts y h =
    let u = uncounted_ok (expressions.expression_at levels 0 p ts) y h in
    let f = expression_spelled levels p ts u.0 u.1 in
    subst (SpellsFront (SpellsOutermost levels) p ts) u.2 (f.0, f.1, f.2, f.3)

pub reference_reads : (levels : ℕ) → Reads (reference_in levels) (SpellsReferenceAlone levels)
unfolding reference_in
reference_reads levels p ts y h =
    let u = uncounted_ok (expressions.reference_at levels p ts) y h in
    let f = reference_spelled levels p ts u.0 u.1 in
    subst (SpellsFront (SpellsReferenceAlone levels) p ts) u.2 (f.0, f.1, f.2, f.3)

-- a `;` stood after the value
pub stopped_ok : {A : Type 0} (value : A) (p : ℕ) (ts : Tokens) (y : Front A) → stopped value p ts ≡ Ok y → (ts ≡ Sign Semicolon ∷ y.rest) × (record { value = value; next = p + 1; rest = y.rest } ≡ y)
unfolding stopped
stopped_ok value p ts y h =
    let g = bind_ok (taken is_semicolon SemicolonExpected p ts) _ y h in
    let e = same_ok g.2 in
    let rest : g.0 ≡ y.rest = ap (λ (z : Front _). z.rest) e in
    (semicolon_first ts y.rest (taken_ok is_semicolon SemicolonExpected p ts g.0 g.1 ∙ ap Some rest), ap (λ (us : Tokens). record { value = value; next = p + 1; rest = us }) (sym rest) ∙ e)

-- in parentheses
pub parenthesized_reads : {A : Type 0} (one : ℕ → Tokens → Result (Front A) Fault) (Spells : ℕ → Tokens → A → Type 0) → Reads one Spells → Reads (parenthesized one) (SpellsEnclosed Spells)
unfolding parenthesized
parenthesized_reads one Spells reads p ts y h =
    let g = bind_ok (taken is_open ParenthesisExpected p ts) _ y h in
    let f = enclosed_spelled one Spells reads p ts g.0 (open_first ts g.0 (taken_ok is_open ParenthesisExpected p ts g.0 g.1)) y g.2 in
    (f.0, f.1, f.2, f.3)

-- the word stood there
pub after_is : (w : Name) (ts us : Tokens) → after_word w ts ≡ Some us → ts ≡ Word w ∷ us
unfolding after_word
after_is w [] us h = cc
after_is w (Word n ∷ ts) us h = by (same_name n w) refl h
  where
    by : (b : Bool) → same_name n w ≡ b → cond b (Some ts) None ≡ Some us → Word n ∷ ts ≡ Word w ∷ us
    by true e g = ap (λ m. Word m ∷ ts) (equal_from_pointwise n w e) ∙ ap (λ vs. Word w ∷ vs) (some_same g)
    by false e g = cc
after_is w (t ∷ ts) us h = cc

pub optional_reads : {A : Type 0} (w : Name) (one : ℕ → Tokens → Result (Front A) Fault) (Spells : ℕ → Tokens → A → Type 0) → Reads one Spells → Reads (optional_at w one) (SpellsOptional w Spells)
unfolding optional_at
optional_reads w one Spells reads p ts y h = by (after_word w ts) refl h
  where
    by : (o : Option Tokens) → after_word w ts ≡ o → if_word one p ts o ≡ Ok y → SpellsFront (SpellsOptional w Spells) p ts y
    by None e g = subst (SpellsFront (SpellsOptional w Spells) p ts) (same_ok g) ([], refl, omega arith, refl)
    by (Some us) e g =
        let m = mapped_ok Some (one (p + 1) us) y g in
        let f = reads (p + 1) us m.0 m.1 in
        subst (SpellsFront (SpellsOptional w Spells) p ts) m.2 (Word w ∷ f.0, after_is w ts us e ∙ ap (λ vs. Word w ∷ vs) f.1, omega (arith, f.2), (f.0, refl, f.3))

pub list_reads : {A : Type 0} (one : ℕ → Tokens → Result (Front A) Fault) (Spells : ℕ → Tokens → A → Type 0) → Reads one Spells → Reads (list_at Commas one) (SpellsListed Commas Spells)
list_reads one Spells reads p ts y h = listed_reads Commas one Spells reads (length ts + 1) p ts y h

-- a token that must stand
equals_first : (ts us : Tokens) → rest_after is_equals ts ≡ Some us → ts ≡ Sign Equals ∷ us
equals_first ts us h = let f = first_is is_equals ts us h in f.2 ∙ ap (λ t. t ∷ us) (by f.0 f.1)
  where
    by : (t : TokenText) → is_equals t ≡ true → t ≡ Sign Equals
    by (Sign Equals) h = refl
    by t h = cc

-- `=` stood there, and what comes after it was read
pub equals_ok : {A : Type 0} (code : Code) (p : ℕ) (ts : Tokens) (next : Tokens → Result A Fault) (y : A)
    → (taken is_equals code p ts >>= next) ≡ Ok y → (us : Tokens) × (ts ≡ Sign Equals ∷ us) × (next us ≡ Ok y)
equals_ok code p ts next y h =
    let u = bind_ok (taken is_equals code p ts) next y h in
    (u.0, equals_first ts u.0 (taken_ok is_equals code p ts u.0 u.1), u.2)

pub word_first : (w : Name) (ts us : Tokens) → rest_after (is_word w) ts ≡ Some us → ts ≡ Word w ∷ us
word_first w ts us h = let f = first_is (is_word w) ts us h in f.2 ∙ ap (λ t. t ∷ us) (by f.0 f.1)
  where
    by : (t : TokenText) → is_word w t ≡ true → t ≡ Word w
    by (Word n) h = ap Word (equal_from_pointwise n w h)
    by t h = cc
