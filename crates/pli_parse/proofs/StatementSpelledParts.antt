-- What is spelled so is read: parts of statements.
use Rattle.std.proofs.Common.{◌≡◌, ◌+◌, ◌<◌, ℕ, cond, [], ◌∷◌, ◌++◌, Some, None, Result, length, refl, ap, ◌∙◌, sym, subst, arith, append_assoc, length-append}
use Rattle.pli_base.specs.Name.{Name}
use Rattle.pli_base.specs.Words.{Tokens, rest_after}
use Rattle.pli_base.specs.Results.{◌>>=◌}
use Rattle.pli_base.specs.Reading.{Front, read_as, mapped, enclosed}
use Rattle.pli_base.specs.Syntax.{Expression, Referred, Constant, Parenthesized, Prefix, Infix, Reference, Named}
use Rattle.pli_base.specs.declared.token.Fault.{Fault}
use Rattle.pli_base.specs.declared.token.Sign.TheVariants.{Comma, Semicolon, OpenParenthesis, CloseParenthesis}
use Rattle.pli_base.specs.declared.token.TokenText.TheVariants.{Word, Sign}
use Rattle.pli_parse_expression.specs.Operators.{infix_sign}
use Rattle.pli_parse_expression.specs.Expressions.{SpellsExpression, SpellsOutermost, SpellsReferenceAlone, EndsExpression, EndsReference}
use Rattle.pli_parse_expression.proofs.SpelledIsRead.{expression_is_read, reference_is_read}
use Rattle.pli_parse_declaration.specs.DeclarationGrammar.{Anywhere, SpellsListed}
use Rattle.pli_parse_declaration.specs.DeclarationReading.{list_at}
use Rattle.pli_parse_declaration.proofs.DeclarationReadAgain.{ReadAgain, Anyhow, ListEnds, placed, open_taken, enclosed_again, listed_again, comma_goes, commas_close}
use Rattle.pli_parse_statement.specs.StatementGrammar.{SpellsCondition, SpellsClosed, SpellsEnclosed, SpellsOptional}
use Rattle.pli_parse_statement.specs.StatementReading.{uncounted, expression_in, reference_in, stopped, closing, parenthesized, condition_from, condition_at, if_word, optional_at}
use Rattle.pli_parse_statement.specs.StatementWords.{after_word}
use Rattle.pli_parse.proofs.StatementSpelledTools.{same_again}
use Rattle.pli_parse_declaration.specs.Separators.{separated}
use Rattle.pli_parse_declaration.specs.declared.list.Separator.TheVariants.{Commas}
use Rattle.pli_parse_declaration.proofs.DeclarationItemsAgain.{semicolon_taken}

pub expression_again : (levels : ℕ) → ReadAgain (expression_in levels) (SpellsOutermost levels) EndsExpression
unfolding expression_in
expression_again levels p ts more e spelled stops = ap uncounted (expression_is_read levels p ts more e spelled stops)

pub reference_again : (levels : ℕ) → ReadAgain (reference_in levels) (SpellsReferenceAlone levels) EndsReference
unfolding reference_in
reference_again levels p ts more r spelled stops = ap uncounted (reference_is_read levels p ts more r spelled stops)

pub condition_again : ReadAgain condition_at (Anywhere SpellsCondition) Anyhow
unfolding condition_at
condition_again p ts more c (n, e, is) stops =
    subst (λ us. condition_at p (us ++ more) ≡ read_as c (p + length us) more) (sym e) (ap (condition_from p more) is)

pub stopped_again : {A : Type 0} (x : A) (p : ℕ) (more : Tokens) → stopped x p (Sign Semicolon ∷ more) ≡ read_as x (p + 1) more
unfolding stopped
stopped_again x p more = ap (λ r. r >>= λ us. read_as x (p + 1) us) (semicolon_taken p more)

-- what is read, and the `;` after it
pub closing_again : {A B : Type 0} (f : A → B) (one : ℕ → Tokens → Result (Front A) Fault) (Spells : ℕ → Tokens → A → Type 0) (Ends : Tokens → Type 0) → ReadAgain one Spells Ends → ((zs : Tokens) → Ends (Sign Semicolon ∷ zs))
    → (p : ℕ) (ts more : Tokens) (x : A) → SpellsClosed (λ us. Spells p us x) ts → closing f (one p (ts ++ more)) ≡ read_as (f x) (p + length ts) more
closing_again f one Spells Ends again ends p ts more x (us, shape, spelled) =
    ap (λ vs. closing f (one p vs)) (ap (λ vs. vs ++ more) shape ∙ append_assoc us (Sign Semicolon ∷ []) more)
    ∙ ap (closing f) (again p us (Sign Semicolon ∷ more) x spelled (ends more))
    ∙ stopped_again (f x) (p + length us) more
    ∙ placed (f x) (p + length us + 1) (p + length ts) more (omega (arith, ap length shape, length-append us (Sign Semicolon ∷ [])))

-- in parentheses
pub parenthesized_again : {A : Type 0} (one : ℕ → Tokens → Result (Front A) Fault) (Spells : ℕ → Tokens → A → Type 0) (Ends : Tokens → Type 0) → ReadAgain one Spells Ends → ((zs : Tokens) → Ends (Sign CloseParenthesis ∷ zs))
    → ReadAgain (parenthesized one) (SpellsEnclosed Spells) Anyhow
unfolding parenthesized
parenthesized_again one Spells Ends again closes p ts more x (us, shape, spelled) stops =
    ap (λ vs. parenthesized one p (vs ++ more)) shape
    ∙ ap (λ r. r >>= λ vs. enclosed (one (p + 1) vs)) (open_taken p ((us ++ Sign CloseParenthesis ∷ []) ++ more))
    ∙ enclosed_again one Spells Ends again closes p us more x spelled
    ∙ placed x (p + length (Sign OpenParenthesis ∷ us ++ Sign CloseParenthesis ∷ [])) (p + length ts) more (ap (λ (vs : Tokens). p + length vs) (sym shape))

pub word_after : (w : Name) (us : Tokens) → after_word w (Word w ∷ us) ≡ Some us
unfolding after_word
word_after w us = ap (λ b. cond b (Some us) None) (same_again w)

-- after a word, or not there
pub optional_again : {A : Type 0} (word : Name) (one : ℕ → Tokens → Result (Front A) Fault) (Spells : ℕ → Tokens → A → Type 0) (Ends : Tokens → Type 0) → ReadAgain one Spells Ends
    → ReadAgain (optional_at word one) (SpellsOptional word Spells) (λ more. (after_word word more ≡ None) × Ends more)
unfolding optional_at
optional_again word one Spells Ends again p ts more None shape stops =
    ap (λ us. optional_at word one p (us ++ more)) shape
    ∙ ap (if_word one p more) stops.0
    ∙ placed None p (p + length ts) more (omega (arith, ap length shape))
optional_again word one Spells Ends again p ts more (Some x) (us, shape, spelled) stops =
    ap (λ vs. optional_at word one p (vs ++ more)) shape
    ∙ ap (if_word one p (Word word ∷ (us ++ more))) (word_after word (us ++ more))
    ∙ ap (mapped Some) (again (p + 1) us more x spelled stops.1)
    ∙ placed (Some x) (p + 1 + length us) (p + length ts) more (omega (arith, ap length shape))

-- one or more, with commas between
pub commas_again : {A : Type 0} (one : ℕ → Tokens → Result (Front A) Fault) (Spells : ℕ → Tokens → A → Type 0) (Ends : Tokens → Type 0) → ReadAgain one Spells Ends → ((zs : Tokens) → Ends (Sign Comma ∷ zs))
    → ((p : ℕ) (ts : Tokens) (x : A) → Spells p ts x → 0 < length ts) → ReadAgain (list_at Commas one) (SpellsListed Commas Spells) (ListEnds Commas Ends)
commas_again one Spells Ends again ends some p ts more xs spelled stops =
    listed_again Commas one Spells Ends again (λ q us zs x s. (comma_goes (us ++ zs), ends (us ++ zs))) some xs (length (ts ++ more) + 1) p ts more spelled stops (omega arith)

pub commas_stop : (zs : Tokens) → separated Commas (Sign Semicolon ∷ zs) ≡ None
unfolding rest_after
commas_stop zs = refl

-- what spells an expression or a reference has a token
pub reference_some : (p : ℕ) (ts : Tokens) (r : Reference) (levels : ℕ) → SpellsReferenceAlone levels p ts r → 0 < length ts
reference_some p ts (Named name arguments parts) levels spelled = omega (arith, ap length spelled.0.2)

expression_tokens : (e : Expression) (p : ℕ) (ts : Tokens) → SpellsExpression p ts e → 0 < length ts
expression_tokens (Referred (Named name arguments parts)) p ts spelled = omega (arith, ap length spelled.2)
expression_tokens (Constant at v) p ts spelled = omega (arith, ap length spelled.0)
expression_tokens (Parenthesized at e) p ts spelled = omega (arith, ap length spelled.1)
expression_tokens (Prefix o at e) p ts spelled = omega (arith, ap length spelled.1)
expression_tokens (Infix o at l r) p ts spelled = omega (arith, ap length spelled.2, length-append spelled.0 (Sign (infix_sign o) ∷ spelled.1))

pub expression_some : (levels p : ℕ) (ts : Tokens) (e : Expression) → SpellsOutermost levels p ts e → 0 < length ts
expression_some levels p ts e spelled = expression_tokens e p ts spelled.0

-- expressions with commas between, in parentheses
pub expressions_again : (levels : ℕ) → ReadAgain (parenthesized (list_at Commas (expression_in levels))) (SpellsEnclosed (SpellsListed Commas (SpellsOutermost levels))) Anyhow
expressions_again levels =
    parenthesized_again (list_at Commas (expression_in levels)) (SpellsListed Commas (SpellsOutermost levels)) (ListEnds Commas EndsExpression)
    (commas_again (expression_in levels) (SpellsOutermost levels) EndsExpression (expression_again levels) (λ zs. (refl, refl)) (expression_some levels))
    (λ zs. (commas_close zs, (refl, refl)))

pub references_again : (levels : ℕ) → ReadAgain (list_at Commas (reference_in levels)) (SpellsListed Commas (SpellsReferenceAlone levels)) (ListEnds Commas EndsReference)
references_again levels = commas_again (reference_in levels) (SpellsReferenceAlone levels) EndsReference (reference_again levels) (λ zs. refl) (λ p ts r s. reference_some p ts r levels s)

pub enclosed_expression : (levels : ℕ) → ReadAgain (parenthesized (expression_in levels)) (SpellsEnclosed (SpellsOutermost levels)) Anyhow
enclosed_expression levels = parenthesized_again (expression_in levels) (SpellsOutermost levels) EndsExpression (expression_again levels) (λ zs. (refl, refl))

pub enclosed_reference : (levels : ℕ) → ReadAgain (parenthesized (reference_in levels)) (SpellsEnclosed (SpellsReferenceAlone levels)) Anyhow
enclosed_reference levels = parenthesized_again (reference_in levels) (SpellsReferenceAlone levels) EndsReference (reference_again levels) (λ zs. refl)
