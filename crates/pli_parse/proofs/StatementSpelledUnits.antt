-- What is spelled so is read: the unit. So tokens spell at most one.
use Rattle.std.proofs.Common.{◌≡◌, ◌+◌, ℕ, suc, Bool, true, false, ◌||◌, cond, [], ◌∷◌, ◌++◌, Option, Some, None, Ok, length, codes, refl, ap, ◌∙◌, sym, subst, arith, append_assoc, length-append}
use Rattle.std.proofs.lemmas.List.{append-nil}
use Rattle.pli_base.specs.Name.{Name}
use Rattle.pli_base.specs.Words.{Tokens, same_name, is_procedure}
use Rattle.pli_base.specs.Results.{◌>>=◌}
use Rattle.pli_base.specs.Reading.{misplaced}
use Rattle.pli_base.specs.declared.token.Sign.TheVariants.{Colon, Semicolon}
use Rattle.pli_base.specs.declared.token.TokenText.TheVariants.{Word, Sign}
use Rattle.pli_parse_fault.proofs.StepLemmas.{same_ok, some_same}
use Rattle.pli_base.specs.Statements.{Heading, Statements, ExternalProcedure, list_count}
use Rattle.pli_parse_statement.specs.StatementGrammar.{SpellsHeading, SpellsEnd, SpellsStatements, SpellsUnit}
use Rattle.pli_parse_statement.specs.StatementReading.{heading_at, Inside, deeper, has_semicolon, list_in, statement_of, inside_of, inner_list, finished, external_at, unit_from, unit_of}
use Rattle.pli_parse_statement.specs.StatementWords.{a_procedure, keyword_of}
use Rattle.pli_parse_statement.specs.declared.keyword.Keyword.{Keyword}
use Rattle.pli_parse_statement.specs.declared.keyword.Keyword.TheVariants as words
use Rattle.pli_parse.proofs.StatementSpelledTools.{HasSemicolon, semicolon_first, semicolon_later, semicolon_back}
use Rattle.pli_parse.proofs.StatementSpelledHeadings.{heading_again}
use Rattle.pli_parse.proofs.StatementSpelledNests.{list_in_again}
use Rattle.pli_parse.proofs.StatementSpelledLevels.{statement_again}

-- another keyword is passed over
passed : (b : Bool) (k : Keyword) (rest : Option Keyword) → (k ≡ words.Procedure → ⊥) → cond b (Some k) rest ≡ Some words.Procedure → rest ≡ Some words.Procedure
passed true k rest other h = absurd (other (some_same h))
passed false k rest other h = h

nothing_there : (k : Keyword) → ◌≡◌ {A = Option Keyword} None (Some k) → ⊥
nothing_there k h = cc

-- the keyword PROCEDURE is one of two words
procedure_word : (n : Name) → keyword_of n ≡ Some words.Procedure → is_procedure n ≡ true
unfolding keyword_of
procedure_word n h =
    by (is_procedure n) _ refl
    (λ r. nothing_there words.Procedure
    (passed (same_name n (codes "PUT")) words.Put _ (λ e. cc)
    (passed (same_name n (codes "RETURN")) words.Return _ (λ e. cc)
    (passed (same_name n (codes "GOTO")) words.Goto _ (λ e. cc)
    (passed (same_name n (codes "CALL")) words.Call _ (λ e. cc)
    (passed (same_name n (codes "FREE")) words.Free _ (λ e. cc)
    (passed (same_name n (codes "ALLOCATE")) words.Allocate _ (λ e. cc)
    (passed (same_name n (codes "STOP")) words.Stop _ (λ e. cc)
    (passed (same_name n (codes "SIGNAL")) words.Signal _ (λ e. cc)
    (passed (same_name n (codes "REVERT")) words.Revert _ (λ e. cc)
    (passed (same_name n (codes "ON")) words.On _ (λ e. cc)
    (passed (same_name n (codes "IF")) words.If _ (λ e. cc)
    (passed (same_name n (codes "DO")) words.Do _ (λ e. cc)
    (passed (same_name n (codes "BEGIN")) words.Begin _ (λ e. cc)
    (passed (same_name n (codes "END")) words.End _ (λ e. cc)
    (passed (same_name n (codes "DECLARE") || same_name n (codes "DCL")) words.Declare _ (λ e. cc) r)))))))))))))))) h
  where
    by : (b : Bool) (rest : Option Keyword) → is_procedure n ≡ b → (rest ≡ Some words.Procedure → ⊥) → cond b (Some words.Procedure) rest ≡ Some words.Procedure → is_procedure n ≡ true
    by true rest e never g = e
    by false rest e never g = absurd (never g)

pub inside_there : (levels : ℕ) → inside_of (suc levels) ≡ Some (record { levels = levels; statement = statement_of levels (inside_of levels) })
unfolding inside_of
inside_there levels = refl

abbrev made : Heading → Statements → ℕ → ExternalProcedure
made heading statements end = record { heading = heading; statements = statements; end = end }

-- what stands after PROCEDURE, and more after the unit
external_again : (u : ExternalProcedure) (hs ss es us more : Tokens) → us ≡ hs ++ (Sign Semicolon ∷ (ss ++ es)) → u.heading.number ≡ 1 → SpellsHeading 3 hs u.heading → SpellsStatements a_procedure 63 (3 + length hs + 1) 2 ss u.statements
    → SpellsEnd (Some u.heading.name) es → u.end ≡ 2 + list_count u.statements → external_at u.heading.name (us ++ more) ≡ finished u (3 + length us) more
unfolding external_at
external_again u hs ss es us more shape number heading spelled ends end =
    let i : Inside = record { levels = 63; statement = statement_of 63 (inside_of 63) } in
    let whole : (ss ++ es) ++ more ≡ ss ++ (es ++ more) = append_assoc ss es more in
    let all : us ++ more ≡ hs ++ (Sign Semicolon ∷ ((ss ++ es) ++ more)) = ap (λ vs. vs ++ more) shape ∙ append_assoc hs (Sign Semicolon ∷ (ss ++ es)) more in
    let place : 3 + length hs + 1 + length ss + length es ≡ 3 + length us = omega (arith, ap length shape, length-append hs (Sign Semicolon ∷ (ss ++ es)), length-append ss es) in
    ap (λ o. deeper o 2 (λ i. heading_at u.heading.name 1 3 (us ++ more) >>= λ h. inner_list i u.heading.name h.next 2 h.rest >>= λ list. finished (made h.value list.value.statements list.value.end) list.next list.rest)) (inside_there 63)
    ∙ ap (λ r. r >>= λ h. inner_list i u.heading.name h.next 2 h.rest >>= λ list. finished (made h.value list.value.statements list.value.end) list.next list.rest)
    (ap (λ m. heading_at u.heading.name m 3 (us ++ more)) (sym number) ∙ ap (heading_at u.heading.name u.heading.number 3) all ∙ heading_again 3 hs ((ss ++ es) ++ more) u.heading heading)
    ∙ ap (λ r. r >>= λ list. finished (made u.heading list.value.statements list.value.end) list.next list.rest)
    (ap (list_in i a_procedure (Some u.heading.name) (3 + length hs + 1) 2) whole
    ∙ list_in_again 63 (statement_of 63 (inside_of 63)) (statement_again 63) a_procedure (Some u.heading.name) u.statements (3 + length hs + 1) 2 ss es more spelled ends)
    ∙ ap (λ (e : ℕ). finished (made u.heading u.statements e) (3 + length hs + 1 + length ss + length es) more) (sym end)
    ∙ ap (λ (q : ℕ). finished u q more) place

name_and_procedure : (m n : Name) (us : Tokens) → is_procedure n ≡ true → misplaced (Word m ∷ Sign Colon ∷ Word n ∷ us) ≡ None
unfolding misplaced
name_and_procedure m n us h = ap (λ b. cond b None (Some 2)) h

-- the unit, and more after it
pub unit_front : (ts more : Tokens) (u : ExternalProcedure) → SpellsUnit ts u → unit_of (ts ++ more) ≡ finished u (length ts) more
unfolding unit_of
unit_front ts more u (n, hs, ss, es, shape, word, at, number, heading, spelled, ends, end) =
    let us : Tokens = hs ++ (Sign Semicolon ∷ (ss ++ es)) in
    let m : Name = u.heading.name.name in
    let whole : Tokens = Word m ∷ Sign Colon ∷ Word n ∷ (us ++ more) in
    let split : us ++ more ≡ hs ++ (Sign Semicolon ∷ ((ss ++ es) ++ more)) = append_assoc hs (Sign Semicolon ∷ (ss ++ es)) more in
    let after : HasSemicolon (us ++ more) = subst HasSemicolon (sym split) (semicolon_back hs (Sign Semicolon ∷ ((ss ++ es) ++ more)) (semicolon_first ((ss ++ es) ++ more))) in
    let has : HasSemicolon whole = semicolon_later (Word m) (Sign Colon ∷ Word n ∷ (us ++ more)) (semicolon_later (Sign Colon) (Word n ∷ (us ++ more)) (semicolon_later (Word n) (us ++ more) after)) in
    let place : 3 + length us ≡ length ts = omega (arith, ap length shape) in
    ap (λ vs. unit_of (vs ++ more)) shape
    ∙ ap (λ o. unit_from o (has_semicolon whole) whole) (name_and_procedure m n (us ++ more) (procedure_word n word))
    ∙ ap (λ b. unit_from None b whole) has
    ∙ ap (λ (q : ℕ). external_at (record { name = m; at = q }) (us ++ more)) (sym at)
    ∙ external_again u hs ss es us more refl number heading spelled ends end
    ∙ ap (λ (q : ℕ). finished u q more) place

pub unit_again : (ts : Tokens) (u : ExternalProcedure) → SpellsUnit ts u → unit_of ts ≡ Ok u
unit_again ts u spelled = ap unit_of (sym (append-nil ts)) ∙ unit_front ts [] u spelled

pub at_most_one : (ts : Tokens) (u v : ExternalProcedure) → SpellsUnit ts u → SpellsUnit ts v → u ≡ v
at_most_one ts u v h g = same_ok (sym (unit_again ts u h) ∙ unit_again ts v g)
