-- What is read is spelled so: blocks, groups, IF and ON, where each statement that is read one level deeper is spelled so.
use Rattle.std.proofs.Common.{◌≡◌, ◌+◌, ℕ, suc, ◌∷◌, ◌++◌, Option, Some, None, Ok, length, codes, refl, ap, ◌∙◌, sym, subst, arith, append_assoc, length-append}
use Rattle.pli_base.specs.Name.{Name}
use Rattle.pli_base.specs.Words.{Tokens, is_semicolon, is_word}
use Rattle.pli_base.specs.Reading.{Front, taken}
use Rattle.pli_base.specs.declared.code.Code.TheVariants.{SemicolonExpected, ThenExpected}
use Rattle.pli_base.specs.declared.token.Sign.TheVariants.{Semicolon}
use Rattle.pli_base.specs.declared.token.TokenText.TheVariants.{Word, Sign}
use Rattle.pli_base.specs.declared.syntax.Identifier.{Identifier}
use Rattle.pli_parse_declaration.proofs.DeclarationSteps.{semicolon_first, taken_ok, two}
use Rattle.pli_parse_fault.proofs.StepLemmas.{same_ok, bind_ok}
use Rattle.pli_base.specs.Statements as body
use Rattle.pli_base.specs.Statements.{Body, count}
use Rattle.pli_parse_statement.specs.StatementWords.{Context, standing, the_on_unit, a_procedure, keyword_of}
use Rattle.pli_parse_statement.specs.StatementReading.{expression_in, control_at, heading_at, condition_at, Inside, deeper, list_in, inner_list, is_labelled, else_first, alternative_from, if_at, on_at, do_at, begin_at, procedure_at, standing_misplaced}
use Rattle.pli_parse_statement.specs.StatementGrammar.{SpellsStatement, SpellsStatements, SpellsAlternative}
use Rattle.pli_parse_statement.specs.declared.keyword.Keyword.TheVariants as words
use Rattle.pli_parse_statement.specs.declared.keyword.StatementStanding.TheVariants.{InBlock, InGroup, AsClause}
use Rattle.pli_parse.proofs.StatementReadTools.{expression_reads, word_first}
use Rattle.pli_parse.proofs.StatementReadParts.{control_reads, condition_reads}
use Rattle.pli_parse.proofs.StatementReadHeading.{heading_reads}
use Rattle.pli_parse.proofs.StatementReadStands.{LabelFits, plain_stands, may_return, do_stands, if_stands, on_stands, procedure_stands}
use Rattle.pli_parse.proofs.StatementReadSimple.{BodyRead, NoneBegins, body_found}
use Rattle.pli_parse.proofs.StatementReadLists.{StatementReads, InsideReads, opened, list_reads, alternative_reads}

-- after their keywords, where what is inside is read so
module _ (i : Inside) (reads : StatementReads i.levels i.statement) (c : Context) (label : Option Identifier) (p k : ℕ) (fits : LabelFits c.standing label) (ts us : Tokens) (n : Name) (first : ts ≡ Word n ∷ us) (none : NoneBegins p ts) where
  begin_inside : keyword_of n ≡ Some words.Begin → (y : Front Body) → begin_at i c label (p + 1) (k + 1) us ≡ Ok y → BodyRead c (suc i.levels) label p k ts y
  unfolding begin_at
  begin_inside word y h =
      let u = bind_ok (taken is_semicolon SemicolonExpected (p + 1) us) _ y h in
      let sign = semicolon_first us u.0 (taken_ok is_semicolon SemicolonExpected (p + 1) us u.0 u.1) in
      let l = bind_ok (list_in i (standing InBlock c) label (p + 1 + 1) (k + 1) u.0) _ y u.2 in
      let f = list_reads i.levels i.statement reads (standing InBlock c) label (length u.0 + 1) (p + 1 + 1) (k + 1) u.0 l.0 l.1 in
      let g = f.3 in
      let front : Tokens = Word n ∷ Sign Semicolon ∷ f.0 in
      let whole : ts ≡ front ++ l.0.rest = first ∙ ap (λ vs. Word n ∷ vs) (sign ∙ ap (λ vs. Sign Semicolon ∷ vs) f.1) in
      let place : p + 1 + 1 ≡ p + 2 = omega arith in
      let b : Body = body.Begin l.0.value.statements l.0.value.end in
      let inner =
      subst (λ q. SpellsStatements (standing InBlock c) i.levels q (k + 1) g.0 l.0.value.statements) place g.3
      in
      subst (BodyRead c (suc i.levels) label p k ts) (same_ok l.2)
      (body_found c (suc i.levels) label p k ts b l.0.next front l.0.rest whole (omega (arith, f.2))
      (plain_stands label b tt tt (λ e. e) (λ e. (e, tt)) c.standing fits) (may_return b tt tt c.in_on_unit)
      (none front l.0.rest whole)
      (n, _, refl, word, (g.0, g.1, ap (λ vs. Sign Semicolon ∷ vs) g.2, inner, g.4, g.5))
      (λ a. absurd a))

  do_inside : keyword_of n ≡ Some words.Do → standing_misplaced c.standing words.Do (is_labelled label) ≡ None → (y : Front Body) → do_at i c label (p + 1) (k + 1) us ≡ Ok y → BodyRead c (suc i.levels) label p k ts y
  unfolding do_at
  do_inside word placed y h =
      let x = bind_ok (control_at i.levels (p + 1) us) _ y h in
      let cs = control_reads i.levels (p + 1) us x.0 x.1 in
      let u = bind_ok (taken is_semicolon SemicolonExpected x.0.next x.0.rest) _ y x.2 in
      let sign = semicolon_first x.0.rest u.0 (taken_ok is_semicolon SemicolonExpected x.0.next x.0.rest u.0 u.1) in
      let l = bind_ok (list_in i (standing InGroup c) label (x.0.next + 1) (k + 1) u.0) _ y u.2 in
      let f = list_reads i.levels i.statement reads (standing InGroup c) label (length u.0 + 1) (x.0.next + 1) (k + 1) u.0 l.0 l.1 in
      let g = f.3 in
      let t = two (p + 1) x.0.next l.0.next us x.0.rest l.0.rest cs.0 (Sign Semicolon ∷ f.0) cs.1 cs.2 (sign ∙ ap (λ vs. Sign Semicolon ∷ vs) f.1) (omega (arith, f.2)) in
      let front : Tokens = Word n ∷ (cs.0 ++ (Sign Semicolon ∷ f.0)) in
      let whole : ts ≡ front ++ l.0.rest = first ∙ ap (λ vs. Word n ∷ vs) t.0 in
      let place : x.0.next + 1 ≡ p + 1 + length cs.0 + 1 = ap (λ q. q + 1) cs.2 in
      let b : Body = body.Do x.0.value l.0.value.statements l.0.value.end in
      let inner =
      subst (λ q. SpellsStatements (standing InGroup c) i.levels q (k + 1) g.0 l.0.value.statements) place g.3
      in
      let ends = ap (λ vs. cs.0 ++ (Sign Semicolon ∷ vs)) g.2 in
      subst (BodyRead c (suc i.levels) label p k ts) (same_ok l.2)
      (body_found c (suc i.levels) label p k ts b l.0.next front l.0.rest whole (omega (arith, t.1))
      (do_stands c.standing label x.0.value l.0.value.statements l.0.value.end fits placed)
      (may_return b tt tt c.in_on_unit)
      (none front l.0.rest whole) (n, _, refl, word, (cs.0, g.0, g.1, ends, (cs.3, inner), g.4, g.5))
      (λ a. absurd a))

  if_inside : keyword_of n ≡ Some words.If → standing_misplaced c.standing words.If (is_labelled label) ≡ None → (y : Front Body) → if_at i c (p + 1) (k + 1) us ≡ Ok y → BodyRead c (suc i.levels) label p k ts y
  unfolding if_at
  if_inside word placed y h =
      let x = bind_ok (expression_in i.levels (p + 1) us) _ y h in
      let cs = expression_reads i.levels (p + 1) us x.0 x.1 in
      let u = bind_ok (taken (is_word (codes "THEN")) ThenExpected x.0.next x.0.rest) _ y x.2 in
      let sign = word_first (codes "THEN") x.0.rest u.0 (taken_ok (is_word (codes "THEN")) ThenExpected x.0.next x.0.rest u.0 u.1) in
      let s = bind_ok (i.statement (standing AsClause c) (x.0.next + 1) (k + 1) u.0) _ y u.2 in
      let f = reads (standing AsClause c) (x.0.next + 1) (k + 1) u.0 s.0 s.1 in
      let ss = f.0 in
      let l = bind_ok (alternative_from i c s.0.next (k + 1 + count s.0.value) s.0.rest (else_first s.0.rest)) _ y s.2 in
      let g = alternative_reads i reads c s.0.next (k + 1 + count s.0.value) s.0.rest s.0.value f.1 l.0 l.1 in
      let es = g.0 in
      let both = two (x.0.next + 1) s.0.next l.0.next u.0 s.0.rest l.0.rest ss.0 es.0 ss.1 ss.2 es.1 es.2 in
      let t = two (p + 1) x.0.next l.0.next us x.0.rest l.0.rest cs.0 (Word (codes "THEN") ∷ (ss.0 ++ es.0)) cs.1 cs.2 (sign ∙ ap (λ vs. Word (codes "THEN") ∷ vs) both.0) (omega (arith, both.1)) in
      let front : Tokens = Word n ∷ (cs.0 ++ (Word (codes "THEN") ∷ (ss.0 ++ es.0))) in
      let whole : ts ≡ front ++ l.0.rest = first ∙ ap (λ vs. Word n ∷ vs) t.0 in
      let place : x.0.next + 1 ≡ p + 1 + length cs.0 + 1 = ap (λ q. q + 1) cs.2 in
      let further : s.0.next ≡ p + 1 + length cs.0 + 1 + length ss.0 = ss.2 ∙ ap (λ q. q + length ss.0) place in
      let b : Body = body.If x.0.value s.0.value l.0.value in
      let first_spelled =
      subst (λ q. SpellsStatement (standing AsClause c) i.levels q (k + 1) ss.0 s.0.value) place ss.3
      in
      let second_spelled =
      subst (λ q. SpellsAlternative c i.levels q (k + 1 + count s.0.value) es.0 s.0.value l.0.value) further
      es.3
      in
      subst (BodyRead c (suc i.levels) label p k ts) (same_ok l.2)
      (body_found c (suc i.levels) label p k ts b l.0.next front l.0.rest whole (omega (arith, t.1))
      (if_stands c.standing label x.0.value s.0.value l.0.value fits placed) (may_return b tt tt c.in_on_unit)
      (none front l.0.rest whole)
      (n, _, refl, word, (cs.0, ss.0, es.0, refl, (cs.3, first_spelled, second_spelled))) g.1)

  on_inside : keyword_of n ≡ Some words.On → standing_misplaced c.standing words.On (is_labelled label) ≡ None → (y : Front Body) → on_at i (p + 1) (k + 1) us ≡ Ok y → BodyRead c (suc i.levels) label p k ts y
  unfolding on_at
  on_inside word placed y h =
      let x = bind_ok (condition_at (p + 1) us) _ y h in
      let cs = condition_reads (p + 1) us x.0 x.1 in
      let s = bind_ok (i.statement the_on_unit x.0.next (k + 1) x.0.rest) _ y x.2 in
      let ss = (reads the_on_unit x.0.next (k + 1) x.0.rest s.0 s.1).0 in
      let t = two (p + 1) x.0.next s.0.next us x.0.rest s.0.rest cs.0 ss.0 cs.1 cs.2 ss.1 ss.2 in
      let front : Tokens = Word n ∷ (cs.0 ++ ss.0) in
      let whole : ts ≡ front ++ s.0.rest = first ∙ ap (λ vs. Word n ∷ vs) t.0 in
      let b : Body = body.On x.0.value s.0.value in
      let inner = subst (λ q. SpellsStatement the_on_unit i.levels q (k + 1) ss.0 s.0.value) cs.2 ss.3 in
      subst (BodyRead c (suc i.levels) label p k ts) (same_ok s.2)
      (body_found c (suc i.levels) label p k ts b s.0.next front s.0.rest whole (omega (arith, t.1))
      (on_stands c.standing label x.0.value s.0.value fits placed) (may_return b tt tt c.in_on_unit)
      (none front s.0.rest whole) (n, _, refl, word, (cs.0, ss.0, refl, cs.3, inner)) (λ a. absurd a))

procedure_inside : (i : Inside) → StatementReads i.levels i.statement → (c : Context) (label : Option Identifier) (p k : ℕ) (ts us : Tokens) (n : Name) → ts ≡ Word n ∷ us → NoneBegins p ts
    → keyword_of n ≡ Some words.Procedure → standing_misplaced c.standing words.Procedure (is_labelled label) ≡ None → (y : Front Body) → procedure_at i label k (p + 1) us ≡ Ok y → BodyRead c (suc i.levels) label p k ts y
unfolding procedure_at
procedure_inside i reads c None p k ts us n first none word placed y h = cc
procedure_inside i reads c (Some name) p k ts us n first none word placed y h =
    let x = bind_ok (heading_at name k (p + 1) us) _ y h in
    let hs = heading_reads name k (p + 1) us x.0 x.1 in
    let l = bind_ok (inner_list i name x.0.next (k + 1) x.0.rest) _ y x.2 in
    let f = list_reads i.levels i.statement reads a_procedure (Some name) (length x.0.rest + 1) x.0.next (k + 1) x.0.rest l.0 l.1 in
    let g = f.3 in
    let inner : us ≡ (hs.0 ++ (Sign Semicolon ∷ f.0)) ++ l.0.rest = hs.1 ∙ ap (λ vs. hs.0 ++ (Sign Semicolon ∷ vs)) f.1 ∙ sym (append_assoc hs.0 (Sign Semicolon ∷ f.0) l.0.rest) in
    let front : Tokens = Word n ∷ (hs.0 ++ (Sign Semicolon ∷ f.0)) in
    let whole : ts ≡ front ++ l.0.rest = first ∙ ap (λ vs. Word n ∷ vs) inner in
    let b : Body = body.Procedure x.0.value l.0.value.statements l.0.value.end in
    let statements =
    subst (λ q. SpellsStatements a_procedure i.levels q (k + 1) g.0 l.0.value.statements) hs.2 g.3
    in
    let ends = ap (λ vs. hs.0 ++ (Sign Semicolon ∷ vs)) g.2 in
    subst (BodyRead c (suc i.levels) (Some name) p k ts) (same_ok l.2)
    (body_found c (suc i.levels) (Some name) p k ts b l.0.next front l.0.rest whole
    (omega (arith, f.2, hs.2, length-append hs.0 (Sign Semicolon ∷ f.0)))
    (procedure_stands c.standing name x.0.value l.0.value.statements l.0.value.end hs.4 placed)
    (may_return b tt tt c.in_on_unit) (none front l.0.rest whole)
    (n, _, refl, word, (hs.0, g.0, g.1, ends, hs.3, hs.5, statements, g.4, g.5)) (λ a. absurd a))

-- and where a level is opened
module _ (inside : Option Inside) (levels : ℕ) (inner : InsideReads levels inside) (c : Context) (label : Option Identifier) (p k : ℕ) (ts us : Tokens) (n : Name) (first : ts ≡ Word n ∷ us) (none : NoneBegins p ts) where
  pub procedure_read : keyword_of n ≡ Some words.Procedure → standing_misplaced c.standing words.Procedure (is_labelled label) ≡ None
      → (y : Front Body) → deeper inside p (λ i. procedure_at i label k (p + 1) us) ≡ Ok y → BodyRead c levels label p k ts y
  procedure_read word placed y h =
      opened inside levels inner p _ y h (λ m. BodyRead c m label p k ts y) (λ i reads g. procedure_inside i reads c label p k ts us n first none word placed y g)

  module _ (fits : LabelFits c.standing label) where
    pub begin_read : keyword_of n ≡ Some words.Begin → (y : Front Body) → deeper inside p (λ i. begin_at i c label (p + 1) (k + 1) us) ≡ Ok y → BodyRead c levels label p k ts y
    begin_read word y h =
        opened inside levels inner p _ y h (λ m. BodyRead c m label p k ts y) (λ i reads g. begin_inside i reads c label p k fits ts us n first none word y g)

    pub do_read : keyword_of n ≡ Some words.Do → standing_misplaced c.standing words.Do (is_labelled label) ≡ None → (y : Front Body) → deeper inside p (λ i. do_at i c label (p + 1) (k + 1) us) ≡ Ok y → BodyRead c levels label p k ts y
    do_read word placed y h =
        opened inside levels inner p _ y h (λ m. BodyRead c m label p k ts y) (λ i reads g. do_inside i reads c label p k fits ts us n first none word placed y g)

    pub if_read : keyword_of n ≡ Some words.If → standing_misplaced c.standing words.If (is_labelled label) ≡ None → (y : Front Body) → deeper inside p (λ i. if_at i c (p + 1) (k + 1) us) ≡ Ok y → BodyRead c levels label p k ts y
    if_read word placed y h =
        opened inside levels inner p _ y h (λ m. BodyRead c m label p k ts y) (λ i reads g. if_inside i reads c label p k fits ts us n first none word placed y g)

    pub on_read : keyword_of n ≡ Some words.On → standing_misplaced c.standing words.On (is_labelled label) ≡ None → (y : Front Body) → deeper inside p (λ i. on_at i (p + 1) (k + 1) us) ≡ Ok y → BodyRead c levels label p k ts y
    on_read word placed y h =
        opened inside levels inner p _ y h (λ m. BodyRead c m label p k ts y) (λ i reads g. on_inside i reads c label p k fits ts us n first none word placed y g)
