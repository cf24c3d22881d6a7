-- What is read is spelled so: statements and the unit.
use Rattle.std.proofs.Common.{◌≡◌, ◌+◌, ⊎_elim, ℕ, suc, zero, Bool, true, false, cond, [], ◌∷◌, ◌++◌, Option, Some, None, Result, Ok, length, refl, ap, ◌∙◌, sym, subst, arith, append_assoc, length-append}
use Rattle.std.proofs.lemmas.List.{append-nil}
use Rattle.pli_base.specs.Name.{Name}
use Rattle.pli_base.specs.Words.{Tokens, is_procedure}
use Rattle.pli_base.specs.Results.{◌>>=◌}
use Rattle.pli_base.specs.Reading.{Front, misplaced}
use Rattle.pli_base.specs.declared.token.Fault.{Fault}
use Rattle.pli_base.specs.declared.token.Sign.TheVariants.{Colon, Semicolon}
use Rattle.pli_base.specs.declared.token.TokenText.{TokenText}
use Rattle.pli_base.specs.declared.token.TokenText.TheVariants.{Word, Sign}
use Rattle.pli_base.specs.declared.syntax.Identifier.{Identifier}
use Rattle.pli_parse_expression.specs.Operators.{nesting_limit}
use Rattle.pli_parse_expression.specs.Expressions.{Deeper}
use Rattle.pli_parse_declaration.specs.DeclarationGrammar.{SpellsFront}
use Rattle.pli_parse_declaration.proofs.DeclarationSteps.{mapped_ok, two}
use Rattle.pli_parse_fault.proofs.StepLemmas.{bind_ok}
use Rattle.pli_base.specs.Statements.{Statement, Numbered, Body, ExternalProcedure, Heading, list_count, AwaitsElse}
use Rattle.pli_parse_statement.specs.StatementWords.{Context, a_procedure, keyword_of, begins_assignment, StatementKind, Assigns, Empty, Keyed, Unknown, kind_of}
use Rattle.pli_parse_statement.specs.StatementReading.{Inside, Listing, inner_list, has_semicolon, heading_at, label_at, is_labelled, bad_label, Misplacement, AtLabel, AtStatement, misplacement, keyed_at, unless_misplaced, body_from, after_label, begun, statement_of, inside_of, statement_at, finished, external_at, unit_from, unit_of, else_first}
use Rattle.pli_parse_statement.specs.StatementGrammar.{SpellsHeading, SpellsEnd, SpellsStatement, SpellsStatements, SpellsUnit}
use Rattle.pli_parse_statement.specs.declared.keyword.Keyword.{Keyword}
use Rattle.pli_parse_statement.specs.declared.keyword.Keyword.TheVariants as words
use Rattle.pli_parse.proofs.StatementReadFirst.{none_begins, empty_begins, OneWord, TwoWords, never_go, keyword_begins, label_spelled}
use Rattle.pli_parse.proofs.StatementReadHeading.{heading_reads}
use Rattle.pli_parse.proofs.StatementReadStands.{LabelFits, label_fits}
use Rattle.pli_parse.proofs.StatementReadSimple.{BodySpelled, BodyRead, NoneBegins, assignment_read, null_read, go_read, revert_read, signal_read, stop_read, allocate_read, free_read, goto_read, call_read, put_read, return_read, declare_read}
use Rattle.pli_parse.proofs.StatementReadLists.{StatementReads, InsideReads, opened, list_reads}
use Rattle.pli_parse.proofs.StatementReadNests.{procedure_read, begin_read, do_read, if_read, on_read}

module _ (inside : Option Inside) (levels : ℕ) (inner : InsideReads levels inside) (c : Context) (label : Option Identifier) (p k : ℕ) (fits : LabelFits c.standing label) (ts : Tokens) where
  -- where no assignment begins
  none : begins_assignment ts ≡ false → NoneBegins p ts
  none h front rest shape begins = none_begins p ts front rest h shape begins

  -- after a keyword of one word
  module _ (us : Tokens) (n : Name) (first : ts ≡ Word n ∷ us) (nothing : NoneBegins p ts) where
    word_read : (keyword : Keyword) → keyword_of n ≡ Some keyword
        → misplacement c keyword (is_labelled label) c.in_on_unit ≡ None
        → (y : Front Body) → keyed_at levels inside c label p k us keyword ≡ Ok y
        → BodyRead c levels label p k ts y
    word_read words.Procedure word placed y h =
        procedure_read inside levels inner c label p k ts us n first nothing word placed y h
    word_read words.Declare word placed y h =
        declare_read c levels label p k fits ts us n first nothing word placed y h
    word_read words.End word placed y h = cc
    word_read words.Begin word placed y h =
        begin_read inside levels inner c label p k ts us n first nothing fits word y h
    word_read words.Do word placed y h =
        do_read inside levels inner c label p k ts us n first nothing fits word placed y h
    word_read words.If word placed y h =
        if_read inside levels inner c label p k ts us n first nothing fits word placed y h
    word_read words.On word placed y h =
        on_read inside levels inner c label p k ts us n first nothing fits word placed y h
    word_read words.Revert word placed y h =
        revert_read c levels label p k fits ts us n first nothing word y h
    word_read words.Signal word placed y h =
        signal_read c levels label p k fits ts us n first nothing word y h
    word_read words.Stop word placed y h = stop_read c levels label p k fits ts us n first nothing word y h
    word_read words.Allocate word placed y h =
        allocate_read c levels label p k fits ts us n first nothing word y h
    word_read words.Free word placed y h = free_read c levels label p k fits ts us n first nothing word y h
    word_read words.Call word placed y h = call_read c levels label p k fits ts us n first nothing word y h
    word_read words.Goto word placed y h = goto_read c levels label p k fits ts us n first nothing word y h
    word_read words.GoTo word placed y h = absurd (never_go n word)
    word_read words.Return word placed y h =
        return_read c levels label p k fits ts us n first nothing word placed y h
    word_read words.Put word placed y h = put_read c levels label p k fits ts us n first nothing word y h

  -- after a keyword
  keyed_read : (us : Tokens) (keyword : Keyword) → kind_of ts ≡ Keyed keyword us → misplacement c keyword (is_labelled label) c.in_on_unit ≡ None
      → (y : Front Body) → keyed_at levels inside c label p k us keyword ≡ Ok y → BodyRead c levels label p k ts y
  keyed_read us keyword kind placed y h =
      let w = keyword_begins ts us keyword kind in
      ⊎_elim (λ (one : OneWord keyword ts us). word_read us one.0 one.1 (none w.0) keyword one.2 placed y h)
      (λ (go : (keyword ≡ words.GoTo) × TwoWords ts us).
      go_read c levels label p k fits ts us go.1 (none w.0) y
      (subst (λ m. keyed_at levels inside c label p k us m ≡ Ok y) go.0 h)) w.1

  -- a keyword that may not stand there is a fault
  faulty : (us : Tokens) (keyword : Keyword) (l : Option Identifier) (m : Misplacement) (y : Front Body) → unless_misplaced levels inside c l p k us keyword (Some m) ≡ Ok y → ⊥
  faulty us keyword None (AtLabel code) y h = cc
  faulty us keyword (Some l) (AtLabel code) y h = cc
  faulty us keyword l (AtStatement code) y h = cc

  placed_read : (us : Tokens) (keyword : Keyword) → kind_of ts ≡ Keyed keyword us → (o : Option Misplacement) → misplacement c keyword (is_labelled label) c.in_on_unit ≡ o
      → (y : Front Body) → unless_misplaced levels inside c label p k us keyword o ≡ Ok y → BodyRead c levels label p k ts y
  placed_read us keyword kind None placed y h = keyed_read us keyword kind placed y h
  placed_read us keyword kind (Some m) placed y h = absurd (faulty us keyword label m y h)

  -- a statement after its label
  body_read : (kind : StatementKind) → kind_of ts ≡ kind → (y : Front Body) → body_from levels inside c label p k ts kind ≡ Ok y → BodyRead c levels label p k ts y
  body_read Assigns kind y h = assignment_read c levels label p k fits ts y h
  body_read (Empty us) kind y h = let e = empty_begins ts us kind in null_read c levels label p k fits ts us e.1 (none e.0) y h
  body_read (Keyed keyword us) kind y h = placed_read us keyword kind (misplacement c keyword (is_labelled label) c.in_on_unit) refl y h
  body_read Unknown kind y h = cc

-- a statement
abbrev pub StatementRead : Context → (levels p k : ℕ) → Tokens → Front Statement → Type 0
StatementRead c levels p k ts y = SpellsFront (λ q us s. SpellsStatement c levels q k us s) p ts y × (AwaitsElse y.value → else_first y.rest ≡ None)

labelled_read : (levels : ℕ) (inside : Option Inside) → InsideReads levels inside → (c : Context) (p k : ℕ) (ts : Tokens) (y : Front Statement) (o : Option ℕ) → bad_label c.standing (label_at p ts) (label_at p ts).value ≡ o
    → after_label levels inside c k (label_at p ts) o ≡ Ok y → StatementRead c levels p k ts y
labelled_read levels inside inner c p k ts y (Some q) e h = cc
labelled_read levels inside inner c p k ts y None e h =
    let x = label_at p ts in
    let l = label_spelled p ts in
    let m = mapped_ok (Numbered k x.value x.next) (body_from levels inside c x.value x.next k x.rest (kind_of x.rest)) y h in
    let b = body_read inside levels inner c x.value x.next k (label_fits c.standing x x.value e) x.rest (kind_of x.rest) refl m.0 m.1 in
    let f = b.0 in
    let t = two p x.next m.0.next ts x.rest m.0.rest l.0 f.0 l.1 l.2 f.1 f.2 in
    let s = subst (λ q. BodySpelled c levels x.value q k f.0 m.0.value) l.2 f.3 in
    subst (StatementRead c levels p k ts) m.2 ((l.0 ++ f.0, t.0, t.1, (l.0, f.0, refl, l.3, refl, l.2, s.0, s.1, s.2, s.3)), b.1)

pub statement_reads : (levels : ℕ) (inside : Option Inside) → InsideReads levels inside → StatementReads levels (statement_of levels inside)
unfolding statement_of
statement_reads levels inside inner c p k ts y h = by (has_semicolon ts) h
  where
    by : (b : Bool) → begun levels inside c p k ts b ≡ Ok y → StatementRead c levels p k ts y
    by true g = labelled_read levels inside inner c p k ts y (bad_label c.standing (label_at p ts) (label_at p ts).value) refl g
    by false g = cc

-- one level after another
pub inside_reads : (levels : ℕ) → InsideReads levels (inside_of levels)
unfolding inside_of
inside_reads zero = tt
inside_reads (suc levels) = (refl, statement_reads levels (inside_of levels) (inside_reads levels))

statement_read : (c : Context) (levels p k : ℕ) (ts : Tokens) (y : Front Statement) → statement_at levels c p k ts ≡ Ok y → StatementRead c levels p k ts y
statement_read c levels p k ts y h = statement_reads levels (inside_of levels) (inside_reads levels) c p k ts y h

pub statement_spelled : (c : Context) (levels p k : ℕ) (ts : Tokens) (y : Front Statement) → statement_at levels c p k ts ≡ Ok y → SpellsFront (λ q us s. SpellsStatement c levels q k us s) p ts y
statement_spelled c levels p k ts y h = (statement_read c levels p k ts y h).0

pub none_awaited : (c : Context) (levels p k : ℕ) (ts : Tokens) (y : Front Statement) → statement_at levels c p k ts ≡ Ok y → AwaitsElse y.value → else_first y.rest ≡ None
none_awaited c levels p k ts y h = (statement_read c levels p k ts y h).1

-- PROCEDURE is one of its two words
first_chosen : {A : Type 0} (b : Bool) (x y : A) → b ≡ true → cond b x y ≡ x
first_chosen true x y h = refl
first_chosen false x y h = cc

procedure_word : (n : Name) → is_procedure n ≡ true → keyword_of n ≡ Some words.Procedure
unfolding keyword_of
procedure_word n h = first_chosen (is_procedure n) (Some words.Procedure) _ h

-- what stands before a heading
abbrev pub IsProcedure : TokenText → Type 0
IsProcedure t = (n : Name) × (t ≡ Word n) × (keyword_of n ≡ Some words.Procedure)

pub procedure_stands : (n : Name) (t : TokenText) (ts : Tokens) → misplaced (Word n ∷ Sign Colon ∷ t ∷ ts) ≡ None → IsProcedure t
unfolding misplaced
procedure_stands n (Word m) ts h = by (is_procedure m) refl h
  where
    by : (b : Bool) → is_procedure m ≡ b → cond {A = Option ℕ} b None (Some 2) ≡ None → IsProcedure (Word m)
    by true e g = (m, refl, procedure_word m e)
    by false e g = cc
procedure_stands n t ts h = cc

-- nothing stood after the unit
finished_ok : (unit u : ExternalProcedure) (p : ℕ) (ts : Tokens) → finished unit p ts ≡ Ok u → (ts ≡ []) × (unit ≡ u)
finished_ok unit u p [] h = (refl, cc)
finished_ok unit u p (t ∷ ts) h = cc

-- the unit, where so many levels may be opened
abbrev pub SpellsWithin : (levels : ℕ) → Tokens → ExternalProcedure → Type 0
SpellsWithin levels ts u =
    (n : Name) × (hs : Tokens) × (ss : Tokens) × (es : Tokens)
    × (ts ≡ Word u.heading.name.name ∷ Sign Colon ∷ Word n ∷ hs ++ (Sign Semicolon ∷ (ss ++ es)))
    × (keyword_of n ≡ Some words.Procedure) × (u.heading.name.at ≡ 0) × (u.heading.number ≡ 1) × SpellsHeading 3 hs u.heading
    × Deeper (λ m. SpellsStatements a_procedure m (3 + length hs + 1) 2 ss u.statements) levels
    × SpellsEnd (Some u.heading.name) es × (u.end ≡ 2 + list_count u.statements)

-- the external procedure after its PROCEDURE
abbrev external_in : Inside → Identifier → Tokens → Result ExternalProcedure Fault
external_in i name ts =
    heading_at name 1 3 ts >>= λ heading. inner_list i name heading.next 2 heading.rest
    >>= λ list. finished (record { heading = heading.value; statements = list.value.statements; end = list.value.end }) list.next list.rest

-- what was read in front of what is left
pub external_front : (i : Inside) → StatementReads i.levels i.statement → (n : Name) (t : TokenText) (ts : Tokens) → IsProcedure t → (x : Front Heading) → heading_at (record { name = n; at = 0 }) 1 3 ts ≡ Ok x
    → (l : Front Listing) → inner_list i (record { name = n; at = 0 }) x.next 2 x.rest ≡ Ok l
    → (us : Tokens) × (ts ≡ us ++ l.rest) × (l.next ≡ 3 + length us) × SpellsWithin (suc i.levels) (Word n ∷ Sign Colon ∷ t ∷ us) (record { heading = x.value; statements = l.value.statements; end = l.value.end })
external_front i reads n t ts procedure x read l listed =
    let name : Identifier = record { name = n; at = 0 } in
    let hs = heading_reads name 1 3 ts x read in
    let f = list_reads i.levels i.statement reads a_procedure (Some name) (length x.rest + 1) x.next 2 x.rest l listed in
    let g = f.3 in
    let us : Tokens = hs.0 ++ (Sign Semicolon ∷ (g.0 ++ g.1)) in
    let shape : ts ≡ us ++ l.rest =
    hs.1 ∙ ap (λ vs. hs.0 ++ (Sign Semicolon ∷ vs)) (f.1 ∙ ap (λ vs. vs ++ l.rest) g.2) ∙ sym (append_assoc hs.0 (Sign Semicolon ∷ (g.0 ++ g.1)) l.rest) in
    let place : l.next ≡ 3 + length us = omega (arith, f.2, hs.2, ap length g.2, length-append hs.0 (Sign Semicolon ∷ (g.0 ++ g.1))) in (
      us,
      shape,
      place,
      (
        procedure.0,
        hs.0,
        g.0,
        g.1,
        ap (λ v. Word n ∷ Sign Colon ∷ v ∷ us) procedure.1 ∙ ap (λ (v : Identifier). Word v.name ∷ Sign Colon ∷ Word procedure.0 ∷ us) (sym hs.4),
        procedure.2,
        ap (λ (v : Identifier). v.at) hs.4,
        hs.5,
        hs.3,
        subst (λ q. SpellsStatements a_procedure i.levels q 2 g.0 l.value.statements) hs.2 g.3,
        subst (λ v. SpellsEnd (Some v) g.1) (sym hs.4) g.4,
        g.5,
      ),
    )

external_inside : (i : Inside) → StatementReads i.levels i.statement → (n : Name) (t : TokenText) (ts : Tokens) (u : ExternalProcedure) → IsProcedure t → external_in i (record { name = n; at = 0 }) ts ≡ Ok u
    → SpellsWithin (suc i.levels) (Word n ∷ Sign Colon ∷ t ∷ ts) u
external_inside i reads n t ts u procedure h =
    let x = bind_ok (heading_at (record { name = n; at = 0 }) 1 3 ts) _ u h in
    let l = bind_ok (inner_list i (record { name = n; at = 0 }) x.0.next 2 x.0.rest) _ u x.2 in
    let f = external_front i reads n t ts procedure x.0 x.1 l.0 l.1 in
    let e = finished_ok (record { heading = x.0.value; statements = l.0.value.statements; end = l.0.value.end }) u l.0.next l.0.rest l.2 in
    let all : f.0 ≡ ts = sym (f.1 ∙ ap (λ us. f.0 ++ us) e.0 ∙ append-nil f.0) in
    subst (λ us. SpellsWithin (suc i.levels) (Word n ∷ Sign Colon ∷ t ∷ us) u) all
    (subst (SpellsWithin (suc i.levels) (Word n ∷ Sign Colon ∷ t ∷ f.0)) e.1 f.3)

external_reads : (n : Name) (t : TokenText) (ts : Tokens) (u : ExternalProcedure) → IsProcedure t → external_at (record { name = n; at = 0 }) ts ≡ Ok u → SpellsUnit (Word n ∷ Sign Colon ∷ t ∷ ts) u
unfolding external_at
external_reads n t ts u procedure h =
    opened (inside_of nesting_limit) nesting_limit (inside_reads nesting_limit) 2 (λ i. external_in i (record { name = n; at = 0 }) ts) u h
    (λ m. SpellsWithin m (Word n ∷ Sign Colon ∷ t ∷ ts) u) (λ i reads g. external_inside i reads n t ts u procedure g)

pub unit_reads : (ts : Tokens) (u : ExternalProcedure) → unit_of ts ≡ Ok u → SpellsUnit ts u
unfolding unit_of
unit_reads ts u h = by (misplaced ts) (has_semicolon ts) ts refl h
  where
    by : (o : Option ℕ) (b : Bool) (us : Tokens) → misplaced us ≡ o → unit_from o b us ≡ Ok u → SpellsUnit us u
    by (Some p) b us e g = cc
    by None false us e g = cc
    by None true (Word n ∷ Sign Colon ∷ t ∷ us) e g = external_reads n t us u (procedure_stands n t us e) g
    by None true us e g = cc
