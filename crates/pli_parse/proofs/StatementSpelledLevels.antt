-- What is spelled so is read: every statement, by the levels that may be opened; and the unit.
use Rattle.std.proofs.Common.{◌≡◌, ◌+◌, ℕ, suc, zero, false, ◌∷◌, ◌++◌, Option, Some, None, length, refl, ap, ◌∙◌, sym, subst, arith, append_assoc, length-append}
use Rattle.pli_base.specs.Name.{Name}
use Rattle.pli_base.specs.Words.{Tokens}
use Rattle.pli_base.specs.Reading.{Front, read_as, mapped}
use Rattle.pli_base.specs.Syntax.{Expression}
use Rattle.pli_base.specs.declared.syntax.Identifier.{Identifier}
use Rattle.pli_base.specs.declared.token.Sign.TheVariants.{Colon}
use Rattle.pli_base.specs.declared.token.TokenText.TheVariants.{Word, Sign}
use Rattle.pli_parse_declaration.proofs.DeclarationReadAgain.{placed}
use Rattle.pli_base.specs.Statements.{Heading, Control, Alternative, AlternativeAwaitsElse, Statement, Numbered, Body, Null, Assign, Declare, Procedure, Begin, Do, If, On, Revert, Signal, Stop, Allocate, Free, Call, Goto, Return, Put, Statements, BodyAwaitsElse}
use Rattle.pli_parse_statement.specs.StatementGrammar.{IsOfItsKind, StandsIn, MayReturn, SpellsLabel, SpellsEnd, SpellsStatement, SpellsBody, SpellsStatements}
use Rattle.pli_parse_statement.specs.StatementReading.{StatementReader, Inside, deeper, has_semicolon, label_at, bad_label, second_label, begin_at, do_at, if_at, on_at, procedure_at, after_label, begun, statement_of, inside_of, else_first}
use Rattle.pli_parse_statement.specs.StatementWords.{Context, standing, begins_assignment}
use Rattle.pli_parse_statement.specs.declared.keyword.Keyword.TheVariants as words
use Rattle.pli_parse_statement.specs.declared.keyword.StatementStanding.{StatementStanding}
use Rattle.pli_parse_statement.specs.declared.keyword.StatementStanding.TheVariants.{InBlock, InGroup, AsClause, AsOnUnit}
use Rattle.pli_base.specs.declared.statement.Condition.{Condition}
use Rattle.pli_parse.proofs.StatementSpelledTools.{HasSemicolon, semicolon_front, no_assignment_begins}
use Rattle.pli_parse.proofs.StatementSpelledStarts.{Started, no_label}
use Rattle.pli_parse.proofs.StatementSpelledBodies.{body_started, statement_semicolon, body_semicolon}
use Rattle.pli_parse.proofs.StatementSpelledSimple.{procedure_placed, begin_placed, do_placed, if_placed, on_placed, BodyRead, keyed_read, null_read, assign_read, declare_read, revert_read, signal_read, stop_read, allocate_read, free_read, call_read, return_read, put_read, goto_read}
use Rattle.pli_parse.proofs.StatementSpelledNests.{StatementAgain, if_again, on_again, begin_again, do_again, procedure_again}

-- the law holds of what reads one level deeper
abbrev InsideAgain : ℕ → Option Inside → Type 0
InsideAgain zero inside = Unit {0}
InsideAgain (suc levels) inside = (one : StatementReader) × (inside ≡ Some (record { levels = levels; statement = one })) × StatementAgain levels one

module _ (levels : ℕ) (inside : Option Inside) (again : InsideAgain (suc levels) inside) (c : Context) (label : Option Identifier) (p k : ℕ) (ts more : Tokens) (other : begins_assignment (ts ++ more) ≡ false) where
  abbrev found : Inside
  found = record { levels = levels; statement = again.0 }

  -- what is read where one level more is opened
  abbrev Opened : Body → Type 0
  Opened b = SpellsBody c (suc levels) label p k ts b → StandsIn c.standing label b → BodyRead (suc levels) inside c label p k ts more b

  begin_read : (statements : Statements) (end : ℕ) → Opened (Begin statements end)
  begin_read statements end spelled stands =
      let place : p + 2 ≡ p + 1 + 1 = omega arith in
      keyed_read (suc levels) inside c label p k words.Begin _ ts more (Begin statements end) spelled other (begin_placed c label)
      (λ us s. ap (λ o. deeper o p (λ i. begin_at i c label (p + 1) (k + 1) (us ++ more))) again.1
      ∙ begin_again levels again.0 again.2 c label (p + 1) (k + 1) end us s.0 s.1 more statements s.2 (subst (λ q. SpellsStatements (standing InBlock c) levels q (k + 1) s.0 statements) place s.3) s.4 s.5)

  do_read : (control : Option Control) (statements : Statements) (end : ℕ) → Opened (Do control statements end)
  do_read control statements end spelled stands =
      keyed_read (suc levels) inside c label p k words.Do _ ts more (Do control statements end) spelled other (do_placed c label control statements end stands)
      (λ us s. ap (λ o. deeper o p (λ i. do_at i c label (p + 1) (k + 1) (us ++ more))) again.1
      ∙ do_again levels again.0 again.2 c label (p + 1) (k + 1) end us s.0 s.1 s.2 more control statements s.3 s.4.0 s.4.1 s.5 s.6)

  if_read : (condition : Expression) (consequence : Statement) (alternative : Alternative) → (AlternativeAwaitsElse alternative → else_first more ≡ None) → Opened (If condition consequence alternative)
  if_read condition consequence alternative awaits spelled stands =
      keyed_read (suc levels) inside c label p k words.If _ ts more (If condition consequence alternative) spelled other (if_placed c label condition consequence alternative stands)
      (λ us s. ap (λ o. deeper o p (λ i. if_at i c (p + 1) (k + 1) (us ++ more))) again.1
      ∙ if_again levels again.0 again.2 c (p + 1) (k + 1) us s.0 s.1 s.2 more condition consequence alternative s.3 s.4.0 s.4.1 s.4.2 awaits)

  on_read : (condition : Condition) (unit : Statement) → Opened (On condition unit)
  on_read condition unit spelled stands =
      keyed_read (suc levels) inside c label p k words.On _ ts more (On condition unit) spelled other (on_placed c label condition unit stands)
      (λ us s. ap (λ o. deeper o p (λ i. on_at i (p + 1) (k + 1) (us ++ more))) again.1
      ∙ on_again levels again.0 again.2 (p + 1) (k + 1) us s.0 s.1 more condition unit s.2 s.3 s.4)

  procedure_read : (heading : Heading) (statements : Statements) (end : ℕ) → Opened (Procedure heading statements end)
  procedure_read heading statements end spelled stands =
      let place = procedure_placed c label heading statements end stands in
      keyed_read (suc levels) inside c label p k words.Procedure _ ts more (Procedure heading statements end) spelled other place.1
      (λ us s. ap (λ o. deeper o p (λ i. procedure_at i label k (p + 1) (us ++ more))) again.1
      ∙ ap (λ l. procedure_at found l k (p + 1) (us ++ more)) place.0
      ∙ procedure_again levels again.0 again.2 (p + 1) k end us s.0 s.1 s.2 more heading statements s.3 s.4 s.5 s.6 (subst (λ l. SpellsEnd l s.2) place.0 s.7) s.8)

-- every statement, after its label
body_again : (levels : ℕ) (inside : Option Inside) → InsideAgain levels inside → (c : Context) (label : Option Identifier) (p k : ℕ) (ts more : Tokens) (b : Body) → StandsIn c.standing label b → MayReturn c.in_on_unit b
    → IsOfItsKind p ts b → SpellsBody c levels label p k ts b → HasSemicolon ts → (BodyAwaitsElse b → else_first more ≡ None) → BodyRead levels inside c label p k ts more b
body_again levels inside again c label p k ts more Null stands may kind spelled has awaits = null_read levels inside c label p k ts more spelled (no_assignment_begins p ts more has kind)
body_again levels inside again c label p k ts more (Assign target equals value) stands may kind (ls, rs, shape, at, left, right) has awaits =
    assign_read levels inside c label p k target equals value ls rs ts more shape at left right kind
body_again levels inside again c label p k ts more (Declare items) stands may kind spelled has awaits = declare_read levels inside c label p k items ts more spelled (no_assignment_begins p ts more has kind) stands
body_again zero inside again c label p k ts more (Procedure heading statements end) stands may kind spelled has awaits = absurd spelled.4.6
body_again (suc levels) inside again c label p k ts more (Procedure heading statements end) stands may kind spelled has awaits =
    procedure_read levels inside again c label p k ts more (no_assignment_begins p ts more has kind) heading statements end spelled stands
body_again zero inside again c label p k ts more (Begin statements end) stands may kind spelled has awaits = absurd spelled.4.3
body_again (suc levels) inside again c label p k ts more (Begin statements end) stands may kind spelled has awaits =
    begin_read levels inside again c label p k ts more (no_assignment_begins p ts more has kind) statements end spelled stands
body_again zero inside again c label p k ts more (Do control statements end) stands may kind spelled has awaits = absurd spelled.4.4
body_again (suc levels) inside again c label p k ts more (Do control statements end) stands may kind spelled has awaits =
    do_read levels inside again c label p k ts more (no_assignment_begins p ts more has kind) control statements end spelled stands
body_again zero inside again c label p k ts more (If condition consequence alternative) stands may kind spelled has awaits = absurd spelled.4.4
body_again (suc levels) inside again c label p k ts more (If condition consequence alternative) stands may kind spelled has awaits =
    if_read levels inside again c label p k ts more (no_assignment_begins p ts more has kind) condition consequence alternative awaits spelled stands
body_again zero inside again c label p k ts more (On condition unit) stands may kind spelled has awaits = absurd spelled.4.4
body_again (suc levels) inside again c label p k ts more (On condition unit) stands may kind spelled has awaits =
    on_read levels inside again c label p k ts more (no_assignment_begins p ts more has kind) condition unit spelled stands
body_again levels inside again c label p k ts more (Revert condition) stands may kind spelled has awaits = revert_read levels inside c label p k condition ts more spelled (no_assignment_begins p ts more has kind)
body_again levels inside again c label p k ts more (Signal condition) stands may kind spelled has awaits = signal_read levels inside c label p k condition ts more spelled (no_assignment_begins p ts more has kind)
body_again levels inside again c label p k ts more Stop stands may kind spelled has awaits = stop_read levels inside c label p k ts more spelled (no_assignment_begins p ts more has kind)
body_again levels inside again c label p k ts more (Allocate allocations) stands may kind spelled has awaits = allocate_read levels inside c label p k allocations ts more spelled (no_assignment_begins p ts more has kind)
body_again levels inside again c label p k ts more (Free references) stands may kind spelled has awaits = free_read levels inside c label p k references ts more spelled (no_assignment_begins p ts more has kind)
body_again levels inside again c label p k ts more (Call name arguments) stands may kind spelled has awaits = call_read levels inside c label p k name arguments ts more spelled (no_assignment_begins p ts more has kind)
body_again levels inside again c label p k ts more (Goto name) stands may kind spelled has awaits = goto_read levels inside c label p k name ts more spelled (no_assignment_begins p ts more has kind)
body_again levels inside again c label p k ts more (Return value) stands may kind spelled has awaits = return_read levels inside c label p k value ts more spelled (no_assignment_begins p ts more has kind) stands may
body_again levels inside again c label p k ts more (Put skip items) stands may kind spelled has awaits = put_read levels inside c label p k skip items ts more spelled (no_assignment_begins p ts more has kind)

abbrev labelled : Option Identifier → ℕ → Tokens → Front (Option Identifier)
labelled label p ts = record { value = label; next = p; rest = ts }

name_labelled : (n : Name) (p : ℕ) (us : Tokens) → label_at p (Word n ∷ Sign Colon ∷ us) ≡ labelled (Some (record { name = n; at = p })) (p + 2) us
unfolding label_at
name_labelled n p us = refl

-- the label is found, and may stand there
label_found : (label : Option Identifier) (p : ℕ) (front rest more : Tokens) → SpellsLabel p front label → Started rest → label_at p (front ++ (rest ++ more)) ≡ labelled label (p + length front) (rest ++ more)
label_found None p front rest more shape started =
    let place : p ≡ p + length front = omega (arith, ap length shape) in
    ap (λ us. label_at p (us ++ (rest ++ more))) shape ∙ no_label p rest more started ∙ ap (λ (q : ℕ). labelled None q (rest ++ more)) place
label_found (Some l) p front rest more (shape, at) started =
    let place : p + 2 ≡ p + length front = omega (arith, ap length shape) in
    ap (λ us. label_at p (us ++ (rest ++ more))) shape ∙ name_labelled l.name p (rest ++ more) ∙ ap (λ (q : ℕ). labelled (Some (record { name = l.name; at = q })) (p + 2) (rest ++ more)) (sym at) ∙ ap (λ (q : ℕ). labelled (Some l) q (rest ++ more)) place

clause_label : (label : Option Identifier) (b : Body) → StandsIn AsClause label b → label ≡ None
clause_label label (Procedure heading statements end) h = absurd h
clause_label label (Declare items) h = absurd h
clause_label label b h = h

some_none : {A : Type 0} (x : A) → ◌≡◌ {A = Option A} (Some x) None → ⊥
some_none x h = cc

label_stands : (s : StatementStanding) (label : Option Identifier) (b : Body) (q : ℕ) (rest more : Tokens) → StandsIn s label b → Started rest → bad_label s (labelled label q (rest ++ more)) label ≡ None
label_stands s None b q rest more stands started = refl
label_stands InBlock (Some l) b q rest more stands started = ap (λ (x : Front (Option Identifier)). second_label q x.value) (no_label q rest more started)
label_stands InGroup (Some l) b q rest more stands started = ap (λ (x : Front (Option Identifier)). second_label q x.value) (no_label q rest more started)
label_stands AsClause (Some l) b q rest more stands started = absurd (some_none l (clause_label (Some l) b stands))
label_stands AsOnUnit (Some l) b q rest more stands started = absurd (some_none l stands.0)

-- a statement with its label
step_again : (levels : ℕ) (inside : Option Inside) → InsideAgain levels inside → StatementAgain levels (statement_of levels inside)
unfolding statement_of
step_again levels inside again c p k ts more (Numbered number label at body) spelled awaits = by spelled
  where
    by : SpellsStatement c levels p k ts (Numbered number label at body) → begun levels inside c p k (ts ++ more) (has_semicolon (ts ++ more)) ≡ read_as (Numbered number label at body) (p + length ts) more
    by (front, rest, shape, named, numbered, place, stands, may, kind, after) =
        let q : ℕ = p + length front in
        let started = body_started c levels label q k rest body kind after in
        let whole : ts ++ more ≡ front ++ (rest ++ more) = ap (λ us. us ++ more) shape ∙ append_assoc front rest more in
        let x : Front (Option Identifier) = labelled label q (rest ++ more) in
        ap (begun levels inside c p k (ts ++ more)) (semicolon_front ts more (statement_semicolon c levels p k ts (Numbered number label at body) (front, rest, shape, named, numbered, place, stands, may, kind, after)))
        ∙ ap (λ (y : Front (Option Identifier)). after_label levels inside c k y (bad_label c.standing y y.value)) (ap (label_at p) whole ∙ label_found label p front rest more named started)
        ∙ ap (after_label levels inside c k x) (label_stands c.standing label body q rest more stands started)
        ∙ ap (mapped (Numbered k label q)) (body_again levels inside again c label q k rest more body stands may kind after (body_semicolon c levels label q k rest body after) awaits)
        ∙ ap (λ (m : ℕ). read_as (Numbered m label q body) (q + length rest) more) (sym numbered)
        ∙ ap (λ (m : ℕ). read_as (Numbered number label m body) (q + length rest) more) (sym place)
        ∙ placed (Numbered number label at body) (q + length rest) (p + length ts) more (omega (arith, ap length shape, length-append front rest))

inside_again : (levels : ℕ) → InsideAgain levels (inside_of levels)
unfolding inside_of
inside_again zero = tt
inside_again (suc levels) = (statement_of levels (inside_of levels), refl, step_again levels (inside_of levels) (inside_again levels))

-- the law for statements
pub statement_again : (levels : ℕ) → StatementAgain levels (statement_of levels (inside_of levels))
statement_again levels = step_again levels (inside_of levels) (inside_again levels)
