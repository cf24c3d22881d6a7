-- The statements of a unit that is read begin where they should.
use Rattle.std.proofs.Common.{◌≡◌, ◌+◌, ℕ, zero, suc, Option, Some, length, sym, ◌∙◌}
use Rattle.pli_base.specs.Syntax.{Reference, Named, first_token}
use Rattle.pli_base.specs.Statements.{Heading, Statement, Numbered, Body, Assign, Procedure, Begin, Do, If, On, Statements, Ended, Before, Alternative, NoElse, Else, count}
use Rattle.pli_base.specs.Words.{Tokens}
use Rattle.pli_base.specs.declared.syntax.Identifier.{Identifier}
use Rattle.pli_parse.proofs.StatementRead.{unit_reads}
use Rattle.pli_parse_expression.specs.Expressions.{Deeper, SpellsReference}
use Rattle.pli_parse_expression.specs.Operators.{nesting_limit}
use Rattle.pli_parse_statement.specs.StatementGrammar.{SpellsStatement, SpellsBody, SpellsStatements, SpellsAlternative, StandsIn}
use Rattle.pli_parse_statement.specs.StatementWords.{Context, standing, the_on_unit, a_procedure}
use Rattle.pli_parse_statement.specs.declared.keyword.StatementStanding.{StatementStanding}
use Rattle.pli_parse_statement.specs.declared.keyword.StatementStanding.TheVariants.{InBlock, InGroup, AsClause, AsOnUnit}
use Rattle.pli_meaning.specs.StatementStarts.{Begins, BodyBegins, AllBegin, ElseBegins, StatementsBegin}

-- what holds a level deeper makes something hold
deeper : (F : ℕ → Type 0) (G : Type 0) (levels : ℕ) → ((m : ℕ) → F m → G) → Deeper F levels → G
deeper F G zero g h = absurd h
deeper F G (suc m) g h = g m h

first_stands : (p : ℕ) (ts : Tokens) (r : Reference) → SpellsReference p ts r → first_token r ≡ p
first_stands p ts (Named name arguments more) h = h.3

named : (standing : StatementStanding) (label : Option Identifier) (heading : Heading) (statements : Statements) (end : ℕ)
    → StandsIn standing label (Procedure heading statements end) → label ≡ Some heading.name
named InBlock label heading statements end s = s
named InGroup label heading statements end s = absurd s
named AsClause label heading statements end s = absurd s
named AsOnUnit label heading statements end s = absurd (s.1)

mutual
  begins : (c : Context) (levels p k : ℕ) (ts : Tokens) (s : Statement) → SpellsStatement c levels p k ts s → Begins s
  begins c levels p k ts (Numbered number label at body) h = body_begins c levels label at _ k _ body h.5 h.6 h.9

  body_begins : (c : Context) (levels : ℕ) (label : Option Identifier) (at p k : ℕ) (ts : Tokens) (b : Body)
      → at ≡ p → StandsIn c.standing label b → SpellsBody c levels label p k ts b → BodyBegins label at b
  body_begins c levels label at p k ts (Assign target equals value) place s h =
      place ∙ sym (first_stands p h.0 target (h.4).0)
  body_begins c levels label at p k ts (Procedure heading statements end) place s h = (
    named c.standing label heading statements end s,
    deeper _ (AllBegin statements) levels (λ m g. list_begins a_procedure m _ (k + 1) _ statements g) h.4.6,
  )
  body_begins c levels label at p k ts (Begin statements end) place s h =
      deeper _ (AllBegin statements) levels (λ m g. list_begins (standing InBlock c) m _ (k + 1) _ statements g) h.4.3
  body_begins c levels label at p k ts (Do control statements end) place s h =
      deeper _ (AllBegin statements) levels (λ m g. list_begins (standing InGroup c) m _ (k + 1) _ statements g.1) h.4.4
  body_begins c levels label at p k ts (If condition consequence alternative) place s h =
      deeper _ (Begins consequence × ElseBegins alternative) levels
      (λ m g. (
        begins (standing AsClause c) m _ (k + 1) _ consequence g.1,
        else_begins c m _ (k + 1 + count consequence) _ consequence alternative g.2,
      )) h.4.4
  body_begins c levels label at p k ts (On condition unit) place s h =
      deeper _ (Begins unit) levels (λ m g. begins the_on_unit m _ (k + 1) _ unit g) h.4.4
  body_begins c levels label at p k ts body place s h = tt

  list_begins : (c : Context) (levels p k : ℕ) (ts : Tokens) (ss : Statements) → SpellsStatements c levels p k ts ss
      → AllBegin ss
  list_begins c levels p k ts Ended h = tt
  list_begins c levels p k ts (Before s ss) h =
      (begins c levels p k _ s h.3, list_begins c levels _ (k + count s) _ ss h.4)

  else_begins : (c : Context) (levels p k : ℕ) (ts : Tokens) (s : Statement) (a : Alternative)
      → SpellsAlternative c levels p k ts s a → ElseBegins a
  else_begins c levels p k ts s NoElse h = tt
  else_begins c levels p k ts s (Else statement) h = begins (standing AsClause c) levels _ k _ statement h.3

pub statements_begin : StatementsBegin
statements_begin ts u h =
    let s = unit_reads ts u h in
    let at : ℕ = 3 + length s.1 + 1 in
    deeper (λ m. SpellsStatements a_procedure m at 2 s.2 u.statements) (AllBegin u.statements) nesting_limit
    (λ m g. list_begins a_procedure m at 2 s.2 u.statements g) s.9
