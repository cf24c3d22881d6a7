-- The statements of a unit that is read nest within the limit, and procedures stand directly in blocks.
use Rattle.std.specs.Prelude.{◌≡◌, ℕ, zero, suc, ◌+◌, Bool, true, false, IsTrue, Option, Ok, length, refl}
use Rattle.pli_base.specs.Statements.{Statement, Numbered, Body, Procedure, Begin, Do, If, On, Heading, Statements, Ended}
use Rattle.pli_base.specs.Statements.{Before, Alternative, NoElse, Else, ExternalProcedure, count}
use Rattle.pli_base.specs.Words.{Tokens}
use Rattle.pli_base.specs.declared.syntax.Identifier.{Identifier}
use Rattle.pli_parse.proofs.StatementRead.{unit_reads}
use Rattle.pli_parse_expression.specs.Expressions.{Deeper}
use Rattle.pli_parse_expression.specs.Operators.{nesting_limit}
use Rattle.pli_parse_statement.specs.StatementGrammar.{SpellsStatement, SpellsBody, SpellsStatements, SpellsAlternative, StandsIn}
use Rattle.pli_parse_statement.specs.StatementReading.{unit_of}
use Rattle.pli_parse_statement.specs.StatementWords.{Context, standing, the_on_unit, a_procedure}
use Rattle.pli_parse_statement.specs.declared.keyword.StatementStanding.{StatementStanding}
use Rattle.pli_parse_statement.specs.declared.keyword.StatementStanding.TheVariants.{InBlock, InGroup, AsClause, AsOnUnit}
use Rattle.pli_type_laws.specs.Nesting.{NestsWithin, BodyNests, ListNests, ElseNests}

-- what holds a level deeper makes something else hold there
deeper : (F G : ℕ → Type 0) (levels : ℕ) → ((m : ℕ) → F m → G m) → Deeper F levels → Deeper G levels
deeper F G zero g h = absurd h
deeper F G (suc m) g h = g m h

abbrev is_direct : StatementStanding → Bool
is_direct InBlock = true
is_direct other = false

directly : (standing : StatementStanding) (label : Option Identifier) (heading : Heading) (statements : Statements) (end : ℕ)
    → StandsIn standing label (Procedure heading statements end) → IsTrue (is_direct standing)
directly InBlock label heading statements end s = refl
directly InGroup label heading statements end s = absurd s
directly AsClause label heading statements end s = absurd s
directly AsOnUnit label heading statements end s = absurd (s.1)

mutual
  nests : (c : Context) (levels p k : ℕ) (ts : Tokens) (s : Statement) → SpellsStatement c levels p k ts s
      → NestsWithin (is_direct c.standing) levels s
  nests c levels p k ts (Numbered number label at body) h = body_nests c levels label _ k _ body h.6 h.9

  body_nests : (c : Context) (levels : ℕ) (label : Option Identifier) (p k : ℕ) (ts : Tokens) (b : Body)
      → StandsIn c.standing label b → SpellsBody c levels label p k ts b → BodyNests (is_direct c.standing) levels b
  body_nests c levels label p k ts (Procedure heading statements end) s h = (
    directly c.standing label heading statements end s,
    deeper _ (λ m. ListNests true m statements) levels (λ m g. list_nests a_procedure m _ (k + 1) _ statements g) h.4.6,
  )
  body_nests c levels label p k ts (Begin statements end) s h =
      deeper _ (λ m. ListNests true m statements) levels
      (λ m g. list_nests (standing InBlock c) m _ (k + 1) _ statements g) h.4.3
  body_nests c levels label p k ts (Do control statements end) s h =
      deeper _ (λ m. ListNests false m statements) levels
      (λ m g. list_nests (standing InGroup c) m _ (k + 1) _ statements g.1) h.4.4
  body_nests c levels label p k ts (If condition consequence alternative) s h =
      deeper _ (λ m. NestsWithin false m consequence × ElseNests m alternative) levels
      (λ m g. (
        nests (standing AsClause c) m _ (k + 1) _ consequence g.1,
        else_nests c m _ (k + 1 + count consequence) _ consequence alternative g.2,
      )) h.4.4
  body_nests c levels label p k ts (On condition unit) s h =
      deeper _ (λ m. NestsWithin false m unit) levels (λ m g. nests the_on_unit m _ (k + 1) _ unit g) h.4.4
  body_nests c levels label p k ts body s h = tt

  list_nests : (c : Context) (levels p k : ℕ) (ts : Tokens) (ss : Statements) → SpellsStatements c levels p k ts ss
      → ListNests (is_direct c.standing) levels ss
  list_nests c levels p k ts Ended h = tt
  list_nests c levels p k ts (Before s ss) h =
      (nests c levels p k _ s h.3, list_nests c levels _ (k + count s) _ ss h.4)

  else_nests : (c : Context) (levels p k : ℕ) (ts : Tokens) (s : Statement) (a : Alternative)
      → SpellsAlternative c levels p k ts s a → ElseNests levels a
  else_nests c levels p k ts s NoElse h = tt
  else_nests c levels p k ts s (Else statement) h = nests (standing AsClause c) levels _ k _ statement h.3

pub unit_nests : (texts : Tokens) (u : ExternalProcedure) → unit_of texts ≡ Ok u
    → Deeper (λ m. ListNests true m u.statements) nesting_limit
unit_nests texts u h =
    let s = unit_reads texts u h in
    let at : ℕ = 3 + length s.1 + 1 in
    deeper (λ m. SpellsStatements a_procedure m at 2 s.2 u.statements) (λ m. ListNests true m u.statements) nesting_limit
    (λ m g. list_nests a_procedure m at 2 s.2 u.statements g) s.9
