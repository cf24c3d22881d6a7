-- The statements of a unit that is read are numbered in the order of the text, from 2 on.
use Rattle.std.specs.Prelude.{◌≡◌, ℕ, zero, suc, ◌+◌, Option, Ok, length}
use Rattle.std.proofs.Common.{arith, subst}
use Rattle.pli_base.specs.Statements.{Statement, Numbered, Body, Procedure, Begin, Do, If, On, Statements, Ended}
use Rattle.pli_base.specs.Statements.{Before, Alternative, NoElse, Else, ExternalProcedure, count}
use Rattle.pli_base.specs.Words.{Tokens}
use Rattle.pli_base.specs.declared.syntax.Identifier.{Identifier}
use Rattle.pli_parse.proofs.StatementRead.{unit_reads}
use Rattle.pli_parse_expression.specs.Expressions.{Deeper}
use Rattle.pli_parse_expression.specs.Operators.{nesting_limit}
use Rattle.pli_parse_statement.specs.StatementGrammar.{SpellsStatement, SpellsBody, SpellsStatements, SpellsAlternative}
use Rattle.pli_parse_statement.specs.StatementReading.{unit_of}
use Rattle.pli_parse_statement.specs.StatementWords.{Context, standing, the_on_unit, a_procedure}
use Rattle.pli_parse_statement.specs.declared.keyword.StatementStanding.TheVariants.{InBlock, InGroup, AsClause}
use Rattle.pli_type_laws.specs.Numbering.{IsNumbered, IsNumberedBody, AreNumbered, IsNumberedElse}

-- what holds at each level holds where one is opened
opened : (F : ℕ → Type 0) (X : Type 0) (levels : ℕ) → Deeper F levels → ((m : ℕ) → F m → X) → X
opened F X zero h g = absurd h
opened F X (suc m) h g = g m h

one_more : (k : ℕ) → k + 1 ≡ suc k
one_more k = omega arith

after : (k n : ℕ) → k + 1 + n ≡ suc k + n
after k n = omega arith

mutual
  numbered : (c : Context) (levels p k : ℕ) (ts : Tokens) (s : Statement) → SpellsStatement c levels p k ts s → IsNumbered k s
  numbered c levels p k ts (Numbered number label at body) h = (h.4, numbered_body c levels label _ k _ body h.9)

  numbered_body : (c : Context) (levels : ℕ) (label : Option Identifier) (p k : ℕ) (ts : Tokens) (b : Body)
      → SpellsBody c levels label p k ts b → IsNumberedBody (suc k) b
  numbered_body c levels label p k ts (Procedure heading statements end) h = (
    subst (λ n. AreNumbered n statements) (one_more k)
        (opened _ (AreNumbered (k + 1) statements) levels h.4.6 (λ m g. numbered_list a_procedure m _ (k + 1) _ statements g)),
    omega (arith, h.4.8),
  )
  numbered_body c levels label p k ts (Begin statements end) h = (
    subst (λ n. AreNumbered n statements) (one_more k)
        (opened _ (AreNumbered (k + 1) statements) levels h.4.3 (λ m g. numbered_list (standing InBlock c) m _ (k + 1) _ statements g)),
    omega (arith, h.4.5),
  )
  numbered_body c levels label p k ts (Do control statements end) h = (
    subst (λ n. AreNumbered n statements) (one_more k)
        (opened _ (AreNumbered (k + 1) statements) levels h.4.4 (λ m g. numbered_list (standing InGroup c) m _ (k + 1) _ statements g.1)),
    omega (arith, h.4.6),
  )
  numbered_body c levels label p k ts (If condition consequence alternative) h = (
    subst (λ n. IsNumbered n consequence) (one_more k)
        (opened _ (IsNumbered (k + 1) consequence) levels h.4.4 (λ m g. numbered (standing AsClause c) m _ (k + 1) _ consequence g.1)),
    subst (λ n. IsNumberedElse n alternative) (after k (count consequence))
        (opened _ (IsNumberedElse (k + 1 + count consequence) alternative) levels h.4.4
        (λ m g. numbered_else c m _ (k + 1 + count consequence) _ consequence alternative g.2)),
  )
  numbered_body c levels label p k ts (On condition unit) h =
      subst (λ n. IsNumbered n unit) (one_more k)
      (opened _ (IsNumbered (k + 1) unit) levels h.4.4 (λ m g. numbered the_on_unit m _ (k + 1) _ unit g))
  numbered_body c levels label p k ts body h = tt

  numbered_list : (c : Context) (levels p k : ℕ) (ts : Tokens) (ss : Statements) → SpellsStatements c levels p k ts ss → AreNumbered k ss
  numbered_list c levels p k ts Ended h = tt
  numbered_list c levels p k ts (Before s ss) h =
      (numbered c levels p k _ s h.3, numbered_list c levels _ (k + count s) _ ss h.4)

  numbered_else : (c : Context) (levels p k : ℕ) (ts : Tokens) (s : Statement) (a : Alternative)
      → SpellsAlternative c levels p k ts s a → IsNumberedElse k a
  numbered_else c levels p k ts s NoElse h = tt
  numbered_else c levels p k ts s (Else statement) h = numbered (standing AsClause c) levels _ k _ statement h.3

pub units_are_numbered : (texts : Tokens) (u : ExternalProcedure) → unit_of texts ≡ Ok u → (from : ℕ) × AreNumbered from u.statements
units_are_numbered texts u h =
    let s = unit_reads texts u h in
    let at : ℕ = 3 + length s.1 + 1 in (
      2,
      opened (λ m. SpellsStatements a_procedure m at 2 s.2 u.statements) (AreNumbered 2 u.statements) nesting_limit s.9
          (λ m g. numbered_list a_procedure m at 2 s.2 u.statements g),
    )
