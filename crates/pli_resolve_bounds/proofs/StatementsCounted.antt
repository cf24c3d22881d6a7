-- Each statement begins at a token of its own.
use Rattle.std.proofs.Common.{◌≡◌, ℕ, zero, suc, ◌+◌, ◌<◌, ◌≤◌, Option, [], ◌∷◌, ◌++◌, length, length-append, codes, ap, arith}
use Rattle.pli_base.specs.Statements.{Statement, Numbered, Body, Null, Assign, Declare, Procedure, Begin, Do, If, On, Revert, Signal, Stop, Allocate, Free, Call, Goto, Return, Put, Statements, Ended, Before, Alternative, NoElse, Else, count, body_count, list_count, alternative_count}
use Rattle.pli_base.specs.Words.{Tokens}
use Rattle.pli_base.specs.declared.syntax.Identifier.{Identifier}
use Rattle.pli_base.specs.declared.token.TokenText.{TokenText}
use Rattle.pli_base.specs.declared.token.TokenText.TheVariants.{Word, Sign}
use Rattle.pli_base.specs.declared.token.Sign.TheVariants.{Equals, Semicolon}
use Rattle.pli_parse.proofs.StatementRead.{unit_reads}
use Rattle.pli_parse_expression.specs.Expressions.{Deeper}
use Rattle.pli_parse_expression.specs.Operators.{nesting_limit}
use Rattle.pli_parse_statement.specs.StatementGrammar.{SpellsStatement, SpellsBody, SpellsStatements, SpellsAlternative}
use Rattle.pli_parse_statement.specs.StatementWords.{Context, standing, the_on_unit, a_procedure}
use Rattle.pli_parse_statement.specs.declared.keyword.StatementStanding.TheVariants.{InBlock, InGroup, AsClause}
use Rattle.pli_resolve_bounds.specs.StatementNumbers.{IsBelow, IsBodyBelow, AreBelow, IsElseBelow, StatementsAreFew}

-- what holds at each level holds where one is opened
opened : (F : ℕ → Type 0) (X : Type 0) (levels : ℕ) → Deeper F levels → ((m : ℕ) → F m → X) → X
opened F X zero h g = absurd h
opened F X (suc m) h g = g m h

-- how long lists with a token between are
parted : (front back : Tokens) (t : TokenText) → length (front ++ t ∷ back) ≡ length front + 1 + length back
parted front back t = omega (arith, length-append front (t ∷ back))

begun : (t : TokenText) (ts us : Tokens) → ts ≡ t ∷ us → 1 ≤ length ts
begun t ts us e = omega (arith, ap length e)

ended : (front back ts : Tokens) (t : TokenText) → ts ≡ front ++ t ∷ back → 1 ≤ length ts
ended front back ts t e = omega (arith, ap length e, parted front back t)

mutual
  counted : (c : Context) (levels p k : ℕ) (ts : Tokens) (s : Statement) → SpellsStatement c levels p k ts s → count s ≤ length ts
  counted c levels p k ts (Numbered number label at body) h =
      omega (arith, ap length h.2, length-append h.0 h.1, counted_body c levels label _ k h.1 body h.9)

  counted_body : (c : Context) (levels : ℕ) (label : Option Identifier) (p k : ℕ) (ts : Tokens) (b : Body)
      → SpellsBody c levels label p k ts b → 1 + body_count b ≤ length ts
  counted_body c levels label p k ts Null h = omega (arith, ap length h)
  counted_body c levels label p k ts (Assign target equals value) h = ended h.0 (h.1 ++ Sign Semicolon ∷ []) ts (Sign Equals) h.2
  counted_body c levels label p k ts (Procedure heading statements end) h =
      let inner : list_count statements ≤ length h.4.1 =
      opened _ (list_count statements ≤ length h.4.1) levels h.4.6 (λ m g. counted_list a_procedure m _ (k + 1) h.4.1 statements g) in
      omega (arith, inner, ap length h.2, ap length h.4.3, parted h.4.0 (h.4.1 ++ h.4.2) (Sign Semicolon), length-append h.4.1 h.4.2)
  counted_body c levels label p k ts (Begin statements end) h =
      let inner : list_count statements ≤ length h.4.0 =
      opened _ (list_count statements ≤ length h.4.0) levels h.4.3 (λ m g. counted_list (standing InBlock c) m _ (k + 1) h.4.0 statements g) in
      omega (arith, inner, ap length h.2, ap length h.4.2, length-append h.4.0 h.4.1)
  counted_body c levels label p k ts (Do control statements end) h =
      let inner : list_count statements ≤ length h.4.1 =
      opened _ (list_count statements ≤ length h.4.1) levels h.4.4 (λ m g. counted_list (standing InGroup c) m _ (k + 1) h.4.1 statements g.1) in
      omega (arith, inner, ap length h.2, ap length h.4.3, parted h.4.0 (h.4.1 ++ h.4.2) (Sign Semicolon), length-append h.4.1 h.4.2)
  counted_body c levels label p k ts (If condition consequence alternative) h =
      let inner : count consequence + alternative_count alternative ≤ length h.4.1 + length h.4.2 =
      opened _ (count consequence + alternative_count alternative ≤ length h.4.1 + length h.4.2) levels h.4.4
      (λ m g. omega (arith, counted (standing AsClause c) m _ (k + 1) h.4.1 consequence g.1, counted_else c m _ _ h.4.2 consequence alternative g.2)) in
      omega (arith, inner, ap length h.2, ap length h.4.3, parted h.4.0 (h.4.1 ++ h.4.2) (Word (codes "THEN")), length-append h.4.1 h.4.2)
  counted_body c levels label p k ts (On condition unit) h =
      let inner : count unit ≤ length h.4.1 =
      opened _ (count unit ≤ length h.4.1) levels h.4.4 (λ m g. counted the_on_unit m _ (k + 1) h.4.1 unit g) in
      omega (arith, inner, ap length h.2, ap length h.4.2, length-append h.4.0 h.4.1)
  counted_body c levels label p k ts (Declare items) h = begun (Word h.0) ts h.1 h.2
  counted_body c levels label p k ts (Revert condition) h = begun (Word h.0) ts h.1 h.2
  counted_body c levels label p k ts (Signal condition) h = begun (Word h.0) ts h.1 h.2
  counted_body c levels label p k ts Stop h = begun (Word h.0) ts h.1 h.2
  counted_body c levels label p k ts (Allocate allocations) h = begun (Word h.0) ts h.1 h.2
  counted_body c levels label p k ts (Free references) h = begun (Word h.0) ts h.1 h.2
  counted_body c levels label p k ts (Call name arguments) h = begun (Word h.0) ts h.1 h.2
  counted_body c levels label p k ts (Goto name) h = ended h.0 [] ts (Sign Semicolon) h.1
  counted_body c levels label p k ts (Return value) h = begun (Word h.0) ts h.1 h.2
  counted_body c levels label p k ts (Put skip items) h = begun (Word h.0) ts h.1 h.2

  counted_list : (c : Context) (levels p k : ℕ) (ts : Tokens) (ss : Statements) → SpellsStatements c levels p k ts ss → list_count ss ≤ length ts
  counted_list c levels p k ts Ended h = omega arith
  counted_list c levels p k ts (Before s ss) h =
      omega (arith, ap length h.2, length-append h.0 h.1, counted c levels p k h.0 s h.3, counted_list c levels _ (k + count s) h.1 ss h.4)

  counted_else : (c : Context) (levels p k : ℕ) (ts : Tokens) (s : Statement) (a : Alternative)
      → SpellsAlternative c levels p k ts s a → alternative_count a ≤ length ts
  counted_else c levels p k ts s NoElse h = omega arith
  counted_else c levels p k ts s (Else statement) h =
      omega (arith, ap length h.1, counted (standing AsClause c) levels _ k h.0 statement h.3)

-- numbers are as many as statements
mutual
  below : (n : ℕ) (c : Context) (levels p k : ℕ) (ts : Tokens) (s : Statement) → SpellsStatement c levels p k ts s → k + count s ≤ n → IsBelow n s
  below n c levels p k ts (Numbered number label at body) h room =
      (omega (arith, h.4, room), below_body n c levels label _ k h.1 body h.9 (omega (arith, room)))

  below_body : (n : ℕ) (c : Context) (levels : ℕ) (label : Option Identifier) (p k : ℕ) (ts : Tokens) (b : Body)
      → SpellsBody c levels label p k ts b → k + 1 + body_count b ≤ n → IsBodyBelow n b
  below_body n c levels label p k ts (Procedure heading statements end) h room = (
    omega (arith, h.4.5, room),
    opened _ (AreBelow n statements) levels h.4.6 (λ m g. below_list n a_procedure m _ (k + 1) h.4.1 statements g (omega (arith, room))),
    omega (arith, h.4.8, room),
  )
  below_body n c levels label p k ts (Begin statements end) h room = (
    opened _ (AreBelow n statements) levels h.4.3 (λ m g. below_list n (standing InBlock c) m _ (k + 1) h.4.0 statements g (omega (arith, room))),
    omega (arith, h.4.5, room),
  )
  below_body n c levels label p k ts (Do control statements end) h room = (
    opened _ (AreBelow n statements) levels h.4.4 (λ m g. below_list n (standing InGroup c) m _ (k + 1) h.4.1 statements g.1 (omega (arith, room))),
    omega (arith, h.4.6, room),
  )
  below_body n c levels label p k ts (If condition consequence alternative) h room = (
    opened _ (IsBelow n consequence) levels h.4.4 (λ m g. below n (standing AsClause c) m _ (k + 1) h.4.1 consequence g.1 (omega (arith, room))),
    opened _ (IsElseBelow n alternative) levels h.4.4
        (λ m g. below_else n c m _ (k + 1 + count consequence) h.4.2 consequence alternative g.2 (omega (arith, room))),
  )
  below_body n c levels label p k ts (On condition unit) h room =
      opened _ (IsBelow n unit) levels h.4.4 (λ m g. below n the_on_unit m _ (k + 1) h.4.1 unit g (omega (arith, room)))
  below_body n c levels label p k ts body h room = tt

  below_list : (n : ℕ) (c : Context) (levels p k : ℕ) (ts : Tokens) (ss : Statements) → SpellsStatements c levels p k ts ss → k + list_count ss ≤ n → AreBelow n ss
  below_list n c levels p k ts Ended h room = tt
  below_list n c levels p k ts (Before s ss) h room =
      (below n c levels p k h.0 s h.3 (omega (arith, room)), below_list n c levels _ (k + count s) h.1 ss h.4 (omega (arith, room)))

  below_else : (n : ℕ) (c : Context) (levels p k : ℕ) (ts : Tokens) (s : Statement) (a : Alternative)
      → SpellsAlternative c levels p k ts s a → k + alternative_count a ≤ n → IsElseBelow n a
  below_else n c levels p k ts s NoElse h room = tt
  below_else n c levels p k ts s (Else statement) h room = below n (standing AsClause c) levels _ k h.0 statement h.3 room

pub statements_are_few : StatementsAreFew
statements_are_few texts u h =
    let s = unit_reads texts u h in
    let at : ℕ = 3 + length s.1 + 1 in
    let inner : list_count u.statements ≤ length s.2 =
    opened (λ m. SpellsStatements a_procedure m at 2 s.2 u.statements) (list_count u.statements ≤ length s.2) nesting_limit s.9
    (λ m g. counted_list a_procedure m at 2 s.2 u.statements g) in
    let room : 2 + list_count u.statements < length texts =
    omega (arith, inner, ap length s.4, parted s.1 (s.2 ++ s.3) (Sign Semicolon), length-append s.2 s.3) in
    record {
      heading = omega (arith, s.7, room);
      statements = opened (λ m. SpellsStatements a_procedure m at 2 s.2 u.statements) (AreBelow (length texts) u.statements) nesting_limit s.9
          (λ m g. below_list (length texts) a_procedure m at 2 s.2 u.statements g (omega (arith, room)));
      counted = s.11;
      end = omega (arith, s.11, room);
    }
