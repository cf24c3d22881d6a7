-- Statements that are spelled: how each begins, that it has a `;`, and that it may stand where it does.
use Rattle.std.proofs.Common.{inl, inr, ◌≡◌, ◌+◌, ℕ, suc, zero, [], ◌∷◌, ◌++◌, Option, length, codes, ap, ◌∙◌, sym, subst}
use Rattle.pli_base.specs.Name.{Name}
use Rattle.pli_base.specs.Words.{Tokens}
use Rattle.pli_base.specs.declared.syntax.Identifier.{Identifier}
use Rattle.pli_base.specs.declared.token.Sign.TheVariants.{Semicolon, Equals}
use Rattle.pli_base.specs.declared.token.TokenText.TheVariants.{Word, Sign}
use Rattle.pli_parse_declaration.specs.DeclarationGrammar.{SpellsListed}
use Rattle.pli_parse_expression.specs.Expressions.{SpellsReferenceAlone}
use Rattle.pli_base.specs.Statements.{Statement, Numbered, Body, Null, Assign, Declare, Procedure, Begin, Do, If, On, Revert, Signal, Stop, Allocate, Free, Call, Goto, Return, Put}
use Rattle.pli_parse_statement.specs.StatementGrammar.{SpellsKeyed, SpellsClosed, SpellsCondition, SpellsAllocation, SpellsCall, SpellsValue, SpellsPut, IsOfItsKind, SpellsStatement, SpellsBody}
use Rattle.pli_parse_statement.specs.StatementWords.{Context}
use Rattle.pli_parse_statement.specs.declared.keyword.Keyword.{Keyword}
use Rattle.pli_parse_statement.specs.declared.keyword.Keyword.TheVariants as words
use Rattle.pli_parse.proofs.StatementSpelledTools.{HasSemicolon, semicolon_first, semicolon_later, semicolon_front, semicolon_back}
use Rattle.pli_parse.proofs.StatementSpelledStarts.{NotColon, not_colon_front, Started, expression_not_colon, target_word, declaration_not_colon, closed_not_colon, allocations_not_colon, references_not_colon, heading_not_colon, control_not_colon, put_not_colon, value_not_colon, keyed_started, goto_started}
use Rattle.pli_parse_declaration.specs.declared.list.Separator.TheVariants.{Commas}

-- what a condition, or what one of them and more spell, is a word
condition_not_colon : (Spells : Tokens → Type 0) → ((us : Tokens) → Spells us → (n : Name) × (vs : Tokens) × (us ≡ Word n ∷ vs)) → (ts : Tokens) → SpellsClosed Spells ts → NotColon ts
condition_not_colon Spells word ts closed =
    closed_not_colon Spells (λ us s. let w = word us s in not_colon_front us (Sign Semicolon ∷ []) (subst NotColon (sym w.2) tt)) ts closed

pub body_started : (c : Context) (levels : ℕ) (label : Option Identifier) (p k : ℕ) (ts : Tokens) (body : Body) → IsOfItsKind p ts body → SpellsBody c levels label p k ts body → Started ts
body_started c levels label p k ts Null kind shape = inl ([], shape)
body_started c levels label p k ts (Assign target equals value) kind (ls, rs, shape, at, left, right) =
    let w = target_word levels p ls (Sign Equals ∷ (rs ++ Sign Semicolon ∷ [])) target left tt in
    inr (w.0, w.1, shape ∙ w.2, w.3, inl (p, kind))
body_started c levels label p k ts (Declare items) kind spelled = keyed_started words.Declare _ ts tt spelled (λ us s. declaration_not_colon (p + 1) us items s)
body_started c levels label p k ts (Procedure heading statements end) kind spelled =
    keyed_started words.Procedure _ ts tt spelled (λ us s. subst NotColon (sym s.3) (heading_not_colon heading (p + 1) s.0 (Sign Semicolon ∷ (s.1 ++ s.2)) s.4 tt))
body_started c levels label p k ts (Begin statements end) kind spelled = keyed_started words.Begin _ ts tt spelled (λ us s. subst NotColon (sym s.2) tt)
body_started c zero label p k ts (Do control statements end) kind spelled = absurd spelled.4.4
body_started c (suc levels) label p k ts (Do control statements end) kind spelled =
    keyed_started words.Do _ ts tt spelled (λ us s. subst NotColon (sym s.3) (control_not_colon levels (p + 1) control s.0 (Sign Semicolon ∷ (s.1 ++ s.2)) s.4.0 tt))
body_started c zero label p k ts (If condition consequence alternative) kind spelled = absurd spelled.4.4
body_started c (suc levels) label p k ts (If condition consequence alternative) kind spelled =
    keyed_started words.If _ ts tt spelled (λ us s. subst NotColon (sym s.3) (not_colon_front s.0 _ (expression_not_colon condition (p + 1) s.0 s.4.0.0)))
body_started c levels label p k ts (On condition unit) kind spelled =
    keyed_started words.On _ ts tt spelled (λ us s. subst NotColon (sym (s.2 ∙ ap (λ vs. vs ++ s.1) s.3.1)) tt)
body_started c levels label p k ts (Revert condition) kind spelled = keyed_started words.Revert _ ts tt spelled (λ us s. condition_not_colon (λ us. SpellsCondition us condition) (λ vs t. (t.0, [], t.1)) us s)
body_started c levels label p k ts (Signal condition) kind spelled = keyed_started words.Signal _ ts tt spelled (λ us s. condition_not_colon (λ us. SpellsCondition us condition) (λ vs t. (t.0, [], t.1)) us s)
body_started c levels label p k ts Stop kind spelled = keyed_started words.Stop _ ts tt spelled (λ us s. closed_not_colon (λ us. us ≡ []) (λ vs t. subst (λ ws. NotColon (ws ++ Sign Semicolon ∷ [])) (sym t) tt) us s)
body_started c levels label p k ts (Allocate allocations) kind spelled =
    keyed_started words.Allocate _ ts tt spelled
    (λ us s. closed_not_colon (λ us. SpellsListed Commas (SpellsAllocation levels) (p + 1) us allocations) (λ vs t. not_colon_front vs (Sign Semicolon ∷ []) (allocations_not_colon levels (p + 1) vs allocations t)) us s)
body_started c levels label p k ts (Free references) kind spelled =
    keyed_started words.Free _ ts tt spelled
    (λ us s. closed_not_colon (λ us. SpellsListed Commas (SpellsReferenceAlone levels) (p + 1) us references) (λ vs t. not_colon_front vs (Sign Semicolon ∷ []) (references_not_colon levels (p + 1) vs references t)) us s)
body_started c levels label p k ts (Call name arguments) kind spelled =
    keyed_started words.Call _ ts tt spelled (λ us s. condition_not_colon (λ us. SpellsCall levels (p + 1) us name arguments) (λ vs t. (name.name, t.0, t.1)) us s)
body_started c levels label p k ts (Goto name) kind spelled = goto_started p ts name spelled
body_started c levels label p k ts (Return value) kind spelled =
    keyed_started words.Return _ ts tt spelled (λ us s. closed_not_colon (λ us. SpellsValue levels (p + 1) us value) (λ vs t. value_not_colon levels (p + 1) value vs (Sign Semicolon ∷ []) t tt) us s)
body_started c levels label p k ts (Put skip items) kind spelled =
    keyed_started words.Put _ ts tt spelled (λ us s. closed_not_colon (λ us. SpellsPut levels (p + 1) us skip items) (λ vs t. put_not_colon levels (p + 1) skip items vs (Sign Semicolon ∷ []) t tt) us s)

-- a `;` stands among the tokens

semicolon_in : (front rest ts : Tokens) → ts ≡ front ++ Sign Semicolon ∷ rest → HasSemicolon ts
semicolon_in front rest ts shape = subst HasSemicolon (sym shape) (semicolon_back front (Sign Semicolon ∷ rest) (semicolon_first rest))

closed_semicolon : (Spells : Tokens → Type 0) (ts : Tokens) → SpellsClosed Spells ts → HasSemicolon ts
closed_semicolon Spells ts (us, shape, spelled) = semicolon_in us [] ts shape

keyed_semicolon : (k : Keyword) (Spells : Tokens → Type 0) (ts : Tokens) → SpellsKeyed k Spells ts → ((us : Tokens) → Spells us → HasSemicolon us) → HasSemicolon ts
keyed_semicolon k Spells ts (n, us, shape, word, spelled) has = subst HasSemicolon (sym shape) (semicolon_later (Word n) us (has us spelled))

closed_keyed : (k : Keyword) (Spells : Tokens → Type 0) (ts : Tokens) → SpellsKeyed k (SpellsClosed Spells) ts → HasSemicolon ts
closed_keyed k Spells ts spelled = keyed_semicolon k (SpellsClosed Spells) ts spelled (λ us s. closed_semicolon Spells us s)

mutual
  pub statement_semicolon : (c : Context) (levels p k : ℕ) (ts : Tokens) (s : Statement) → SpellsStatement c levels p k ts s → HasSemicolon ts
  statement_semicolon c levels p k ts (Numbered number label at body) spelled =
      subst HasSemicolon (sym spelled.2) (semicolon_back spelled.0 spelled.1 (body_semicolon c levels label (p + length spelled.0) k spelled.1 body spelled.9))

  pub body_semicolon : (c : Context) (levels : ℕ) (label : Option Identifier) (p k : ℕ) (ts : Tokens) (body : Body) → SpellsBody c levels label p k ts body → HasSemicolon ts
  body_semicolon c levels label p k ts Null shape = semicolon_in [] [] ts shape
  body_semicolon c levels label p k ts (Assign target equals value) (ls, rs, shape, at, left, right) =
      subst HasSemicolon (sym shape) (semicolon_back ls (Sign Equals ∷ (rs ++ Sign Semicolon ∷ [])) (semicolon_later (Sign Equals) (rs ++ Sign Semicolon ∷ []) (semicolon_back rs (Sign Semicolon ∷ []) (semicolon_first []))))
  body_semicolon c levels label p k ts (Declare items) spelled = keyed_semicolon words.Declare _ ts spelled (λ us s. semicolon_in s.0 [] us s.1)
  body_semicolon c levels label p k ts (Procedure heading statements end) spelled = keyed_semicolon words.Procedure _ ts spelled (λ us s. semicolon_in s.0 (s.1 ++ s.2) us s.3)
  body_semicolon c levels label p k ts (Begin statements end) spelled = keyed_semicolon words.Begin _ ts spelled (λ us s. semicolon_in [] (s.0 ++ s.1) us s.2)
  body_semicolon c levels label p k ts (Do control statements end) spelled = keyed_semicolon words.Do _ ts spelled (λ us s. semicolon_in s.0 (s.1 ++ s.2) us s.3)
  body_semicolon c zero label p k ts (If condition consequence alternative) spelled = absurd spelled.4.4
  body_semicolon c (suc levels) label p k ts (If condition consequence alternative) (n, us, shape, word, (cs, ss, es, whole, inner)) =
      subst HasSemicolon (sym shape) (semicolon_later (Word n) us (subst HasSemicolon (sym whole) (semicolon_back cs (Word (codes "THEN") ∷ (ss ++ es)) (semicolon_later (Word (codes "THEN")) (ss ++ es)
      (semicolon_front ss es (statement_semicolon _ levels (p + 1 + length cs + 1) (k + 1) ss consequence inner.1))))))
  body_semicolon c zero label p k ts (On condition unit) spelled = absurd spelled.4.4
  body_semicolon c (suc levels) label p k ts (On condition unit) (n, us, shape, word, (cs, ss, whole, is, inner)) =
      subst HasSemicolon (sym shape) (semicolon_later (Word n) us (subst HasSemicolon (sym whole) (semicolon_back cs ss (statement_semicolon _ levels (p + 1 + length cs) (k + 1) ss unit inner))))
  body_semicolon c levels label p k ts (Revert condition) spelled = closed_keyed words.Revert _ ts spelled
  body_semicolon c levels label p k ts (Signal condition) spelled = closed_keyed words.Signal _ ts spelled
  body_semicolon c levels label p k ts Stop spelled = closed_keyed words.Stop _ ts spelled
  body_semicolon c levels label p k ts (Allocate allocations) spelled = closed_keyed words.Allocate _ ts spelled
  body_semicolon c levels label p k ts (Free references) spelled = closed_keyed words.Free _ ts spelled
  body_semicolon c levels label p k ts (Call name arguments) spelled = closed_keyed words.Call _ ts spelled
  body_semicolon c levels label p k ts (Goto name) spelled = closed_semicolon _ ts spelled
  body_semicolon c levels label p k ts (Return value) spelled = closed_keyed words.Return _ ts spelled
  body_semicolon c levels label p k ts (Put skip items) spelled = closed_keyed words.Put _ ts spelled
