-- The grammar of statements (X3.74, the rule of assignments own): which tokens spell which tree. Tokens are
-- counted from 0, and p is the place of the first; statements are numbered from 1, and k is the number of the
-- first. No word is reserved.
use Rattle.std.specs.Prelude.{◌≡◌, ℕ, ◌+◌, ◌⊎◌, Bool, true, false, Option, Some, None, List, [], ◌∷◌, ◌++◌}
use Rattle.std.specs.Prelude.{length, codes}
use Rattle.pli_base.specs.Name.{Name}
use Rattle.pli_base.specs.Words.{Tokens, SpellsIdentifier}
use Rattle.pli_base.specs.Syntax.{Expression, Reference, Arguments}
use Rattle.pli_base.specs.declared.syntax.Identifier.{Identifier}
use Rattle.pli_base.specs.declared.token.Sign.TheVariants.{Colon, Semicolon, OpenParenthesis}
use Rattle.pli_base.specs.declared.token.Sign.TheVariants.{CloseParenthesis, Equals}
use Rattle.pli_base.specs.declared.token.TokenText.TheVariants.{Word, Sign}
use Rattle.pli_parse_expression.specs.Operators.{nesting_limit}
use Rattle.pli_parse_expression.specs.AssignmentGrammar.{IsAssignment}
use Rattle.pli_parse_expression.specs.Expressions.{SpellsArguments, SpellsOutermost, SpellsReferenceAlone}
use Rattle.pli_parse_expression.specs.Expressions.{GivenFits, Every, OutermostFits, Deeper}
use Rattle.pli_parse_declaration.specs.DeclarationGrammar.{SpellsListed, SpellsReturned, SpellsDeclaration}
use Rattle.pli_base.specs.Statements.{ProcedureOption, Main, Returns, Recursive, Heading, Range, To, By}
use Rattle.pli_base.specs.Statements.{Repeat, Control, While, Iterate, Allocation, Statement, Numbered, Body}
use Rattle.pli_base.specs.Statements.{Null, Assign, Declare, Procedure, Begin, Do, If, On, Revert, Signal}
use Rattle.pli_base.specs.Statements.{Stop, Allocate, Free, Call, Goto, Return, Put, Statements, Ended}
use Rattle.pli_base.specs.Statements.{Before, Alternative, NoElse, Else, ExternalProcedure, count, list_count}
use Rattle.pli_base.specs.Statements.{AwaitsElse}
use Rattle.pli_parse_statement.specs.StatementWords.{Context, standing, the_on_unit, a_procedure, keyword_of}
use Rattle.pli_parse_statement.specs.StatementWords.{condition_of}
use Rattle.pli_parse_statement.specs.declared.keyword.Keyword.{Keyword}
use Rattle.pli_parse_statement.specs.declared.keyword.Keyword.TheVariants as words
use Rattle.pli_parse_statement.specs.declared.keyword.StatementStanding.{StatementStanding}
use Rattle.pli_parse_statement.specs.declared.keyword.StatementStanding.TheVariants.{InBlock, InGroup}
use Rattle.pli_parse_statement.specs.declared.keyword.StatementStanding.TheVariants.{AsClause}
use Rattle.pli_parse_statement.specs.declared.keyword.StatementStanding.TheVariants.{AsOnUnit}
use Rattle.pli_base.specs.declared.statement.Condition.{Condition}
use Rattle.pli_parse_declaration.specs.declared.list.Separator.TheVariants.{Commas}

-- the tokens up to the first `;` are a reference, `=` and one expression, whatever the words are; there is no
-- `;` in those, and no limit counts
abbrev pub BeginsAssignment : ℕ → Tokens → Type 0
BeginsAssignment p ts =
    (front : Tokens) × (rest : Tokens) × (ts ≡ front ++ Sign Semicolon ∷ rest) × IsAssignment p front

-- a statement is an assignment exactly where its tokens after the label begin with one; otherwise its first
-- keyword decides
abbrev pub IsOfItsKind : ℕ → Tokens → Body → Type 0
IsOfItsKind p ts (Assign target equals value) = BeginsAssignment p ts
IsOfItsKind p ts body = BeginsAssignment p ts → ⊥

-- parts of statements; so many levels may still be opened in their expressions

-- the name of a condition
abbrev pub SpellsCondition : Tokens → Condition → Type 0
SpellsCondition ts c = (n : Name) × (ts ≡ Word n ∷ []) × (condition_of n ≡ Some c)

-- a keyword, long or short, and what stands after it
abbrev pub SpellsKeyed : Keyword → (Tokens → Type 0) → Tokens → Type 0
SpellsKeyed keyword Spells ts =
    (n : Name) × (us : Tokens) × (ts ≡ Word n ∷ us) × (keyword_of n ≡ Some keyword) × Spells us

-- with a `;` after it
abbrev pub SpellsClosed : (Tokens → Type 0) → Tokens → Type 0
SpellsClosed Spells ts = (us : Tokens) × (ts ≡ us ++ Sign Semicolon ∷ []) × Spells us

-- in parentheses
abbrev pub SpellsEnclosed : {A : Type 0} → (ℕ → Tokens → A → Type 0) → ℕ → Tokens → A → Type 0
SpellsEnclosed Spells p ts x =
    (us : Tokens) × (ts ≡ Sign OpenParenthesis ∷ us ++ Sign CloseParenthesis ∷ []) × Spells (p + 1) us x

-- after a word, or not there
abbrev pub SpellsOptional : {A : Type 0} → Name → (ℕ → Tokens → A → Type 0) → ℕ → Tokens → Option A → Type 0
SpellsOptional word Spells p ts None = ts ≡ []
SpellsOptional word Spells p ts (Some x) = (us : Tokens) × (ts ≡ Word word ∷ us) × Spells (p + 1) us x

-- one or more, with commas between, in parentheses; or not there
abbrev pub SpellsParameters : ℕ → Tokens → List Identifier → Type 0
SpellsParameters p ts [] = ts ≡ []
SpellsParameters p ts (i ∷ is) = SpellsEnclosed (SpellsListed Commas SpellsIdentifier) p ts (i ∷ is)

-- popt = OPTIONS "(" MAIN ")" | RETURNS "(" attr {attr} ")" | RECURSIVE
abbrev pub SpellsOption : Tokens → ProcedureOption → Type 0
SpellsOption ts Main =
    ts ≡ Word (codes "OPTIONS") ∷ Sign OpenParenthesis ∷ Word (codes "MAIN") ∷ Sign CloseParenthesis ∷ []
SpellsOption ts (Returns attributes) =
    (us : Tokens) × (ts ≡ Word (codes "RETURNS") ∷ us) × SpellsReturned us attributes
SpellsOption ts Recursive = ts ≡ Word (codes "RECURSIVE") ∷ []

-- options, one after the other
abbrev pub SpellsOptions : Tokens → List ProcedureOption → Type 0
SpellsOptions ts [] = ts ≡ []
SpellsOptions ts (o ∷ os) =
    (front : Tokens) × (rest : Tokens) × (ts ≡ front ++ rest) × SpellsOption front o × SpellsOptions rest os

-- ["(" name {"," name} ")"] {popt}, after PROCEDURE
abbrev pub SpellsHeading : ℕ → Tokens → Heading → Type 0
SpellsHeading p ts h =
    (ps : Tokens) × (os : Tokens) × (ts ≡ ps ++ os) × SpellsParameters p ps h.parameters
    × SpellsOptions os h.options

-- range = TO expr [BY expr] | BY expr [TO expr] | REPEAT expr
abbrev pub SpellsRange : (levels p : ℕ) → Tokens → Option Range → Type 0
SpellsRange levels p ts None = ts ≡ []
SpellsRange levels p ts (Some (To to by)) =
    (front : Tokens) × (rest : Tokens) × (ts ≡ Word (codes "TO") ∷ front ++ rest)
    × SpellsOutermost levels (p + 1) front to
    × SpellsOptional (codes "BY") (SpellsOutermost levels) (p + 1 + length front) rest by
SpellsRange levels p ts (Some (By by to)) =
    (front : Tokens) × (rest : Tokens) × (ts ≡ Word (codes "BY") ∷ front ++ rest)
    × SpellsOutermost levels (p + 1) front by
    × SpellsOptional (codes "TO") (SpellsOutermost levels) (p + 1 + length front) rest to
SpellsRange levels p ts (Some (Repeat next)) =
    (us : Tokens) × (ts ≡ Word (codes "REPEAT") ∷ us) × SpellsOutermost levels (p + 1) us next

-- after DO, WHILE followed by `(` is the keyword
abbrev pub BeginsWithWhile : Tokens → Type 0
BeginsWithWhile ts = (us : Tokens) × (ts ≡ Word (codes "WHILE") ∷ Sign OpenParenthesis ∷ us)

-- spec = WHILE "(" expr ")" | ref "=" expr [range] [WHILE "(" expr ")"]
abbrev pub SpellsControl : (levels p : ℕ) → Tokens → Option Control → Type 0
SpellsControl levels p ts None = ts ≡ []
SpellsControl levels p ts (Some (While condition)) =
    (us : Tokens) × (ts ≡ Word (codes "WHILE") ∷ us)
    × SpellsEnclosed (SpellsOutermost levels) (p + 1) us condition
SpellsControl levels p ts (Some (Iterate variable equals first range condition)) =
    (vs : Tokens) × (fs : Tokens) × (rs : Tokens) × (cs : Tokens)
    × (ts ≡ vs ++ (Sign Equals ∷ (fs ++ (rs ++ cs)))) × (BeginsWithWhile ts → ⊥) × (equals ≡ p + length vs)
    × SpellsReferenceAlone levels p vs variable × SpellsOutermost levels (p + length vs + 1) fs first
    × SpellsRange levels (p + length vs + 1 + length fs) rs range
    × SpellsOptional (codes "WHILE") (SpellsEnclosed (SpellsOutermost levels)) (p + length vs + 1 + length fs
    + length rs) cs condition

-- {IN "(" ref ")" | SET "(" ref ")"}, each once at most, in either order
abbrev pub SpellsPlaced : (levels p : ℕ) → Tokens → (area target : Option Reference) → Type 0
SpellsPlaced levels p ts area target =
    (front : Tokens) × (rest : Tokens) × (ts ≡ front ++ rest)
    × ((SpellsOptional (codes "IN") (SpellsEnclosed (SpellsReferenceAlone levels)) p front area
    × SpellsOptional (codes "SET") (SpellsEnclosed (SpellsReferenceAlone levels)) (p
    + length front) rest target)
    ⊎ (SpellsOptional (codes "SET") (SpellsEnclosed (SpellsReferenceAlone levels)) p front target
    × SpellsOptional (codes "IN") (SpellsEnclosed (SpellsReferenceAlone levels)) (p
    + length front) rest area))

-- alloc = name {IN "(" ref ")" | SET "(" ref ")"}
abbrev pub SpellsAllocation : (levels p : ℕ) → Tokens → Allocation → Type 0
SpellsAllocation levels p ts a =
    (us : Tokens) × (ts ≡ Word a.name.name ∷ us) × (a.name.at ≡ p)
    × SpellsPlaced levels (p + 1) us a.area a.target

-- SKIP, or nothing
abbrev pub SpellsSkip : Tokens → Bool → Type 0
SpellsSkip ts false = ts ≡ []
SpellsSkip ts true = ts ≡ Word (codes "SKIP") ∷ []

-- LIST "(" expr {"," expr} ")", or not there
abbrev pub SpellsItems : (levels p : ℕ) → Tokens → List Expression → Type 0
SpellsItems levels p ts [] = ts ≡ []
SpellsItems levels p ts (e ∷ es) =
    (us : Tokens) × (ts ≡ Word (codes "LIST") ∷ us)
    × SpellsEnclosed (SpellsListed Commas (SpellsOutermost levels)) (p + 1) us (e ∷ es)

-- SKIP, LIST or both, in either order
abbrev pub SpellsPut : (levels p : ℕ) → Tokens → Bool → List Expression → Type 0
SpellsPut levels p ts skip items =
    (front : Tokens) × (rest : Tokens) × (ts ≡ front ++ rest) × (ts ≡ [] → ⊥)
    × ((SpellsSkip front skip × SpellsItems levels (p + length front) rest items)
    ⊎ (SpellsItems levels p front items × SpellsSkip rest skip))

-- name [args]; each argument is an outermost expression
abbrev pub SpellsCall : (levels p : ℕ) → Tokens → Identifier → Arguments → Type 0
SpellsCall levels p ts name arguments =
    (us : Tokens) × (ts ≡ Word name.name ∷ us) × (name.at ≡ p) × SpellsArguments (p + 1) us arguments
    × GivenFits (λ list. Deeper (λ m. Every (OutermostFits m) list) levels) arguments

-- ["(" expr ")"]
abbrev pub SpellsValue : (levels p : ℕ) → Tokens → Option Expression → Type 0
SpellsValue levels p ts None = ts ≡ []
SpellsValue levels p ts (Some e) = SpellsEnclosed (SpellsOutermost levels) p ts e

-- (GOTO | GO TO) name
abbrev pub SpellsGoto : ℕ → Tokens → Identifier → Type 0
SpellsGoto p ts label =
    SpellsKeyed words.Goto (λ us. SpellsIdentifier (p + 1) us label) ts
    ⊎ ((us : Tokens) × (ts ≡ Word (codes "GO") ∷ Word (codes "TO") ∷ us) × SpellsIdentifier (p + 2) us label)

-- statements

-- a label and its colon, or nothing
abbrev pub SpellsLabel : ℕ → Tokens → Option Identifier → Type 0
SpellsLabel p ts None = ts ≡ []
SpellsLabel p ts (Some l) = (ts ≡ Word l.name ∷ Sign Colon ∷ []) × (l.at ≡ p)

-- END [name] ";", where the name is the label of the nearest open block or group
abbrev pub SpellsEnd : (label : Option Identifier) → Tokens → Type 0
SpellsEnd None ts = ts ≡ Word (codes "END") ∷ Sign Semicolon ∷ []
SpellsEnd (Some l) ts =
    (ts ≡ Word (codes "END") ∷ Sign Semicolon ∷ [])
    ⊎ (ts ≡ Word (codes "END") ∷ Word l.name ∷ Sign Semicolon ∷ [])

-- the statements that an ON-unit may be
abbrev pub IsOnUnitBody : Body → Type 0
IsOnUnitBody (Declare items) = ⊥
IsOnUnitBody (Procedure heading statements end) = ⊥
IsOnUnitBody (Do control statements end) = ⊥
IsOnUnitBody (If condition consequence alternative) = ⊥
IsOnUnitBody (On condition unit) = ⊥
IsOnUnitBody (Return value) = ⊥
IsOnUnitBody body = Unit {0}

-- PROCEDURE stands directly in a block's list and has a label, DECLARE in any list and has none; after THEN,
-- ELSE and ON there are no labels
abbrev pub StandsIn : StatementStanding → (label : Option Identifier) → Body → Type 0
StandsIn InBlock label (Procedure heading statements end) = label ≡ Some heading.name
StandsIn InBlock label (Declare items) = label ≡ None
StandsIn InBlock label body = Unit {0}
StandsIn InGroup label (Procedure heading statements end) = ⊥
StandsIn InGroup label (Declare items) = label ≡ None
StandsIn InGroup label body = Unit {0}
StandsIn AsClause label (Procedure heading statements end) = ⊥
StandsIn AsClause label (Declare items) = ⊥
StandsIn AsClause label body = label ≡ None
StandsIn AsOnUnit label body = (label ≡ None) × IsOnUnitBody body

-- there is no RETURN in an ON-unit, save in a procedure inside it
abbrev pub MayReturn : (in_on_unit : Bool) → Body → Type 0
MayReturn true (Return value) = ⊥
MayReturn in_on_unit body = Unit {0}

-- where so many levels may still be opened. PROCEDURE, BEGIN, DO, IF and ON open one, up to their ends; so do
-- prefix operators and the parentheses of expressions and of lists of arguments. The statements of a list
-- stand one after another, and each takes as many numbers as statements begin in it
abbrev mutual
  pub SpellsStatement : Context → (levels p k : ℕ) → Tokens → Statement → Type 0
  SpellsStatement c levels p k ts (Numbered number label at body) =
      (front : Tokens) × (rest : Tokens) × (ts ≡ front ++ rest) × SpellsLabel p front label × (number ≡ k)
      × (at ≡ p + length front)
      × StandsIn c.standing label body × MayReturn c.in_on_unit body
      × IsOfItsKind (p + length front) rest body
      × SpellsBody c levels label (p + length front) k rest body

  -- after the label
  pub SpellsBody : Context → (levels : ℕ) → (label : Option Identifier) → (p k : ℕ) → Tokens → Body → Type 0
  SpellsBody c levels label p k ts Null = ts ≡ Sign Semicolon ∷ []
  SpellsBody c levels label p k ts (Assign target equals value) =
      (ls : Tokens) × (rs : Tokens) × (ts ≡ ls ++ (Sign Equals ∷ (rs ++ Sign Semicolon ∷ [])))
      × (equals ≡ p + length ls)
      × SpellsReferenceAlone levels p ls target × SpellsOutermost levels (p + length ls + 1) rs value
  SpellsBody c levels label p k ts (Declare items) =
      SpellsKeyed words.Declare (λ us. SpellsDeclaration (p + 1) us items) ts
  SpellsBody c levels label p k ts (Procedure heading statements end) =
      SpellsKeyed words.Procedure (λ us. (hs : Tokens) × (ss : Tokens) × (es : Tokens)
      × (us ≡ hs ++ (Sign Semicolon ∷ (ss ++ es)))
      × SpellsHeading (p + 1) hs heading × (heading.number ≡ k)
      × Deeper (λ m. SpellsStatements a_procedure m (p + 1 + length hs + 1) (k + 1) ss statements) levels
      × SpellsEnd label es × (end ≡ k + 1 + list_count statements)) ts
  SpellsBody c levels label p k ts (Begin statements end) =
      SpellsKeyed words.Begin (λ us. (ss : Tokens) × (es : Tokens) × (us ≡ Sign Semicolon ∷ (ss ++ es))
      × Deeper (λ m. SpellsStatements (standing InBlock c) m (p + 2) (k + 1) ss statements) levels
      × SpellsEnd label es × (end ≡ k + 1 + list_count statements)) ts
  SpellsBody c levels label p k ts (Do control statements end) =
      SpellsKeyed words.Do (λ us. (cs : Tokens) × (ss : Tokens) × (es : Tokens)
      × (us ≡ cs ++ (Sign Semicolon ∷ (ss ++ es)))
      × Deeper (λ m. SpellsControl m (p + 1) cs control
      × SpellsStatements (standing InGroup c) m (p + 1 + length cs + 1) (k + 1) ss statements) levels
      × SpellsEnd label es × (end ≡ k + 1 + list_count statements)) ts
  SpellsBody c levels label p k ts (If condition consequence alternative) =
      SpellsKeyed words.If (λ us. (cs : Tokens) × (ss : Tokens) × (es : Tokens)
      × (us ≡ cs ++ (Word (codes "THEN") ∷ (ss ++ es)))
      × Deeper (λ m. SpellsOutermost m (p + 1) cs condition
      × SpellsStatement (standing AsClause c) m (p + 1 + length cs + 1) (k + 1) ss consequence
      × SpellsAlternative c m (p + 1 + length cs + 1 + length ss) (k + 1
      + count consequence) es consequence alternative) levels) ts
  SpellsBody c levels label p k ts (On condition unit) =
      SpellsKeyed words.On (λ us. (cs : Tokens) × (ss : Tokens) × (us ≡ cs ++ ss)
      × SpellsCondition cs condition
      × Deeper (λ m. SpellsStatement the_on_unit m (p + 1 + length cs) (k + 1) ss unit) levels) ts
  SpellsBody c levels label p k ts (Revert condition) =
      SpellsKeyed words.Revert (SpellsClosed (λ us. SpellsCondition us condition)) ts
  SpellsBody c levels label p k ts (Signal condition) =
      SpellsKeyed words.Signal (SpellsClosed (λ us. SpellsCondition us condition)) ts
  SpellsBody c levels label p k ts Stop = SpellsKeyed words.Stop (SpellsClosed (λ us. us ≡ [])) ts
  SpellsBody c levels label p k ts (Allocate allocations) =
      SpellsKeyed words.Allocate (SpellsClosed (λ us. SpellsListed Commas (SpellsAllocation levels) (p
      + 1) us allocations)) ts
  SpellsBody c levels label p k ts (Free references) =
      SpellsKeyed words.Free (SpellsClosed (λ us. SpellsListed Commas (SpellsReferenceAlone levels) (p
      + 1) us references)) ts
  SpellsBody c levels label p k ts (Call name arguments) =
      SpellsKeyed words.Call (SpellsClosed (λ us. SpellsCall levels (p + 1) us name arguments)) ts
  SpellsBody c levels label p k ts (Goto name) = SpellsClosed (λ us. SpellsGoto p us name) ts
  SpellsBody c levels label p k ts (Return value) =
      SpellsKeyed words.Return (SpellsClosed (λ us. SpellsValue levels (p + 1) us value)) ts
  SpellsBody c levels label p k ts (Put skip items) =
      SpellsKeyed words.Put (SpellsClosed (λ us. SpellsPut levels (p + 1) us skip items)) ts

  -- statements one after another, numbered on
  pub SpellsStatements : Context → (levels p k : ℕ) → Tokens → Statements → Type 0
  SpellsStatements c levels p k ts Ended = ts ≡ []
  SpellsStatements c levels p k ts (Before first more) =
      (front : Tokens) × (rest : Tokens) × (ts ≡ front ++ rest) × SpellsStatement c levels p k front first
      × SpellsStatements c levels (p + length front) (k + count first) rest more

  -- an ELSE belongs to the nearest IF: none that has no ELSE stands last in the THEN part before it. What
  -- begins with `ELSE:` or with an assignment
  -- to ELSE is no ELSE part, since neither `:`, `=`, `(`, `.` nor `->` begins a statement
  pub SpellsAlternative : Context → (levels p k : ℕ) → Tokens → (consequence : Statement) → Alternative
      → Type 0
  SpellsAlternative c levels p k ts consequence NoElse = ts ≡ []
  SpellsAlternative c levels p k ts consequence (Else statement) =
      (us : Tokens) × (ts ≡ Word (codes "ELSE") ∷ us) × (AwaitsElse consequence → ⊥)
      × SpellsStatement (standing AsClause c) levels (p + 1) k us statement

-- unit = name ":" PROCEDURE ["(" name {"," name} ")"] {popt} ";" list END [name] ";", which is the first
-- level and begins with statement 1
abbrev pub SpellsUnit : Tokens → ExternalProcedure → Type 0
SpellsUnit ts u =
    (n : Name) × (hs : Tokens) × (ss : Tokens) × (es : Tokens)
    × (ts ≡ Word u.heading.name.name ∷ Sign Colon ∷ Word n ∷ hs ++ (Sign Semicolon ∷ (ss ++ es)))
    × (keyword_of n ≡ Some words.Procedure) × (u.heading.name.at ≡ 0) × (u.heading.number ≡ 1)
    × SpellsHeading 3 hs u.heading
    × Deeper (λ m. SpellsStatements a_procedure m (3 + length hs + 1) 2 ss u.statements) nesting_limit
    × SpellsEnd (Some u.heading.name) es × (u.end ≡ 2 + list_count u.statements)
