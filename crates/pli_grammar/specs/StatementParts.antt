-- Reading the parts of statements (X3.74, the rule of assignments own).
use Rattle.std.specs.Prelude.{ℕ, zero, suc, ◌+◌, Bool, true, false, Option, Some, None, is_some}
use Rattle.std.specs.Prelude.{List, [], ◌∷◌, length, codes, if◌then◌else◌}
use Rattle.std.specs.List.{list_any}
use Rattle.pli_base.specs.Name.{Name}
use Rattle.pli_base.specs.Words.{is_word, is_semicolon, same_name}
use Rattle.pli_base.specs.Reading.{at_fault, expected, read_as, or_none}
use Rattle.pli_base.specs.Syntax.{Expression, Reference}
use Rattle.pli_base.specs.declared.syntax.Identifier.{Identifier}
use Rattle.pli_base.specs.declared.code.Code.TheVariants.{NotAStatement, SemicolonExpected, BadDo}
use Rattle.pli_base.specs.declared.code.Code.TheVariants.{BadCondition, BadOption}
use Rattle.pli_base.specs.declared.token.Sign.TheVariants.{OpenParenthesis}
use Rattle.pli_base.specs.declared.token.TokenText.TheVariants.{Word, Sign}
use Rattle.pli_base.specs.declared.statement.Condition.{Condition}
use Rattle.pli_base.specs.declared.statement.Condition.TheVariants.{FixedOverflow, ZeroDivide, Area}
use Rattle.pli_base.specs.Statements.{ProcedureOption, Main, Returns, Recursive, Heading, Range, To, By}
use Rattle.pli_base.specs.Statements.{Repeat, Control, While, Iterate, Allocation, Body}
use Rattle.pli_base.specs.Statements as body
use Rattle.pli_parse_declaration.specs.DeclarationReading.{identifier_at}
use Rattle.pli_parse_statement.specs.StatementReading.{is_equals}
use Rattle.pli_grammar.specs.Readers.{Reader, ◌>>=◌, made, token, optional, parenthesized, in_parentheses}
use Rattle.pli_grammar.specs.Readers.{list_of, worded, parts_from}
use Rattle.pli_grammar.specs.Declarations.{returned, described}
use Rattle.pli_grammar.specs.Expressions.{outermost, expression_of, operand_of, reference_of, arguments}
use Rattle.pli_grammar.specs.Expressions.{inside, argument}

-- a value, and the `;` after it
abbrev pub stopped : {A : Type 0} → A → Reader A
stopped value = do
  _ ← token is_semicolon SemicolonExpected
  read_as value

-- the part that a word begins, unless it stands already
abbrev pub unless : {A : Type 0} → (stands : Bool) → A → Option A
unless stands part = if stands then None else Some part

-- the condition after ON, SIGNAL or REVERT
abbrev pub condition : Reader Condition
condition = worded (
    (codes "FIXEDOVERFLOW", FixedOverflow) ∷ (codes "FOFL", FixedOverflow)
    ∷ (codes "ZERODIVIDE", ZeroDivide) ∷ (codes "ZDIV", ZeroDivide)
    ∷ (codes "AREA", Area) ∷ []) read_as (expected BadCondition)

-- so many levels may still be opened in expressions
module _ (levels : ℕ) where
  -- an outermost expression
  abbrev pub expression : Reader Expression
  expression = outermost (expression_of (operand_of (inside levels)))

  -- a reference
  abbrev pub reference : Reader Reference
  reference = outermost (reference_of (argument levels))

  -- a reference, `=` and one expression
  abbrev pub assignment : Reader Body
  assignment = do
    target ← reference
    equals ← token is_equals NotAStatement
    value ← expression
    stopped (body.Assign target equals value)

  -- after TO, with or without BY
  abbrev pub to_range : Reader (Option Range)
  to_range = do
    to ← expression
    by ← optional (is_word (codes "BY")) expression
    read_as (Some (To to by))

  -- after BY, with or without TO
  abbrev pub by_range : Reader (Option Range)
  by_range = do
    by ← expression
    to ← optional (is_word (codes "TO")) expression
    read_as (Some (By by to))

  -- after REPEAT
  abbrev pub repeat_range : Reader (Option Range)
  repeat_range = made (λ next. Some (Repeat next)) expression

  -- what limits or continues an iteration
  abbrev pub ranges : List (Name × Reader (Option Range))
  ranges = (codes "TO", to_range) ∷ (codes "BY", by_range) ∷ (codes "REPEAT", repeat_range) ∷ []

  -- one of these, or none
  abbrev pub range : Reader (Option Range)
  range = worded ranges (λ read. read) (read_as None)

  -- a variable, `=`, its first value, and what limits or continues the iteration
  abbrev pub iteration : Reader (Option Control)
  iteration = do
    variable ← reference
    equals ← token is_equals BadDo
    first ← expression
    limits ← range
    tested ← optional (is_word (codes "WHILE")) (parenthesized expression)
    read_as (Some (Iterate variable equals first limits tested))

  -- after DO: WHILE followed by `(` is the keyword, and any other word a variable's name
  abbrev pub control : Reader (Option Control)
  control p (Word n ∷ Sign OpenParenthesis ∷ us) =
      if same_name n (codes "WHILE")
      then made (λ c. Some (While c)) (parenthesized expression) (p + 1) (Sign OpenParenthesis ∷ us)
      else iteration p (Word n ∷ Sign OpenParenthesis ∷ us)
  control p (Word n ∷ us) = iteration p (Word n ∷ us)
  control p ts = read_as None p ts

  -- a reference in parentheses, unless the part stands already
  abbrev pub place : (stands : Bool) → (Reference → Allocation) → Option (Reader Allocation)
  place stands with_reference = unless stands (made with_reference (parenthesized reference))

  -- IN and SET
  abbrev pub places : Allocation → List (Name × Option (Reader Allocation))
  places x =
      (codes "IN", place (is_some x.area) (λ r. record x { area = Some r }))
      ∷ (codes "SET", place (is_some x.target) (λ r. record x { target = Some r })) ∷ []

  -- one item of ALLOCATE: a name, then IN and SET, each at most once
  abbrev pub allocation : Reader Allocation
  allocation = do
    name ← identifier_at
    parts_from places BadOption 3 (record { name = name; area = None; target = None })

  -- what PUT has: whether SKIP stands, and the items of LIST
  abbrev pub PutParts : Type 0
  PutParts = Bool × List Expression

  -- after LIST
  abbrev pub put_list : Bool → Reader PutParts
  put_list skip = made (λ items. (skip, items)) (parenthesized (list_of expression))

  -- SKIP and LIST
  abbrev pub put_parts : PutParts → List (Name × Option (Reader PutParts))
  put_parts x =
      (codes "SKIP", unless x.0 (read_as (true, x.1)))
      ∷ (codes "LIST", unless (list_any (λ item. true) x.1) (put_list x.0)) ∷ []

  -- after PUT: SKIP and LIST, each at most once, and one of them at least
  abbrev pub put : Reader Body
  put p ts =
      worded (put_parts (false, []))
      (λ part q us. made (λ x. body.Put x.0 x.1) (parts_from put_parts BadOption 3 (false, [])) p ts)
      (expected BadOption) p ts

  -- after CALL: each argument is an outermost expression
  abbrev pub call : Reader Body
  call = do
    name ← identifier_at
    given ← outermost (arguments (argument levels))
    read_as (body.Call name given)

-- after OPTIONS
abbrev pub main_option : Reader ProcedureOption
main_option = parenthesized (do
  _ ← token (is_word (codes "MAIN")) BadOption
  read_as Main)

-- the options of PROCEDURE
abbrev pub options : List (Name × Reader ProcedureOption)
options =
    (codes "OPTIONS", main_option) ∷ (codes "RETURNS", made Returns (returned described))
    ∷ (codes "RECURSIVE", read_as Recursive) ∷ []

-- options as long as they come; each takes one of the bound
unfoldable pub options_from : (bound : ℕ) → Reader (List ProcedureOption)
options_from zero p ts = at_fault SemicolonExpected p
options_from (suc bound) p ts =
    worded options (λ read. read >>= λ option. made (λ others. option ∷ others) (options_from bound))
    (read_as []) p ts

-- after PROCEDURE, of this name and number
abbrev pub heading : Identifier → (number : ℕ) → Reader Heading
heading name number = do
  parameters ← in_parentheses (list_of identifier_at)
  chosen ← λ p ts. options_from (length ts + 1) p ts
  stopped (record { name = name; number = number; parameters = or_none parameters; options = chosen })
