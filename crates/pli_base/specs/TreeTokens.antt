-- The tokens of a tree, in the order of the text (own): those of names, constants, operators, the `(` of an
-- expression and the `=` of an assignment or an iteration, and the first token of each statement after its
-- label. Tokens are counted from 0.
use Rattle.std.specs.Prelude.{ℕ, ◌+◌, ◌≤◌, nat_lt, List, [], ◌∷◌, ◌++◌, Option, Some, None, if◌then◌else◌}
use Rattle.pli_base.specs.Syntax.{Expression, Referred, Constant, Parenthesized, Prefix, Infix, Reference}
use Rattle.pli_base.specs.Syntax.{Named, JoinedParts, Alone, Joined, Arguments, Absent, Given, Expressions}
use Rattle.pli_base.specs.Syntax.{Empty, Listed, first_token}
use Rattle.pli_base.specs.Declarations.{Item}
use Rattle.pli_base.specs.Statements.{Range, To, By, Repeat, Control, While, Iterate, Allocation, Statement}
use Rattle.pli_base.specs.Statements.{Numbered, Body, Assign, Declare, Procedure, Begin, Do, If, On, Allocate}
use Rattle.pli_base.specs.Statements.{Free, Call, Goto, Return, Put, Statements, Ended, Before, Alternative}
use Rattle.pli_base.specs.Statements.{NoElse, Else, ExternalProcedure}
use Rattle.pli_base.specs.declared.syntax.Identifier.{Identifier}

-- the tokens rise: the first is low or after it, each other is after the one before it, and all are before
-- high
abbrev pub Rises : (low : ℕ) → List ℕ → (high : ℕ) → Type 0
Rises low [] high = low ≤ high
Rises low (t ∷ ts) high = (low ≤ t) × Rises (t + 1) ts high

abbrev mutual
  -- the tokens of an expression
  pub expression_tokens : Expression → List ℕ
  expression_tokens (Referred reference) = reference_tokens reference
  expression_tokens (Constant at value) = at ∷ []
  expression_tokens (Parenthesized at inner) = at ∷ expression_tokens inner
  expression_tokens (Prefix operator at operand) = at ∷ expression_tokens operand
  expression_tokens (Infix operator at left right) = expression_tokens left ++ (at ∷ expression_tokens right)

  -- the tokens of a reference: its names, and those of its arguments
  pub reference_tokens : Reference → List ℕ
  reference_tokens (Named name arguments more) = name.at ∷ (argument_tokens arguments ++ joined_tokens more)

  -- the tokens of the parts that are joined to a reference
  pub joined_tokens : JoinedParts → List ℕ
  joined_tokens Alone = []
  joined_tokens (Joined joining name arguments more) =
      name.at ∷ (argument_tokens arguments ++ joined_tokens more)

  -- the tokens of what stands in parentheses after a name
  pub argument_tokens : Arguments → List ℕ
  argument_tokens Absent = []
  argument_tokens (Given list) = listed_tokens list

  -- the tokens of expressions in a list
  pub listed_tokens : Expressions → List ℕ
  listed_tokens Empty = []
  listed_tokens (Listed first more) = expression_tokens first ++ listed_tokens more

-- what each has, one after the other
abbrev pub tokens_of_each : {A : Type 0} → (A → List ℕ) → List A → List ℕ
tokens_of_each tokens [] = []
tokens_of_each tokens (x ∷ xs) = tokens x ++ tokens_of_each tokens xs

-- what one has, if it is there
abbrev pub tokens_of_some : {A : Type 0} → (A → List ℕ) → Option A → List ℕ
tokens_of_some tokens None = []
tokens_of_some tokens (Some x) = tokens x

-- the token of a name
abbrev pub name_tokens : Identifier → List ℕ
name_tokens name = name.at ∷ []

-- the tokens of a declared item: its names
abbrev pub item_tokens : Item → List ℕ
item_tokens item = tokens_of_each name_tokens item.names

-- the tokens of TO and BY, or of REPEAT
abbrev pub range_tokens : Range → List ℕ
range_tokens (To to by) = expression_tokens to ++ tokens_of_some expression_tokens by
range_tokens (By by to) = expression_tokens by ++ tokens_of_some expression_tokens to
range_tokens (Repeat next) = expression_tokens next

-- the tokens of what stands between DO and `;`
abbrev pub control_tokens : Control → List ℕ
control_tokens (While condition) = expression_tokens condition
control_tokens (Iterate variable equals first range condition) =
    reference_tokens variable
    ++ (equals
    ∷ (expression_tokens first
    ++ (tokens_of_some range_tokens range ++ tokens_of_some expression_tokens condition)))

-- IN and SET stand in either order
abbrev pub placed_tokens : (area target : Option Reference) → List ℕ
placed_tokens (Some area) (Some target) =
    if nat_lt (first_token area) (first_token target) then reference_tokens area ++ reference_tokens target
    else reference_tokens target ++ reference_tokens area
placed_tokens area target = tokens_of_some reference_tokens area ++ tokens_of_some reference_tokens target

-- the tokens of one variable of ALLOCATE, with those of its IN and SET
abbrev pub allocation_tokens : Allocation → List ℕ
allocation_tokens allocation = allocation.name.at ∷ placed_tokens allocation.area allocation.target

-- a procedure's name is its label; an assignment begins with its target's name
abbrev mutual
  pub statement_tokens : Statement → List ℕ
  statement_tokens (Numbered number label at body) = tokens_of_some name_tokens label ++ begun_tokens at body

  -- the tokens of a statement after its label, whose first token is given
  pub begun_tokens : (at : ℕ) → Body → List ℕ
  begun_tokens at (Assign target equals value) = reference_tokens target ++ (equals ∷ expression_tokens value)
  begun_tokens at (Declare items) = at ∷ tokens_of_each item_tokens items
  begun_tokens at (Procedure heading statements end) =
      at ∷ (tokens_of_each name_tokens heading.parameters ++ statements_tokens statements)
  begun_tokens at (Begin statements end) = at ∷ statements_tokens statements
  begun_tokens at (Do control statements end) =
      at ∷ (tokens_of_some control_tokens control ++ statements_tokens statements)
  begun_tokens at (If condition consequence alternative) =
      at ∷ (expression_tokens condition ++ (statement_tokens consequence ++ alternative_tokens alternative))
  begun_tokens at (On condition unit) = at ∷ statement_tokens unit
  begun_tokens at (Allocate allocations) = at ∷ tokens_of_each allocation_tokens allocations
  begun_tokens at (Free references) = at ∷ tokens_of_each reference_tokens references
  begun_tokens at (Call name arguments) = at ∷ (name.at ∷ argument_tokens arguments)
  begun_tokens at (Goto label) = at ∷ (label.at ∷ [])
  begun_tokens at (Return value) = at ∷ tokens_of_some expression_tokens value
  begun_tokens at (Put skip items) = at ∷ tokens_of_each expression_tokens items
  begun_tokens at body = at ∷ []

  -- the tokens of a list of statements
  pub statements_tokens : Statements → List ℕ
  statements_tokens Ended = []
  statements_tokens (Before first more) = statement_tokens first ++ statements_tokens more

  -- the tokens of an ELSE: those of its statement
  pub alternative_tokens : Alternative → List ℕ
  alternative_tokens NoElse = []
  alternative_tokens (Else statement) = statement_tokens statement

-- the tokens of a unit: its name, its parameters, and those of its statements
abbrev pub unit_tokens : ExternalProcedure → List ℕ
unit_tokens unit =
    unit.heading.name.at
    ∷ (tokens_of_each name_tokens unit.heading.parameters ++ statements_tokens unit.statements)
