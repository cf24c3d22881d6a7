-- The outline of a unit: its regions, and what is declared and used in each, in the order of the text. A
-- region is a procedure, a BEGIN block, a DO group or an ON-unit. Regions are numbered from 0 in the order in
-- which they begin, and the external procedure is region 0.
use Rattle.std.specs.Prelude.{ℕ, ◌+◌, nat_lt, Option, Some, None, List, [], ◌∷◌, ◌++◌, map, if◌then◌else◌}
use Rattle.std.specs.List.{flat_map}
use Rattle.pli_base.specs.Syntax.{Expression, Referred, Constant, Parenthesized, Prefix, Infix, Reference}
use Rattle.pli_base.specs.Syntax.{Named, JoinedParts, Alone, Joined, Arguments, Absent, Given, Expressions}
use Rattle.pli_base.specs.Syntax.{Empty, Listed, first_token}
use Rattle.pli_base.specs.declared.syntax.Identifier.{Identifier}
use Rattle.pli_base.specs.declared.syntax.Joining.TheVariants.{Member, Located}
use Rattle.pli_base.specs.Declarations.{Item}
use Rattle.pli_base.specs.Statements.{Heading, Range, To, By, Repeat, Control, While, Iterate, Allocation}
use Rattle.pli_base.specs.Statements.{Statement, Numbered, Body, Statements, Ended, Before, Alternative}
use Rattle.pli_base.specs.Statements.{NoElse, Else, ExternalProcedure}
use Rattle.pli_base.specs.Statements as body
use Rattle.pli_declare_outline.specs.declared.region.RegionKind.{RegionKind}
use Rattle.pli_declare_outline.specs.declared.region.RegionKind.TheVariants as kinds

-- a region, and the one that it stands in; the external procedure stands in none
pub record Region : Type 0 where
  pub kind : RegionKind
  pub outer : Option ℕ

-- what the text declares or uses. Entered has the number of the procedure's own region; the names of Used are
-- those of a reference between its arrows, of which each locator is a reference of its own
pub data Mark : Type 0 where
  Declared : (items : List Item) → Mark
  Labelled : (label : Identifier) → Mark
  Entered : (heading : Heading) (region : ℕ) → Mark
  Used : (names : List Identifier) → Mark
  Jumped : (label : Identifier) → Mark

-- a mark, and the region that it stands in
pub record PlacedMark : Type 0 where
  pub region : ℕ
  pub mark : Mark

-- the outline of a unit
pub record Outline : Type 0 where
  pub regions : List Region
  pub marks : List PlacedMark

-- marks of one region: those of expressions and references

-- the names that are joined by `.` to the one before
abbrev pub member_names : JoinedParts → List Identifier
member_names Alone = []
member_names (Joined Member name arguments more) = name ∷ member_names more
member_names (Joined Located name arguments more) = []

abbrev mutual
  -- a use of the names up to the first `->`, then those of its arguments and of what is joined to it
  pub reference_marks : Reference → List Mark
  reference_marks (Named name arguments more) =
      Used (name ∷ member_names more) ∷ argument_marks arguments ++ joined_marks more

  -- a name after `->` begins another reference
  pub joined_marks : JoinedParts → List Mark
  joined_marks Alone = []
  joined_marks (Joined Member name arguments more) = argument_marks arguments ++ joined_marks more
  joined_marks (Joined Located name arguments more) =
      Used (name ∷ member_names more) ∷ argument_marks arguments ++ joined_marks more

  -- the marks of a list of arguments, if it stands
  pub argument_marks : Arguments → List Mark
  argument_marks Absent = []
  argument_marks (Given list) = list_marks list

  -- the marks of each expression of a list
  pub list_marks : Expressions → List Mark
  list_marks Empty = []
  list_marks (Listed e es) = expression_marks e ++ list_marks es

  -- the marks of the references in an expression, in the order of the text
  pub expression_marks : Expression → List Mark
  expression_marks (Referred r) = reference_marks r
  expression_marks (Constant at value) = []
  expression_marks (Parenthesized at e) = expression_marks e
  expression_marks (Prefix operator at e) = expression_marks e
  expression_marks (Infix operator at l r) = expression_marks l ++ expression_marks r

-- the marks of a part that may be left out
abbrev pub optional_marks : {A : Type 0} → (A → List Mark) → Option A → List Mark
optional_marks marks None = []
optional_marks marks (Some x) = marks x

-- the marks of a range
abbrev pub range_marks : Range → List Mark
range_marks (To to by) = expression_marks to ++ optional_marks expression_marks by
range_marks (By by to) = expression_marks by ++ optional_marks expression_marks to
range_marks (Repeat next) = expression_marks next

-- the marks of a group's control, in the order of the text
abbrev pub control_marks : Control → List Mark
control_marks (While condition) = expression_marks condition
control_marks (Iterate variable equals first range condition) =
    reference_marks variable ++ expression_marks first ++ optional_marks range_marks range
    ++ optional_marks expression_marks condition

-- two references in the order of the text
abbrev pub both_marks : (area target : Option Reference) → List Mark
both_marks (Some area) (Some target) =
    if nat_lt (first_token target) (first_token area) then reference_marks target ++ reference_marks area
    else reference_marks area ++ reference_marks target
both_marks area target = optional_marks reference_marks area ++ optional_marks reference_marks target

-- the marks of an item of ALLOCATE
abbrev pub allocation_marks : Allocation → List Mark
allocation_marks a = Used (a.name ∷ []) ∷ both_marks a.area a.target

-- what a statement without statements inside it declares or uses
abbrev pub head_marks : Body → List Mark
head_marks (body.Assign target equals value) = reference_marks target ++ expression_marks value
head_marks (body.Declare items) = Declared items ∷ []
head_marks (body.Allocate allocations) = flat_map allocation_marks allocations
head_marks (body.Free references) = flat_map reference_marks references
head_marks (body.Call name arguments) = Used (name ∷ []) ∷ argument_marks arguments
head_marks (body.Goto label) = Jumped label ∷ []
head_marks (body.Return value) = optional_marks expression_marks value
head_marks (body.Put skip items) = flat_map expression_marks items
head_marks other = []

-- the name of a procedure is declared by its heading; any other label is a label
abbrev pub label_marks : (label : Option Identifier) → Body → List Mark
label_marks label (body.Procedure heading statements end) = []
label_marks None other = []
label_marks (Some l) other = Labelled l ∷ []

-- marks in a region
abbrev pub placed : (here : ℕ) → List Mark → List PlacedMark
placed here marks = map (λ m. record { region = here; mark = m }) marks

-- how many regions begin in a statement
abbrev mutual
  pub regions_in : Statement → ℕ
  regions_in (Numbered number label at body) = regions_of body

  -- how many begin in what a statement is: itself, if it is a region, and those inside
  pub regions_of : Body → ℕ
  regions_of (body.Procedure heading statements end) = 1 + regions_among statements
  regions_of (body.Begin statements end) = 1 + regions_among statements
  regions_of (body.Do control statements end) = 1 + regions_among statements
  regions_of (body.If condition consequence alternative) = regions_in consequence + regions_else alternative
  regions_of (body.On condition unit) = 1 + regions_in unit
  regions_of other = 0

  -- how many begin in the statements of a list
  pub regions_among : Statements → ℕ
  regions_among Ended = 0
  regions_among (Before first more) = regions_in first + regions_among more

  -- how many begin in an ELSE
  pub regions_else : Alternative → ℕ
  regions_else NoElse = 0
  regions_else (Else statement) = regions_in statement

-- a region inside another
abbrev pub region_in : RegionKind → (here : ℕ) → Region
region_in kind here = record { kind = kind; outer = Some here }

-- the regions that begin in a statement of the region here, the first of which has the number next
abbrev mutual
  pub statement_regions : (here next : ℕ) → Statement → List Region
  statement_regions here next (Numbered number label at body) = body_regions here next body

  -- the regions of what a statement is: itself, if it is one, and then those inside it
  pub body_regions : (here next : ℕ) → Body → List Region
  body_regions here next (body.Procedure heading statements end) =
      region_in kinds.Procedure here ∷ statements_regions next (next + 1) statements
  body_regions here next (body.Begin statements end) =
      region_in kinds.Begin here ∷ statements_regions next (next + 1) statements
  body_regions here next (body.Do control statements end) =
      region_in kinds.Group here ∷ statements_regions next (next + 1) statements
  body_regions here next (body.If condition consequence alternative) =
      statement_regions here next consequence
      ++ alternative_regions here (next + regions_in consequence) alternative
  body_regions here next (body.On condition unit) =
      region_in kinds.OnUnit here ∷ statement_regions next (next + 1) unit
  body_regions here next other = []

  -- the regions of each statement of a list, numbered on
  pub statements_regions : (here next : ℕ) → Statements → List Region
  statements_regions here next Ended = []
  statements_regions here next (Before first more) =
      statement_regions here next first ++ statements_regions here (next + regions_in first) more

  -- the regions of an ELSE
  pub alternative_regions : (here next : ℕ) → Alternative → List Region
  alternative_regions here next NoElse = []
  alternative_regions here next (Else statement) = statement_regions here next statement

-- the marks of a statement of the region here; the first region that begins in it has the number next. The
-- control of a DO group stands outside the group
abbrev mutual
  pub statement_marks : (here next : ℕ) → Statement → List PlacedMark
  statement_marks here next (Numbered number label at body) =
      placed here (label_marks label body) ++ body_marks here next body

  -- the marks of a statement after its label
  pub body_marks : (here next : ℕ) → Body → List PlacedMark
  body_marks here next (body.Procedure heading statements end) =
      placed here (Entered heading next ∷ []) ++ statements_marks next (next + 1) statements
  body_marks here next (body.Begin statements end) = statements_marks next (next + 1) statements
  body_marks here next (body.Do control statements end) =
      placed here (optional_marks control_marks control) ++ statements_marks next (next + 1) statements
  body_marks here next (body.If condition consequence alternative) =
      placed here (expression_marks condition) ++ statement_marks here next consequence
      ++ alternative_marks here (next + regions_in consequence) alternative
  body_marks here next (body.On condition unit) = statement_marks next (next + 1) unit
  body_marks here next other = placed here (head_marks other)

  -- the marks of each statement of a list
  pub statements_marks : (here next : ℕ) → Statements → List PlacedMark
  statements_marks here next Ended = []
  statements_marks here next (Before first more) =
      statement_marks here next first ++ statements_marks here (next + regions_in first) more

  -- the marks of an ELSE
  pub alternative_marks : (here next : ℕ) → Alternative → List PlacedMark
  alternative_marks here next NoElse = []
  alternative_marks here next (Else statement) = statement_marks here next statement

-- the outline of a unit. Its own name is declared outside it, in region 0's place, by the first mark
unfoldable pub outline_of : ExternalProcedure → Outline
outline_of u = record {
  regions = record { kind = kinds.Procedure; outer = None } ∷ statements_regions 0 1 u.statements;
  marks = record { region = 0; mark = Entered u.heading 0 } ∷ statements_marks 0 1 u.statements;
}
