-- The statements of a unit in the order of its text, each in its region (X3.74, numbers own).
use Rattle.std.specs.Prelude.{ℕ, ◌+◌, Option, Some, None, option_map, List, [], ◌∷◌, ◌++◌}
use Rattle.std.specs.Prelude.{length}
use Rattle.std.specs.List.{flat_map, filter_map}
use Rattle.pli_base.specs.Statements.{Statement, Numbered, Body, Statements, Ended, Before}
use Rattle.pli_base.specs.Statements.{NoElse, Else, ExternalProcedure}
use Rattle.pli_base.specs.Statements as body
use Rattle.pli_base.specs.declared.syntax.Identifier.{Identifier}
use Rattle.pli_declare_outline.specs.Outlines.{Region, Mark, Entered, PlacedMark, Outline, head_marks}
use Rattle.pli_declare_outline.specs.Outlines.{placed as in_region, label_marks, control_marks}
use Rattle.pli_declare_outline.specs.Outlines.{optional_marks, expression_marks}
use Rattle.pli_declare_outline.specs.declared.region.RegionKind.{RegionKind}
use Rattle.pli_declare_outline.specs.declared.region.RegionKind.TheVariants as kinds

-- a statement: the region in which it stands, the number that a region has which begins with it, its number,
-- its label, and what it is; an END stands in the region that it ends, as a statement that does nothing
pub record PlacedStatement : Type 0 where
  pub region : ℕ
  pub next : ℕ
  pub number : ℕ
  pub label : Option Identifier
  pub body : Body

-- the region that begins with a statement, if one does: a procedure, a BEGIN block, a DO group or an ON-unit
abbrev pub kind_of : Body → Option RegionKind
kind_of (body.Procedure heading statements end) = Some kinds.Procedure
kind_of (body.Begin statements end) = Some kinds.Begin
kind_of (body.Do control statements end) = Some kinds.Group
kind_of (body.On condition unit) = Some kinds.OnUnit
kind_of other = None

-- how many regions begin with these
abbrev pub regions_begun : List PlacedStatement → ℕ
regions_begun ps = length (filter_map (λ p. kind_of p.body) ps)

-- these statements, and then the END of their region
abbrev pub until_end : (region end : ℕ) → List PlacedStatement → List PlacedStatement
until_end region end ps =
    ps ++ record { region = region; next = 0; number = end; label = None; body = body.Null } ∷ []

-- the statement in the region here and those inside it; the first region that begins has the number next, and
-- they are numbered in the order in which they begin
abbrev mutual
  pub placed : (here next : ℕ) → Statement → List PlacedStatement
  placed here next (Numbered number label at body) =
      record { region = here; next = next; number = number; label = label; body = body }
      ∷ placed_inside here next body

  -- those inside a statement
  pub placed_inside : (here next : ℕ) → Body → List PlacedStatement
  placed_inside here next (body.Procedure heading statements end) =
      until_end next end (placed_list next (next + 1) statements)
  placed_inside here next (body.Begin statements end) =
      until_end next end (placed_list next (next + 1) statements)
  placed_inside here next (body.Do control statements end) =
      until_end next end (placed_list next (next + 1) statements)
  placed_inside here next (body.If condition consequence NoElse) = placed here next consequence
  placed_inside here next (body.If condition consequence (Else statement)) =
      let ps = placed here next consequence in ps ++ placed here (next + regions_begun ps) statement
  placed_inside here next (body.On condition unit) = placed next (next + 1) unit
  placed_inside here next other = []

  -- those of a list
  pub placed_list : (here next : ℕ) → Statements → List PlacedStatement
  placed_list here next Ended = []
  placed_list here next (Before first more) =
      let ps = placed here next first in ps ++ placed_list here (next + regions_begun ps) more

-- those of a unit, whose PROCEDURE begins region 0
abbrev pub statements_of : ExternalProcedure → List PlacedStatement
statements_of u =
    placed 0 0 (Numbered u.heading.number None 0 (body.Procedure u.heading u.statements u.end))

-- the region that begins with a statement, in the one in which the statement stands
abbrev pub region_of : PlacedStatement → Option Region
region_of p = option_map (λ kind. record { kind = kind; outer = Some p.region }) (kind_of p.body)

-- the number of a statement that begins a region
abbrev pub start_of : PlacedStatement → Option ℕ
start_of p = option_map (λ kind. p.number) (kind_of p.body)

-- what a statement itself declares or uses, after its label; the control of a DO group stands outside the group
abbrev pub own_marks : (next : ℕ) → Body → List Mark
own_marks next (body.Procedure heading statements end) = Entered heading next ∷ []
own_marks next (body.Do control statements end) = optional_marks control_marks control
own_marks next (body.If condition consequence alternative) = expression_marks condition
own_marks next other = head_marks other

-- the marks of a statement, where it stands
abbrev pub marks_at : PlacedStatement → List PlacedMark
marks_at p = in_region p.region (label_marks p.label p.body ++ own_marks p.next p.body)

-- the outline of a unit. Its region stands in none; its own name is declared outside it, in region 0's place,
-- by the first mark
unfoldable pub outline_of : ExternalProcedure → Outline
outline_of u = record {
  regions = record { kind = kinds.Procedure; outer = None } ∷ filter_map region_of (placed_list 0 1 u.statements);
  marks = flat_map marks_at (statements_of u);
}
