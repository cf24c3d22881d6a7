-- The second part of what is typed of a group with a control variable; which variables may be one; and arrows
-- in front of its name.
use Rattle.std.specs.Prelude.{ℕ, Bool, true, false, not, ◌&&◌, Option, Result, Ok}
use Rattle.pli_base.specs.Results.{◌>>=◌}
use Rattle.pli_base.specs.Statements.{Range}
use Rattle.pli_base.specs.Syntax.{Expression}
use Rattle.pli_base.specs.declared.code.Code.TheVariants.{CannotAssign}
use Rattle.pli_base.specs.declared.syntax.Joining.{Joining}
use Rattle.pli_base.specs.declared.syntax.Joining.TheVariants.{Member, Located}
use Rattle.pli_base.specs.declared.token.Fault.{Fault}
use Rattle.pli_type_rules.specs.ExpressionTypes.{TypedValue, conversion_to, unconverted}
use Rattle.pli_type_rules.specs.Names.{Naming}
use Rattle.pli_type_rules.specs.References.{Referent}
use Rattle.pli_type_rules.specs.StatementTyping.{with_repeat, without_subscripts}
use Rattle.pli_type_rules.specs.Typing.{or_fault}
use Rattle.pli_type_rules.specs.TypingSteps.{possible_condition}
use Rattle.pli_type_tree.specs.TypedTree.{Conversion, Iteration, TypedExpression, TypedRange}
use Rattle.pli_type_tree.specs.WellTyped.{is_area_type}

-- a variable may control a group, whatever limits that: it has no subscripts and no locator before it, and is
-- no area
abbrev pub may_control : (is_located : Bool) → Referent → Bool
may_control is_located r =
    without_subscripts r.reference && not is_located && not (is_area_type r.description)

-- a group of its parts
abbrev pub iteration_of : (variable : Referent) → Conversion → TypedValue → (turns : TypedRange)
    → (condition : Option TypedExpression) → (temporary : ℕ) → Iteration
iteration_of r convert v turns x temporary = record {
  control = r.reference;
  conversion = convert;
  start = unconverted r.description v;
  range = turns;
  condition = x;
  temporary = temporary;
}

-- a group of its first value, what limits it, and its variable
abbrev pub iteration_with : Naming → (temporary equals : ℕ) → TypedValue → (kept : TypedRange)
    → (variable : Referent) → Option Range → (condition : Option Expression) → Result Iteration Fault
iteration_with n temporary equals v kept r range tested = do
  convert ← or_fault CannotAssign equals (conversion_to n.greatest r.area r.description v.kind)
  x ← possible_condition n tested
  turns ← with_repeat n r kept range
  Ok (iteration_of r convert v turns x temporary)

-- an arrow
abbrev pub is_arrow : Joining → Bool
is_arrow Member = false
is_arrow Located = true
