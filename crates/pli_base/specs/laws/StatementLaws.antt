-- A tree of statements that was put together, as its view.
use Rattle.std.proofs.Common.{◌≡◌, ℕ, Option, Some, None, map, option_map, Vec, Box, Global, refl, ap, ◌∙◌}
use Rattle.std.proofs.Common.{sym}
use Rattle.pli_base.specs.views.SyntaxView.{expression_view}
use Rattle.pli_base.specs.declared.syntax.Expression.{Expression}
use Rattle.pli_base.specs.declared.syntax.Identifier.{Identifier}
use Rattle.pli_base.specs.Statements as tree
use Rattle.pli_base.specs.views.StatementView.{option_view, control_view, body_view, statement_row}
use Rattle.pli_base.specs.views.StatementView.{statement_view, statements_view, unit_view}
use Rattle.pli_base.specs.declared.statement.Statement.{Statement}
use Rattle.pli_base.specs.declared.statement.Control.{Control}
use Rattle.pli_base.specs.declared.statement.Condition.{Condition}
use Rattle.pli_base.specs.declared.statement.ProcedureOption.{ProcedureOption}
use Rattle.pli_base.specs.declared.statement.Body.{Begin, Do, If, On, Procedure}
use Rattle.pli_base.specs.declared.statement.Body.TheBlock as block
use Rattle.pli_base.specs.declared.statement.Procedure as procedure
use Rattle.pli_base.specs.declared.statement.Procedure.{roll-Procedure, out-Procedure, outs-Procedure'}

statements_row : (n : _) (k : block.Row_of-Statement n) → statement_row k
    ≡ statements_view (block.items-the_row-Statement n k)
statements_row n block.end_of-Statement = refl
statements_row n (block.more_of-Statement {n = m} number label at body more) =
    ap (tree.Before (tree.Numbered number label at (body_view body))) (statements_row m more)

-- the statements in a vector, as a list of the tree
pub list_made : (statements : Vec Statement Global)
    → statement_row (block.hidden-the_row-Statement-0 statements) ≡ statements_view statements.items
list_made statements =
    statements_row _ (block.hidden-the_row-Statement-0 statements)
    ∙ ap statements_view (block.items_hidden-the_row-Statement-0 statements)

-- a block
pub begin_made : (statements : Vec Statement Global) (end : ℕ) → body_view (Begin statements end)
    ≡ tree.Begin (statements_view statements.items) end
begin_made statements end = ap (λ x. tree.Begin x end) (list_made statements)

-- a group
pub do_made : (control : Option Control) (statements : Vec Statement Global) (end : ℕ)
    → body_view (Do control statements end)
    ≡ tree.Do (option_map control_view control) (statements_view statements.items) end
do_made control statements end =
    ap (λ x. tree.Do (option_map control_view control) x end) (list_made statements)

-- the heading of a name, the number of its PROCEDURE, parameters and options
abbrev pub heading_made : Identifier → ℕ → Vec Identifier Global → Vec ProcedureOption Global → tree.Heading
heading_made name number parameters options =
    record {
      name = name;
      number = number;
      parameters = parameters.items;
      options = map option_view options.items;
    }

-- a procedure inside a unit
pub procedure_made : (name : Identifier) (number : ℕ) (parameters : Vec Identifier Global)
    (options : Vec ProcedureOption Global) (statements : Vec Statement Global) (end : ℕ)
    → body_view (Procedure (roll-Procedure (record {
      name = name;
      number = number;
      parameters = parameters;
      options = options;
      statements = statements;
      end = end;
    })))
    ≡ tree.Procedure (heading_made name number parameters options) (statements_view statements.items) end
unfolding roll-Procedure denote.Hole.Carrier.roll
procedure_made name number parameters options statements end =
    ap (λ x. tree.Procedure (heading_made name number parameters options) x end) (list_made statements)

-- the unit
pub unit_made : (name : Identifier) (number : ℕ) (parameters : Vec Identifier Global)
    (options : Vec ProcedureOption Global) (statements : Vec Statement Global) (end : ℕ)
    → unit_view (roll-Procedure (record {
      name = name;
      number = number;
      parameters = parameters;
      options = options;
      statements = statements;
      end = end;
    }))
    ≡ record {
      heading = heading_made name number parameters options;
      statements = statements_view statements.items;
      end = end;
    }
unfolding roll-Procedure denote.Hole.Carrier.roll
unit_made name number parameters options statements end =
    ap (λ x. record {
      heading = heading_made name number parameters options;
      statements = x;
      end = end;
    }) (list_made statements)

shown : (s : _) (row : _) → statement_row row ≡ statements_view (block.shown-the_row-Statement-0 s row).items
shown s row = statements_row _ row ∙ ap statements_view (sym (block.items_shown-the_row-Statement-0 s row))

-- the statements of a procedure, taken apart
pub unit_statements : (p : procedure.Procedure) → (unit_view p).statements
    ≡ statements_view (out-Procedure p).statements.items
unit_statements (block.struct-Procedure name number parameters options shape statements end) =
    shown shape statements
    ∙ ap (λ x. statements_view x.statements.items)
    (sym (outs-Procedure' name number parameters options shape statements end))

-- a procedure as what a statement says
pub procedure_body : (p : procedure.Procedure) → body_view (Procedure p)
    ≡ tree.Procedure (unit_view p).heading (unit_view p).statements (unit_view p).end
procedure_body (block.struct-Procedure name number parameters options shape statements end) = refl

-- a procedure, by its parts
pub unit_out : (p : procedure.Procedure)
    → unit_view p
    ≡ record {
      heading = heading_made (out-Procedure p).name (out-Procedure p).number (out-Procedure p).parameters
          (out-Procedure p).options;
      statements =
          statements_view (out-Procedure p).statements.items;
      end = (out-Procedure p).end;
    }
unit_out (block.struct-Procedure name number parameters options shape statements end) =
    ap (λ x. record {
      heading = heading_made name number parameters options;
      statements = x;
      end = end;
    }) (shown shape statements)
    ∙ ap (λ x. record {
      heading = heading_made x.name x.number x.parameters x.options;
      statements = statements_view x.statements.items;
      end = x.end;
    })
    (sym (outs-Procedure' name number parameters options shape statements end))

-- an ON statement
pub on_made : (condition : Condition) (unit : Box Statement Global) → body_view (On condition unit)
    ≡ tree.On condition (statement_view unit.value)
on_made condition unit = refl

-- what stands after ELSE, if it is there
abbrev pub boxed_view : Option (Box Statement Global) → tree.Alternative
boxed_view None = tree.NoElse
boxed_view (Some statement) = tree.Else (statement_view statement.value)

-- an IF statement
pub if_made : (condition : Expression) (consequence : Box Statement Global)
    (alternative : Option (Box Statement Global))
    → body_view (If condition consequence alternative)
    ≡ tree.If (expression_view condition) (statement_view consequence.value) (boxed_view alternative)
if_made condition consequence None = refl
if_made condition consequence (Some statement) = refl
