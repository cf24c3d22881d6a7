-- What a tree of statements says, apart from where it lies in memory.
use Rattle.std.specs.Prelude.{List, [], ◌∷◌, option_map, map}
use Rattle.pli_base.specs.views.SyntaxView.{expression_view, reference_view, arguments_view}
use Rattle.pli_base.specs.views.DeclarationView.{described_view, item_view}
use Rattle.pli_base.specs.Statements as tree
use Rattle.pli_base.specs.declared.statement.ProcedureOption.{ProcedureOption}
use Rattle.pli_base.specs.declared.statement.ProcedureOption.TheVariants as options
use Rattle.pli_base.specs.declared.statement.Range.{Range}
use Rattle.pli_base.specs.declared.statement.Range.TheVariants as ranges
use Rattle.pli_base.specs.declared.statement.Control.{Control}
use Rattle.pli_base.specs.declared.statement.Control.TheVariants as controls
use Rattle.pli_base.specs.declared.statement.Allocation.{Allocation}
use Rattle.pli_base.specs.declared.statement.Procedure as procedure
use Rattle.pli_base.specs.declared.statement.Statement.{Statement}
use Rattle.pli_base.specs.declared.statement.Body.{Body, Null, Assign, Declare, Procedure, Begin', Do', If'}
use Rattle.pli_base.specs.declared.statement.Body.{On', Revert, Signal, Stop, Allocate, Free, Call, Goto}
use Rattle.pli_base.specs.declared.statement.Body.{Return, Put, Held-Body-If-2, None', Some'}
use Rattle.pli_base.specs.declared.statement.Body.{Row_of-Statement, end_of-Statement, more_of-Statement}
use Rattle.pli_base.specs.declared.statement.Body.TheBlock.{struct-Procedure}

-- an option of PROCEDURE
abbrev pub option_view : ProcedureOption → tree.ProcedureOption
option_view options.Main = tree.Main
option_view (options.Returns attributes) = tree.Returns (map described_view attributes.items)
option_view options.Recursive = tree.Recursive

-- TO and BY, or REPEAT
abbrev pub range_view : Range → tree.Range
range_view (ranges.To to by) = tree.To (expression_view to) (option_map expression_view by)
range_view (ranges.By by to) = tree.By (expression_view by) (option_map expression_view to)
range_view (ranges.Repeat next) = tree.Repeat (expression_view next)

-- what stands between DO and `;`
abbrev pub control_view : Control → tree.Control
control_view (controls.While condition) = tree.While (expression_view condition)
control_view (controls.Iterate variable equals first range condition) =
    tree.Iterate (reference_view variable) equals (expression_view first) (option_map range_view range)
    (option_map expression_view condition)

-- one variable of ALLOCATE
abbrev pub allocation_view : Allocation → tree.Allocation
allocation_view a =
    record {
      name = a.name;
      area = option_map reference_view a.area;
      target = option_map reference_view a.target;
    }

abbrev mutual
  -- what a statement is, apart from its number and its label
  pub body_view : Body → tree.Body
  body_view Null = tree.Null
  body_view (Assign target equals value) = tree.Assign (reference_view target) equals (expression_view value)
  body_view (Declare items) = tree.Declare (map item_view items.items)
  body_view (Procedure (struct-Procedure name number parameters options shape statements end)) =
      tree.Procedure (record {
        name = name;
        number = number;
        parameters = parameters.items;
        options = map option_view options.items;
      }) (statement_row statements) end
  body_view (Begin' shape statements end) = tree.Begin (statement_row statements) end
  body_view (Do' control shape statements end) =
      tree.Do (option_map control_view control) (statement_row statements) end
  body_view (If' condition p number label at body alternative) =
      tree.If (expression_view condition) (tree.Numbered number label at (body_view body))
      (alternative_view alternative)
  body_view (On' condition p number label at body) =
      tree.On condition (tree.Numbered number label at (body_view body))
  body_view (Revert condition) = tree.Revert condition
  body_view (Signal condition) = tree.Signal condition
  body_view Stop = tree.Stop
  body_view (Allocate allocations) = tree.Allocate (map allocation_view allocations.items)
  body_view (Free references) = tree.Free (map reference_view references.items)
  body_view (Call name arguments) = tree.Call name (arguments_view arguments)
  body_view (Goto label) = tree.Goto label
  body_view (Return value) = tree.Return (option_map expression_view value)
  body_view (Put skip items) = tree.Put skip (map expression_view items.items)

  -- the ELSE of an IF, if it has one
  pub alternative_view : Held-Body-If-2 → tree.Alternative
  alternative_view None' = tree.NoElse
  alternative_view (Some' p number label at body) = tree.Else (tree.Numbered number label at (body_view body))

  -- statements as they lie in a list
  pub statement_row : {m : _} → Row_of-Statement m → tree.Statements
  statement_row end_of-Statement = tree.Ended
  statement_row (more_of-Statement number label at body more) =
      tree.Before (tree.Numbered number label at (body_view body)) (statement_row more)

-- a statement
abbrev pub statement_view : Statement → tree.Statement
statement_view s = tree.Numbered s.number s.label s.at (body_view s.body)

-- a list of statements, as it stands in a vector
abbrev pub statements_view : List Statement → tree.Statements
statements_view [] = tree.Ended
statements_view (s ∷ ss) = tree.Before (statement_view s) (statements_view ss)

-- a procedure that is the unit
abbrev pub unit_view : procedure.Procedure → tree.ExternalProcedure
unit_view (struct-Procedure name number parameters options shape statements end) =
    record {
      heading = record {
        name = name;
        number = number;
        parameters = parameters.items;
        options = map option_view options.items;
      };
      statements = statement_row statements;
      end = end;
    }
