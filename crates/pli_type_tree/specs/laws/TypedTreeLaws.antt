-- A typed tree that was put together, as its view.
use Rattle.std.proofs.Common.{◌≡◌, ℕ, Option, Some, None, Vec, Box, Global, refl, ap, ◌∙◌}
use Rattle.pli_map.specs.declared.description.Description.{Description}
use Rattle.pli_map.specs.views.DescriptionView.{description_view}
use Rattle.pli_type_tree.specs.TypedTree as plain
use Rattle.pli_type_tree.specs.views.TypedView.{root_view, callee_view, operation_view, stride_view}
use Rattle.pli_type_tree.specs.views.TypedView.{expression_view, reference_view}
use Rattle.pli_type_tree.specs.views.TypedView.{operand_row, subscript_row, argument_row, argument_before}
use Rattle.pli_type_tree.specs.views.TypedView.{operands_view, subscripts_view, arguments_view, head_view}
use Rattle.pli_type_tree.specs.views.TypedView.{iteration_view, form_view, statement_row}
use Rattle.pli_type_tree.specs.views.TypedView.{statement_view, statements_view}
use Rattle.pli_type_tree.specs.declared.expression.Root.{Root, Located}
use Rattle.pli_type_tree.specs.declared.expression.Callee.{Callee}
use Rattle.pli_type_tree.specs.declared.expression.TypedExpression.{TypedExpression, Calculated, Called}
use Rattle.pli_type_tree.specs.declared.expression.TypedExpression.{AsPointer, AsOffset}
use Rattle.pli_type_tree.specs.declared.expression.TypedOperation.{TypedOperation}
use Rattle.pli_type_tree.specs.declared.expression.TypedReference.{TypedReference, Part, ElementOf}
use Rattle.pli_type_tree.specs.declared.expression.TypedSubscript.{TypedSubscript}
use Rattle.pli_type_tree.specs.declared.expression.TypedArgument.{TypedArgument}
use Rattle.pli_type_tree.specs.declared.expression.Root.TheBlock as block
use Rattle.pli_type_tree.specs.declared.iteration.Iteration.{Iteration}
use Rattle.pli_type_tree.specs.declared.statement.BlockHead.{BlockHead}
use Rattle.pli_type_tree.specs.declared.statement.TypedStatement.{TypedStatement}
use Rattle.pli_type_tree.specs.declared.statement.Form.{Begin, Group, While, Iterate, If}
use Rattle.pli_type_tree.specs.declared.statement.Form.TheBlock as form_block

operands_row : (n : _) (k : block.Row_of-TypedExpression n) → operand_row k
    ≡ operands_view (block.items-the_row-TypedExpression n k)
operands_row n block.end_of-TypedExpression = refl
operands_row n (block.more_of-TypedExpression {n = m} e more) =
    ap (plain.OperandThen (expression_view e)) (operands_row m more)

subscripts_row : (n : _) (k : block.Row_of-TypedSubscript n) → subscript_row k
    ≡ subscripts_view (block.items-the_row-TypedSubscript n k)
subscripts_row n block.end_of-TypedSubscript = refl
subscripts_row n (block.more_of-TypedSubscript {n = m} stride value more) =
    ap (plain.SubscriptThen (stride_view stride) (expression_view value)) (subscripts_row m more)

arguments_row : (n : _) (k : block.Row_of-TypedArgument n) → argument_row k
    ≡ arguments_view (block.items-the_row-TypedArgument n k)
arguments_row n block.end_of-TypedArgument = refl
arguments_row n (block.more_of-TypedArgument {n = m} a more) = ap (argument_before a) (arguments_row m more)

-- an operation on operands in a vector
pub calculated_made : (operation : TypedOperation) (operands : Vec TypedExpression Global)
    → expression_view (Calculated operation operands)
    ≡ plain.Calculated (operation_view operation) (operands_view operands.items)
calculated_made operation operands =
    ap (plain.Calculated (operation_view operation))
    (operands_row _ (block.hidden-the_row-TypedExpression-0 operands)
    ∙ ap operands_view (block.items_hidden-the_row-TypedExpression-0 operands))

-- a call of a function
pub called_made : (callee : Callee) (arguments : Vec TypedArgument Global)
    → expression_view (Called callee arguments)
    ≡ plain.Called (callee_view callee) (arguments_view arguments.items)
called_made callee arguments =
    ap (plain.Called (callee_view callee))
    (arguments_row _ (block.hidden-the_row-TypedArgument-1 arguments)
    ∙ ap arguments_view (block.items_hidden-the_row-TypedArgument-1 arguments))

-- a part of a variable
pub part_made : (root : Root) (offset : ℕ) (description : Description)
    (subscripts : Vec TypedSubscript Global)
    → reference_view (Part root offset description subscripts)
    ≡ plain.Part (root_view root) offset (description_view description) (subscripts_view subscripts.items)
part_made root offset description subscripts =
    ap (plain.Part (root_view root) offset (description_view description))
    (subscripts_row _ (block.hidden-the_row-TypedSubscript-2 subscripts)
    ∙ ap subscripts_view (block.items_hidden-the_row-TypedSubscript-2 subscripts))

-- an element of an array whose extents are those of the argument
pub element_made : (root : Root) (subscripts : Vec TypedExpression Global)
    → reference_view (ElementOf root subscripts)
    ≡ plain.ElementOf (root_view root) (operands_view subscripts.items)
element_made root subscripts =
    ap (plain.ElementOf (root_view root))
    (operands_row _ (block.hidden-the_row-TypedExpression-0 subscripts)
    ∙ ap operands_view (block.items_hidden-the_row-TypedExpression-0 subscripts))

-- at what a pointer leads to
pub located_made : (locator : Box TypedExpression Global) (description : Description)
    → root_view (Located locator description)
    ≡ plain.Located (expression_view locator.value) (description_view description)
located_made locator description = refl

-- an offset as a pointer into an area, and a pointer as an offset of one
pub as_pointer_made : (area : TypedReference) (offset : Box TypedExpression Global)
    → expression_view (AsPointer area offset)
    ≡ plain.AsPointer (reference_view area) (expression_view offset.value)
as_pointer_made area offset = refl

pub as_offset_made : (area : TypedReference) (pointer : Box TypedExpression Global)
    → expression_view (AsOffset area pointer)
    ≡ plain.AsOffset (reference_view area) (expression_view pointer.value)
as_offset_made area pointer = refl

statements_row : (n : _) (k : form_block.Row_of-TypedStatement n) → statement_row k
    ≡ statements_view (form_block.items-the_row-TypedStatement n k)
statements_row n form_block.end_of-TypedStatement = refl
statements_row n (form_block.more_of-TypedStatement {n = m} number form more) =
    ap (plain.StatementThen (plain.Statement number (form_view form))) (statements_row m more)

-- the statements in a vector
pub list_made : (statements : Vec TypedStatement Global)
    → statement_row (form_block.hidden-the_row-TypedStatement-0 statements) ≡ statements_view statements.items
list_made statements =
    statements_row _ (form_block.hidden-the_row-TypedStatement-0 statements)
    ∙ ap statements_view (form_block.items_hidden-the_row-TypedStatement-0 statements)

-- a BEGIN block, a group, and a loop of each kind
pub begin_made : (head : BlockHead) (statements : Vec TypedStatement Global)
    → form_view (Begin head statements) ≡ plain.Begin (head_view head) (statements_view statements.items)
begin_made head statements = ap (plain.Begin (head_view head)) (list_made statements)

pub group_made : (statements : Vec TypedStatement Global)
    → form_view (Group statements) ≡ plain.Group (statements_view statements.items)
group_made statements = ap plain.Group (list_made statements)

pub while_made : (condition : TypedExpression) (statements : Vec TypedStatement Global)
    → form_view (While condition statements)
    ≡ plain.While (expression_view condition) (statements_view statements.items)
while_made condition statements = ap (plain.While (expression_view condition)) (list_made statements)

pub iterate_made : (iteration : Box Iteration Global) (statements : Vec TypedStatement Global)
    → form_view (Iterate iteration statements)
    ≡ plain.Iterate (iteration_view iteration.value) (statements_view statements.items)
iterate_made iteration statements =
    ap (plain.Iterate (iteration_view iteration.value)) (list_made statements)

-- what stands after ELSE, if it is there
abbrev pub boxed_view : Option (Box TypedStatement Global) → plain.OtherWise
boxed_view None = plain.NoElse
boxed_view (Some statement) = plain.Else (statement_view statement.value)

-- an IF statement
pub if_made : (condition : TypedExpression) (consequence : Box TypedStatement Global)
    (alternative : Option (Box TypedStatement Global))
    → form_view (If condition consequence alternative)
    ≡ plain.If (expression_view condition) (statement_view consequence.value) (boxed_view alternative)
if_made condition consequence None = refl
if_made condition consequence (Some statement) = refl
