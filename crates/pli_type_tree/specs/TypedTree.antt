-- Typed trees: a unit with what each name means and with the type of each part worked out, as definitions
-- speak of them. There is one form for each form of the language; a conversion is an operation like any
-- other, and so is the reading of bits as characters. A block is a procedure or a BEGIN block; an activation
-- is reached by how many static links outward it is.
use Rattle.std.specs.Prelude.{ℕ, ℤ, Bool, Option, List}
use Rattle.pli_base.specs.Name.{Name}
use Rattle.pli_base.specs.declared.statement.Condition.{Condition}
use Rattle.pli_map.specs.Description.{Description}
use Rattle.pli_map.specs.ParameterTypes.{ParameterType}
use Rattle.pli_map.specs.declared.dimension.WhichBound.{WhichBound}
use Rattle.pli_map.specs.declared.parameter.StringForm.{StringForm}
use Rattle.pli_operation.specs.declared.operation.Operation.{Operation}
use Rattle.pli_program.specs.declared.kind.VariableKind.{VariableKind}
use Rattle.pli_value.specs.Value.{Value}
use Rattle.pli_type_tree.specs.Templates.{Template}

-- what is called: a procedure of the unit, by its block, or an external one, by the number of its entry among
-- the globals
pub data Callee : Type 0 where
  OfBlock : (block : ℕ) → Callee
  OfEntry : (number : ℕ) → Callee

-- an operation of an expression: a value fitted to a description, or another
pub data TypedOperation : Type 0 where
  Fit : (description : Description) → TypedOperation
  Operate : (operation : Operation) → TypedOperation

-- a subscript's bounds, and how many bytes each number over the low one leads on
pub record Stride : Type 0 where
  pub low : ℤ
  pub high : ℤ
  pub multiplier : ℕ

mutual
  -- a constant, what a variable holds, an operation on its operands, a call of a function, how many
  -- generations a CONTROLLED variable has, by the number of its global, a pointer to a variable, an offset as
  -- a pointer into an area, or a pointer as an offset of one: the locator is evaluated, and then the area; or
  -- a bound of a dimension, counted from 1, of the array that a variable is, which is no use of its place
  pub data TypedExpression : Type 0 where
    Literal : (value : Value) → TypedExpression
    Held : (variable : TypedReference) → TypedExpression
    Calculated : (operation : TypedOperation) (operands : Operands) → TypedExpression
    Called : (callee : Callee) (arguments : TypedArguments) → TypedExpression
    Generations : (number : ℕ) → TypedExpression
    Address : (variable : TypedReference) → TypedExpression
    AsPointer : (area : TypedReference) (offset : TypedExpression) → TypedExpression
    AsOffset : (area : TypedReference) (pointer : TypedExpression) → TypedExpression
    Bounded : (which : WhichBound) (dimension : ℕ) (variable : TypedReference) → TypedExpression

  -- where a reference begins: at a parameter or an AUTOMATIC variable; at a static
  -- variable, by the number of its global; at the newest generation of a CONTROLLED variable, by the
  -- number of its global; or at what a pointer leads to, which is of this whole description
  pub data Root : Type 0 where
    InSlot : (outward slot : ℕ) → Root
    OfProgram : (number : ℕ) → Root
    NewestOf : (number : ℕ) → Root
    Located : (locator : TypedExpression) (description : Description) → Root

  -- a whole variable; a part, with its offset where all its subscripts are the lowest, its description, and
  -- the subscripts of all its levels in turn; or an element of an array whose extents are those of the
  -- argument, with a subscript for each dimension
  pub data TypedReference : Type 0 where
    Whole : (root : Root) → TypedReference
    Part : (root : Root) (offset : ℕ) (description : Description) (subscripts : Subscripts) → TypedReference
    ElementOf : (root : Root) (subscripts : Operands) → TypedReference

  -- the operands of an operation, from left to right
  pub data Operands : Type 0 where
    NoOperand : Operands
    OperandThen : (first : TypedExpression) (more : Operands) → Operands

  -- the subscripts of a part, each with its stride
  pub data Subscripts : Type 0 where
    NoSubscript : Subscripts
    SubscriptThen : (stride : Stride) (value : TypedExpression) (more : Subscripts) → Subscripts

  -- an argument is handed over as a place, as a dummy variable of this description for its value, or as a
  -- dummy variable for a string, which is as long as that is
  pub data TypedArguments : Type 0 where
    NoArgument : TypedArguments
    ByPlace : (variable : TypedReference) (more : TypedArguments) → TypedArguments
    ByDummy : (description : Description) (value : TypedExpression) (more : TypedArguments) → TypedArguments
    ByString : (form : StringForm) (value : TypedExpression) (more : TypedArguments) → TypedArguments

-- what converts a value to a variable that gets it: operations in turn, none where it is held as it is; an
-- area, into which an offset becomes a pointer, or of which a pointer becomes an offset; or operations in
-- turn, which give a string, that is then fitted to the description of the place
pub data Conversion : Type 0 where
  ByOperations : (operations : List TypedOperation) → Conversion
  AsPointerIn : (area : TypedReference) → Conversion
  AsOffsetIn : (area : TypedReference) → Conversion
  ToPlace : (operations : List TypedOperation) → Conversion

-- what limits or continues an iteration: TO and BY in the order of the text, which are not converted; REPEAT,
-- which stands converted to the control variable; or REPEAT of a string, which is then fitted to the place of
-- the control variable
pub data TypedRange : Type 0 where
  Once : TypedRange
  ToBy : (to : TypedExpression) (by : Option TypedExpression) → TypedRange
  ByTo : (by : TypedExpression) (to : Option TypedExpression) → TypedRange
  Repeated : (next : TypedExpression) → TypedRange
  RepeatedString : (next : TypedExpression) → TypedRange

-- `DO v = a ..`: the control variable, and what converts a value to it; a, which is not converted; TO, BY or
-- REPEAT; WHILE; and the first of the temporaries that keep a and then TO and BY in the order of the text, or
-- TO and 1
pub record Iteration : Type 0 where
  pub control : TypedReference
  pub conversion : Conversion
  pub start : TypedExpression
  pub range : TypedRange
  pub condition : Option TypedExpression
  pub temporary : ℕ

-- an activation of a block begins with these variables; its temporaries are numbered
pub record BlockHead : Type 0 where
  pub number : ℕ
  pub statement : ℕ
  pub variables : List Template
  pub temporaries : ℕ

-- what an item of ALLOCATE makes: a generation of a CONTROLLED variable, by the number of its global; one of
-- a BASED variable, to which the target points from then on; or a block of an area for a BASED variable, of
-- which the target gets the pointer, converted to it. The pointer is kept in this temporary while the target
-- is found
pub data AllocatedItem : Type 0 where
  AllocatesControlled : (number : ℕ) → AllocatedItem
  AllocatesBased : (template : Template) (temporary : ℕ) (target : TypedReference) → AllocatedItem
  AllocatesInArea : (area : TypedReference) (template : Template) (temporary : ℕ) (target : TypedReference)
      (conversion : Conversion) → AllocatedItem

-- what an item of FREE ends: the newest generation of a CONTROLLED variable, by the number of its global; or
-- the generation or the block of a BASED variable of this whole description to which a pointer leads
pub data FreedItem : Type 0 where
  FreesControlled : (number : ℕ) → FreedItem
  FreesBased : (locator : TypedExpression) (description : Description) → FreedItem

mutual
  -- a statement with its number, and the numbers of its labels' statements are its own
  pub data TypedStatement : Type 0 where
    Statement : (number : ℕ) (form : Form) → TypedStatement

  -- values stand converted to what they are put into, where a string is assigned all but fitted to the
  -- description of its place; outward is how many BEGIN blocks a RETURN leaves, and how many links outward a
  -- GOTO's label is; ON names the block of its unit, which stands among the procedures
  pub data Form : Type 0 where
    Null : Form
    Assign : (target : TypedReference) (value : TypedExpression) → Form
    AssignString : (target : TypedReference) (value : TypedExpression) → Form
    AssignAggregate : (target source : TypedReference) → Form
    AssignArea : (target source : TypedReference) → Form
    EmptyArea : (target : TypedReference) → Form
    Put : (skip : Bool) (items : List TypedExpression) → Form
    Allocate : (items : List AllocatedItem) → Form
    Free : (items : List FreedItem) → Form
    If : (condition : TypedExpression) (consequence : TypedStatement) (alternative : OtherWise) → Form
    Begin : (head : BlockHead) (statements : TypedStatements) → Form
    Group : (statements : TypedStatements) → Form
    While : (condition : TypedExpression) (statements : TypedStatements) → Form
    Iterate : (iteration : Iteration) (statements : TypedStatements) → Form
    Call : (callee : Callee) (arguments : TypedArguments) → Form
    Goto : (outward label : ℕ) → Form
    Return : (outward : ℕ) → Form
    ReturnValue : (outward : ℕ) (value : TypedExpression) → Form
    Stop : Form
    On : (condition : Condition) (block : ℕ) → Form
    Revert : (condition : Condition) → Form
    Signal : (condition : Condition) → Form

  -- the ELSE of an IF, if it has one
  pub data OtherWise : Type 0 where
    NoElse : OtherWise
    Else : (statement : TypedStatement) → OtherWise

  -- a list of statements
  pub data TypedStatements : Type 0 where
    NoStatement : TypedStatements
    StatementThen : (first : TypedStatement) (more : TypedStatements) → TypedStatements

-- a procedure or an ON-unit: its block; how many parameters it has; the number of its END if it is a
-- function, which must not be reached. An ON-unit has its one statement as a list
pub record TypedProcedure : Type 0 where
  pub is_on_unit : Bool
  pub head : BlockHead
  pub parent : Option ℕ
  pub parameters : ℕ
  pub function_end : Option ℕ
  pub statements : TypedStatements

-- what an external procedure takes, and what it gives if it is a function
pub record Signature : Type 0 where
  pub parameters : List ParameterType
  pub result : Option Description

-- what a unit names that is there for the whole program: a variable of its own, a variable that all units
-- which declare its name share, and an external procedure; a variable is STATIC or CONTROLLED
pub data Global : Type 0 where
  OwnVariable : (kind : VariableKind) (template : Template) → Global
  ExternalVariable : (name : Name) (kind : VariableKind) (template : Template) → Global
  EntryPoint : (name : Name) (signature : Signature) → Global

-- a unit: the name of its external procedure, and what that takes and gives; its globals in the order of the
-- text; and its procedures and ON-units, the external procedure first
pub record TypedUnit : Type 0 where
  pub name : Name
  pub procedure : Name
  pub is_main : Bool
  pub signature : Signature
  pub globals : List Global
  pub procedures : List TypedProcedure
