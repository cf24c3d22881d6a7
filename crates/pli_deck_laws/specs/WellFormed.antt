-- Well-formed units: what a typed unit says is within the limits of the language, and what it names by a
-- number is one of its own. Everything is asked of the typed tree, form by form.
use Rattle.std.specs.Prelude.{ℕ, ◌+◌, ◌≤◌, ◌<◌, nat_lt, IsTrue, List, length}
use Rattle.std.specs.List.{flat_map, list_any, AllByRecursion}
use Rattle.pli_gen_emit.specs.TreeTranslation.{argument_count, BlockTree, has_number, blocks_of_procedure}
use Rattle.pli_type_tree.specs.Allocations.{all_kept_for}
use Rattle.pli_type_tree.specs.Iterations.{temporaries_of}
use Rattle.pli_type_tree.specs.WellTyped.{operand_count}
use Rattle.pli_type_tree.specs.TypedTree.{Root, InSlot, OfProgram, NewestOf, Located, Callee, OfBlock}
use Rattle.pli_type_tree.specs.TypedTree.{OfEntry, TypedExpression, Literal, Held, Calculated, Called}
use Rattle.pli_type_tree.specs.TypedTree.{Generations, Address, AsPointer, AsOffset, Bounded}
use Rattle.pli_type_tree.specs.TypedTree.{TypedReference, Whole, Part, ElementOf}
use Rattle.pli_type_tree.specs.TypedTree.{Operands, NoOperand, OperandThen}
use Rattle.pli_type_tree.specs.TypedTree.{Subscripts, NoSubscript, SubscriptThen}
use Rattle.pli_type_tree.specs.TypedTree.{TypedArguments, NoArgument, ByPlace, ByDummy, ByString}
use Rattle.pli_type_tree.specs.TypedTree.{Conversion, ByOperations, AsPointerIn, AsOffsetIn, ToPlace}
use Rattle.pli_type_tree.specs.TypedTree.{TypedRange, Once, ToBy, ByTo, Repeated, RepeatedString}
use Rattle.pli_type_tree.specs.TypedTree.{Iteration, BlockHead}
use Rattle.pli_type_tree.specs.TypedTree.{TypedStatement, Statement, TypedStatements, NoStatement}
use Rattle.pli_type_tree.specs.TypedTree.{StatementThen, OtherWise, NoElse, Else}
use Rattle.pli_type_tree.specs.TypedTree.{Form, Null, Assign, AssignString, AssignAggregate, AssignArea}
use Rattle.pli_type_tree.specs.TypedTree.{EmptyArea, Put, If}
use Rattle.pli_type_tree.specs.TypedTree.{Begin, Group, While, Iterate, Call, Goto, Return, ReturnValue, Stop}
use Rattle.pli_type_tree.specs.TypedTree.{On, Revert, Signal, Allocate, Free}
use Rattle.pli_type_tree.specs.TypedTree.{AllocatedItem, AllocatesControlled, AllocatesBased, AllocatesInArea}
use Rattle.pli_type_tree.specs.TypedTree.{FreedItem, FreesControlled, FreesBased}
use Rattle.pli_type_tree.specs.TypedTree.{TypedProcedure, TypedUnit}
use Rattle.pli_deck_laws.specs.Limits.{link_limit, parameter_limit, word_limit, IfThere}
use Rattle.pli_deck_laws.specs.Limits.{IsDescription, IsConstant, IsMade, IsTemplate, IsOperation}
use Rattle.pli_deck_laws.specs.Limits.{IsDimension, IsStride, IsSignature, IsGlobal}

-- the blocks of a unit, procedure after procedure
abbrev pub unit_blocks : TypedUnit → List BlockTree
unit_blocks t = flat_map blocks_of_procedure t.procedures

-- how many slots a block has
abbrev pub slots_of : BlockTree → ℕ
slots_of b = b.parameters + length b.head.variables

-- how many temporaries the iterations of a block and its items of ALLOCATE keep, those of BEGIN blocks in it
-- apart
abbrev mutual
  pub kept_in : TypedStatement → ℕ
  kept_in (Statement number form) = kept_in_form form

  -- how many those in a form keep
  pub kept_in_form : Form → ℕ
  kept_in_form (If condition consequence alternative) = kept_in consequence + kept_in_else alternative
  kept_in_form (Group statements) = kept_among statements
  kept_in_form (While condition statements) = kept_among statements
  kept_in_form (Iterate iteration statements) = temporaries_of iteration.range + kept_among statements
  kept_in_form (Allocate items) = all_kept_for items
  kept_in_form form = 0

  -- how many those in an ELSE keep
  pub kept_in_else : OtherWise → ℕ
  kept_in_else NoElse = 0
  kept_in_else (Else statement) = kept_in statement

  -- how many those in the statements of a list keep
  pub kept_among : TypedStatements → ℕ
  kept_among NoStatement = 0
  kept_among (StatementThen first more) = kept_in first + kept_among more

-- a block begins at a statement, with variables, and has no more temporaries than are kept in it
abbrev pub IsHead : BlockHead → TypedStatements → Type 0
IsHead h statements =
    (h.statement < word_limit) × AllByRecursion IsTemplate h.variables
    × (h.temporaries ≤ kept_among statements)

-- in a unit
module _ (t : TypedUnit) where
  -- a block has this number
  abbrev pub HasBlock : (number : ℕ) → Type 0
  HasBlock number = IsTrue (list_any (has_number number) (unit_blocks t))

  -- a block has a slot of this number
  abbrev pub HasSlot : (slot : ℕ) → Type 0
  HasSlot slot = IsTrue (list_any (λ b. nat_lt slot (slots_of b)) (unit_blocks t))

  -- a global has this number
  abbrev pub HasGlobal : (number : ℕ) → Type 0
  HasGlobal number = number < length t.globals

  -- what is called is the unit's
  abbrev pub IsCallee : Callee → Type 0
  IsCallee (OfBlock block) = HasBlock block
  IsCallee (OfEntry number) = HasGlobal number

  -- expressions
  abbrev mutual
    pub IsExpression : TypedExpression → Type 0
    IsExpression (Literal v) = IsConstant v
    IsExpression (Held r) = IsReference r
    IsExpression (Calculated operation operands) = IsOperation operation × AreOperands operands
    IsExpression (Called callee arguments) =
        IsCallee callee × (argument_count arguments ≤ parameter_limit) × AreArguments arguments
    IsExpression (Generations number) = HasGlobal number
    IsExpression (Address r) = IsReference r
    IsExpression (AsPointer area e) = IsReference area × IsExpression e
    IsExpression (AsOffset area e) = IsReference area × IsExpression e
    IsExpression (Bounded which k r) = IsDimension k × IsReference r

    -- a reference begins at what the unit has, or at what a locator leads to
    pub IsRoot : Root → Type 0
    IsRoot (InSlot outward slot) = (outward ≤ link_limit) × HasSlot slot
    IsRoot (OfProgram number) = HasGlobal number
    IsRoot (NewestOf number) = HasGlobal number
    IsRoot (Located e d) = IsExpression e × IsDescription d

    -- a reference
    pub IsReference : TypedReference → Type 0
    IsReference (Whole root) = IsRoot root
    IsReference (Part root offset d subscripts) =
        IsRoot root × (offset < word_limit) × IsDescription d × AreSubscripts subscripts
    IsReference (ElementOf root subscripts) =
        IsRoot root × (operand_count subscripts ≤ 8) × AreOperands subscripts

    -- operands
    pub AreOperands : Operands → Type 0
    AreOperands NoOperand = Unit {0}
    AreOperands (OperandThen e more) = IsExpression e × AreOperands more

    -- subscripts
    pub AreSubscripts : Subscripts → Type 0
    AreSubscripts NoSubscript = Unit {0}
    AreSubscripts (SubscriptThen stride e more) = IsStride stride × IsExpression e × AreSubscripts more

    -- arguments
    pub AreArguments : TypedArguments → Type 0
    AreArguments NoArgument = Unit {0}
    AreArguments (ByPlace r more) = IsReference r × AreArguments more
    AreArguments (ByDummy d e more) = IsMade d × IsExpression e × AreArguments more
    AreArguments (ByString form e more) = IsExpression e × AreArguments more

  -- a conversion of a value to a variable
  abbrev pub IsConversion : Conversion → Type 0
  IsConversion (ByOperations operations) = AllByRecursion IsOperation operations
  IsConversion (AsPointerIn area) = IsReference area
  IsConversion (AsOffsetIn area) = IsReference area
  IsConversion (ToPlace operations) = AllByRecursion IsOperation operations

  -- groups with a control variable
  abbrev pub IsRange : TypedRange → Type 0
  IsRange Once = Unit {0}
  IsRange (ToBy to by) = IsExpression to × IfThere IsExpression by
  IsRange (ByTo by to) = IsExpression by × IfThere IsExpression to
  IsRange (Repeated next) = IsExpression next
  IsRange (RepeatedString next) = IsExpression next

  -- what controls an iteration
  abbrev pub IsIteration : Iteration → Type 0
  IsIteration i =
      IsReference i.control × IsConversion i.conversion × IsExpression i.start
      × IsRange i.range × IfThere IsExpression i.condition

  -- an item of ALLOCATE is of a global of the unit, or of a BASED variable, which an area may hold
  abbrev pub IsAllocated : AllocatedItem → Type 0
  IsAllocated (AllocatesControlled number) = HasGlobal number
  IsAllocated (AllocatesBased template temporary target) = IsTemplate template × IsReference target
  IsAllocated (AllocatesInArea area template temporary target conversion) =
      IsReference area × IsTemplate template × IsReference target × IsConversion conversion

  -- an item of FREE is
  abbrev pub IsFreed : FreedItem → Type 0
  IsFreed (FreesControlled number) = HasGlobal number
  IsFreed (FreesBased e d) = IsExpression e × IsDescription d

  -- statements
  abbrev mutual
    pub IsStatement : TypedStatement → Type 0
    IsStatement (Statement number form) = (number < word_limit) × IsForm form

    -- a form
    pub IsForm : Form → Type 0
    IsForm Null = Unit {0}
    IsForm (Assign target e) = IsReference target × IsExpression e
    IsForm (AssignString target e) = IsReference target × IsExpression e
    IsForm (AssignAggregate target source) = IsReference target × IsReference source
    IsForm (AssignArea target source) = IsReference target × IsReference source
    IsForm (EmptyArea target) = IsReference target
    IsForm (Put skip items) = AllByRecursion IsExpression items
    IsForm (If condition consequence alternative) =
        IsExpression condition × IsStatement consequence × IsElse alternative
    IsForm (Begin head statements) = IsHead head statements × AreStatements statements
    IsForm (Group statements) = AreStatements statements
    IsForm (While condition statements) = IsExpression condition × AreStatements statements
    IsForm (Iterate iteration statements) = IsIteration iteration × AreStatements statements
    IsForm (Call callee arguments) =
        IsCallee callee × (argument_count arguments ≤ parameter_limit) × AreArguments arguments
    IsForm (Goto outward label) = outward ≤ link_limit
    IsForm (Return outward) = outward ≤ link_limit
    IsForm (ReturnValue outward e) = (outward ≤ link_limit) × IsExpression e
    IsForm Stop = Unit {0}
    IsForm (On condition block) = HasBlock block
    IsForm (Revert condition) = Unit {0}
    IsForm (Signal condition) = Unit {0}
    IsForm (Allocate items) = AllByRecursion IsAllocated items
    IsForm (Free items) = AllByRecursion IsFreed items

    -- an ELSE
    pub IsElse : OtherWise → Type 0
    IsElse NoElse = Unit {0}
    IsElse (Else statement) = IsStatement statement

    -- statements of a list
    pub AreStatements : TypedStatements → Type 0
    AreStatements NoStatement = Unit {0}
    AreStatements (StatementThen first more) = IsStatement first × AreStatements more

  -- a procedure, and so an ON-unit, stands in a block of the unit, or in none
  abbrev pub IsProcedure : TypedProcedure → Type 0
  IsProcedure f =
      IsHead f.head f.statements × IfThere HasBlock f.parent × (f.parameters ≤ parameter_limit)
      × IfThere (λ n. n < word_limit) f.function_end × AreStatements f.statements

-- a unit has at least one procedure, the external one
pub record IsWellFormed (t : TypedUnit) : Type 0 where
  pub signature : IsSignature t.signature
  pub globals : AllByRecursion IsGlobal t.globals
  pub some : 1 ≤ length t.procedures
  pub procedures : AllByRecursion (IsProcedure t) t.procedures
