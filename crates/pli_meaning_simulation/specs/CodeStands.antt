-- The code of typed units, as a relation: which instructions stand from a place up to a place for each form.
-- The inner places are parts of it.
use Rattle.std.specs.Prelude.{◌≡◌, ℕ, suc, nat_eq, ◌+◌, ◌-◌, ◌≤◌, Bool, true, false, ◌&&◌, Option}
use Rattle.std.specs.Prelude.{Some, None}
use Rattle.std.specs.Prelude.{List, [], ◌∷◌, map, position, slice_get}
use Rattle.pli_base.specs.Name.{Name}
use Rattle.pli_base.specs.declared.statement.Condition.{Condition}
use Rattle.pli_base.specs.Words.{same_name}
use Rattle.pli_run.specs.declared.ending.RunError.TheVariants.{NoReturnedValue}
use Rattle.pli_program.specs.Program as programs
use Rattle.pli_program.specs.declared.instruction.Instruction.TheVariants as op
use Rattle.pli_program.specs.Program.{Instruction, BlockKind, BeginBlock, is_on_unit}
use Rattle.pli_program.specs.Program.{Block, UnitCode, Program, performed_at}
use Rattle.pli_program.specs.Templates.{dummy}
use Rattle.pli_program.specs.declared.kind.VariableKind.{VariableKind}
use Rattle.pli_operation.specs.declared.operation.Operation.TheVariants.{Add, Within}
use Rattle.pli_type_tree.specs.Blocks.{kind_of_procedure}
use Rattle.pli_type_tree.specs.Iterations.{kept_by, temporaries_of, limit_number, step_number, is_iterated}
use Rattle.pli_type_tree.specs.Templates.{Template, variable_of}
use Rattle.pli_type_tree.specs.TypedTree.{TypedOperation, Fit, Operate, Root, InSlot, OfProgram, NewestOf}
use Rattle.pli_type_tree.specs.TypedTree.{Located, TypedExpression, Literal, Held, Calculated, Called}
use Rattle.pli_type_tree.specs.TypedTree.{Generations, Address, AsPointer, AsOffset, Bounded, TypedReference}
use Rattle.pli_type_tree.specs.TypedTree.{Conversion, ByOperations, AsPointerIn, AsOffsetIn, ToPlace}
use Rattle.pli_type_tree.specs.TypedTree.{AllocatedItem}
use Rattle.pli_type_tree.specs.TypedTree.{AllocatesControlled, AllocatesBased, AllocatesInArea, FreedItem}
use Rattle.pli_type_tree.specs.TypedTree.{FreesControlled, FreesBased, AssignArea, EmptyArea, Allocate, Free}
use Rattle.pli_type_tree.specs.TypedTree.{Whole, Part, ElementOf, Operands, NoOperand, OperandThen, Subscripts}
use Rattle.pli_type_tree.specs.TypedTree.{NoSubscript, SubscriptThen, TypedArguments, NoArgument, ByPlace}
use Rattle.pli_type_tree.specs.TypedTree.{ByDummy, ByString, BlockHead, TypedStatement, Statement, Form, Null}
use Rattle.pli_type_tree.specs.TypedTree.{Assign, AssignString}
use Rattle.pli_type_tree.specs.TypedTree.{AssignAggregate, Put, If, Begin, Group, While, Iterate, TypedRange}
use Rattle.pli_type_tree.specs.TypedTree.{Once, ToBy, ByTo, Repeated, RepeatedString, Iteration, Call, Goto}
use Rattle.pli_type_tree.specs.TypedTree.{Return}
use Rattle.pli_type_tree.specs.TypedTree.{ReturnValue, Stop, On, Revert, Signal, OtherWise, NoElse, Else}
use Rattle.pli_type_tree.specs.TypedTree.{TypedStatements}
use Rattle.pli_type_tree.specs.TypedTree.{NoStatement, StatementThen, TypedProcedure, Callee, OfBlock}
use Rattle.pli_type_tree.specs.TypedTree.{OfEntry, Global, OwnVariable, ExternalVariable, EntryPoint}
use Rattle.pli_type_tree.specs.TypedTree.{TypedUnit}
use Rattle.pli_meaning_tree.specs.Effects.{Label}
use Rattle.pli_meaning_tree.specs.TreeMeaning.{number_of}
use Rattle.pli_meaning_tree.specs.ProgramMeaning.{TypedProgram, unit_named}

-- what stands from a place up to a place
abbrev pub Span : Type 1
Span = ℕ → ℕ → Type 0

-- nothing
abbrev pub Empty : Span
Empty p q = p ≡ q

-- one thing, and from where it ends another
pub record Then (A B : Span) (p q : ℕ) : Type 0 where
  pub middle : ℕ
  pub fst : A p middle
  pub snd : B middle q

-- where a statement stands in its block: how many temporaries the block has, how many of them are in use, and
-- how many backward jumps the activation may have made since the last step
pub record Context : Type 0 where
  pub size : ℕ
  pub depth : ℕ
  pub bound : ℕ

-- with the temporaries before this one in use
abbrev pub using : (temporary : ℕ) → Context → Context
using temporary c = record { size = c.size; depth = temporary; bound = c.bound }

-- in the list of an iterative group: the jump to its next turn is yet to come
abbrev pub deeper : Context → Context
deeper c = record { size = c.size; depth = c.depth; bound = c.bound - 1 }

-- there is room for such a group: an activation makes at most 64 backward jumps between two steps
pub record Nests (c : Context) : Type 0 where
  pub least : 2 ≤ c.bound
  pub most : c.bound ≤ 64

-- an iteration's temporaries are free, and there is room for them
pub record HasTemporaries (i : Iteration) (c : Context) : Type 0 where
  pub free : c.depth ≤ i.temporary
  pub room : i.temporary + temporaries_of i.range ≤ c.size

-- a temporary is free, and there is room for it
pub record HasTemporary (temporary : ℕ) (c : Context) : Type 0 where
  pub free : c.depth ≤ temporary
  pub room : suc temporary ≤ c.size

-- how many arguments there are
abbrev pub arguments_in : TypedArguments → ℕ
arguments_in NoArgument = 0
arguments_in (ByPlace r more) = suc (arguments_in more)
arguments_in (ByDummy d e more) = suc (arguments_in more)
arguments_in (ByString form e more) = suc (arguments_in more)

-- the instruction of a call
abbrev pub call_of : Callee → (arguments : ℕ) → Instruction
call_of (OfBlock block) arguments = op.Call block arguments
call_of (OfEntry number) arguments = op.CallExternal number arguments

-- that of an operation
abbrev pub operation_code : TypedOperation → Instruction
operation_code (Fit description) = op.Fit description
operation_code (Operate operation) = op.Operate operation

-- the block of a head
abbrev pub block_of : BlockKind → (parent : Option ℕ) → (parameters : ℕ) → BlockHead → (entry : ℕ) → Block
block_of kind parent parameters head entry =
    record {
      kind = kind;
      parent = parent;
      parameters = parameters;
      variables = map variable_of head.variables;
      temporaries = head.temporaries;
      entry = entry;
      statement = head.statement;
    }

module _ (u : UnitCode) where
  -- this instruction stands here
  pub record Is (i : Instruction) (p q : ℕ) : Type 0 where
    pub here : performed_at u p ≡ Some i
    pub ends : suc p ≡ q

  -- a jump forward to a place
  pub record Forward (jump : ℕ → Instruction) (target p q : ℕ) : Type 0 where
    pub is : Is (jump target) p q
    pub on : q ≤ target

  -- references and expressions

  abbrev mutual
    -- the value of an expression
    pub ValueStands : TypedExpression → Span
    ValueStands (Literal v) = Is (op.Constant v)
    ValueStands (Held r) = Then (PlaceStands r) (Is op.Load)
    ValueStands (Calculated operation operands) =
        Then (OperandsStand operands) (Is (operation_code operation))
    ValueStands (Called callee arguments) =
        Then (ArgumentsStand arguments) (Is (call_of callee (arguments_in arguments)))
    ValueStands (Generations number) = Is (op.CountGenerations number)
    ValueStands (Address r) = Then (PlaceStands r) (Is op.AddressOf)
    ValueStands (AsPointer area e) = Then (ValueStands e) (Then (PlaceStands area) (Is op.ToPointer))
    ValueStands (AsOffset area e) = Then (ValueStands e) (Then (PlaceStands area) (Is op.ToOffset))
    ValueStands (Bounded which dimension r) = Then (PlaceStands r) (Is (op.BoundOf which dimension))

    -- the values of operands, from left to right
    pub OperandsStand : Operands → Span
    OperandsStand NoOperand = Empty
    OperandsStand (OperandThen e more) = Then (ValueStands e) (OperandsStand more)

    -- the place at which a reference begins
    pub RootStands : Root → Span
    RootStands (InSlot outward slot) = Is (op.Local outward slot)
    RootStands (OfProgram number) = Is (op.Global number)
    RootStands (NewestOf number) = Is (op.Global number)
    RootStands (Located e d) = Then (ValueStands e) (Is (op.Based d))

    -- the place of a reference
    pub PlaceStands : TypedReference → Span
    PlaceStands (Whole root) = RootStands root
    PlaceStands (Part root offset d subscripts) =
        Then (RootStands root) (Then (Is (op.Field offset d)) (SubscriptsStand subscripts))
    PlaceStands (ElementOf root subscripts) = Then (RootStands root) (DimensionsStand 1 subscripts)

    -- the value of each subscript, and what it does to the place
    pub SubscriptsStand : Subscripts → Span
    SubscriptsStand NoSubscript = Empty
    SubscriptsStand (SubscriptThen s e more) =
        Then (ValueStands e) (Then (Is (op.Subscript s.low s.high s.multiplier)) (SubscriptsStand more))

    -- a subscript of each dimension from this one on
    pub DimensionsStand : (dimension : ℕ) → Operands → Span
    DimensionsStand k NoOperand = Empty
    DimensionsStand k (OperandThen e more) =
        Then (ValueStands e) (Then (Is (op.SubscriptIn k)) (DimensionsStand (suc k) more))

    -- each argument: a place, or a value and its dummy argument
    pub ArgumentsStand : TypedArguments → Span
    ArgumentsStand NoArgument = Empty
    ArgumentsStand (ByPlace r more) = Then (PlaceStands r) (ArgumentsStand more)
    ArgumentsStand (ByDummy d e more) =
        Then (ValueStands e) (Then (Is (op.MakeDummy (dummy d))) (ArgumentsStand more))
    ArgumentsStand (ByString form e more) =
        Then (ValueStands e) (Then (Is (op.MakeStringDummy form)) (ArgumentsStand more))

  -- a condition, which jumps to a place unless it holds
  abbrev pub ConditionStands : TypedExpression → (target : ℕ) → Span
  ConditionStands e target = Then (ValueStands e) (Forward op.JumpUnless target)

  -- the items of PUT
  abbrev pub ItemsStand : List TypedExpression → Span
  ItemsStand [] = Empty
  ItemsStand (e ∷ es) = Then (Then (ValueStands e) (Is op.Put)) (ItemsStand es)

  -- SKIP, if it stands
  abbrev pub SkipStands : Bool → Span
  SkipStands true = Is op.Skip
  SkipStands false = Empty

  -- one operation after the other
  abbrev pub OperationsStand : List TypedOperation → Span
  OperationsStand [] = Empty
  OperationsStand (operation ∷ more) = Then (Is (operation_code operation)) (OperationsStand more)

  -- a conversion of a value: operations; the place of an area and what is done by it; or operations, and what
  -- is done by the place below
  abbrev pub ConversionStands : Conversion → Span
  ConversionStands (ByOperations operations) = OperationsStand operations
  ConversionStands (AsPointerIn area) = Then (PlaceStands area) (Is op.ToPointer)
  ConversionStands (AsOffsetIn area) = Then (PlaceStands area) (Is op.ToOffset)
  ConversionStands (ToPlace operations) = Then (OperationsStand operations) (Is op.FitToPlace)

  -- an item of ALLOCATE; a pointer is kept in a temporary till the target's place is known. An allocation in
  -- an area names the place at which its item begins: there a unit's return goes on
  abbrev pub AllocationStands : AllocatedItem → Context → Span
  AllocationStands (AllocatesControlled number) c = Is (op.AllocateControlled number)
  AllocationStands (AllocatesBased template temporary target) c =
      λ p q. HasTemporary temporary c
      × Then (Is (op.AllocateBased template))
      (Then (Is (op.SetTemporary temporary))
      (Then (PlaceStands target) (Then (Is (op.TakeTemporary temporary)) (Is op.Store)))) p q
  AllocationStands (AllocatesInArea area template temporary target conversion) c =
      λ p q. HasTemporary temporary c
      × Then (PlaceStands area)
      (Then (Is (op.AllocateInArea template p))
      (Then (Is (op.SetTemporary temporary))
      (Then (PlaceStands target)
      (Then (Is (op.TakeTemporary temporary)) (Then (ConversionStands conversion) (Is op.Store)))))) p q

  -- its items
  abbrev pub AllocationsStand : List AllocatedItem → Context → Span
  AllocationsStand [] c = Empty
  AllocationsStand (item ∷ items) c = Then (AllocationStands item c) (AllocationsStand items c)

  -- an item of FREE
  abbrev pub FreeingStands : FreedItem → Span
  FreeingStands (FreesControlled number) = Is (op.FreeControlled number)
  FreeingStands (FreesBased e d) = Then (ValueStands e) (Is (op.FreeBased d))

  -- its items
  abbrev pub FreeingsStand : List FreedItem → Span
  FreeingsStand [] = Empty
  FreeingsStand (item ∷ items) = Then (FreeingStands item) (FreeingsStand items)

  -- forms with jumps

  -- a test that jumps after a part unless it holds, and the part
  pub record Guarded (test : (target : ℕ) → Span) (part : Span) (p q : ℕ) : Type 0 where
    pub start : ℕ
    pub holds : test q p start
    pub does : part start q

  -- and with another part after it
  pub record Choice (test : (target : ℕ) → Span) (part other : Span) (p q : ℕ) : Type 0 where
    pub start : ℕ
    pub finish : ℕ
    pub target : ℕ
    pub holds : test target p start
    pub does : part start finish
    pub over : Forward op.Jump q finish target
    pub does_other : other target q

  -- a test that jumps out of a loop unless it holds, the list, what comes between two turns, and the jump to
  -- the test
  pub record Loop (test : (target : ℕ) → Span) (list between : Span) (p q : ℕ) : Type 0 where
    pub start : ℕ
    pub finish : ℕ
    pub after : ℕ
    pub holds : test q p start
    pub does : list start finish
    pub does_between : between finish after
    pub back : Is (op.Jump p) after q

  -- a string is put where the place of one is, fitted to that
  abbrev pub StringStands : TypedReference → TypedExpression → Span
  StringStands target e =
      Then (PlaceStands target) (Then (ValueStands e) (Then (Is op.FitToPlace) (Is op.Store)))

  -- iterations

  -- values, each kept in the next temporary
  abbrev pub KeepsStand : (temporary : ℕ) → List TypedExpression → Span
  KeepsStand temporary [] = Empty
  KeepsStand temporary (e ∷ es) =
      Then (ValueStands e) (Then (Is (op.SetTemporary temporary)) (KeepsStand (suc temporary) es))

  -- the control variable gets a value
  abbrev pub SetsStand : Iteration → (value : Span) → Span
  SetsStand i value =
      Then (PlaceStands i.control) (Then value (Then (ConversionStands i.conversion) (Is op.Store)))

  -- it and the step, which is kept under a number
  abbrev pub AdvancedStands : Iteration → (step : ℕ) → Span
  AdvancedStands i step =
      Then (PlaceStands i.control)
      (Then (Is op.Load) (Then (Is (op.TakeTemporary (i.temporary + step))) (Is (op.Operate Add))))

  -- the test against the limit, if there is one
  abbrev pub LimitStands : Iteration → (limit : Option ℕ) → (step target : ℕ) → Span
  LimitStands i None step target = Empty
  LimitStands i (Some limit) step target =
      Then (PlaceStands i.control)
      (Then (Is op.Load)
      (Then (Is (op.TakeTemporary (i.temporary + limit)))
      (Then (Is (op.TakeTemporary (i.temporary + step)))
      (Then (Is (op.Operate Within)) (Forward op.JumpUnless target)))))

  -- WHILE, if it stands
  abbrev pub WhileStands : Option TypedExpression → (target : ℕ) → Span
  WhileStands None target = Empty
  WhileStands (Some e) target = ConditionStands e target

  -- the tests before a turn
  abbrev pub TestStands : Iteration → (target : ℕ) → Span
  TestStands i target =
      Then (LimitStands i (limit_number i.range) (step_number i.range) target)
      (WhileStands i.condition target)

  -- what comes between two turns
  abbrev pub AdvancesStand : TypedRange → Iteration → Span
  AdvancesStand Once i = Empty
  AdvancesStand (ToBy to by) i = SetsStand i (AdvancedStands i 2)
  AdvancesStand (ByTo by to) i = SetsStand i (AdvancedStands i 1)
  AdvancesStand (Repeated next) i = Then (PlaceStands i.control) (Then (ValueStands next) (Is op.Store))
  AdvancesStand (RepeatedString next) i = StringStands i.control next

  -- the turns of a group, or its one turn where there is no more
  abbrev pub TurnsStand : (iterated : Bool) → (test : (target : ℕ) → Span) → (list : Context → Span)
      → (between : Span) → Context → Span
  TurnsStand true test list between c = λ p q. Nests c × Loop test (list (deeper c)) between p q
  TurnsStand false test list between c = Guarded test (list c)

  -- an iteration: its values are kept, the variable gets the start, and then its turns
  abbrev pub IterateStands : (number : ℕ) → Iteration → (list : Context → Span) → Context → Span
  IterateStands number i list c =
      λ p q. HasTemporaries i c
      × Then (KeepsStand i.temporary (i.start ∷ kept_by i.range))
      (Then (SetsStand i (Is (op.TakeTemporary i.temporary)))
      (TurnsStand (is_iterated i.range) (TestStands i) list
      (Then (Is (op.Line number)) (AdvancesStand i.range i))
      (using (i.temporary + temporaries_of i.range) c))) p q

  -- a block's code stands elsewhere, from its entry; its own count of backward jumps begins anew
  pub record BlockStands (block : ℕ → Block) (number temporaries : ℕ) (list : Context → Span) (end : Span)
      : Type 0 where
    pub entry : ℕ
    pub there : slice_get u.blocks number ≡ Some (block entry)
    pub bound : ℕ
    pub some : 1 ≤ bound
    pub finish : ℕ
    pub after : ℕ
    pub does : list (record { size = temporaries; depth = 0; bound = bound }) entry finish
    pub ends : end finish after

  -- a BEGIN block of a block
  pub record BeginStands (head : BlockHead) (parent : ℕ) (list : Context → Span) (p q : ℕ) : Type 0 where
    pub begins : Is (op.Begin head.number) p q
    pub block : BlockStands
        (block_of BeginBlock (Some parent) 0 head) head.number head.temporaries list (Is (op.Return 0))

  -- ON names a block of the code that is an ON-unit without parameters, in the block where it stands
  pub record OnStands (condition : Condition) (number parent : ℕ) (p q : ℕ) : Type 0 where
    pub establishes : Is (op.On condition number) p q
    pub block : Block
    pub there : slice_get u.blocks number ≡ Some block
    pub suits : is_on_unit block.kind && nat_eq block.parameters 0 ≡ true
    pub around : block.parent ≡ Some parent

  -- statements of the unit of a number, where labels stand at these places, each in the code of its unit

  module _ (unit : ℕ) (at : Label → ℕ) where
    abbrev mutual
      -- a statement begins with its step
      pub StatementStands : (block : ℕ) → TypedStatement → Context → Span
      StatementStands block (Statement number form) c =
          Then (Is (op.Step number)) (FormStands block number form c)

      -- what a form says, of the statement of a number in a block
      pub FormStands : (block number : ℕ) → Form → Context → Span
      FormStands block number Null c = Empty
      FormStands block number (Assign target e) c =
          Then (PlaceStands target) (Then (ValueStands e) (Is op.Store))
      FormStands block number (AssignString target e) c = StringStands target e
      FormStands block number (AssignAggregate target source) c =
          Then (PlaceStands target) (Then (PlaceStands source) (Is op.Copy))
      FormStands block number (AssignArea target source) c =
          Then (PlaceStands target) (Then (PlaceStands source) (Is op.AssignArea))
      FormStands block number (EmptyArea target) c = Then (PlaceStands target) (Is op.EmptyArea)
      FormStands block number (Put skip items) c = Then (SkipStands skip) (ItemsStand items)
      FormStands block number (Allocate items) c = AllocationsStand items c
      FormStands block number (Free items) c = FreeingsStand items
      FormStands block number (If e consequence alternative) c =
          IfStands block (ConditionStands e) (StatementStands block consequence c) alternative c
      FormStands block number (Begin head statements) c =
          BeginStands head block (ListStands head.number statements)
      FormStands block number (Group statements) c = ListStands block statements c
      FormStands block number (While e statements) c =
          λ p q. Nests c × Loop
          (λ target. Then (Is (op.Line number)) (ConditionStands e target))
          (Then (Is (op.Step number)) (ListStands block statements (deeper c))) Empty p q
      FormStands block number (Iterate iteration statements) c =
          IterateStands number iteration (λ c. Then (Is (op.Step number)) (ListStands block statements c)) c
      FormStands block number (Call callee arguments) c =
          Then (ArgumentsStand arguments) (Is (call_of callee (arguments_in arguments)))
      FormStands block number (Goto outward label) c =
          Is (op.Goto outward (at (record { unit = unit; number = label })))
      FormStands block number (Return outward) c = Is (op.Return outward)
      FormStands block number (ReturnValue outward e) c = Then (ValueStands e) (Is (op.ReturnValue outward))
      FormStands block number Stop c = Is op.Stop
      FormStands block number (On condition unit_block) c = OnStands condition unit_block block
      FormStands block number (Revert condition) c = Is (op.Revert condition)
      FormStands block number (Signal condition) c = Is (op.Signal condition)

      -- the test of an IF and its parts
      pub IfStands : (block : ℕ) → (test : (target : ℕ) → Span) → (part : Span) → OtherWise → Context → Span
      IfStands block test part NoElse c = Guarded test part
      IfStands block test part (Else s) c = Choice test part (StatementStands block s c)

      -- the statements of a list, each at the place of its label
      pub ListStands : (block : ℕ) → TypedStatements → Context → Span
      ListStands block NoStatement c = Empty
      ListStands block (StatementThen s more) c =
          λ p q. (at (record { unit = unit; number = number_of s }) ≡ p)
          × Then (StatementStands block s c) (ListStands block more c) p q

    -- the end of a procedure, and of a function, which must not reach it
    abbrev pub EndStands : (function_end : Option ℕ) → Span
    EndStands None = Is (op.Return 0)
    EndStands (Some s) = Then (Is (op.Line s)) (Is (op.Raise NoReturnedValue))

    -- the block of a procedure
    abbrev pub ProcedureStands : TypedProcedure → Type 0
    ProcedureStands f =
        BlockStands
        (block_of (kind_of_procedure f) f.parent f.parameters f.head)
        f.head.number f.head.temporaries (ListStands f.head.number f.statements) (EndStands f.function_end)

    -- the blocks of all procedures
    abbrev pub ProceduresStand : List TypedProcedure → Type 0
    ProceduresStand [] = Unit
    ProceduresStand (f ∷ fs) = ProcedureStands f × ProceduresStand fs

-- an external variable of this name and kind, made of this template, has the number of the name among these
pub record ExternalStands (names : List Name) (name : Name) (kind : VariableKind) (t : Template)
    (g : programs.GlobalCode) : Type 0 where
  pub external : ℕ
  pub is : g ≡ programs.ExternalVariable external kind (variable_of t)
  pub named : position (same_name name) names ≡ Some external

-- an entry of this name has the number of its unit in the program
pub record EntryStands (program : List TypedUnit) (name : Name) (g : programs.GlobalCode) : Type 0 where
  pub unit : ℕ
  pub is : g ≡ programs.EntryPoint unit
  pub named : unit_named program name ≡ Some unit

-- in a program of these units, whose external variables have these names
module _ (program : List TypedUnit) (externals : List Name) where
  -- a global
  abbrev pub GlobalStands : Global → programs.GlobalCode → Type 0
  GlobalStands (OwnVariable kind t) g = g ≡ programs.OwnVariable kind (variable_of t)
  GlobalStands (ExternalVariable name kind t) g = ExternalStands externals name kind t g
  GlobalStands (EntryPoint name signature) g = EntryStands program name g

  -- globals, one for one
  abbrev pub GlobalsStand : List Global → List programs.GlobalCode → Type 0
  GlobalsStand [] [] = Unit
  GlobalsStand (x ∷ xs) (g ∷ gs) = GlobalStands x g × GlobalsStand xs gs
  GlobalsStand [] (g ∷ gs) = ⊥
  GlobalsStand (x ∷ xs) [] = ⊥

  -- the code of the unit of a number, where labels stand at these places
  pub record UnitStands (at : Label → ℕ) (number : ℕ) (t : TypedUnit) (u : UnitCode) : Type 0 where
    pub names : u.name ≡ t.name
    pub globals : GlobalsStand t.globals u.globals
    pub procedures : ProceduresStand u number at t.procedures

  -- the code of units, numbered from one on, one for one
  abbrev pub UnitsStand : (at : Label → ℕ) → (number : ℕ) → List TypedUnit → List UnitCode → Type 0
  UnitsStand at number [] [] = Unit
  UnitsStand at number (t ∷ ts) (u ∷ us) = UnitStands at number t u × UnitsStand at (suc number) ts us
  UnitsStand at number [] (u ∷ us) = ⊥
  UnitsStand at number (t ∷ ts) [] = ⊥

-- the code of a program, the names of its external variables, and where its labels stand
pub record ProgramStands (t : TypedProgram) (p : Program) : Type 0 where
  pub names : List Name
  pub at : Label → ℕ
  pub units : UnitsStand t.units names at 0 t.units p.units
  pub main : p.main ≡ t.main
  pub greatest : p.greatest ≡ t.greatest
