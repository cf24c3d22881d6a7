-- Meaning: what statements and expressions of typed units do, by recursion on their trees (own). No instruction is
-- mentioned.
use Rattle.std.specs.Prelude.{ℕ, ℤ, pos, zero, suc, nat_eq, Bool, true, false, ◌||◌, ◌&&◌, Option}
use Rattle.std.specs.Prelude.{Some, None}
use Rattle.std.specs.Prelude.{List, [], ◌∷◌, ◌++◌, map, slice_get, if◌then◌else◌}
use Rattle.pli_base.specs.declared.statement.Condition.{Condition}
use Rattle.pli_operation.specs.declared.operation.Operation.TheVariants.{Add, Within}
use Rattle.pli_operation.specs.Operations.{calculated}
use Rattle.pli_world.specs.Activations.{Head, nearest_of}
use Rattle.pli_world.specs.Conditions.{established, reverted, signalled}
use Rattle.pli_world.specs.Ends.{Ended}
use Rattle.pli_world.specs.Storage.{Place}
use Rattle.pli_world.specs.World.{World, Answer, height, held}
use Rattle.pli_world.specs.World.{stored, copied, led_on, subscripted, calculation, entered}
use Rattle.pli_world.specs.World.{height_of}
use Rattle.pli_world.specs.World.{slot_place, static_place, dummy_of, printed, line_ended}
use Rattle.pli_world.specs.Areas.{emptied, assigned}
use Rattle.pli_world.specs.Locating.{place_by, freed_by, pointer_made, block_made, address_of, offset_made}
use Rattle.pli_world.specs.Locating.{pointer_within}
use Rattle.pli_world.specs.Stacks.{generation_stacked, generation_unstacked, generations_counted}
use Rattle.pli_world.specs.Strings.{string_dummy_of, subscripted_by, bound_of_place, string_as}
use Rattle.pli_type_tree.specs.Iterations.{kept_by, limit_number, step_number, is_iterated}
use Rattle.pli_type_tree.specs.Templates.{variable_of}
use Rattle.pli_type_tree.specs.TypedOperations.{comes_to}
use Rattle.pli_type_tree.specs.TypedTree.{TypedOperation, Root, InSlot, OfProgram, NewestOf, Located}
use Rattle.pli_type_tree.specs.TypedTree.{TypedExpression, Literal, Held, Calculated, Called, Generations}
use Rattle.pli_type_tree.specs.TypedTree.{Address, AsPointer, AsOffset, Bounded, TypedReference, Whole, Part}
use Rattle.pli_type_tree.specs.TypedTree.{ElementOf, Operands}
use Rattle.pli_type_tree.specs.TypedTree.{NoOperand, OperandThen, Subscripts, NoSubscript, SubscriptThen}
use Rattle.pli_type_tree.specs.TypedTree.{TypedArguments, NoArgument, ByPlace, ByDummy, ByString, BlockHead}
use Rattle.pli_type_tree.specs.TypedTree.{Conversion, ByOperations, AsPointerIn, AsOffsetIn, ToPlace}
use Rattle.pli_type_tree.specs.TypedTree.{AllocatedItem}
use Rattle.pli_type_tree.specs.TypedTree.{AllocatesControlled, AllocatesBased, AllocatesInArea, FreedItem}
use Rattle.pli_type_tree.specs.TypedTree.{FreesControlled, FreesBased}
use Rattle.pli_type_tree.specs.TypedTree.{TypedStatement, Statement, Form, Null, Assign, AssignAggregate}
use Rattle.pli_type_tree.specs.TypedTree.{AssignString, AssignArea, EmptyArea, Put}
use Rattle.pli_type_tree.specs.TypedTree.{Allocate, Free, If, Begin, Group, While, Iterate, TypedRange}
use Rattle.pli_type_tree.specs.TypedTree.{Once, ToBy, ByTo}
use Rattle.pli_type_tree.specs.TypedTree.{RepeatedString}
use Rattle.pli_type_tree.specs.TypedTree.{Repeated, Iteration, Call, Goto, Return, ReturnValue, Stop, On}
use Rattle.pli_type_tree.specs.TypedTree.{Revert, Signal}
use Rattle.pli_type_tree.specs.TypedTree.{OtherWise, NoElse, Else, TypedStatements, NoStatement}
use Rattle.pli_type_tree.specs.TypedTree.{StatementThen, Callee}
use Rattle.pli_value.specs.Conversions.{bit_constant}
use Rattle.pli_map.specs.Variables.{Variable}
use Rattle.pli_value.specs.Value.{Value, Number, Characters, Bits}
use Rattle.pli_meaning_tree.specs.Effects.{Label, Gives, Jumps, Fails, Lost, Short, Flow, Next}
use Rattle.pli_meaning_tree.specs.Effects.{Returned, Doing, and_then, ◌>>=◌, ◌>>◌, gives, nothing_done, there}
use Rattle.pli_meaning_tree.specs.Effects.{each, answered, performed, just, handled, without_value}
use Rattle.pli_meaning_tree.specs.Effects.{as_step}
use Rattle.pli_meaning_tree.specs.Effects.{as_statement, back_at, truth, turns, caught, unless_full}
use Rattle.pli_meaning_tree.specs.Effects.{leaving, block_end}

-- what runs elsewhere: a procedure that is called with its arguments, and gives a value if it is a function;
-- and the ON-unit that takes a condition which is raised
pub record Calls : Type 0 where
  pub procedure : Callee → List Place → Doing (Option Value)
  pub condition : Condition → Doing (Option Value)

-- a list of which the last stands first, in its order, before these
abbrev pub in_order : {A : Type 0} → (last_first after : List A) → List A
in_order [] after = after
in_order (x ∷ xs) after = in_order xs (x ∷ after)

-- a subscript is a number
abbrev pub as_number : Value → Doing ℤ
as_number (Number x) w left = Gives x w left
as_number v w left = Lost

-- an item is printed: characters, or bits as a constant
abbrev pub printed_item : Value → Doing Flow
printed_item (Characters text) w left = Gives Next (printed text w) left
printed_item (Bits bits) w left = Gives Next (printed (bit_constant bits) w) left
printed_item v w left = Lost

-- labels

-- the number of a statement, which is that of its label
abbrev pub number_of : TypedStatement → ℕ
number_of (Statement number form) = number

-- a statement of a unit bears a label of the unit that has its number
abbrev pub bears : (unit : ℕ) → TypedStatement → Label → Bool
bears unit s label = nat_eq unit label.unit && nat_eq (number_of s) label.number

-- a list holds the labels of its own statements
abbrev pub labels_in : (unit : ℕ) → TypedStatements → Label → Bool
labels_in unit NoStatement label = false
labels_in unit (StatementThen s more) label = bears unit s label || labels_in unit more label

-- a list catches the jumps to its labels
abbrev pub as_list : (level unit : ℕ) → TypedStatements → (Option Label → Doing Flow) → Doing Flow
as_list level unit ss run = caught level (labels_in unit ss) run None

-- blocks

-- what an activation of a block begins with
abbrev pub head_in : (unit : ℕ) → BlockHead → Head
head_in unit head = record {
  unit = unit;
  block = head.number;
  statement = head.statement;
  variables = map variable_of head.variables;
}

-- the static link of a block: the nearest activation outward of the block around it, none for an external
-- procedure
abbrev pub static_link : (unit : ℕ) → (parent : Option ℕ) → World → Option ℕ
static_link unit None w = Some 0
static_link unit (Some parent) w = nearest_of unit parent w.activations (height w)

-- an activation begins with its variables, runs and ends
abbrev pub activation_of : {A : Type 0} → Head → (link : ℕ) → List Place → Doing Flow → (Flow → Doing A)
    → Doing A
activation_of head link places run end w left =
    and_then (answered (entered head link places w) left) (λ _ w left. leaving (run w left) end)

-- expressions and references, with numbers of at most so many digits, where calls do so
module _ (greatest : ℕ) (call : Calls) where
  -- what an operation gives that may raise a condition; 0 after that
  abbrev pub or_zero : (World → Answer Value) → Doing Value
  or_zero operation w left = handled call.condition (gives (Number (pos 0))) (operation w) left

  -- what it does; nothing after that
  abbrev pub or_nothing : (World → Answer Unit) → Doing Flow
  or_nothing operation =
      (λ w left. handled call.condition (gives tt) (operation w) left) >>= λ _. nothing_done

  abbrev mutual
    -- the value of an expression
    pub value_of : TypedExpression → Doing Value
    value_of (Literal v) = gives v
    value_of (Held r) = do p ← place_of r; performed (held p)
    value_of (Calculated operation operands) = operated operation operands []
    value_of (Called callee arguments) = called_with callee arguments [] >>= there
    value_of (Generations number) = or_zero (generations_counted number)
    value_of (Address r) = do p ← place_of r; performed (address_of p)
    value_of (AsPointer area e) = do v ← value_of e; p ← place_of area; performed (pointer_within p v)
    value_of (AsOffset area e) = do v ← value_of e; p ← place_of area; performed (offset_made p v)
    value_of (Bounded which dimension r) = do p ← place_of r; performed (bound_of_place which dimension p)

    -- an operation on its operands, which are evaluated from left to right; those before, the last first; it
    -- gives 0 after a condition
    pub operated : TypedOperation → Operands → (before : List Value) → Doing Value
    operated operation NoOperand before =
        or_zero (calculation (comes_to greatest operation (in_order before [])))
    operated operation (OperandThen e more) before =
        do v ← value_of e; operated operation more (v ∷ before)

    -- the place where a reference begins; of a BASED variable its locator is evaluated for that
    pub root_place : Root → Doing Place
    root_place (InSlot outward slot) = performed (slot_place outward slot)
    root_place (OfProgram number) = performed (static_place number)
    root_place (NewestOf number) = performed (static_place number)
    root_place (Located e description) = do v ← value_of e; performed (place_by description v)

    -- the place of a reference: that of its variable, then the part, then a subscript after the other; or a
    -- subscript for each dimension
    pub place_of : TypedReference → Doing Place
    place_of (Whole root) = root_place root
    place_of (Part root offset description subscripts) =
        do p ← root_place root; q ← performed (led_on offset description p); element_at subscripts q
    place_of (ElementOf root subscripts) = do p ← root_place root; element_by 1 subscripts p

    -- each subscript is evaluated, and tested against its bounds before the next one is evaluated
    pub element_at : Subscripts → Place → Doing Place
    element_at NoSubscript p = gives p
    element_at (SubscriptThen stride e more) p = do
      v ← value_of e
      q ← as_number v >>= λ x. performed (subscripted stride.low stride.high stride.multiplier x p)
      element_at more q

    -- the same by the dimensions from this one on of the array that a place is, and the bounds that are there
    pub element_by : (dimension : ℕ) → Operands → Place → Doing Place
    element_by k NoOperand p = gives p
    element_by k (OperandThen e more) p = do
      v ← value_of e
      q ← as_number v >>= λ x. performed (subscripted_by k x p)
      element_by (suc k) more q

    -- a procedure called with arguments, one after the other: a place is handed over as it is, and a value
    -- becomes a dummy argument before the next is looked at; the places before, the last first
    pub called_with : (callee : Callee) → TypedArguments → (before : List Place) → Doing (Option Value)
    called_with callee NoArgument before = call.procedure callee (in_order before [])
    called_with callee (ByPlace r more) before = do p ← place_of r; called_with callee more (p ∷ before)
    called_with callee (ByDummy description e more) before =
        do v ← value_of e; p ← performed (dummy_of description v); called_with callee more (p ∷ before)
    called_with callee (ByString form e more) before =
        do v ← value_of e; p ← performed (string_dummy_of form v); called_with callee more (p ∷ before)

  -- a condition of IF or WHILE
  abbrev pub condition : TypedExpression → Doing Bool
  condition e = value_of e >>= truth

  -- an assignment: the target's place, the value, the store
  abbrev pub assigns : TypedReference → TypedExpression → Doing Flow
  assigns target e = do p ← place_of target; v ← value_of e; just (stored p v)

  -- an assignment to a string whose length is known at its place: the value is fitted to that first
  abbrev pub assigns_string : TypedReference → TypedExpression → Doing Flow
  assigns_string target e =
      do p ← place_of target; v ← value_of e; x ← or_zero (string_as p v); just (stored p x)

  -- an iteration's values are evaluated in turn, and kept as they are; those before
  abbrev pub keeps : List TypedExpression → (before : List Value) → (List Value → Doing Flow) → Doing Flow
  keeps [] before go = go before
  keeps (e ∷ es) before go = do v ← value_of e; keeps es (before ++ v ∷ []) go

  -- one operation after another on a value
  abbrev pub operated_by : List TypedOperation → Value → Doing Value
  operated_by [] v = gives v
  operated_by (operation ∷ more) v =
      or_zero (calculation (comes_to greatest operation (v ∷ []))) >>= operated_by more

  -- a value converted to the variable at a place: by operations; by an area, which is evaluated for that; or
  -- by operations that give a string, which is then fitted to the one at the place
  abbrev pub converted : Conversion → (at : Place) → Value → Doing Value
  converted (ByOperations operations) p v = operated_by operations v
  converted (AsPointerIn area) p v = do q ← place_of area; performed (pointer_within q v)
  converted (AsOffsetIn area) p v = do q ← place_of area; performed (offset_made q v)
  converted (ToPlace operations) p v = do x ← operated_by operations v; or_zero (string_as p x)

  -- the control variable's place, a value, its conversion, the store
  abbrev pub sets : Iteration → Doing Value → Doing Flow
  sets i value =
      do p ← place_of i.control; v ← value; x ← converted i.conversion p v; just (stored p x)

  -- the control variable and a step more
  abbrev pub advanced : Iteration → (step : ℕ) → List Value → Doing Value
  advanced i step vs = do
    p ← place_of i.control
    x ← performed (held p)
    c ← there (slice_get vs step)
    or_zero (calculation (calculated greatest Add (x ∷ c ∷ [])))

  -- it has not passed the limit, where there is one
  abbrev pub within_limit : Iteration → (limit : Option ℕ) → (step : ℕ) → List Value → Doing Bool
  within_limit i None step vs = gives true
  within_limit i (Some limit) step vs = do
    p ← place_of i.control
    x ← performed (held p)
    b ← there (slice_get vs limit)
    c ← there (slice_get vs step)
    v ← or_zero (calculation (calculated greatest Within (x ∷ b ∷ c ∷ [])))
    truth v

  -- WHILE holds, where it stands
  abbrev pub while_holds : Option TypedExpression → Doing Bool
  while_holds None = gives true
  while_holds (Some e) = condition e

  -- the test before a turn: the limit, then WHILE
  abbrev pub may_turn : Iteration → List Value → Doing Bool
  may_turn i vs =
      within_limit i (limit_number i.range) (step_number i.range) vs
      >>= λ b. if b then while_holds i.condition else gives false

  -- what comes between two turns: the step, or REPEAT
  abbrev pub advances : TypedRange → Iteration → List Value → Doing Flow
  advances Once i vs = nothing_done
  advances (ToBy to by) i vs = sets i (advanced i 2 vs)
  advances (ByTo by to) i vs = sets i (advanced i 1 vs)
  advances (Repeated next) i vs = assigns i.control next
  advances (RepeatedString next) i vs = assigns_string i.control next

  -- without TO, BY and REPEAT there is one turn
  abbrev pub turned : (iterated : Bool) (level : ℕ) → (test : Doing Bool) → (list between : Doing Flow)
      → Doing Flow
  turned true level test list between = turns level test list between
  turned false level test list between = test >>= λ b. if b then list else nothing_done

  -- an iteration: a, TO and BY are evaluated; the variable gets a; and then its turns, whose list is a step;
  -- what comes between two turns is at the group's statement
  abbrev pub iterates : (level number : ℕ) → Iteration → Doing Flow → Doing Flow
  iterates level number i list =
      keeps (i.start ∷ kept_by i.range) []
      (λ vs. sets i (there (slice_get vs 0))
      >> turned (is_iterated i.range) level (may_turn i vs) (as_statement number list)
      (back_at number (advances i.range i vs)))

  -- a block of an area for a variable: the area is evaluated and has room for the block; after the condition
  -- that it has none this is done again, which is a step
  abbrev pub block_allocated : (level : ℕ) → (area : TypedReference) → Variable → Doing Value
  block_allocated zero area v w left = Short
  block_allocated (suc level) area v w left =
      and_then (place_of area w left)
      (λ p w left. handled call.condition (as_step (block_allocated level area v)) (block_made p v w) left)

  -- an item of ALLOCATE: a generation more of a CONTROLLED variable; or one of a BASED variable, and then the
  -- pointer to it is put at the target's place; or a block of an area for one, and the pointer to that is put
  -- there, converted
  abbrev pub allocates_item : (level : ℕ) → AllocatedItem → Doing Flow
  allocates_item level (AllocatesControlled number) = just (generation_stacked number)
  allocates_item level (AllocatesBased template temporary target) =
      do v ← performed (pointer_made (variable_of template)); p ← place_of target; just (stored p v)
  allocates_item level (AllocatesInArea area template temporary target conversion) = do
    v ← block_allocated level area (variable_of template)
    p ← place_of target
    x ← converted conversion p v
    just (stored p x)

  -- an item of FREE: the newest generation of a CONTROLLED variable ends, or the one of a BASED variable to
  -- which a locator leads
  abbrev pub frees_item : FreedItem → Doing Flow
  frees_item (FreesControlled number) = just (generation_unstacked number)
  frees_item (FreesBased e description) = do v ← value_of e; just (freed_by description v)

  -- statements, in a unit of a number, at a level: what a turn, a jump or a call inside may do is the level
  -- below
  module _ (unit level : ℕ) where
    abbrev mutual
      -- a statement in a block is a step and what its form says
      pub does : (block : ℕ) → TypedStatement → Doing Flow
      does block (Statement number form) w left = as_statement number (does_form block number form) w left

      -- what a form says, of the statement of a number in a block
      pub does_form : (block number : ℕ) → Form → Doing Flow
      does_form block number Null = nothing_done
      does_form block number (Assign target e) = assigns target e
      does_form block number (AssignString target e) = assigns_string target e
      does_form block number (AssignAggregate target source) =
          do p ← place_of target; q ← place_of source; just (copied q p)
      does_form block number (AssignArea target source) =
          do p ← place_of target; q ← place_of source; or_nothing (assigned q p)
      does_form block number (EmptyArea target) = do p ← place_of target; just (emptied p)
      does_form block number (Put skip items) =
          λ w. each (λ e. value_of e >>= printed_item) items (if skip then line_ended w else w)
      does_form block number (Allocate items) = each (allocates_item level) items
      does_form block number (Free items) = each frees_item items
      does_form block number (If e consequence alternative) =
          condition e >>= λ b. if b then does block consequence else does_else block alternative
      does_form block number (Begin head statements) = do
        link ← λ w. there (static_link unit (Some block) w) w
        unless_full
            (activation_of (head_in unit head) link []
            (as_list level unit statements (does_from head.number statements)) block_end)
      does_form block number (Group statements) = as_list level unit statements (does_from block statements)
      does_form block number (While e statements) =
          turns level (back_at number (condition e))
          (as_statement number (as_list level unit statements (does_from block statements))) nothing_done
      does_form block number (Iterate iteration statements) =
          iterates level number iteration
          (as_list level unit statements (does_from block statements))
      does_form block number (Call called arguments) =
          called_with called arguments [] >>= without_value nothing_done
      does_form block number (Goto outward label) =
          performed (height_of outward)
          >>= λ h. λ w left. Jumps h (record { unit = unit; number = label }) w left
      does_form block number (Return outward) = gives (Returned outward None)
      does_form block number (ReturnValue outward e) = do v ← value_of e; gives (Returned outward (Some v))
      does_form block number Stop = λ w left. Fails Ended w
      does_form block number (On c on_unit) = just (established unit (Some block) c on_unit)
      does_form block number (Revert c) = λ w left. Gives Next (reverted c w) left
      does_form block number (Signal c) = or_nothing (signalled c)

      -- an ELSE, if it stands
      pub does_else : (block : ℕ) → OtherWise → Doing Flow
      does_else block NoElse w left = Gives Next w left
      does_else block (Else s) w left = does block s w left

      -- the statements of a list one after the other, from the first one or from a label
      pub does_from : (block : ℕ) → TypedStatements → (from : Option Label) → Doing Flow
      does_from block NoStatement None w left = Gives Next w left
      does_from block NoStatement (Some label) w left = Lost
      does_from block (StatementThen s more) None w left = (does block s >> does_from block more None) w left
      does_from block (StatementThen s more) (Some label) w left =
          if bears unit s label then (does block s >> does_from block more None) w left
          else does_from block more (Some label) w left

    -- the statements of a list, with the jumps to its labels
    abbrev pub does_list : (block : ℕ) → TypedStatements → Doing Flow
    does_list block ss = as_list level unit ss (does_from block ss)
