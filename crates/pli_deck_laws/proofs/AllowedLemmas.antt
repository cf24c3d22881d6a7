-- Instructions whose numbers are within limits, and the code of expressions and of groups with a control variable.
use Rattle.std.proofs.Common.{◌≡◌, ℕ, suc, ◌+◌, ◌<◌, ◌≤◌, Bool, true, false, Option, Some, None, List, [], ◌∷◌, ◌++◌, length, arith}
use Rattle.std.specs.List.{AllByRecursion}
use Rattle.pli_gen_emit.specs.TreeTranslation.{argument_count, operation_code, root_code, call_instruction, value_code, place_code, operands_code, subscripts_code, dimensions_code, arguments_code, call_code, skip_code, items_code, allocation_code, allocations_code, freeing_code, freeings_code, place_after}
use Rattle.pli_gen_emit.specs.TreeTranslation.{keeps_code, operations_code, conversion_code, sets_code, start_code, test_against, limit_test, while_test, guarded, tests_code, counted_code, advances_code, back_code}
use Rattle.pli_gen.proofs.CodeEnds.{grows, both_within}
use Rattle.pli_gen.proofs.SimpleCode.{all_both}
use Rattle.pli_gen.specs.WellNumbered.{next_temporary, KeepsTemporary}
use Rattle.pli_program.specs.Program as programs
use Rattle.pli_program.specs.declared.instruction.Instruction.TheVariants as op
use Rattle.pli_program.specs.Templates.{dummy}
use Rattle.pli_operation.specs.declared.operation.Operation.TheVariants as calculate
use Rattle.pli_type_tree.specs.WellTyped.{operand_count}
use Rattle.pli_type_tree.specs.Iterations.{kept_by, limit_number, step_number, temporaries_of}
use Rattle.pli_type_tree.specs.TypedTree.{Root, InSlot, OfProgram, NewestOf, Located, Callee, OfBlock, OfEntry, TypedExpression, Literal, TypedOperation, Fit, Operate, Held, Calculated, Called, Generations, Address, AsPointer, AsOffset, Bounded, TypedReference, Whole, Part, ElementOf}
use Rattle.pli_type_tree.specs.TypedTree.{Operands, NoOperand, OperandThen, Subscripts, NoSubscript, SubscriptThen, TypedArguments, NoArgument, ByPlace, ByDummy, ByString}
use Rattle.pli_type_tree.specs.TypedTree.{TypedRange, Once, ToBy, ByTo, Repeated, RepeatedString, Iteration, TypedUnit, Conversion, ByOperations, AsPointerIn, AsOffsetIn, ToPlace, AllocatedItem, AllocatesControlled, AllocatesBased, AllocatesInArea, FreedItem, FreesControlled, FreesBased}
use Rattle.pli_deck_laws.specs.Limits.{link_limit, parameter_limit, word_limit, IfThere, IsBound, IsDescription, IsDimension, IsConstant, IsTemplate, IsOperation}
use Rattle.pli_deck_laws.specs.WellFormed.{HasBlock, HasSlot, IsRoot, IsCallee, IsExpression, IsReference, AreOperands, AreSubscripts, AreArguments, IsConversion, IsRange, IsIteration, IsAllocated, IsFreed}

-- in a unit of so many globals and blocks, whose code has a last instruction
module _ (globals blocks last : ℕ) where
  abbrev pub Allowed : programs.Instruction → Type 0
  Allowed (op.Step s) = s < word_limit
  Allowed (op.Line s) = s < word_limit
  Allowed (op.Jump target) = target ≤ last
  Allowed (op.JumpUnless target) = target ≤ last
  Allowed (op.Goto outward label) = outward ≤ link_limit
  Allowed (op.Call block arguments) = (block < blocks) × (arguments ≤ parameter_limit)
  Allowed (op.CallExternal global arguments) = (global < globals) × (arguments ≤ parameter_limit)
  Allowed (op.Begin block) = block < blocks
  Allowed (op.Return outward) = outward ≤ link_limit
  Allowed (op.ReturnValue outward) = outward ≤ link_limit
  Allowed (op.Raise e) = Unit {0}
  Allowed op.Stop = Unit {0}
  Allowed (op.Local outward slot) = (outward ≤ link_limit) × (slot ≤ 65535)
  Allowed (op.Global number) = number < globals
  Allowed (op.Field offset d) = (offset < word_limit) × IsDescription d
  Allowed (op.Subscript low high multiplier) = IsBound low × IsBound high × (multiplier < word_limit)
  Allowed (op.Based d) = IsDescription d
  Allowed (op.Constant v) = IsConstant v
  Allowed op.Load = Unit {0}
  Allowed op.Store = Unit {0}
  Allowed op.Copy = Unit {0}
  Allowed (op.MakeDummy template) = IsTemplate template
  Allowed (op.Fit d) = IsDescription d
  Allowed (op.Operate operation) = IsOperation (Operate operation)
  Allowed op.AddressOf = Unit {0}
  Allowed op.ToPointer = Unit {0}
  Allowed op.ToOffset = Unit {0}
  Allowed (op.AllocateControlled global) = global < globals
  Allowed (op.FreeControlled global) = global < globals
  Allowed (op.CountGenerations global) = global < globals
  Allowed (op.AllocateBased template) = IsTemplate template
  Allowed (op.AllocateInArea template target) = IsTemplate template × (target ≤ last)
  Allowed (op.FreeBased d) = IsDescription d
  Allowed op.AssignArea = Unit {0}
  Allowed op.EmptyArea = Unit {0}
  Allowed (op.On c block) = block < blocks
  Allowed (op.Revert c) = Unit {0}
  Allowed (op.Signal c) = Unit {0}
  Allowed op.Put = Unit {0}
  Allowed op.Skip = Unit {0}
  Allowed (op.SetTemporary number) = number ≤ 65535
  Allowed (op.TakeTemporary number) = number ≤ 65535
  Allowed (op.SubscriptIn k) = IsDimension k
  Allowed (op.BoundOf which k) = IsDimension k
  Allowed (op.MakeStringDummy form) = Unit {0}
  Allowed op.FitToPlace = Unit {0}

  abbrev pub AllAllowed : List programs.Instruction → Type 0
  AllAllowed is = AllByRecursion Allowed is

  pub joined : (xs ys : List programs.Instruction) → AllAllowed xs → AllAllowed ys → AllAllowed (xs ++ ys)
  joined xs ys h k = all_both Allowed xs ys h k

  module _ (t : TypedUnit) (counted : length t.globals ≡ globals) (named : (n : ℕ) → HasBlock t n → n < blocks) (slotted : (n : ℕ) → HasSlot t n → n ≤ 65535) where
    there : (n : ℕ) → n < length t.globals → n < globals
    there n h = omega (arith, h, counted)

    call_allowed : (callee : Callee) (n : ℕ) → IsCallee t callee → n ≤ parameter_limit → Allowed (call_instruction callee n)
    call_allowed (OfBlock block) n h k = (named block h, k)
    call_allowed (OfEntry number) n h k = (there number h, k)

    operation_allowed : (o : TypedOperation) → IsOperation o → Allowed (operation_code o)
    operation_allowed (Fit d) h = h
    operation_allowed (Operate operation) h = h

    mutual
      pub value_allowed : (e : TypedExpression) → IsExpression t e → AllAllowed (value_code e)
      value_allowed (Literal v) h = (h, tt)
      value_allowed (Held r) h = joined (place_code r) (op.Load ∷ []) (place_allowed r h) (tt, tt)
      value_allowed (Calculated operation operands) h = joined (operands_code operands) (operation_code operation ∷ []) (operands_allowed operands h.1) (operation_allowed operation h.0, tt)
      value_allowed (Called callee arguments) h =
          joined (arguments_code arguments) (call_instruction callee (argument_count arguments) ∷ []) (arguments_allowed arguments h.2)
          (call_allowed callee (argument_count arguments) h.0 h.1, tt)
      value_allowed (Generations number) h = (there number h, tt)
      value_allowed (Address r) h = joined (place_code r) (op.AddressOf ∷ []) (place_allowed r h) (tt, tt)
      value_allowed (AsPointer area e) h =
          joined (value_code e ++ place_code area) (op.ToPointer ∷ []) (joined (value_code e) (place_code area) (value_allowed e h.1) (place_allowed area h.0)) (tt, tt)
      value_allowed (AsOffset area e) h =
          joined (value_code e ++ place_code area) (op.ToOffset ∷ []) (joined (value_code e) (place_code area) (value_allowed e h.1) (place_allowed area h.0)) (tt, tt)
      value_allowed (Bounded which k r) h = joined (place_code r) (op.BoundOf which k ∷ []) (place_allowed r h.1) (h.0, tt)

      root_allowed : (r : Root) → IsRoot t r → AllAllowed (root_code r)
      root_allowed (InSlot outward slot) h = ((h.0, slotted slot h.1), tt)
      root_allowed (OfProgram number) h = (there number h, tt)
      root_allowed (NewestOf number) h = (there number h, tt)
      root_allowed (Located e d) h = joined (value_code e) (op.Based d ∷ []) (value_allowed e h.0) (h.1, tt)

      pub place_allowed : (r : TypedReference) → IsReference t r → AllAllowed (place_code r)
      place_allowed (Whole root) h = root_allowed root h
      place_allowed (Part root offset d subscripts) h =
          joined (root_code root) (op.Field offset d ∷ subscripts_code subscripts) (root_allowed root h.0) ((h.1, h.2), subscripts_allowed subscripts h.3)
      place_allowed (ElementOf root subscripts) h =
          joined (root_code root) (dimensions_code 1 subscripts) (root_allowed root h.0)
          (let few = h.1 in dimensions_allowed 1 subscripts (omega arith) (omega (arith, few)) h.2)

      dimensions_allowed : (k : ℕ) (es : Operands) → 1 ≤ k → k + operand_count es ≤ 9 → AreOperands t es → AllAllowed (dimensions_code k es)
      dimensions_allowed k NoOperand some few h = tt
      dimensions_allowed k (OperandThen e more) some few h =
          joined (value_code e) (op.SubscriptIn k ∷ dimensions_code (suc k) more) (value_allowed e h.0)
          ((some, omega (arith, few)), dimensions_allowed (suc k) more (omega arith) (omega (arith, few)) h.1)

      operands_allowed : (es : Operands) → AreOperands t es → AllAllowed (operands_code es)
      operands_allowed NoOperand h = tt
      operands_allowed (OperandThen e more) h = joined (value_code e) (operands_code more) (value_allowed e h.0) (operands_allowed more h.1)

      subscripts_allowed : (ss : Subscripts) → AreSubscripts t ss → AllAllowed (subscripts_code ss)
      subscripts_allowed NoSubscript h = tt
      subscripts_allowed (SubscriptThen s e more) h =
          joined (value_code e) (op.Subscript s.low s.high s.multiplier ∷ subscripts_code more) (value_allowed e h.1) (h.0, subscripts_allowed more h.2)

      pub arguments_allowed : (args : TypedArguments) → AreArguments t args → AllAllowed (arguments_code args)
      arguments_allowed NoArgument h = tt
      arguments_allowed (ByPlace r more) h = joined (place_code r) (arguments_code more) (place_allowed r h.0) (arguments_allowed more h.1)
      arguments_allowed (ByDummy d e more) h = joined (value_code e) (op.MakeDummy (dummy d) ∷ arguments_code more) (value_allowed e h.1) ((h.0, tt, omega arith), arguments_allowed more h.2)
      arguments_allowed (ByString form e more) h =
          joined (value_code e) (op.MakeStringDummy form ∷ arguments_code more) (value_allowed e h.0) (tt, arguments_allowed more h.1)

    pub called_allowed : (callee : Callee) (arguments : TypedArguments) → IsCallee t callee → argument_count arguments ≤ parameter_limit → AreArguments t arguments
        → AllAllowed (call_code callee arguments)
    called_allowed callee arguments h k a =
        joined (arguments_code arguments) (call_instruction callee (argument_count arguments) ∷ []) (arguments_allowed arguments a) (call_allowed callee (argument_count arguments) h k, tt)

    pub skip_allowed : (skip : Bool) → AllAllowed (skip_code skip)
    skip_allowed true = (tt, tt)
    skip_allowed false = tt

    pub items_allowed : (es : List TypedExpression) → AllByRecursion (IsExpression t) es → AllAllowed (items_code es)
    items_allowed [] h = tt
    items_allowed (e ∷ es) h = joined (value_code e) (op.Put ∷ items_code es) (value_allowed e h.0) (tt, items_allowed es h.1)

    operations_allowed : (os : List TypedOperation) → AllByRecursion IsOperation os → AllAllowed (operations_code os)
    operations_allowed [] h = tt
    operations_allowed (o ∷ os) h = (operation_allowed o h.0, operations_allowed os h.1)

    conversion_allowed : (conversion : Conversion) → IsConversion t conversion → AllAllowed (conversion_code conversion)
    conversion_allowed (ByOperations operations) h = operations_allowed operations h
    conversion_allowed (AsPointerIn area) h = joined (place_code area) (op.ToPointer ∷ []) (place_allowed area h) (tt, tt)
    conversion_allowed (AsOffsetIn area) h = joined (place_code area) (op.ToOffset ∷ []) (place_allowed area h) (tt, tt)
    conversion_allowed (ToPlace operations) h = joined (operations_code operations) (op.FitToPlace ∷ []) (operations_allowed operations h) (tt, tt)

    allocation_allowed : (item : AllocatedItem) (used room p : ℕ) → room ≤ 65535 → IsAllocated t item → KeepsTemporary used room item → p ≤ last
        → AllAllowed (allocation_code item p)
    allocation_allowed (AllocatesControlled number) used room p most h apart to = (there number h, tt)
    allocation_allowed (AllocatesInArea area template temporary target conversion) used room p most h apart to =
        let enough : temporary ≤ 65535 = let k = apart.1 in omega (arith, k, most) in
        let store = conversion_code conversion ++ op.Store ∷ [] in
        let kept = op.SetTemporary temporary ∷ (place_code target ++ (op.TakeTemporary temporary ∷ store)) in
        let stores : AllAllowed store = joined (conversion_code conversion) (op.Store ∷ []) (conversion_allowed conversion h.3) (tt, tt) in
        joined (place_code area) (op.AllocateInArea template p ∷ kept) (place_allowed area h.0)
        ((h.1, to), (enough, joined (place_code target) (op.TakeTemporary temporary ∷ store) (place_allowed target h.2) (enough, stores)))
    allocation_allowed (AllocatesBased template temporary target) used room p most h apart to =
        let enough : temporary ≤ 65535 = let k = apart.1 in omega (arith, k, most) in
        (h.0, (enough, joined (place_code target) (op.TakeTemporary temporary ∷ op.Store ∷ []) (place_allowed target h.1) (enough, (tt, tt))))

    pub allocations_allowed : (items : List AllocatedItem) (used room p : ℕ) → room ≤ 65535 → AllByRecursion (IsAllocated t) items → AllByRecursion (KeepsTemporary used room) items
        → place_after (allocations_code items p) p ≤ last → AllAllowed (allocations_code items p)
    allocations_allowed [] used room p most h apart end = tt
    allocations_allowed (item ∷ items) used room p most h apart end =
        let code = allocation_code item p in
        let q = place_after code p in
        let w = both_within code (allocations_code items q) p last end in
        let g : p ≤ q = grows code p in
        let to : p ≤ last = let k = w.0 in omega (arith, g, k) in
        joined code (allocations_code items q) (allocation_allowed item used room p most h.0 apart.0 to) (allocations_allowed items used room q most h.1 apart.1 w.1)

    freeing_allowed : (item : FreedItem) → IsFreed t item → AllAllowed (freeing_code item)
    freeing_allowed (FreesControlled number) h = (there number h, tt)
    freeing_allowed (FreesBased e d) h = joined (value_code e) (op.FreeBased d ∷ []) (value_allowed e h.0) (h.1, tt)

    pub freeings_allowed : (items : List FreedItem) → AllByRecursion (IsFreed t) items → AllAllowed (freeings_code items)
    freeings_allowed [] h = tt
    freeings_allowed (item ∷ items) h = joined (freeing_code item) (freeings_code items) (freeing_allowed item h.0) (freeings_allowed items h.1)

    -- groups with a control variable
    keeps_allowed : (temporary : ℕ) (es : List TypedExpression) → temporary + length es ≤ 65535 → AllByRecursion (IsExpression t) es → AllAllowed (keeps_code temporary es)
    keeps_allowed temporary [] room h = tt
    keeps_allowed temporary (e ∷ es) room h =
        joined (value_code e) (op.SetTemporary temporary ∷ keeps_code (suc temporary) es) (value_allowed e h.0)
        (omega (arith, room), keeps_allowed (suc temporary) es (omega (arith, room)) h.1)

    sets_allowed : (i : Iteration) (value : List programs.Instruction) → IsReference t i.control → IsConversion t i.conversion → AllAllowed value
        → AllAllowed (sets_code i value)
    sets_allowed i value r c v =
        let store = conversion_code i.conversion ++ op.Store ∷ [] in
        joined (place_code i.control) (value ++ store) (place_allowed i.control r)
        (joined value store v (joined (conversion_code i.conversion) (op.Store ∷ []) (conversion_allowed i.conversion c) (tt, tt)))

    kept_allowed : (range : TypedRange) → IsRange t range → AllByRecursion (IsExpression t) (kept_by range)
    kept_allowed Once h = tt
    kept_allowed (ToBy to None) h = (h.0, (omega arith, tt))
    kept_allowed (ToBy to (Some by)) h = (h.0, (h.1, tt))
    kept_allowed (ByTo by None) h = (h.0, tt)
    kept_allowed (ByTo by (Some to)) h = (h.0, (h.1, tt))
    kept_allowed (Repeated next) h = tt
    kept_allowed (RepeatedString next) h = tt

    -- an iteration's temporaries are below the next one
    abbrev pub HasRoomFor : Iteration → Type 0
    HasRoomFor i = next_temporary i ≤ 65535

    pub start_allowed : (i : Iteration) → IsIteration t i → HasRoomFor i → AllAllowed (start_code i)
    start_allowed i h room =
        joined (keeps_code i.temporary (i.start ∷ kept_by i.range)) (sets_code i (op.TakeTemporary i.temporary ∷ []))
        (keeps_allowed i.temporary (i.start ∷ kept_by i.range) room (h.2, kept_allowed i.range h.3))
        (sets_allowed i (op.TakeTemporary i.temporary ∷ []) h.0 h.1 (omega (arith, room), tt))

    limit_within : (range : TypedRange) → IfThere (λ l. l < temporaries_of range) (limit_number range)
    limit_within Once = tt
    limit_within (ToBy to None) = omega arith
    limit_within (ToBy to (Some by)) = omega arith
    limit_within (ByTo by None) = tt
    limit_within (ByTo by (Some to)) = omega arith
    limit_within (Repeated next) = tt
    limit_within (RepeatedString next) = tt

    step_within : (range : TypedRange) → step_number range < temporaries_of range
    step_within Once = omega arith
    step_within (ToBy to None) = omega arith
    step_within (ToBy to (Some by)) = omega arith
    step_within (ByTo by None) = omega arith
    step_within (ByTo by (Some to)) = omega arith
    step_within (Repeated next) = omega arith
    step_within (RepeatedString next) = omega arith

    against_allowed : (i : Iteration) (limit : Option ℕ) (step count target : ℕ) → IsReference t i.control → i.temporary + count ≤ 65535 → step < count
        → IfThere (λ l. l < count) limit → target ≤ last → AllAllowed (guarded (test_against i limit step) target)
    against_allowed i None step count target r room s l to = tt
    against_allowed i (Some limit) step count target r room s l to =
        let place = place_code i.control in
        let four = op.Load ∷ op.TakeTemporary (i.temporary + limit) ∷ op.TakeTemporary (i.temporary + step) ∷ op.Operate calculate.Within ∷ [] in
        joined (place ++ four) (op.JumpUnless target ∷ [])
        (joined place four (place_allowed i.control r) (tt, (omega (arith, room, l), (omega (arith, room, s), (tt, tt))))) (to, tt)

    while_allowed : (e : Option TypedExpression) (target : ℕ) → IfThere (IsExpression t) e → target ≤ last → AllAllowed (guarded (while_test e) target)
    while_allowed None target h to = tt
    while_allowed (Some e) target h to = joined (value_code e) (op.JumpUnless target ∷ []) (value_allowed e h) (to, tt)

    pub tests_allowed : (i : Iteration) (target : ℕ) → IsIteration t i → HasRoomFor i → target ≤ last → AllAllowed (tests_code i target)
    tests_allowed i target h room to =
        joined (guarded (limit_test i) target) (guarded (while_test i.condition) target)
        (against_allowed i (limit_number i.range) (step_number i.range) (temporaries_of i.range) target h.0 room (step_within i.range) (limit_within i.range) to)
        (while_allowed i.condition target h.4 to)

    counted_allowed : (i : Iteration) (step : ℕ) → i.temporary + step ≤ 65535 → IsReference t i.control → IsConversion t i.conversion → AllAllowed (counted_code i step)
    counted_allowed i step room r c =
        let place = place_code i.control in
        let rest = op.Load ∷ op.TakeTemporary (i.temporary + step) ∷ op.Operate calculate.Add ∷ [] in
        sets_allowed i (place ++ rest) r c (joined place rest (place_allowed i.control r) (tt, (room, (tt, tt))))

    advances_allowed : (range : TypedRange) (i : Iteration) → IsReference t i.control → IsConversion t i.conversion → IsRange t range
        → i.temporary + temporaries_of range ≤ 65535 → AllAllowed (advances_code range i)
    advances_allowed Once i r c h room = tt
    advances_allowed (ToBy to by) i r c h room = let step = step_within (ToBy to by) in counted_allowed i 2 (omega (arith, room, step)) r c
    advances_allowed (ByTo by to) i r c h room = let step = step_within (ByTo by to) in counted_allowed i 1 (omega (arith, room, step)) r c
    advances_allowed (Repeated next) i r c h room =
        joined (place_code i.control) (value_code next ++ op.Store ∷ []) (place_allowed i.control r) (joined (value_code next) (op.Store ∷ []) (value_allowed next h) (tt, tt))
    advances_allowed (RepeatedString next) i r c h room =
        joined (place_code i.control) (value_code next ++ op.FitToPlace ∷ op.Store ∷ []) (place_allowed i.control r)
        (joined (value_code next) (op.FitToPlace ∷ op.Store ∷ []) (value_allowed next h) (tt, (tt, tt)))

    pub back_allowed : (iterated : Bool) (number : ℕ) (i : Iteration) (turn : ℕ) → number < word_limit → IsIteration t i → HasRoomFor i → turn ≤ last
        → AllAllowed (back_code iterated number (advances_code i.range i) turn)
    back_allowed false number i turn n h room to = tt
    back_allowed true number i turn n h room to =
        joined (op.Line number ∷ advances_code i.range i) (op.Jump turn ∷ []) (n, advances_allowed i.range i h.0 h.1 h.3 room) (to, tt)
