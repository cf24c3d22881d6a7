-- The code that the translation makes of each form matches the translation.
use Rattle.std.specs.Prelude.{◌≡◌, ℕ, zero, suc, ◌+◌, ◌-◌, ◌≤◌, nat_eq, Bool, true, false, Option, Some, None, List, [], ◌∷◌, ◌++◌, map, slice_get, refl}
use Rattle.std.specs.List.{flat_map, AllByRecursion}
use Rattle.std.specs.Option.{option_flatten}
use Rattle.std.specs.Prelude.{◌&&◌}
use Rattle.std.proofs.Common.{arith, ap, ◌∙◌, sym, subst}
use Rattle.pli_run.specs.declared.ending.RunError.TheVariants.{NoReturnedValue}
use Rattle.pli_program.specs.declared.instruction.Instruction.TheVariants as op
use Rattle.pli_base.specs.Name.{Name}
use Rattle.pli_base.specs.declared.statement.Condition.{Condition}
use Rattle.pli_operation.specs.declared.operation.Operation.TheVariants.{Add, Within}
use Rattle.pli_program.specs.Program.{is_on_unit, Instruction, Block, UnitCode, performed_at}
use Rattle.pli_program.specs.Templates.{dummy}
use Rattle.pli_type_tree.specs.TypedTree.{TypedOperation, Fit, Operate, Root, InSlot, OfProgram, NewestOf, Located, TypedExpression, Literal, Held, Calculated, Called, Generations, Address, AsPointer, AsOffset, Bounded, TypedReference, Whole, Part, ElementOf, Operands, NoOperand, OperandThen}
use Rattle.pli_type_tree.specs.TypedTree.{Subscripts, NoSubscript, SubscriptThen, TypedArguments, NoArgument, ByPlace, ByDummy, ByString, TypedStatement, Statement}
use Rattle.pli_type_tree.specs.TypedTree.{Conversion, ByOperations, AsPointerIn, AsOffsetIn, ToPlace, AllocatedItem, AllocatesControlled, AllocatesBased, AllocatesInArea, FreedItem, FreesControlled, FreesBased, Form, Null, Assign, AssignString, AssignAggregate, AssignArea, EmptyArea, Put, Allocate, Free, If, Begin, Group, While, Iterate, Call, Goto, Return, ReturnValue, Stop, On, Revert, Signal}
use Rattle.pli_type_tree.specs.Iterations.{kept_by, limit_number, step_number, is_iterated}
use Rattle.pli_type_tree.specs.TypedTree.{Iteration, TypedRange, Once, ToBy, ByTo, Repeated, RepeatedString}
use Rattle.pli_type_tree.specs.TypedTree.{Callee, OfBlock, OfEntry, Global, OwnVariable, ExternalVariable, EntryPoint}
use Rattle.pli_type_tree.specs.TypedTree.{NoElse, Else, TypedStatements, NoStatement, StatementThen, TypedProcedure, TypedUnit}
use Rattle.pli_gen_emit.specs.TreeTranslation.{argument_count, root_code, call_instruction, operation_code, value_code, place_code, operands_code, subscripts_code, dimensions_code, arguments_code, call_code, skip_code, items_code, operations_code, conversion_code, allocation_code, allocations_code, freeing_code, freeings_code, place_after}
use Rattle.pli_gen_emit.specs.TreeTranslation.{statement_code, form_code, list_code, places_in, places_in_form, places_among, statement_place, with_target, BlockTree, begin_block}
use Rattle.pli_gen_emit.specs.TreeTranslation.{blocks_in, blocks_of_form, blocks_among, blocks_of_procedure, blocks_of, end_code, block_code, blocks_code, places_of, block_at, blocks_at, instructions_of, globals_code, unit_code}
use Rattle.pli_gen_emit.specs.TreeTranslation.{keeps_code, sets_code, start_code, test_against, limit_test, while_test, guarded, tests_code, advances_code, back_code}
use Rattle.pli_gen_emit.specs.TreeTranslation.{turn_place, list_place}
use Rattle.pli_gen.proofs.IterationCode.{tests_length, iterate_ends}
use Rattle.pli_gen.specs.laws.ListLaws.{all_front, all_back}
use Rattle.pli_gen.specs.WellNumbered.{AreDistinct, HasTurns, HasRoom, HaveRoom, next_temporary, KeepsTemporary, KeepsApart, KeepApart, IsOnUnitIn, NamesOnUnits, NamesUnitsForm, NameUnits, IsWellNumbered}
use Rattle.pli_meaning_tree.specs.Effects.{Label}
use Rattle.pli_meaning_tree.specs.TreeMeaning.{number_of}
use Rattle.pli_meaning_simulation.specs.CodeStands as stand
use Rattle.pli_meaning_simulation.specs.CodeStands.{Span, Empty, Then, Context, arguments_in, UnitStands}
use Rattle.pli_gen_stands.specs.Linked.{AreLinks}
use Rattle.pli_gen_stands.proofs.StatementPlaces.{each_has_its_place, numbered_blocks}

-- what is there, or else this
abbrev or_else : {X : Type 0} → X → Option X → X
or_else x None = x
or_else x (Some y) = y

-- instructions that are all there
each_there : (is : List Instruction) (k : ℕ) → option_flatten (slice_get (map Some is) k) ≡ slice_get is k
each_there [] k = refl
each_there (i ∷ is) zero = refl
each_there (i ∷ is) (suc k) = each_there is k

-- the place after two parts
after_both : (xs ys : List Instruction) (p : ℕ) → place_after (xs ++ ys) p ≡ place_after ys (place_after xs p)
after_both [] ys p = refl
after_both (x ∷ xs) ys p = after_both xs ys (suc p)

after_three : (xs ys zs : List Instruction) (p : ℕ) → place_after (xs ++ ys ++ zs) p ≡ place_after zs (place_after ys (place_after xs p))
after_three xs ys zs p = after_both (xs ++ ys) zs p ∙ ap (place_after zs) (after_both xs ys p)

-- the labels of the unit of this number lead to the places of its statements
abbrev pub Lead : (at : Label → ℕ) → (unit : ℕ) → List (ℕ × ℕ) → Type 0
Lead at unit places = (number : ℕ) → at (record { unit = unit; number = number }) ≡ statement_place places number

module _ (u : UnitCode) (places : List (ℕ × ℕ)) (unit : ℕ) (at : Label → ℕ) (lead : Lead at unit places) where
  -- this code stands at a place, with the targets of its jumps
  abbrev Stand : List Instruction → ℕ → Type 0
  Stand [] p = Unit {0}
  Stand (i ∷ is) p = (performed_at u p ≡ Some (with_target places i)) × Stand is (suc p)

  split : (xs ys : List Instruction) (p : ℕ) → Stand (xs ++ ys) p → Stand xs p × Stand ys (place_after xs p)
  split [] ys p h = (tt, h)
  split (x ∷ xs) ys p h = let r = split xs ys (suc p) h.1 in ((h.0, r.0), r.1)

  -- three parts
  split_three : (xs ys zs : List Instruction) (p : ℕ) → Stand (xs ++ ys ++ zs) p → Stand xs p × (Stand ys (place_after xs p) × Stand zs (place_after ys (place_after xs p)))
  split_three xs ys zs p h =
      let r = split (xs ++ ys) zs p h in
      let s = split xs ys p r.0 in
      (s.0, (s.1, subst (λ q. Stand zs q) (after_both xs ys p) r.1))

  abbrev Made : List Instruction → Span → Type 0
  Made xs A = (p : ℕ) → Stand xs p → A p (place_after xs p)

  -- one part and another after it
  joined : (xs ys : List Instruction) (A B : Span) → Made xs A → Made ys B → Made (xs ++ ys) (Then A B)
  joined xs ys A B a b p h =
      let r = split xs ys p h in
      record { middle = place_after xs p; fst = a p r.0; snd = subst (λ q. B (place_after xs p) q) (sym (after_both xs ys p)) (b (place_after xs p) r.1) }

  -- one instruction, and one before a part
  one : (i : Instruction) → Made (i ∷ []) (stand.Is u (with_target places i))
  one i p h = record { here = h.0; ends = refl }

  before : (i : Instruction) (ys : List Instruction) (B : Span) → Made ys B → Made (i ∷ ys) (Then (stand.Is u (with_target places i)) B)
  before i ys B b p h = record { middle = suc p; fst = record { here = h.0; ends = refl }; snd = b (suc p) h.1 }

  -- two parts and an instruction
  two_parts : (xs ys : List Instruction) (i : Instruction) (A B : Span) → Made xs A → Made ys B → Made (xs ++ ys ++ i ∷ []) (Then A (Then B (stand.Is u (with_target places i))))
  two_parts xs ys i A B a b p h =
      let r = split_three xs ys (i ∷ []) p h in
      record {
        middle = place_after xs p;
        fst = a p r.0;
        snd = record { middle = place_after ys (place_after xs p); fst = b (place_after xs p) r.1.0; snd = record { here = r.1.1.0; ends = sym (after_three xs ys (i ∷ []) p) } };
      }

  nothing : Made [] Empty
  nothing p h = refl

  counts : (args : TypedArguments) → argument_count args ≡ arguments_in args
  counts NoArgument = refl
  counts (ByPlace r more) = ap suc (counts more)
  counts (ByDummy d e more) = ap suc (counts more)
  counts (ByString form e more) = ap suc (counts more)

  -- a call after its arguments
  called : (callee : Callee) (args : TypedArguments) → Made (call_instruction callee (argument_count args) ∷ []) (stand.Is u (stand.call_of callee (arguments_in args)))
  called (OfBlock block) args p h = record { here = subst (λ n. performed_at u p ≡ Some (op.Call block n)) (counts args) h.0; ends = refl }
  called (OfEntry number) args p h = record { here = subst (λ n. performed_at u p ≡ Some (op.CallExternal number n)) (counts args) h.0; ends = refl }

  call_stands : (callee : Callee) (args : TypedArguments) → Made (arguments_code args) (stand.ArgumentsStand u args)
      → Made (call_code callee args) (Then (stand.ArgumentsStand u args) (stand.Is u (stand.call_of callee (arguments_in args))))
  call_stands callee args a =
      joined (arguments_code args) (call_instruction callee (argument_count args) ∷ []) (stand.ArgumentsStand u args) (stand.Is u (stand.call_of callee (arguments_in args)))
      a (called callee args)

  operation_stands : (o : TypedOperation) → Made (operation_code o ∷ []) (stand.Is u (stand.operation_code o))
  operation_stands (Fit d) = one (op.Fit d)
  operation_stands (Operate o) = one (op.Operate o)

  mutual
    value_stands : (e : TypedExpression) → Made (value_code e) (stand.ValueStands u e)
    value_stands (Literal v) p h = one (op.Constant v) p h
    value_stands (Held r) p h = joined (place_code r) (op.Load ∷ []) (stand.PlaceStands u r) (stand.Is u op.Load) (λ p h. place_stands r p h) (one op.Load) p h
    value_stands (Calculated operation operands) p h =
        joined (operands_code operands) (operation_code operation ∷ []) (stand.OperandsStand u operands) (stand.Is u (stand.operation_code operation))
        (λ p h. operands_stand operands p h) (operation_stands operation) p h
    value_stands (Called callee args) p h = call_stands callee args (λ p h. arguments_stand args p h) p h
    value_stands (Generations number) p h = one (op.CountGenerations number) p h
    value_stands (Address r) p h =
        joined (place_code r) (op.AddressOf ∷ []) (stand.PlaceStands u r) (stand.Is u op.AddressOf) (λ p h. place_stands r p h) (one op.AddressOf) p h
    value_stands (AsPointer area e) p h =
        two_parts (value_code e) (place_code area) op.ToPointer (stand.ValueStands u e) (stand.PlaceStands u area) (λ p h. value_stands e p h) (λ p h. place_stands area p h) p h
    value_stands (AsOffset area e) p h =
        two_parts (value_code e) (place_code area) op.ToOffset (stand.ValueStands u e) (stand.PlaceStands u area) (λ p h. value_stands e p h) (λ p h. place_stands area p h) p h
    value_stands (Bounded which dimension r) p h =
        joined (place_code r) (op.BoundOf which dimension ∷ []) (stand.PlaceStands u r) (stand.Is u (op.BoundOf which dimension)) (λ p h. place_stands r p h) (one (op.BoundOf which dimension)) p h

    operands_stand : (es : Operands) → Made (operands_code es) (stand.OperandsStand u es)
    operands_stand NoOperand p h = refl
    operands_stand (OperandThen e more) p h =
        joined (value_code e) (operands_code more) (stand.ValueStands u e) (stand.OperandsStand u more) (λ p h. value_stands e p h) (λ p h. operands_stand more p h) p h

    root_stands : (r : Root) → Made (root_code r) (stand.RootStands u r)
    root_stands (InSlot outward slot) p h = one (op.Local outward slot) p h
    root_stands (OfProgram number) p h = one (op.Global number) p h
    root_stands (NewestOf number) p h = one (op.Global number) p h
    root_stands (Located e d) p h =
        joined (value_code e) (op.Based d ∷ []) (stand.ValueStands u e) (stand.Is u (op.Based d)) (λ p h. value_stands e p h) (one (op.Based d)) p h

    place_stands : (r : TypedReference) → Made (place_code r) (stand.PlaceStands u r)
    place_stands (Whole root) p h = root_stands root p h
    place_stands (Part root offset d subscripts) p h =
        joined (root_code root) (op.Field offset d ∷ subscripts_code subscripts) (stand.RootStands u root) (Then (stand.Is u (op.Field offset d)) (stand.SubscriptsStand u subscripts))
        (λ p h. root_stands root p h) (before (op.Field offset d) (subscripts_code subscripts) (stand.SubscriptsStand u subscripts) (λ p h. subscripts_stand subscripts p h)) p h
    place_stands (ElementOf root subscripts) p h =
        joined (root_code root) (dimensions_code 1 subscripts) (stand.RootStands u root) (stand.DimensionsStand u 1 subscripts) (λ p h. root_stands root p h)
        (λ p h. dimensions_stand 1 subscripts p h) p h

    dimensions_stand : (dimension : ℕ) (es : Operands) → Made (dimensions_code dimension es) (stand.DimensionsStand u dimension es)
    dimensions_stand dimension NoOperand p h = refl
    dimensions_stand dimension (OperandThen e more) p h =
        joined (value_code e) (op.SubscriptIn dimension ∷ dimensions_code (suc dimension) more) (stand.ValueStands u e)
        (Then (stand.Is u (op.SubscriptIn dimension)) (stand.DimensionsStand u (suc dimension) more)) (λ p h. value_stands e p h)
        (before (op.SubscriptIn dimension) (dimensions_code (suc dimension) more) (stand.DimensionsStand u (suc dimension) more) (λ p h. dimensions_stand (suc dimension) more p h)) p h

    subscripts_stand : (ss : Subscripts) → Made (subscripts_code ss) (stand.SubscriptsStand u ss)
    subscripts_stand NoSubscript p h = refl
    subscripts_stand (SubscriptThen s e more) p h =
        joined (value_code e) (op.Subscript s.low s.high s.multiplier ∷ subscripts_code more) (stand.ValueStands u e)
        (Then (stand.Is u (op.Subscript s.low s.high s.multiplier)) (stand.SubscriptsStand u more)) (λ p h. value_stands e p h)
        (before (op.Subscript s.low s.high s.multiplier) (subscripts_code more) (stand.SubscriptsStand u more) (λ p h. subscripts_stand more p h)) p h

    arguments_stand : (args : TypedArguments) → Made (arguments_code args) (stand.ArgumentsStand u args)
    arguments_stand NoArgument p h = refl
    arguments_stand (ByPlace r more) p h =
        joined (place_code r) (arguments_code more) (stand.PlaceStands u r) (stand.ArgumentsStand u more) (λ p h. place_stands r p h) (λ p h. arguments_stand more p h) p h
    arguments_stand (ByDummy d e more) p h =
        joined (value_code e) (op.MakeDummy (dummy d) ∷ arguments_code more) (stand.ValueStands u e) (Then (stand.Is u (op.MakeDummy (dummy d))) (stand.ArgumentsStand u more))
        (λ p h. value_stands e p h) (before (op.MakeDummy (dummy d)) (arguments_code more) (stand.ArgumentsStand u more) (λ p h. arguments_stand more p h)) p h
    arguments_stand (ByString form e more) p h =
        joined (value_code e) (op.MakeStringDummy form ∷ arguments_code more) (stand.ValueStands u e) (Then (stand.Is u (op.MakeStringDummy form)) (stand.ArgumentsStand u more))
        (λ p h. value_stands e p h) (before (op.MakeStringDummy form) (arguments_code more) (stand.ArgumentsStand u more) (λ p h. arguments_stand more p h)) p h

  -- a condition, whose jump leads to a place that is no earlier
  test_stands : (e : TypedExpression) (target p : ℕ) → suc (place_after (value_code e) p) ≤ target → Stand (value_code e) p
      → performed_at u (place_after (value_code e) p) ≡ Some (op.JumpUnless target)
      → stand.ConditionStands u e target p (suc (place_after (value_code e) p))
  test_stands e target p le test jump =
      record { middle = place_after (value_code e) p; fst = value_stands e p test; snd = record { is = record { here = jump; ends = refl }; on = le } }

  skip_stands : (skip : Bool) → Made (skip_code skip) (stand.SkipStands u skip)
  skip_stands true = one op.Skip
  skip_stands false = nothing

  items_stand : (es : List TypedExpression) → Made (items_code es) (stand.ItemsStand u es)
  items_stand [] p h = refl
  items_stand (e ∷ es) p h =
      let r = split (value_code e) (op.Put ∷ items_code es) p h in
      record {
        middle = suc (place_after (value_code e) p);
        fst = record { middle = place_after (value_code e) p; fst = value_stands e p r.0; snd = record { here = r.1.0; ends = refl } };
        snd = subst (λ q. stand.ItemsStand u es (suc (place_after (value_code e) p)) q) (sym (after_both (value_code e) (op.Put ∷ items_code es) p))
            (items_stand es (suc (place_after (value_code e) p)) r.1.1);
      }

  operations_stand : (os : List TypedOperation) → Made (operations_code os) (stand.OperationsStand u os)
  operations_stand [] = nothing
  operations_stand (o ∷ os) =
      joined (operation_code o ∷ []) (operations_code os) (stand.Is u (stand.operation_code o)) (stand.OperationsStand u os) (operation_stands o) (operations_stand os)

  conversion_stands : (conversion : Conversion) → Made (conversion_code conversion) (stand.ConversionStands u conversion)
  conversion_stands (ByOperations operations) = operations_stand operations
  conversion_stands (AsPointerIn area) = joined (place_code area) (op.ToPointer ∷ []) (stand.PlaceStands u area) (stand.Is u op.ToPointer) (place_stands area) (one op.ToPointer)
  conversion_stands (ToPlace operations) =
      joined (operations_code operations) (op.FitToPlace ∷ []) (stand.OperationsStand u operations) (stand.Is u op.FitToPlace) (operations_stand operations) (one op.FitToPlace)
  conversion_stands (AsOffsetIn area) = joined (place_code area) (op.ToOffset ∷ []) (stand.PlaceStands u area) (stand.Is u op.ToOffset) (place_stands area) (one op.ToOffset)

  -- a string goes where the place of one is, fitted to that
  fitted_stands : (target : TypedReference) (e : TypedExpression)
      → Made (place_code target ++ value_code e ++ (op.FitToPlace ∷ op.Store ∷ [])) (stand.StringStands u target e)
  fitted_stands target e p h =
      let place = place_code target in
      let value = value_code e in
      let both = op.FitToPlace ∷ op.Store ∷ [] in
      let r = split_three place value both p h in
      let m = place_after value (place_after place p) in
      record {
        middle = place_after place p;
        fst = place_stands target p r.0;
        snd = record {
          middle = m;
          fst = value_stands e (place_after place p) r.1.0;
          snd = record {
            middle = suc m;
            fst = record { here = r.1.1.0; ends = refl };
            snd = record { here = r.1.1.1.0; ends = sym (after_three place value both p) };
          };
        };
      }

  -- and in the list of an iterative group
  string_stands : (target : TypedReference) (e : TypedExpression)
      → Made (place_code target ++ (value_code e ++ op.FitToPlace ∷ op.Store ∷ [])) (stand.StringStands u target e)
  string_stands target e =
      let fits = stand.Is u op.FitToPlace in
      let stores = stand.Is u op.Store in
      joined (place_code target) (value_code e ++ op.FitToPlace ∷ op.Store ∷ []) (stand.PlaceStands u target) (Then (stand.ValueStands u e) (Then fits stores)) (place_stands target)
      (joined (value_code e) (op.FitToPlace ∷ op.Store ∷ []) (stand.ValueStands u e) (Then fits stores) (value_stands e) (before op.FitToPlace (op.Store ∷ []) stores (one op.Store)))

  -- a pointer goes into the target, converted, and is kept till its place is there
  kept_stands : (temporary : ℕ) (target : TypedReference) (conversion : Conversion)
      → Made (op.SetTemporary temporary ∷ (place_code target ++ (op.TakeTemporary temporary ∷ (conversion_code conversion ++ op.Store ∷ []))))
      (Then (stand.Is u (op.SetTemporary temporary)) (Then (stand.PlaceStands u target) (Then (stand.Is u (op.TakeTemporary temporary)) (Then (stand.ConversionStands u conversion) (stand.Is u op.Store)))))
  kept_stands temporary target conversion =
      let take = op.TakeTemporary temporary in
      let convert = conversion_code conversion in
      let converts = stand.ConversionStands u conversion in
      let stores = Then converts (stand.Is u op.Store) in
      let takes = Then (stand.Is u take) stores in
      before (op.SetTemporary temporary) (place_code target ++ (take ∷ (convert ++ op.Store ∷ []))) (Then (stand.PlaceStands u target) takes)
      (joined (place_code target) (take ∷ (convert ++ op.Store ∷ [])) (stand.PlaceStands u target) takes (place_stands target)
      (before take (convert ++ op.Store ∷ []) stores (joined convert (op.Store ∷ []) converts (stand.Is u op.Store) (conversion_stands conversion) (one op.Store))))

  -- an item of ALLOCATE, at its own place
  allocation_stands : (item : AllocatedItem) (c : Context) → KeepsTemporary c.depth c.size item
      → (p : ℕ) → Stand (allocation_code item p) p → stand.AllocationStands u item c p (place_after (allocation_code item p) p)
  allocation_stands (AllocatesControlled number) c apart p h = one (op.AllocateControlled number) p h
  allocation_stands (AllocatesBased template temporary target) c apart p h =
      let take = op.TakeTemporary temporary in
      let stores = Then (stand.Is u take) (stand.Is u op.Store) in
      let placed = Then (stand.PlaceStands u target) stores in (
        record { free = apart.0; room = apart.1 },
        before (op.AllocateBased template) (op.SetTemporary temporary ∷ place_code target ++ take ∷ op.Store ∷ []) (Then (stand.Is u (op.SetTemporary temporary)) placed)
            (before (op.SetTemporary temporary) (place_code target ++ take ∷ op.Store ∷ []) placed
            (joined (place_code target) (take ∷ op.Store ∷ []) (stand.PlaceStands u target) stores (place_stands target) (before take (op.Store ∷ []) (stand.Is u op.Store) (one op.Store)))) p h,
      )
  allocation_stands (AllocatesInArea area template temporary target conversion) c apart p h =
      let allocate = op.AllocateInArea template p in
      let kept = op.SetTemporary temporary ∷ (place_code target ++ (op.TakeTemporary temporary ∷ (conversion_code conversion ++ op.Store ∷ []))) in
      let stores = Then (stand.ConversionStands u conversion) (stand.Is u op.Store) in
      let keeps = Then (stand.Is u (op.SetTemporary temporary)) (Then (stand.PlaceStands u target) (Then (stand.Is u (op.TakeTemporary temporary)) stores)) in (
        record { free = apart.0; room = apart.1 },
        joined (place_code area) (allocate ∷ kept) (stand.PlaceStands u area) (Then (stand.Is u allocate) keeps) (place_stands area) (before allocate kept keeps (kept_stands temporary target conversion)) p h,
      )

  allocations_stand : (items : List AllocatedItem) (c : Context) → AllByRecursion (KeepsTemporary c.depth c.size) items
      → (p : ℕ) → Stand (allocations_code items p) p → stand.AllocationsStand u items c p (place_after (allocations_code items p) p)
  allocations_stand [] c apart p h = refl
  allocations_stand (item ∷ items) c apart p h =
      let code = allocation_code item p in
      let more = allocations_code items (place_after code p) in
      let r = split code more p h in
      record {
        middle = place_after code p;
        fst = allocation_stands item c apart.0 p r.0;
        snd = subst (λ q. stand.AllocationsStand u items c (place_after code p) q) (sym (after_both code more p)) (allocations_stand items c apart.1 (place_after code p) r.1);
      }

  freeing_stands : (item : FreedItem) → Made (freeing_code item) (stand.FreeingStands u item)
  freeing_stands (FreesControlled number) = one (op.FreeControlled number)
  freeing_stands (FreesBased e d) =
      joined (value_code e) (op.FreeBased d ∷ []) (stand.ValueStands u e) (stand.Is u (op.FreeBased d)) (value_stands e) (one (op.FreeBased d))

  freeings_stand : (items : List FreedItem) → Made (freeings_code items) (stand.FreeingsStand u items)
  freeings_stand [] = nothing
  freeings_stand (item ∷ items) =
      joined (freeing_code item) (freeings_code items) (stand.FreeingStands u item) (stand.FreeingsStand u items) (freeing_stands item) (freeings_stand items)

  -- a block's code stands from its entry, and its statements where they are told to
  record Found (there : Option Block) (b : BlockTree) : Type 0 where
    entry : ℕ
    is : there ≡ Some (block_at b entry)
    code : Stand (block_code b entry) entry
    known : AllByRecursion (λ e. statement_place places e.0 ≡ e.1) (places_among b.statements entry)

  abbrev Known : List (ℕ × ℕ) → Type 0
  Known es = AllByRecursion (λ e. statement_place places e.0 ≡ e.1) es

  -- a context in which the loops inside have room
  record Fits (c : Context) : Type 0 where
    most : c.bound ≤ 64
    depth : c.depth ≤ c.size

  later : (is : List Instruction) (p : ℕ) → p ≤ place_after is p
  later [] p = omega arith
  later (i ∷ is) p = let le = later is (suc p) in omega (arith, le)

  deeper_fits : (c : Context) → Fits c → Fits (stand.deeper c)
  deeper_fits c f = let a = f.most in let b = f.depth in record { most = omega (arith, a); depth = omega (arith, b) }

  nests : (c : Context) → Fits c → 2 ≤ c.bound → stand.Nests c
  nests c f two = record { least = two; most = f.most }

  -- a statement's label is where it begins
  starts : (s : TypedStatement) (p : ℕ) → Known (places_in s p) → at (record { unit = unit; number = number_of s }) ≡ p
  starts (Statement number form) p known = lead number ∙ known.0

  -- iterations

  -- a limit on where parts of code end
  first_within : (xs ys : List Instruction) (p n : ℕ) → place_after (xs ++ ys) p ≤ n → place_after xs p ≤ n
  first_within xs ys p n h =
      let e = after_both xs ys p in
      let le = later ys (place_after xs p) in
      omega (arith, e, le, h)

  keeps_stand : (t : ℕ) (es : List TypedExpression) → Made (keeps_code t es) (stand.KeepsStand u t es)
  keeps_stand t [] = nothing
  keeps_stand t (e ∷ es) =
      joined (value_code e) (op.SetTemporary t ∷ keeps_code (suc t) es) (stand.ValueStands u e) (Then (stand.Is u (op.SetTemporary t)) (stand.KeepsStand u (suc t) es)) (value_stands e)
      (before (op.SetTemporary t) (keeps_code (suc t) es) (stand.KeepsStand u (suc t) es) (keeps_stand (suc t) es))

  sets_stand : (i : Iteration) (value : List Instruction) (A : Span) → Made value A → Made (sets_code i value) (stand.SetsStand u i A)
  sets_stand i value A a =
      let conversion = conversion_code i.conversion in
      let converts = stand.ConversionStands u i.conversion in
      let store = stand.Is u op.Store in
      joined (place_code i.control) (value ++ (conversion ++ op.Store ∷ [])) (stand.PlaceStands u i.control) (Then A (Then converts store)) (place_stands i.control)
      (joined value (conversion ++ op.Store ∷ []) A (Then converts store) a (joined conversion (op.Store ∷ []) converts store (conversion_stands i.conversion) (one op.Store)))

  advanced_stands : (i : Iteration) (step : ℕ)
      → Made (place_code i.control ++ op.Load ∷ op.TakeTemporary (i.temporary + step) ∷ op.Operate Add ∷ []) (stand.AdvancedStands u i step)
  advanced_stands i step =
      let take = op.TakeTemporary (i.temporary + step) in
      let add = stand.Is u (op.Operate Add) in
      joined (place_code i.control) (op.Load ∷ take ∷ op.Operate Add ∷ []) (stand.PlaceStands u i.control) (Then (stand.Is u op.Load) (Then (stand.Is u take) add)) (place_stands i.control)
      (before op.Load (take ∷ op.Operate Add ∷ []) (Then (stand.Is u take) add) (before take (op.Operate Add ∷ []) add (one (op.Operate Add))))

  advances_stand : (range : TypedRange) (i : Iteration) → Made (advances_code range i) (stand.AdvancesStand u range i)
  advances_stand Once i = nothing
  advances_stand (ToBy to by) i = sets_stand i _ (stand.AdvancedStands u i 2) (advanced_stands i 2)
  advances_stand (ByTo by to) i = sets_stand i _ (stand.AdvancedStands u i 1) (advanced_stands i 1)
  advances_stand (Repeated next) i =
      joined (place_code i.control) (value_code next ++ op.Store ∷ []) (stand.PlaceStands u i.control) (Then (stand.ValueStands u next) (stand.Is u op.Store)) (place_stands i.control)
      (joined (value_code next) (op.Store ∷ []) (stand.ValueStands u next) (stand.Is u op.Store) (value_stands next) (one op.Store))
  advances_stand (RepeatedString next) i = string_stands i.control next

  -- tests, whose jumps lead to a place that is no earlier
  limit_stands : (i : Iteration) (limit : Option ℕ) (step target p : ℕ) → place_after (guarded (test_against i limit step) target) p ≤ target
      → Stand (guarded (test_against i limit step) target) p → stand.LimitStands u i limit step target p (place_after (guarded (test_against i limit step) target) p)
  limit_stands i None step target p le h = refl
  limit_stands i (Some limit) step target p le h =
      let place = place_code i.control in
      let four = op.Load ∷ op.TakeTemporary (i.temporary + limit) ∷ op.TakeTemporary (i.temporary + step) ∷ op.Operate Within ∷ [] in
      let jump = op.JumpUnless target ∷ [] in
      let r = split (place ++ four) jump p h in
      let s = split place four p r.0 in
      let a = place_after place p in
      let e : place_after (place ++ four) p ≡ suc (suc (suc (suc a))) = after_both place four p in
      record {
        middle = a;
        fst = place_stands i.control p s.0;
        snd = record {
          middle = suc a;
          fst = record { here = s.1.0; ends = refl };
          snd = record {
            middle = suc (suc a);
            fst = record { here = s.1.1.0; ends = refl };
            snd = record {
              middle = suc (suc (suc a));
              fst = record { here = s.1.1.1.0; ends = refl };
              snd = record {
                middle = suc (suc (suc (suc a)));
                fst = record { here = s.1.1.1.1.0; ends = refl };
                snd = record {
                  is = record {
                    here = subst (λ k. performed_at u k ≡ Some (op.JumpUnless target)) e r.1.0;
                    ends = sym (after_both (place ++ four) jump p ∙ ap suc e);
                  };
                  on = le;
                };
              };
            };
          };
        };
      }

  while_stands : (e : Option TypedExpression) (target p : ℕ) → place_after (guarded (while_test e) target) p ≤ target
      → Stand (guarded (while_test e) target) p → stand.WhileStands u e target p (place_after (guarded (while_test e) target) p)
  while_stands None target p le h = refl
  while_stands (Some e) target p le h =
      let jump = op.JumpUnless target ∷ [] in
      let r = split (value_code e) jump p h in
      let is = after_both (value_code e) jump p in
      subst (λ z. stand.ConditionStands u e target p z) (sym is) (test_stands e target p (subst (λ z. z ≤ target) is le) r.0 r.1.0)

  tests_stand : (i : Iteration) (target p : ℕ) → place_after (tests_code i target) p ≤ target → Stand (tests_code i target) p
      → stand.TestStands u i target p (place_after (tests_code i target) p)
  tests_stand i target p le h =
      let limit = guarded (limit_test i) target in
      let condition = guarded (while_test i.condition) target in
      let r = split limit condition p h in
      let is = after_both limit condition p in
      record {
        middle = place_after limit p;
        fst = limit_stands i (limit_number i.range) (step_number i.range) target p (first_within limit condition p target le) r.0;
        snd = subst (λ q. stand.WhileStands u i.condition target (place_after limit p) q) (sym is)
            (while_stands i.condition target (place_after limit p) (subst (λ z. z ≤ target) is le) r.1);
      }

  -- the list of an iteration, with or without turns back
  abbrev Turned : (iterated : Bool) → (list : Context → Span) → Context → Span
  Turned true list c = λ p q. stand.Nests c × list (stand.deeper c) p q
  Turned false list c = list c

  turned : (iterated : Bool) (ss : TypedStatements) (list : Context → Span) (size depth bound p q : ℕ) → bound ≤ 64 → HasTurns iterated bound (λ n. HaveRoom n ss)
      → ((n : ℕ) → n ≤ 64 → HaveRoom n ss → list (record { size = size; depth = depth; bound = n }) p q)
      → Turned iterated list (record { size = size; depth = depth; bound = bound }) p q
  turned true ss list size depth bound p q most room run = (record { least = room.0; most = most }, run (bound - 1) (omega (arith, most)) room.1)
  turned false ss list size depth bound p q most room run = run bound most room

  -- the tests of an iteration, its list, and what leads back
  turns_stand : (iterated : Bool) (i : Iteration) (number : ℕ) (between : List Instruction) (B : Span) → Made between B → (list : Context → Span) (c : Context) (p q finish : ℕ)
      → q ≤ finish → suc (place_after (tests_code i (place_after (back_code iterated number between p) finish)) p) ≡ q
      → Stand (tests_code i (place_after (back_code iterated number between p) finish)) p
      → performed_at u (place_after (tests_code i (place_after (back_code iterated number between p) finish)) p) ≡ Some (op.Step number)
      → Turned iterated list c q finish → Stand (back_code iterated number between p) finish
      → stand.TurnsStand u iterated (stand.TestStands u i) (λ c. Then (stand.Is u (op.Step number)) (list c)) (Then (stand.Is u (op.Line number)) B) c
      p (place_after (back_code iterated number between p) finish)
  turns_stand true i number between B b list c p q finish le e tests step does back =
      let line = op.Line number ∷ between in
      let jump = op.Jump p ∷ [] in
      let out = place_after (line ++ jump) finish in
      let on = later (line ++ jump) finish in
      let r = split line jump finish back in (
        does.0,
        record {
          start = place_after (tests_code i out) p;
          finish = finish;
          after = place_after line finish;
          holds = tests_stand i out p (omega (arith, le, e, on)) tests;
          does = record { middle = q; fst = record { here = step; ends = e }; snd = does.1 };
          does_between = before (op.Line number) between B b finish r.0;
          back = record { here = r.1.0; ends = sym (after_both line jump finish) };
        },
      )
  turns_stand false i number between B b list c p q finish le e tests step does back =
      record {
        start = place_after (tests_code i finish) p;
        holds = tests_stand i finish p (omega (arith, le, e)) tests;
        does = record { middle = q; fst = record { here = step; ends = e }; snd = does };
      }

  -- blocks

  -- of blocks that stand one after the other, each is found by its number
  found : (bs : List BlockTree) (p : ℕ) (get : ℕ → Option Block) → Stand (blocks_code bs p) p → ((i : ℕ) → get i ≡ slice_get (blocks_at bs p) i)
      → Known (places_of bs p) → (i : ℕ) (b : BlockTree) → slice_get bs i ≡ Some b → Found (get i) b
  found [] p get h same known i b e = absurd (cc)
  found (x ∷ bs) p get h same known zero b e =
      let r = split (block_code x p) (blocks_code bs (place_after (block_code x p) p)) p h in
      subst (λ b. Found (get 0) b) (ap (or_else x) e)
      (record { entry = p; is = same 0; code = r.0; known = all_front (λ e. statement_place places e.0 ≡ e.1) (places_among x.statements p) (places_of bs (place_after (block_code x p) p)) known })
  found (x ∷ bs) p get h same known (suc i) b e =
      let q = place_after (block_code x p) p in
      let r = split (block_code x p) (blocks_code bs q) p h in
      found bs q (λ i. get (suc i)) r.1 (λ i. same (suc i)) (all_back (λ e. statement_place places e.0 ≡ e.1) (places_among x.statements p) (places_of bs q) known) i b e

  end_stands : (end : Option ℕ) → Made (end_code end) (stand.EndStands u unit at end)
  end_stands None = one (op.Return 0)
  end_stands (Some s) = before (op.Line s) (op.Raise NoReturnedValue ∷ []) (stand.Is u (op.Raise NoReturnedValue)) (one (op.Raise NoReturnedValue))

  -- code that a unit has from a place on
  stand_all : (is : List Instruction) (p : ℕ) → ((k : ℕ) → performed_at u (p + k) ≡ slice_get (map (with_target places) is) k) → Stand is p
  stand_all [] p h = tt
  stand_all (i ∷ is) p h =
      let here : p ≡ p + 0 = omega arith in
      let next : (k : ℕ) → suc p + k ≡ p + suc k = λ k. omega arith in
      (ap (performed_at u) here ∙ h 0, stand_all is (suc p) (λ k. ap (performed_at u) (next k) ∙ h (suc k)))

  -- among all blocks of a unit, each of which is found by its number
  module _ (all : List BlockTree) (find : (i : ℕ) (b : BlockTree) → slice_get all i ≡ Some b → Found (slice_get u.blocks i) b) where
    -- among all blocks, one that stands, has room for its loops, keeps the temporaries of its iterations apart and names
    -- ON-units of its own
    abbrev Placed : BlockTree → Type 0
    Placed b =
        Found (slice_get u.blocks b.head.number) b
        × (HaveRoom 64 b.statements × (KeepApart 0 b.head.temporaries b.statements × NameUnits all b.head.number b.statements))

    abbrev AllPlaced : List BlockTree → Type 0
    AllPlaced bs = AllByRecursion Placed bs

    -- an ON-unit that ON names
    on_stands : (condition : Condition) (number block : ℕ) → IsOnUnitIn all block number → Made (op.On condition number ∷ []) (stand.OnStands u condition number block)
    on_stands condition number block is p h =
        let found = find number is.tree is.there in
        record {
          establishes = record { here = h.0; ends = refl };
          block = block_at is.tree found.entry;
          there = found.is;
          suits = ap (λ k. is_on_unit k && nat_eq is.tree.parameters 0) is.kind ∙ ap (λ n. nat_eq n 0) is.parameters;
          around = is.parent;
        }

    mutual
      statement_stands : (s : TypedStatement) (block : ℕ) (c : Context) → Fits c → HasRoom c.bound s → KeepsApart c.depth c.size s → NamesOnUnits all block s → AllPlaced (blocks_in block s)
          → (p : ℕ) → Known (places_in s p) → Stand (statement_code s p) p → stand.StatementStands u unit at block s c p (place_after (statement_code s p) p)
      statement_stands (Statement number form) block c fits room apart units inner p known h =
          record { middle = suc p; fst = record { here = h.0; ends = refl }; snd = form_stands form number block c fits room apart units inner (suc p) known.1 h.1 }

      form_stands : (form : Form) (number block : ℕ) (c : Context) → Fits c → HasRoom c.bound (Statement number form) → KeepsApart c.depth c.size (Statement number form) → NamesUnitsForm all block form → AllPlaced (blocks_of_form block form)
          → (p : ℕ) → Known (places_in_form form p) → Stand (form_code number form p) p → stand.FormStands u unit at block number form c p (place_after (form_code number form p) p)
      form_stands Null number block c fits room apart units inner p known h = refl
      form_stands (Assign target e) number block c fits room apart units inner p known h =
          two_parts (place_code target) (value_code e) op.Store (stand.PlaceStands u target) (stand.ValueStands u e) (place_stands target) (value_stands e) p h
      form_stands (AssignString target e) number block c fits room apart units inner p known h = fitted_stands target e p h
      form_stands (AssignAggregate target source) number block c fits room apart units inner p known h =
          two_parts (place_code target) (place_code source) op.Copy (stand.PlaceStands u target) (stand.PlaceStands u source) (place_stands target) (place_stands source) p h
      form_stands (AssignArea target source) number block c fits room apart units inner p known h =
          two_parts (place_code target) (place_code source) op.AssignArea (stand.PlaceStands u target) (stand.PlaceStands u source) (place_stands target) (place_stands source) p h
      form_stands (EmptyArea target) number block c fits room apart units inner p known h =
          joined (place_code target) (op.EmptyArea ∷ []) (stand.PlaceStands u target) (stand.Is u op.EmptyArea) (place_stands target) (one op.EmptyArea) p h
      form_stands (Put skip items) number block c fits room apart units inner p known h =
          joined (skip_code skip) (items_code items) (stand.SkipStands u skip) (stand.ItemsStand u items) (skip_stands skip) (items_stand items) p h
      form_stands (Allocate items) number block c fits room apart units inner p known h = allocations_stand items c apart p h
      form_stands (Free items) number block c fits room apart units inner p known h = freeings_stand items p h
      form_stands (If e consequence NoElse) number block c fits room apart units inner p known h =
          let q = suc (place_after (value_code e) p) in
          let part = statement_code consequence q in
          let r = split (value_code e) (op.JumpUnless (place_after part q) ∷ part) p h in
          subst (λ z. stand.IfStands u unit at block (stand.ConditionStands u e) (stand.StatementStands u unit at block consequence c) NoElse c p z)
          (sym (after_both (value_code e) (op.JumpUnless (place_after part q) ∷ part) p))
          (record {
            start = q;
            holds = test_stands e (place_after part q) p (later part q) r.0 r.1.0;
            does = statement_stands consequence block c fits room.0 apart.0 units.0 (all_front Placed (blocks_in block consequence) [] inner) q
                (all_front (λ e. statement_place places e.0 ≡ e.1) (places_in consequence q) [] known) r.1.1;
          })
      form_stands (If e consequence (Else other)) number block c fits room apart units inner p known h =
          let q = suc (place_after (value_code e) p) in
          let part = statement_code consequence q in
          let t = suc (place_after part q) in
          let code = statement_code other t in
          let z = place_after code t in
          let r = split_three (value_code e) (op.JumpUnless t ∷ part) (op.Jump z ∷ code) p h in
          subst (λ z. stand.IfStands u unit at block (stand.ConditionStands u e) (stand.StatementStands u unit at block consequence c) (Else other) c p z)
          (sym (after_three (value_code e) (op.JumpUnless t ∷ part) (op.Jump z ∷ code) p))
          (record {
            start = q;
            finish = place_after part q;
            target = t;
            holds = test_stands e t p (let le = later part q in omega (arith, le)) r.0 r.1.0.0;
            does = statement_stands consequence block c fits room.0 apart.0 units.0 (all_front Placed (blocks_in block consequence) (blocks_in block other) inner) q
                (all_front (λ e. statement_place places e.0 ≡ e.1) (places_in consequence q) (places_in other t) known) r.1.0.1;
            over = record { is = record { here = r.1.1.0; ends = refl }; on = later code t };
            does_other = statement_stands other block c fits room.1 apart.1 units.1 (all_back Placed (blocks_in block consequence) (blocks_in block other) inner) t
                (all_back (λ e. statement_place places e.0 ≡ e.1) (places_in consequence q) (places_in other t) known) r.1.1.1;
          })
      form_stands (Begin head statements) number block c fits room apart units inner p known h =
          let b = begin_block block head statements in
          let f = inner.0.0 in
          let r = split (list_code statements f.entry) (op.Return 0 ∷ []) f.entry f.code in
          record {
            begins = record { here = h.0; ends = refl };
            block = record {
              entry = f.entry;
              there = f.is;
              bound = 64;
              some = omega arith;
              finish = place_after (list_code statements f.entry) f.entry;
              after = suc (place_after (list_code statements f.entry) f.entry);
              does = list_stands statements head.number (record { size = head.temporaries; depth = 0; bound = 64 }) (record { most = omega arith; depth = omega arith })
                  inner.0.1.0 inner.0.1.1.0 inner.0.1.1.1 inner.1 f.entry f.known r.0;
              ends = record { here = r.1.0; ends = refl };
            };
          }
      form_stands (Group statements) number block c fits room apart units inner p known h = list_stands statements block c fits room apart units inner p known h
      form_stands (While e statements) number block c fits room apart units inner p known h =
          let q = suc (suc (place_after (value_code e) (suc p))) in
          let code = list_code statements q in
          let z = suc (place_after code q) in
          let r = split_three (op.Line number ∷ value_code e) (op.JumpUnless z ∷ op.Step number ∷ code) (op.Jump p ∷ []) p h in
          subst (λ z. stand.FormStands u unit at block number (While e statements) c p z)
          (sym (after_three (op.Line number ∷ value_code e) (op.JumpUnless z ∷ op.Step number ∷ code) (op.Jump p ∷ []) p)) (
            nests c fits room.0,
            record {
              start = suc (place_after (value_code e) (suc p));
              finish = place_after code q;
              after = place_after code q;
              holds = record {
                middle = suc p;
                fst = record { here = r.0.0; ends = refl };
                snd = test_stands e z (suc p) (let le = later code q in omega (arith, le)) r.0.1 r.1.0.0;
              };
              does = record {
                middle = q;
                fst = record { here = r.1.0.1.0; ends = refl };
                snd = list_stands statements block (stand.deeper c) (deeper_fits c fits) room.1 apart units inner q known r.1.0.1.1;
              };
              does_between = refl;
              back = record { here = r.1.1.0; ends = refl };
            },
          )
      form_stands (Iterate i statements) number block c fits room apart units inner p known h =
          let turn = turn_place i p in
          let q = list_place i p in
          let code = list_code statements q in
          let between = advances_code i.range i in
          let back = back_code (is_iterated i.range) number between turn in
          let out = place_after back (place_after code q) in
          let tests = tests_code i out in
          let keeps = keeps_code i.temporary (i.start ∷ kept_by i.range) in
          let sets = sets_code i (op.TakeTemporary i.temporary ∷ []) in
          let take = stand.Is u (op.TakeTemporary i.temporary) in
          let r = split_three (start_code i) tests (op.Step number ∷ (code ++ back)) p h in
          let s = split keeps sets p r.0 in
          let e : suc (place_after tests turn) ≡ q = ap suc (tests_length i out 0 turn) in
          let l = split code back q (subst (λ k. Stand (code ++ back) k) e r.1.1.1) in
          let next = next_temporary i in
          subst (λ z. stand.FormStands u unit at block number (Iterate i statements) c p z) (sym (iterate_ends number i (list_code statements) p)) (
            record { free = apart.0; room = apart.1 },
            record {
              middle = place_after keeps p;
              fst = keeps_stand i.temporary (i.start ∷ kept_by i.range) p s.0;
              snd = record {
                middle = turn;
                fst = subst (λ z. stand.SetsStand u i take (place_after keeps p) z) (sym (after_both keeps sets p))
                    (sets_stand i (op.TakeTemporary i.temporary ∷ []) take (one (op.TakeTemporary i.temporary)) (place_after keeps p) s.1);
                snd = turns_stand (is_iterated i.range) i number between (stand.AdvancesStand u i.range i) (advances_stand i.range i) (stand.ListStands u unit at block statements)
                    (stand.using next c) turn q (place_after code q) (later code q) e r.1.0 r.1.1.0
                    (turned (is_iterated i.range) statements (stand.ListStands u unit at block statements) c.size next c.bound q (place_after code q) fits.most room
                    (λ n most space. list_stands statements block (record { size = c.size; depth = next; bound = n }) (record { most = most; depth = apart.1 }) space apart.2 units inner q known l.0))
                    l.1;
              };
            },
          )
      form_stands (Call callee args) number block c fits room apart units inner p known h = call_stands callee args (arguments_stand args) p h
      form_stands (Goto outward label) number block c fits room apart units inner p known h =
          subst (λ k. stand.Is u (op.Goto outward k) p (suc p)) (sym (lead label)) (one (op.Goto outward label) p h)
      form_stands (Return outward) number block c fits room apart units inner p known h = one (op.Return outward) p h
      form_stands (ReturnValue outward e) number block c fits room apart units inner p known h =
          joined (value_code e) (op.ReturnValue outward ∷ []) (stand.ValueStands u e) (stand.Is u (op.ReturnValue outward)) (value_stands e) (one (op.ReturnValue outward)) p h
      form_stands Stop number block c fits room apart units inner p known h = one op.Stop p h
      form_stands (On condition unit_block) number block c fits room apart units inner p known h = on_stands condition unit_block block units p h
      form_stands (Revert condition) number block c fits room apart units inner p known h = one (op.Revert condition) p h
      form_stands (Signal condition) number block c fits room apart units inner p known h = one (op.Signal condition) p h

      list_stands : (ss : TypedStatements) (block : ℕ) (c : Context) → Fits c → HaveRoom c.bound ss → KeepApart c.depth c.size ss → NameUnits all block ss → AllPlaced (blocks_among block ss)
          → (p : ℕ) → Known (places_among ss p) → Stand (list_code ss p) p → stand.ListStands u unit at block ss c p (place_after (list_code ss p) p)
      list_stands NoStatement block c fits room apart units inner p known h = refl
      list_stands (StatementThen s more) block c fits room apart units inner p known h =
          let code = statement_code s p in
          let q = place_after code p in
          let r = split code (list_code more q) p h in (
            starts s p (all_front (λ e. statement_place places e.0 ≡ e.1) (places_in s p) (places_among more q) known),
            record {
              middle = q;
              fst = statement_stands s block c fits room.0 apart.0 units.0 (all_front Placed (blocks_in block s) (blocks_among block more) inner) p
                  (all_front (λ e. statement_place places e.0 ≡ e.1) (places_in s p) (places_among more q) known) r.0;
              snd = subst (λ z. stand.ListStands u unit at block more c q z) (sym (after_both code (list_code more q) p))
                  (list_stands more block c fits room.1 apart.1 units.1 (all_back Placed (blocks_in block s) (blocks_among block more) inner) q
                  (all_back (λ e. statement_place places e.0 ≡ e.1) (places_in s p) (places_among more q) known) r.1);
            },
          )

    procedure_stands : (f : TypedProcedure) → AllPlaced (blocks_of_procedure f) → stand.ProcedureStands u unit at f
    procedure_stands f inner =
        let b = inner.0.0 in
        let r = split (list_code f.statements b.entry) (end_code f.function_end) b.entry b.code in
        let finish = place_after (list_code f.statements b.entry) b.entry in
        record {
          entry = b.entry;
          there = b.is;
          bound = 64;
          some = omega arith;
          finish = finish;
          after = place_after (end_code f.function_end) finish;
          does = list_stands f.statements f.head.number (record { size = f.head.temporaries; depth = 0; bound = 64 }) (record { most = omega arith; depth = omega arith }) inner.0.1.0 inner.0.1.1.0 inner.0.1.1.1 inner.1 b.entry b.known r.0;
          ends = end_stands f.function_end finish r.1;
        }

    procedures_stand : (fs : List TypedProcedure) → AllPlaced (flat_map blocks_of_procedure fs) → stand.ProceduresStand u unit at fs
    procedures_stand [] inner = tt
    procedures_stand (f ∷ fs) inner = (
      procedure_stands f (all_front Placed (blocks_of_procedure f) (flat_map blocks_of_procedure fs) inner),
      procedures_stand fs (all_back Placed (blocks_of_procedure f) (flat_map blocks_of_procedure fs) inner),
    )

    -- blocks that are found, have room and name ON-units
    all_placed : (bs : List BlockTree) → AllByRecursion (λ b. slice_get all b.head.number ≡ Some b) bs → AllByRecursion (λ b. HaveRoom 64 b.statements) bs
        → AllByRecursion (λ b. KeepApart 0 b.head.temporaries b.statements) bs → AllByRecursion (λ b. NameUnits all b.head.number b.statements) bs → AllPlaced bs
    all_placed [] numbers rooms apart units = tt
    all_placed (b ∷ bs) numbers rooms apart units = ((find b.head.number b numbers.0, (rooms.0, (apart.0, units.0))), all_placed bs numbers.1 rooms.1 apart.1 units.1)

-- the globals of a unit with these links
globals_stand : (program : List TypedUnit) (names : List Name) (gs : List Global) (links : List ℕ) → AreLinks program names gs links
    → stand.GlobalsStand program names gs (globals_code gs links)
globals_stand program names [] [] h = tt
globals_stand program names [] (n ∷ ns) h = absurd h
globals_stand program names (OwnVariable kind t ∷ gs) links h = (refl, globals_stand program names gs links h)
globals_stand program names (ExternalVariable name kind t ∷ gs) [] h = absurd h
globals_stand program names (ExternalVariable name kind t ∷ gs) (n ∷ ns) h =
    (record { external = n; is = refl; named = h.0 }, globals_stand program names gs ns h.1)
globals_stand program names (EntryPoint name s ∷ gs) [] h = absurd h
globals_stand program names (EntryPoint name s ∷ gs) (n ∷ ns) h =
    (record { unit = n; is = refl; named = h.0 }, globals_stand program names gs ns h.1)

pub unit_stands : (program : List TypedUnit) (names : List Name) (at : Label → ℕ) (unit : ℕ) (t : TypedUnit) (links : List ℕ) → IsWellNumbered t → AreLinks program names t.globals links
    → Lead at unit (places_of (blocks_of t) 0) → UnitStands program names at unit t (unit_code t links)
unit_stands program names at unit t links well linked lead =
    let bs = blocks_of t in
    let places = places_of bs 0 in
    let u = unit_code t links in
    let code = blocks_code bs 0 in
    let zero_and : (k : ℕ) → 0 + k ≡ k = λ k. omega arith in
    let all = stand_all u places unit at lead code 0 (λ k. ap (performed_at u) (zero_and k) ∙ each_there (instructions_of bs) k) in
    let find = found u places unit at lead bs 0 (slice_get u.blocks) all (λ i. refl) (each_has_its_place places (subst AreDistinct (sym (numbered_blocks bs 0)) well.statements)) in
    record {
      names = refl;
      globals = globals_stand program names t.globals links linked;
      procedures = procedures_stand u places unit at lead bs find t.procedures
          (all_placed u places unit at lead bs find (flat_map blocks_of_procedure t.procedures) well.blocks well.loops well.temporaries well.units);
    }
