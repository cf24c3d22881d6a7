-- The machine does what expressions and references mean, for any operands and frames beneath.
use Rattle.std.specs.Prelude.{◌≡◌, ℕ, suc, ℤ, pos, ◌+◌, Option, Some, None, List, [], ◌∷◌, length, map, slice_get, refl}
use Rattle.std.proofs.Common.{ap, ◌∙◌, sym, subst, arith}
use Rattle.pli_operation.specs.Operations.{Misfits, arity, calculated, fitted_to}
use Rattle.pli_map.specs.Description.{Description}
use Rattle.pli_world.specs.Storage.{Place}
use Rattle.pli_world.specs.World.{World, Answer, held, slot_place, static_place, subscripted, calculation}
use Rattle.pli_world.specs.Strings.{string_dummy_of, subscripted_by, bound_of_place}
use Rattle.pli_world.specs.World.{dummy_of, led_on}
use Rattle.pli_world.specs.Locating.{place_by, address_of, offset_made, pointer_within}
use Rattle.pli_world.specs.Stacks.{generations_counted}
use Rattle.pli_value.specs.Value.{Value, Number, Characters, Bits, Located as LocatorValue}
use Rattle.pli_program.specs.declared.instruction.Instruction.TheVariants as op
use Rattle.pli_program.specs.Program.{UnitCode, Program}
use Rattle.pli_machine_step.specs.Machine.{Operand, OfValue, AtPlace, AtDummy, Locals, Frame, At, values_off, places_off, operated, act, resume}
use Rattle.pli_type_tree.specs.TypedOperations.{comes_to}
use Rattle.pli_type_tree.specs.TypedTree.{TypedOperation, Fit, Operate, Root, InSlot, OfProgram, NewestOf, Located, Callee, TypedExpression, Literal, Held, Calculated, Called, Generations, Address, AsPointer, AsOffset, Bounded, TypedReference, Whole, Part, ElementOf, Operands, NoOperand, OperandThen, Subscripts, NoSubscript, SubscriptThen, TypedArguments, NoArgument, ByPlace, ByDummy, ByString}
use Rattle.pli_meaning_tree.specs.Effects.{Label, Doing, answered}
use Rattle.pli_meaning_tree.specs.TreeMeaning as meaning
use Rattle.pli_meaning_tree.specs.TreeMeaning.{Calls, in_order, root_place, value_of, place_of, element_at, element_by, called_with}
use Rattle.pli_meaning_tree.specs.Parts.{resolved, a_value, element_of, dimension_of}
use Rattle.pli_meaning_simulation.specs.CodeStands.{Then, Context, arguments_in, call_of, operation_code, Is, RootStands, ValueStands, OperandsStand, PlaceStands, SubscriptsStand, DimensionsStand, ArgumentsStand}
use Rattle.pli_meaning_simulation.proofs.ReachesLemmas.{Fine, Comes, stays, frame, pushes, returns, Reaches, gives, then_reaches, bound, goes, answers}
use Rattle.pli_meaning_simulation.proofs.ConditionsReach.{RaisesRun, resolved_run}
use Rattle.pli_meaning_simulation.proofs.Arity.{Arity, Full, Misfit, full_or_misfit}

-- operands of which the last stands first, above others
abbrev pub values_above : List Value → List Operand → List Operand
values_above [] ops = ops
values_above (v ∷ vs) ops = OfValue v ∷ values_above vs ops

-- an argument among the operands: where a reference leads, or where a dummy argument is
pub data Argument : Type 0 where
  OfReference : (place : Place) → Argument
  OfDummy : (place : Place) → Argument

-- the operand that it is, and its place
abbrev pub given_operand : Argument → Operand
given_operand (OfReference p) = AtPlace p
given_operand (OfDummy p) = AtDummy p

abbrev pub given_place : Argument → Place
given_place (OfReference p) = p
given_place (OfDummy p) = p

abbrev pub given_places : List Argument → List Place
given_places gs = map given_place gs

abbrev pub arguments_above : List Argument → List Operand → List Operand
arguments_above [] ops = ops
arguments_above (g ∷ gs) ops = given_operand g ∷ arguments_above gs ops

values_come_off : (vs after : List Value) (ops : List Operand) → values_off (length vs) after (values_above vs ops) ≡ Some (in_order vs after, ops)
values_come_off [] after ops = refl
values_come_off (v ∷ vs) after ops = values_come_off vs (v ∷ after) ops

pub places_come_off : (gs : List Argument) (after : List Place) (ops : List Operand)
    → places_off (length gs) after (arguments_above gs ops) ≡ Some (in_order (given_places gs) after, ops)
places_come_off [] after ops = refl
places_come_off (OfReference p ∷ gs) after ops = places_come_off gs (p ∷ after) ops
places_come_off (OfDummy p ∷ gs) after ops = places_come_off gs (p ∷ after) ops

pub as_long : {A : Type 0} (xs after : List A) → length (in_order xs after) ≡ length xs + length after
as_long [] after = omega arith
as_long (x ∷ xs) after = let e = as_long xs (x ∷ after) in omega arith

-- more values than one are not fitted
many_misfit : (greatest : ℕ) (d : Description) (vs : List Value) (v w : Value) (after : List Value) → comes_to greatest (Fit d) (in_order vs (v ∷ w ∷ after)) ≡ Misfits
many_misfit greatest d [] v w after = refl
many_misfit greatest d (x ∷ vs) v w after = many_misfit greatest d vs x v (w ∷ after)

module _ (p : Program) (number : ℕ) (u : UnitCode) (at : Label → ℕ) where
  -- a call does what it means, from its instruction on; and so does a condition that is raised
  pub record CallsRun (call : Calls) : Type 0 where
    pub procedure :
        (callee : Callee) (before : List Argument) (c : Context) (b : ℕ) (ops : List Operand) (l : Locals) (fs : List Frame) → Fine c l → (w : World) (left : ℕ)
        → Reaches p number u at c (resume (act p u (Some (call_of callee (length before))) (frame p number u b (arguments_above before ops) l) fs w) left) l
        (returns p number u b ops fs) fs (call.procedure callee (in_order (given_places before) []) w left)
    pub conditions : RaisesRun p number u at call.condition

  module _ (there : slice_get p.units number ≡ Some u) (call : Calls) (calls_run : CallsRun call) (c : Context) where
    -- what a thing pushes when it stands from a to b
    abbrev Pushes : {A : Type 0} → (A → Operand) → Doing A → (a b : ℕ) → Type 0
    Pushes f go a b =
        (ops : List Operand) (l : Locals) → Fine c l → (fs : List Frame) (w : World) (left : ℕ)
        → Reaches p number u at c (At (frame p number u a ops l) fs w left) l (pushes p number u f b ops fs) fs (go w left)

    subscript_run : (low high : ℤ) (multiplier : ℕ) {a b : ℕ} → Is u (op.Subscript low high multiplier) a b → (q : Place) (v : Value) (ops : List Operand) (l : Locals) → Fine c l
        → (fs : List Frame) (w : World) (left : ℕ)
        → Reaches p number u at c (At (frame p number u a (OfValue v ∷ AtPlace q ∷ ops) l) fs w left) l (pushes p number u AtPlace b ops fs) fs (element_of low high multiplier q v w left)
    subscript_run low high multiplier is q (Number x) ops l fine fs w left =
        answers p number u at there (λ x. AtPlace x ∷ ops) (subscripted low high multiplier x q w) is fine w left refl
    subscript_run low high multiplier is q (Characters text) ops l fine fs w left = record { by = tt }
    subscript_run low high multiplier is q (Bits bits) ops l fine fs w left = record { by = tt }
    subscript_run low high multiplier is q (LocatorValue a) ops l fine fs w left = record { by = tt }

    dimension_run : (dimension : ℕ) {a b : ℕ} → Is u (op.SubscriptIn dimension) a b → (q : Place) (v : Value) (ops : List Operand) (l : Locals) → Fine c l → (fs : List Frame) (w : World) (left : ℕ)
        → Reaches p number u at c (At (frame p number u a (OfValue v ∷ AtPlace q ∷ ops) l) fs w left) l (pushes p number u AtPlace b ops fs) fs (dimension_of dimension q v w left)
    dimension_run dimension is q (Number x) ops l fine fs w left = answers p number u at there (λ x. AtPlace x ∷ ops) (subscripted_by dimension x q w) is fine w left refl
    dimension_run dimension is q (Characters text) ops l fine fs w left = record { by = tt }
    dimension_run dimension is q (Bits bits) ops l fine fs w left = record { by = tt }
    dimension_run dimension is q (LocatorValue a) ops l fine fs w left = record { by = tt }

    -- an operation on what lies above
    pub operation_run : (operation : TypedOperation) {a b : ℕ} → Is u (operation_code operation) a b → (before : List Value) (ops : List Operand) (l : Locals) → Fine c l
        → (fs : List Frame) (w : World) (left : ℕ)
        → Reaches p number u at c (At (frame p number u a (values_above before ops) l) fs w left) l (pushes p number u OfValue b ops fs) fs
        (resolved call.condition (Number (pos 0)) (calculation (comes_to p.greatest operation (in_order before [])) w) left)
    operation_run (Fit d) is [] ops l fine fs w left = record { by = tt }
    operation_run (Fit d) is (v ∷ []) ops l fine fs w left =
        resolved_run p number u at call.condition calls_run.conditions there (λ x. OfValue x ∷ ops) (Number (pos 0)) (calculation (fitted_to d v) w) is fine w left refl
    operation_run (Fit d) {a} {b} is (v ∷ x ∷ before) ops l fine fs w left =
        subst (λ c2. Reaches p number u at c (At (frame p number u a (values_above (v ∷ x ∷ before) ops) l) fs w left) l (pushes p number u OfValue b ops fs) fs (resolved call.condition (Number (pos 0)) (calculation c2 w) left))
        (sym (many_misfit p.greatest d before x v [])) (record { by = tt })
    operation_run (Operate operation) {a} {b} is before ops l fine fs w left = by (full_or_misfit p.greatest operation (in_order before []))
      where
        o : Answer Value
        o = calculation (calculated p.greatest operation (in_order before [])) w

        by : Arity p.greatest operation (in_order before [])
            → Reaches p number u at c (At (frame p number u a (values_above before ops) l) fs w left) l (pushes p number u OfValue b ops fs) fs (resolved call.condition (Number (pos 0)) o left)
        by (Full e) =
            let n : length before ≡ arity operation = let f = as_long before [] in omega arith in
            resolved_run p number u at call.condition calls_run.conditions there (λ x. OfValue x ∷ ops) (Number (pos 0)) o is fine w left
            (ap (λ k. operated p operation (values_off k [] (values_above before ops)) (frame p number u b (values_above before ops) l) fs w) (sym n)
            ∙ ap (λ t. operated p operation t (frame p number u b (values_above before ops) l) fs w) (values_come_off before [] ops))
        by (Misfit e) =
            subst (λ x. Reaches p number u at c (At (frame p number u a (values_above before ops) l) fs w left) l (pushes p number u OfValue b ops fs) fs (resolved call.condition (Number (pos 0)) (calculation x w) left)) (sym e) (record { by = tt })

    value_given : (v : Option Value) {b : ℕ} (ops : List Operand) (l : Locals) → Fine c l → (fs : List Frame) (w : World) (left : ℕ)
        → Reaches p number u at c (returns p number u b ops fs l v w left) l (pushes p number u OfValue b ops fs) fs (a_value v w left)
    value_given None ops l fine fs w left = record { by = tt }
    value_given (Some v) {b} ops l fine fs w left = gives p number u at v w left fine (stays p (At (frame p number u b (OfValue v ∷ ops) l) fs w left))

    mutual
      pub value_run : (e : TypedExpression) {a b : ℕ} → ValueStands u e a b → Pushes OfValue (value_of p.greatest call e) a b
      value_run (Literal v) is ops l fine fs w left = gives p number u at v w left fine (goes p number u at there is refl)
      value_run (Held r) is ops l fine fs w left =
          bound p number u at (place_of p.greatest call r w left) _ (place_run r is.fst ops l fine fs w left)
          (λ m k q w left. answers p number u at there (λ v. OfValue v ∷ ops) (held q w) is.snd k.fine w left refl)
      value_run (Calculated operation operands) is ops l fine fs w left = operated_run operands operation is [] ops l fine fs w left
      value_run (Called callee arguments) {a} {b} is ops l fine fs w left =
          bound p number u at {to = returns p number u b ops fs} (called_with p.greatest call callee arguments [] w left) _
          (called_run arguments callee (arguments_in arguments) is [] (omega arith) ops l fine fs w left)
          (λ m k v w left. value_given v ops m k.fine fs w left)
      value_run (Generations n) is ops l fine fs w left =
          resolved_run p number u at call.condition calls_run.conditions there (λ v. OfValue v ∷ ops) (Number (pos 0)) (generations_counted n w) is fine w left refl
      value_run (Address r) is ops l fine fs w left =
          bound p number u at (place_of p.greatest call r w left) _ (place_run r is.fst ops l fine fs w left)
          (λ m k q w left. answers p number u at there (λ v. OfValue v ∷ ops) (address_of q w) is.snd k.fine w left refl)
      value_run (AsPointer area e) is ops l fine fs w left =
          bound p number u at (value_of p.greatest call e w left) _ (value_run e is.fst ops l fine fs w left)
          (λ m k v w left. bound p number u at (place_of p.greatest call area w left) _ (place_run area is.snd.fst (OfValue v ∷ ops) m k.fine fs w left)
          (λ m k q w left. answers p number u at there (λ x. OfValue x ∷ ops) (pointer_within q v w) is.snd.snd k.fine w left refl))
      value_run (AsOffset area e) is ops l fine fs w left =
          bound p number u at (value_of p.greatest call e w left) _ (value_run e is.fst ops l fine fs w left)
          (λ m k v w left. bound p number u at (place_of p.greatest call area w left) _ (place_run area is.snd.fst (OfValue v ∷ ops) m k.fine fs w left)
          (λ m k q w left. answers p number u at there (λ x. OfValue x ∷ ops) (offset_made q v w) is.snd.snd k.fine w left refl))
      value_run (Bounded which dimension r) is ops l fine fs w left =
          bound p number u at (place_of p.greatest call r w left) _ (place_run r is.fst ops l fine fs w left)
          (λ m k q w left. answers p number u at there (λ v. OfValue v ∷ ops) (bound_of_place which dimension q w) is.snd k.fine w left refl)

      pub operated_run : (operands : Operands) (operation : TypedOperation) {a b : ℕ} → Then (OperandsStand u operands) (Is u (operation_code operation)) a b
          → (before : List Value) (ops : List Operand) (l : Locals) → Fine c l → (fs : List Frame) (w : World) (left : ℕ)
          → Reaches p number u at c (At (frame p number u a (values_above before ops) l) fs w left) l (pushes p number u OfValue b ops fs) fs
          (meaning.operated p.greatest call operation operands before w left)
      operated_run NoOperand operation {a} {b} is before ops l fine fs w left =
          operation_run operation (subst (λ q. Is u (operation_code operation) q b) (sym is.fst) is.snd) before ops l fine fs w left
      operated_run (OperandThen e more) operation is before ops l fine fs w left =
          bound p number u at (value_of p.greatest call e w left) _ (value_run e is.fst.fst (values_above before ops) l fine fs w left)
          (λ m k v w left. operated_run more operation (record { middle = is.middle; fst = is.fst.snd; snd = is.snd }) (v ∷ before) ops m k.fine fs w left)

      root_run : (r : Root) {a b : ℕ} → RootStands u r a b → Pushes AtPlace (root_place p.greatest call r) a b
      root_run (InSlot outward slot) is ops l fine fs w left = answers p number u at there (λ x. AtPlace x ∷ ops) (slot_place outward slot w) is fine w left refl
      root_run (OfProgram n) is ops l fine fs w left = answers p number u at there (λ x. AtPlace x ∷ ops) (static_place n w) is fine w left refl
      root_run (NewestOf n) is ops l fine fs w left = answers p number u at there (λ x. AtPlace x ∷ ops) (static_place n w) is fine w left refl
      root_run (Located e d) is ops l fine fs w left =
          bound p number u at (value_of p.greatest call e w left) _ (value_run e is.fst ops l fine fs w left)
          (λ m k v w left. answers p number u at there (λ x. AtPlace x ∷ ops) (place_by d v w) is.snd k.fine w left refl)

      pub place_run : (r : TypedReference) {a b : ℕ} → PlaceStands u r a b → Pushes AtPlace (place_of p.greatest call r) a b
      place_run (Whole root) is ops l fine fs w left = root_run root is ops l fine fs w left
      place_run (Part root offset d subscripts) is ops l fine fs w left =
          bound p number u at (root_place p.greatest call root w left) _ (root_run root is.fst ops l fine fs w left)
          (λ m k q w left. bound p number u at (answered (led_on offset d q w) left) _
          (answers p number u at there (λ x. AtPlace x ∷ ops) (led_on offset d q w) is.snd.fst k.fine w left refl)
          (λ m k q w left. element_run subscripts is.snd.snd q ops m k.fine fs w left))
      place_run (ElementOf root subscripts) is ops l fine fs w left =
          bound p number u at (root_place p.greatest call root w left) _ (root_run root is.fst ops l fine fs w left)
          (λ m k q w left. element_by_run subscripts 1 is.snd q ops m k.fine fs w left)

      pub element_run : (subscripts : Subscripts) {a b : ℕ} → SubscriptsStand u subscripts a b → (q : Place) (ops : List Operand) (l : Locals) → Fine c l
          → (fs : List Frame) (w : World) (left : ℕ)
          → Reaches p number u at c (At (frame p number u a (AtPlace q ∷ ops) l) fs w left) l (pushes p number u AtPlace b ops fs) fs (element_at p.greatest call subscripts q w left)
      element_run NoSubscript {a} {b} is q ops l fine fs w left =
          gives p number u at q w left fine
          (subst (λ m. Comes p (At (frame p number u a (AtPlace q ∷ ops) l) fs w left) (At (frame p number u m (AtPlace q ∷ ops) l) fs w left)) is (stays p _))
      element_run (SubscriptThen s e more) is q ops l fine fs w left =
          bound p number u at (value_of p.greatest call e w left) _ (value_run e is.fst (AtPlace q ∷ ops) l fine fs w left)
          (λ m k v w left. bound p number u at (element_of s.low s.high s.multiplier q v w left) _ (subscript_run s.low s.high s.multiplier is.snd.fst q v ops m k.fine fs w left)
          (λ m k q w left. element_run more is.snd.snd q ops m k.fine fs w left))

      element_by_run : (subscripts : Operands) (dimension : ℕ) {a b : ℕ} → DimensionsStand u dimension subscripts a b → (q : Place) (ops : List Operand) (l : Locals) → Fine c l
          → (fs : List Frame) (w : World) (left : ℕ)
          → Reaches p number u at c (At (frame p number u a (AtPlace q ∷ ops) l) fs w left) l (pushes p number u AtPlace b ops fs) fs (element_by p.greatest call dimension subscripts q w left)
      element_by_run NoOperand dimension {a} {b} is q ops l fine fs w left =
          gives p number u at q w left fine
          (subst (λ m. Comes p (At (frame p number u a (AtPlace q ∷ ops) l) fs w left) (At (frame p number u m (AtPlace q ∷ ops) l) fs w left)) is (stays p _))
      element_by_run (OperandThen e more) dimension is q ops l fine fs w left =
          bound p number u at (value_of p.greatest call e w left) _ (value_run e is.fst (AtPlace q ∷ ops) l fine fs w left)
          (λ m k v w left. bound p number u at (dimension_of dimension q v w left) _ (dimension_run dimension is.snd.fst q v ops m k.fine fs w left)
          (λ m k q w left. element_by_run more (suc dimension) is.snd.snd q ops m k.fine fs w left))

      pub called_run : (arguments : TypedArguments) (callee : Callee) (count : ℕ) {a b : ℕ} → Then (ArgumentsStand u arguments) (Is u (call_of callee count)) a b
          → (before : List Argument) → arguments_in arguments + length before ≡ count → (ops : List Operand) (l : Locals) → Fine c l → (fs : List Frame) (w : World) (left : ℕ)
          → Reaches p number u at c (At (frame p number u a (arguments_above before ops) l) fs w left) l (returns p number u b ops fs) fs
          (called_with p.greatest call callee arguments (given_places before) w left)
      called_run NoArgument callee count {a} {b} is before all ops l fine fs w left =
          let n : count ≡ length before = omega arith in
          let here : Is u (call_of callee (length before)) a b = subst (λ k. Is u (call_of callee k) a b) n (subst (λ q. Is u (call_of callee count) q b) (sym is.fst) is.snd) in
          then_reaches p number u at (goes p number u at there here refl) (calls_run.procedure callee before c b ops l fs fine w left)
      called_run (ByPlace r more) callee count is before all ops l fine fs w left =
          bound p number u at (place_of p.greatest call r w left) _ (place_run r is.fst.fst (arguments_above before ops) l fine fs w left)
          (λ m k q w left. called_run more callee count (record { middle = is.middle; fst = is.fst.snd; snd = is.snd }) (OfReference q ∷ before) (omega arith) ops m k.fine fs w left)
      called_run (ByDummy d e more) callee count is before all ops l fine fs w left =
          bound p number u at (value_of p.greatest call e w left) _ (value_run e is.fst.fst (arguments_above before ops) l fine fs w left)
          (λ m k v w left. bound p number u at (answered (dummy_of d v w) left) _
          (answers p number u at there (λ x. AtDummy x ∷ arguments_above before ops) (dummy_of d v w) is.fst.snd.fst k.fine w left refl)
          (λ m k q w left. called_run more callee count (record { middle = is.middle; fst = is.fst.snd.snd; snd = is.snd }) (OfDummy q ∷ before) (omega arith) ops m k.fine fs w left))
      called_run (ByString form e more) callee count is before all ops l fine fs w left =
          bound p number u at (value_of p.greatest call e w left) _ (value_run e is.fst.fst (arguments_above before ops) l fine fs w left)
          (λ m k v w left. bound p number u at (answered (string_dummy_of form v w) left) _
          (answers p number u at there (λ x. AtDummy x ∷ arguments_above before ops) (string_dummy_of form v w) is.fst.snd.fst k.fine w left refl)
          (λ m k q w left. called_run more callee count (record { middle = is.middle; fst = is.fst.snd.snd; snd = is.snd }) (OfDummy q ∷ before) (omega arith) ops m k.fine fs w left))
