-- Code without steps that leads nowhere: that of expressions, conversions and items.
use Rattle.std.proofs.Common.{◌≡◌, ℕ, suc, nat_eq, if◌then◌else◌, List, [], ◌∷◌, ◌++◌, Bool, true, false, refl, ap}
use Rattle.std.specs.List.{AllByRecursion}
use Rattle.pli_program.specs.Program as programs
use Rattle.pli_program.specs.declared.instruction.Instruction.TheVariants as op
use Rattle.pli_program.specs.Templates.{dummy}
use Rattle.pli_type_tree.specs.TypedTree.{Callee, OfBlock, OfEntry}
use Rattle.pli_type_tree.specs.TypedTree.{Root, InSlot, OfProgram, NewestOf, Located, TypedOperation, Fit, Operate, TypedExpression, Literal, Held, Calculated, Called, Generations, Address, AsPointer, AsOffset, Bounded, TypedReference, Whole, Part, ElementOf}
use Rattle.pli_type_tree.specs.TypedTree.{Operands, NoOperand, OperandThen, Subscripts, NoSubscript, SubscriptThen, TypedArguments, NoArgument, ByPlace, ByDummy, ByString}
use Rattle.pli_type_tree.specs.TypedTree.{Conversion, ByOperations, AsPointerIn, AsOffsetIn, ToPlace, FreedItem, FreesControlled, FreesBased}
use Rattle.pli_gen_emit.specs.TreeTranslation.{argument_count, root_code, call_instruction, operation_code, value_code, place_code, operands_code, subscripts_code, dimensions_code, arguments_code, skip_code, items_code, operations_code, conversion_code, freeing_code, freeings_code, place_after}
use Rattle.pli_gen_emit.specs.answers.Instructions.{step_place}
use Rattle.pli_gen.specs.answers.Pieces.{Fits}

-- no step, and nothing that leads to an instruction
abbrev pub IsSimple : programs.Instruction → Type 0
IsSimple (op.Step s) = ⊥
IsSimple (op.Jump target) = ⊥
IsSimple (op.JumpUnless target) = ⊥
IsSimple (op.AllocateInArea t target) = ⊥
IsSimple i = Unit {0}

abbrev pub AllSimple : List programs.Instruction → Type 0
AllSimple is = AllByRecursion IsSimple is

-- what holds of each of two lists holds of both
pub all_both : {X : Type 0} (P : X → Type 0) (xs ys : List X) → AllByRecursion P xs → AllByRecursion P ys → AllByRecursion P (xs ++ ys)
all_both P [] ys h k = k
all_both P (x ∷ xs) ys h k = (h.0, all_both P xs ys h.1 k)

pub simple_both : (xs ys : List programs.Instruction) → AllSimple xs → AllSimple ys → AllSimple (xs ++ ys)
simple_both xs ys h k = all_both IsSimple xs ys h k

-- two codes and an instruction
pub both_then : (front back : List programs.Instruction) (last : programs.Instruction) → AllSimple front → AllSimple back → IsSimple last → AllSimple (front ++ back ++ last ∷ [])
both_then front back last first second simple = simple_both (front ++ back) (last ∷ []) (simple_both front back first second) (simple, tt)

call_simple : (callee : Callee) (arguments : ℕ) → IsSimple (call_instruction callee arguments)
call_simple (OfBlock block) arguments = tt
call_simple (OfEntry number) arguments = tt

operation_simple : (o : TypedOperation) → IsSimple (operation_code o)
operation_simple (Fit d) = tt
operation_simple (Operate o) = tt

mutual
  pub value_simple : (e : TypedExpression) → AllSimple (value_code e)
  value_simple (Literal value) = (tt, tt)
  value_simple (Held variable) = simple_both (place_code variable) (op.Load ∷ []) (place_simple variable) (tt, tt)
  value_simple (Calculated operation operands) = simple_both (operands_code operands) (operation_code operation ∷ []) (operands_simple operands) (operation_simple operation, tt)
  value_simple (Called callee arguments) =
      let count = argument_count arguments in
      simple_both (arguments_code arguments) (call_instruction callee count ∷ []) (arguments_simple arguments) (call_simple callee count, tt)
  value_simple (Generations number) = (tt, tt)
  value_simple (Address variable) = simple_both (place_code variable) (op.AddressOf ∷ []) (place_simple variable) (tt, tt)
  value_simple (AsPointer area offset) = both_then (value_code offset) (place_code area) op.ToPointer (value_simple offset) (place_simple area) tt
  value_simple (AsOffset area pointer) = both_then (value_code pointer) (place_code area) op.ToOffset (value_simple pointer) (place_simple area) tt
  value_simple (Bounded which dimension variable) =
      simple_both (place_code variable) (op.BoundOf which dimension ∷ []) (place_simple variable) (tt, tt)

  root_simple : (r : Root) → AllSimple (root_code r)
  root_simple (InSlot outward slot) = (tt, tt)
  root_simple (OfProgram number) = (tt, tt)
  root_simple (NewestOf number) = (tt, tt)
  root_simple (Located locator description) = simple_both (value_code locator) (op.Based description ∷ []) (value_simple locator) (tt, tt)

  pub place_simple : (r : TypedReference) → AllSimple (place_code r)
  place_simple (Whole root) = root_simple root
  place_simple (Part root offset description subscripts) =
      simple_both (root_code root) (op.Field offset description ∷ subscripts_code subscripts) (root_simple root) (tt, subscripts_simple subscripts)
  place_simple (ElementOf root subscripts) =
      simple_both (root_code root) (dimensions_code 1 subscripts) (root_simple root) (dimensions_simple 1 subscripts)

  operands_simple : (es : Operands) → AllSimple (operands_code es)
  operands_simple NoOperand = tt
  operands_simple (OperandThen first more) = simple_both (value_code first) (operands_code more) (value_simple first) (operands_simple more)

  subscripts_simple : (ss : Subscripts) → AllSimple (subscripts_code ss)
  subscripts_simple NoSubscript = tt
  subscripts_simple (SubscriptThen stride value more) =
      simple_both (value_code value) (op.Subscript stride.low stride.high stride.multiplier ∷ subscripts_code more) (value_simple value) (tt, subscripts_simple more)

  dimensions_simple : (k : ℕ) (es : Operands) → AllSimple (dimensions_code k es)
  dimensions_simple k NoOperand = tt
  dimensions_simple k (OperandThen value more) =
      simple_both (value_code value) (op.SubscriptIn k ∷ dimensions_code (suc k) more) (value_simple value) (tt, dimensions_simple (suc k) more)

  arguments_simple : (args : TypedArguments) → AllSimple (arguments_code args)
  arguments_simple NoArgument = tt
  arguments_simple (ByPlace variable more) = simple_both (place_code variable) (arguments_code more) (place_simple variable) (arguments_simple more)
  arguments_simple (ByDummy description value more) =
      simple_both (value_code value) (op.MakeDummy (dummy description) ∷ arguments_code more) (value_simple value) (tt, arguments_simple more)
  arguments_simple (ByString form value more) =
      simple_both (value_code value) (op.MakeStringDummy form ∷ arguments_code more) (value_simple value) (tt, arguments_simple more)

operations_simple : (os : List TypedOperation) → AllSimple (operations_code os)
operations_simple [] = tt
operations_simple (o ∷ os) = (operation_simple o, operations_simple os)

pub conversion_simple : (conversion : Conversion) → AllSimple (conversion_code conversion)
conversion_simple (ByOperations operations) = operations_simple operations
conversion_simple (AsPointerIn area) = simple_both (place_code area) (op.ToPointer ∷ []) (place_simple area) (tt, tt)
conversion_simple (AsOffsetIn area) = simple_both (place_code area) (op.ToOffset ∷ []) (place_simple area) (tt, tt)
conversion_simple (ToPlace operations) = simple_both (operations_code operations) (op.FitToPlace ∷ []) (operations_simple operations) (tt, tt)

pub items_simple : (es : List TypedExpression) → AllSimple (items_code es)
items_simple [] = tt
items_simple (e ∷ es) = simple_both (value_code e) (op.Put ∷ items_code es) (value_simple e) (tt, items_simple es)

freeing_simple : (item : FreedItem) → AllSimple (freeing_code item)
freeing_simple (FreesControlled number) = (tt, tt)
freeing_simple (FreesBased locator description) = simple_both (value_code locator) (op.FreeBased description ∷ []) (value_simple locator) (tt, tt)

pub freeings_simple : (items : List FreedItem) → AllSimple (freeings_code items)
freeings_simple [] = tt
freeings_simple (item ∷ items) = simple_both (freeing_code item) (freeings_code items) (freeing_simple item) (freeings_simple items)

pub skip_simple : (b : Bool) → AllSimple (skip_code b)
skip_simple true = (tt, tt)
skip_simple false = tt

-- such code fits
one_fits : (i : programs.Instruction) (n : ℕ) → IsSimple i → Fits n i
one_fits (op.Jump target) n h = absurd h
one_fits (op.JumpUnless target) n h = absurd h
one_fits (op.AllocateInArea t target) n h = absurd h
one_fits i n h = tt

pub simple_fits : (is : List programs.Instruction) (n : ℕ) → AllSimple is → AllByRecursion (Fits n) is
simple_fits [] n h = tt
simple_fits (i ∷ is) n h = (one_fits i n h.0, simple_fits is n h.1)

-- and in it no statement begins
pub none_begins : (is : List programs.Instruction) (p m d : ℕ) → AllSimple is → step_place is p m d ≡ d
none_begins [] p m d h = refl
none_begins (op.Step s ∷ is) p m d h = absurd h.0
none_begins (i ∷ is) p m d h = none_begins is (suc p) m d h.1

pub none_in_value : (e : TypedExpression) (p m d : ℕ) → step_place (value_code e) p m d ≡ d
none_in_value e p m d = none_begins (value_code e) p m d (value_simple e)

-- where a statement begins in code after code
pub step_place_after : (xs ys : List programs.Instruction) (p m d : ℕ) → step_place (xs ++ ys) p m d ≡ step_place xs p m (step_place ys (place_after xs p) m d)
step_place_after [] ys p m d = refl
step_place_after (op.Step s ∷ xs) ys p m d = ap (λ k. if nat_eq s m then p else k) (step_place_after xs ys (suc p) m d)
step_place_after (i ∷ xs) ys p m d = step_place_after xs ys (suc p) m d

pub after_both : (xs ys : List programs.Instruction) (p : ℕ) → place_after (xs ++ ys) p ≡ place_after ys (place_after xs p)
after_both [] ys p = refl
after_both (x ∷ xs) ys p = after_both xs ys (suc p)
