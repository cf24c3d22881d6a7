-- Instructions that name something else (own): the numbers of entries of tables, say, in place of the
-- entries, or the entries in place of their numbers.
use Rattle.pli_program.specs.declared.instruction.Instruction.{Instruction}
use Rattle.pli_program.specs.declared.instruction.Instruction.TheVariants as op

-- With what is answered for each description, template and value: another one, say, or an option of one.
-- `given` is the answer of an instruction that names nothing, which stays as it is. `mapped` is the answer of
-- one that a function makes of what it names, where that is answered so. No instruction names two things
module _ {D E T U V W : Type 0} (Answer : Type 0 → Type 0)
    (given : Instruction E U W → Answer (Instruction E U W))
    (mapped : (X : Type 0) → (X → Instruction E U W) → Answer X → Answer (Instruction E U W))
    (description : D → Answer E) (template : T → Answer U) (value : V → Answer W) where
  -- the instruction that names what is answered for what this one names
  abbrev pub named : Instruction D T V → Answer (Instruction E U W)
  named (op.Step s) = given (op.Step s)
  named (op.Line s) = given (op.Line s)
  named (op.Jump target) = given (op.Jump target)
  named (op.JumpUnless target) = given (op.JumpUnless target)
  named (op.Goto outward target) = given (op.Goto outward target)
  named (op.Call block arguments) = given (op.Call block arguments)
  named (op.CallExternal global arguments) = given (op.CallExternal global arguments)
  named (op.Begin block) = given (op.Begin block)
  named (op.Return outward) = given (op.Return outward)
  named (op.ReturnValue outward) = given (op.ReturnValue outward)
  named (op.Raise e) = given (op.Raise e)
  named op.Stop = given op.Stop
  named (op.Local outward slot) = given (op.Local outward slot)
  named (op.Global number) = given (op.Global number)
  named (op.Based d) = mapped _ op.Based (description d)
  named (op.Field offset d) = mapped _ (op.Field offset) (description d)
  named (op.Subscript low high multiplier) = given (op.Subscript low high multiplier)
  named (op.Constant v) = mapped _ op.Constant (value v)
  named op.Load = given op.Load
  named op.Store = given op.Store
  named op.Copy = given op.Copy
  named (op.MakeDummy t) = mapped _ op.MakeDummy (template t)
  named (op.Fit d) = mapped _ op.Fit (description d)
  named (op.Operate operation) = given (op.Operate operation)
  named op.AddressOf = given op.AddressOf
  named op.ToPointer = given op.ToPointer
  named op.ToOffset = given op.ToOffset
  named (op.AllocateControlled global) = given (op.AllocateControlled global)
  named (op.FreeControlled global) = given (op.FreeControlled global)
  named (op.CountGenerations global) = given (op.CountGenerations global)
  named (op.AllocateBased t) = mapped _ op.AllocateBased (template t)
  named (op.AllocateInArea t target) = mapped _ (λ t. op.AllocateInArea t target) (template t)
  named (op.FreeBased d) = mapped _ op.FreeBased (description d)
  named op.AssignArea = given op.AssignArea
  named op.EmptyArea = given op.EmptyArea
  named (op.On c block) = given (op.On c block)
  named (op.Revert c) = given (op.Revert c)
  named (op.Signal c) = given (op.Signal c)
  named op.Put = given op.Put
  named op.Skip = given op.Skip
  named (op.SetTemporary number) = given (op.SetTemporary number)
  named (op.TakeTemporary number) = given (op.TakeTemporary number)
  named (op.SubscriptIn dimension) = given (op.SubscriptIn dimension)
  named (op.BoundOf which dimension) = given (op.BoundOf which dimension)
  named (op.MakeStringDummy form) = given (op.MakeStringDummy form)
  named op.FitToPlace = given op.FitToPlace
