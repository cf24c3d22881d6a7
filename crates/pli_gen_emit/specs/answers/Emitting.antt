-- What emitting answers.
use Rattle.std.specs.Prelude.{◌≡◌, ◌++◌, ◌||◌, ℕ, Bool, false, not, min, Option, Some, None, List}
use Rattle.std.specs.Prelude.{[], ◌∷◌, length, slice_set, is_some}
use Rattle.pli_map.specs.ParameterTypes.{same_type}
use Rattle.pli_program.specs.Program as programs
use Rattle.pli_program.specs.declared.instruction.Instruction.TheVariants as op
use Rattle.pli_type_keys.specs.Same.{same_template, same_value}
use Rattle.pli_code.specs.CodedInstruction.{Instruction}
use Rattle.pli_gen_emit.specs.Encoding.{NumberedTables, numbered, instruction_code}
use Rattle.pli_gen_emit.specs.Encoding.{descriptions_named, templates_named, values_named}
use Rattle.pli_gen_emit.specs.answers.Instructions.{retargeted, instruction_fits}
use Rattle.pli_gen_emit.specs.declared.emitter.Emitter.{Emitter}
use Rattle.pli_gen_emit.specs.declared.emitter.LabelJump.{LabelJump}
use Rattle.pli_gen_emit.specs.views.TableView.{tables_view}

-- what was emitted so far: tables, instructions, the GOTOs without targets, and whether a number was too wide
pub record Emission : Type 0 where
  pub tables : NumberedTables
  pub code : List Instruction
  pub gotos : List LabelJump
  pub is_wide : Bool

-- an emitter's
abbrev pub emission : Emitter → Emission
emission e = record {
  tables = tables_view e.tables;
  code = e.code.items;
  gotos = e.gotos.items;
  is_wide = e.is_wide;
}

-- tables with what an instruction names
abbrev pub tables_with : NumberedTables → programs.Instruction → NumberedTables
tables_with t i = record {
  descriptions = numbered same_type t.descriptions (descriptions_named i);
  templates = numbered same_template t.templates (templates_named i);
  values = numbered same_value t.values (values_named i);
}

-- an instruction whose numbers are cut to the greatest of their fields
abbrev pub narrowed : Instruction → Instruction
narrowed (op.Jump target) = op.Jump (min target 65535)
narrowed (op.JumpUnless target) = op.JumpUnless (min target 65535)
narrowed (op.Goto outward target) = op.Goto (min outward 255) (min target 65535)
narrowed (op.Call block arguments) = op.Call (min block 65535) (min arguments 255)
narrowed (op.CallExternal global arguments) = op.CallExternal (min global 65535) (min arguments 255)
narrowed (op.Begin block) = op.Begin (min block 65535)
narrowed (op.Return outward) = op.Return (min outward 255)
narrowed (op.ReturnValue outward) = op.ReturnValue (min outward 255)
narrowed (op.Local outward slot) = op.Local (min outward 255) (min slot 65535)
narrowed (op.Global number) = op.Global (min number 65535)
narrowed (op.Field offset description) = op.Field offset (min description 65535)
narrowed (op.Based description) = op.Based (min description 65535)
narrowed (op.Constant value) = op.Constant (min value 65535)
narrowed (op.MakeDummy template) = op.MakeDummy (min template 65535)
narrowed (op.Fit description) = op.Fit (min description 65535)
narrowed (op.AllocateControlled global) = op.AllocateControlled (min global 65535)
narrowed (op.FreeControlled global) = op.FreeControlled (min global 65535)
narrowed (op.CountGenerations global) = op.CountGenerations (min global 65535)
narrowed (op.AllocateBased template) = op.AllocateBased (min template 65535)
narrowed (op.AllocateInArea template target) = op.AllocateInArea (min template 65535) (min target 65535)
narrowed (op.FreeBased description) = op.FreeBased (min description 65535)
narrowed (op.On c block) = op.On c (min block 65535)
narrowed (op.SubscriptIn dimension) = op.SubscriptIn (min dimension 255)
narrowed (op.SetTemporary number) = op.SetTemporary (min number 65535)
narrowed (op.TakeTemporary number) = op.TakeTemporary (min number 65535)
narrowed other = other

-- an instruction as it is emitted: by the tables before it, where what they lack comes next; a GOTO goes to 0
abbrev pub emitted : NumberedTables → programs.Instruction → Instruction
emitted t i = narrowed (instruction_code t (retargeted (λ label. 0) i))

-- GOTOs, and that at a place
abbrev pub gotos_with : List LabelJump → (at : ℕ) → programs.Instruction → List LabelJump
gotos_with gotos p (op.Goto outward label) =
    gotos ++ record { place = p; outward = min outward 255; label = label } ∷ []
gotos_with gotos p i = gotos

-- an instruction more
unfoldable pub with_instruction : Emission → programs.Instruction → Emission
with_instruction e i = record {
  tables = tables_with e.tables i;
  code = e.code ++ emitted e.tables i ∷ [];
  gotos = gotos_with e.gotos (length e.code) i;
  is_wide = e.is_wide || not (instruction_fits i);
}

-- code more
abbrev pub extended : Emission → List programs.Instruction → Emission
extended e [] = e
extended e (i ∷ is) = extended (with_instruction e i) is

-- instructions were appended, unless memory was wanting for them or before
abbrev pub Emits : (old new : Emitter) → List programs.Instruction → Type 0
Emits old new part =
    (new.tables.lacks_memory ≡ false → old.tables.lacks_memory ≡ false)
    × (new.tables.lacks_memory ≡ false → emission new ≡ extended (emission old) part)

-- an instruction of code was appended that names nothing new
abbrev pub Puts : (old new : Emitter) → (fits : Bool) → Instruction → Type 0
Puts old new fits x =
    (new.tables.lacks_memory ≡ false → old.tables.lacks_memory ≡ false)
    × (new.tables.lacks_memory ≡ false → emission new ≡ record {
      tables = tables_view old.tables;
      code = old.code.items ++ x ∷ [];
      gotos = old.gotos.items;
      is_wide = old.is_wide || not fits;
    })

-- another instruction stands at a place
unfoldable pub landed : (jump : ℕ) → Instruction → Emission → Emission
landed p x e = record {
  tables = e.tables;
  code = slice_set e.code p x;
  gotos = e.gotos;
  is_wide = e.is_wide;
}

-- it was put there
abbrev pub Lands : (old new : Emitter) → (jump : ℕ) → Instruction → Type 0
Lands old new p x =
    (new.tables.lacks_memory ≡ old.tables.lacks_memory) × (emission new ≡ landed p x (emission old))

-- a jump after a test, if there is one, leads to a target
abbrev pub guard_landed : (jump : Option ℕ) → (target : ℕ) → Emission → Emission
guard_landed None target e = e
guard_landed (Some p) target e = landed p (op.JumpUnless (min target 65535)) e

-- its target was put in
abbrev pub LandsGuard : (old new : Emitter) → (jump : Option ℕ) → (target : ℕ) → Type 0
LandsGuard old new jump target =
    (new.tables.lacks_memory ≡ old.tables.lacks_memory)
    × (emission new ≡ guard_landed jump target (emission old))

-- instructions that name nothing, and have no numbers of blocks, of variables or of instructions
abbrev pub shared : Instruction → Option programs.Instruction
shared (op.Step s) = Some (op.Step s)
shared (op.Line s) = Some (op.Line s)
shared (op.Raise e) = Some (op.Raise e)
shared op.Stop = Some op.Stop
shared (op.Subscript low high multiplier) = Some (op.Subscript low high multiplier)
shared op.Load = Some op.Load
shared op.Store = Some op.Store
shared op.Copy = Some op.Copy
shared (op.Operate operation) = Some (op.Operate operation)
shared op.AddressOf = Some op.AddressOf
shared op.ToPointer = Some op.ToPointer
shared op.ToOffset = Some op.ToOffset
shared op.AssignArea = Some op.AssignArea
shared op.EmptyArea = Some op.EmptyArea
shared (op.Revert c) = Some (op.Revert c)
shared (op.Signal c) = Some (op.Signal c)
shared (op.BoundOf which dimension) = Some (op.BoundOf which dimension)
shared (op.MakeStringDummy form) = Some (op.MakeStringDummy form)
shared op.FitToPlace = Some op.FitToPlace
shared op.Put = Some op.Put
shared op.Skip = Some op.Skip
shared other = None

-- it is one of these
abbrev pub is_shared : Instruction → Bool
is_shared i = is_some (shared i)
