-- What blocks are of, and variables that are there for a whole program (own).
use Rattle.std.specs.Prelude.{ℕ, Bool, true, false, Option, Some, None}
use Rattle.pli_map.specs.Variables.{GlobalVariable}
use Rattle.pli_program.specs.declared.kind.VariableKind.{VariableKind}

-- what a block is of
pub data BlockKind : Type 0 where
  Procedure : BlockKind
  BeginBlock : BlockKind
  OnUnit : BlockKind

-- an external procedure stands in no block
abbrev pub is_external : (parent : Option ℕ) → Bool
is_external None = true
is_external (Some parent) = false

-- a variable that is there for the whole program, and how its generations come
pub record ProgramVariable (K : Type 0) : Type 0 where
  pub kind : VariableKind
  pub global : GlobalVariable K
