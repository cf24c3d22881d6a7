-- What the parts of the generator answer.
use Rattle.std.specs.Prelude.{ℕ, suc, ◌≡◌, ◌+◌, ◌≤◌, nat_eq, nat_lt, Bool, true, ◌&&◌, min, None}
use Rattle.std.specs.Prelude.{List, [], ◌∷◌, length, slice_set, if◌then◌else◌}
use Rattle.std.specs.List.{list_any, AllByRecursion}
use Rattle.pli_map.specs.ParameterTypes.{Stated, same_type}
use Rattle.pli_map.specs.Sizes.{size_of}
use Rattle.pli_program.specs.Program.{Instruction}
use Rattle.pli_program.specs.declared.instruction.Instruction.TheVariants as op
use Rattle.pli_type_tree.specs.Templates.{Template}
use Rattle.pli_code.specs.CodeFields.{is_byte, is_short, parent_fits}
use Rattle.pli_code.specs.CodeTables.{CodedBlock, Code}
use Rattle.pli_code.specs.CodedInstruction as coded
use Rattle.pli_gen_emit.specs.TreeTranslation.{BlockTree}
use Rattle.pli_gen_emit.specs.Encoding.{NumberedTables, coded_block}
use Rattle.pli_gen_emit.specs.declared.emitter.LabelJump.{LabelJump}
use Rattle.pli_gen.specs.Limits.{entry_limit}

-- where the first step of a statement stands in code; another place if there is none
abbrev pub first_step : List coded.Instruction → (at number other : ℕ) → ℕ
first_step [] p n other = other
first_step (op.Step s ∷ is) p n other = if nat_eq s n then p else first_step is (suc p) n other
first_step (i ∷ is) p n other = first_step is (suc p) n other

-- code whose GOTOs lead to the places of their labels
abbrev pub gotos_landed : (place : ℕ → ℕ) → List coded.Instruction → List LabelJump → List coded.Instruction
gotos_landed place code [] = code
gotos_landed place code (j ∷ js) =
    gotos_landed place (slice_set code j.place (op.Goto j.outward (min (place j.label) 65535))) js

-- the place to which an instruction leads is within a limit
abbrev pub Fits : (limit : ℕ) → Instruction → Type 0
Fits n (op.Jump target) = target ≤ n
Fits n (op.JumpUnless target) = target ≤ n
Fits n (op.AllocateInArea t target) = target ≤ n
Fits n i = Unit {0}

-- the numbers of a block are within their fields
abbrev pub block_fits : BlockTree → Bool
block_fits b = parent_fits b.parent && (is_byte b.parameters && is_short b.head.temporaries)

-- blocks, each with its first instruction
abbrev pub blocks_with_entries : NumberedTables → List BlockTree → (entries : List ℕ) → List CodedBlock
blocks_with_entries tables [] ps = []
blocks_with_entries tables (b ∷ bs) [] = []
blocks_with_entries tables (b ∷ bs) (p ∷ ps) = coded_block tables b p ∷ blocks_with_entries tables bs ps

-- the slots of a block
abbrev pub takes_many_slots : BlockTree → Bool
takes_many_slots b = nat_lt entry_limit (b.parameters + length b.head.variables)

-- the bytes of a template that has initial values
abbrev pub template_bytes : Template → ℕ
template_bytes t = bytes_if t.initial
  where
    bytes_if : {X : Type 0} → List X → ℕ
    bytes_if [] = 0
    bytes_if (i ∷ is) = size_of t.description

-- the description of each template is in its table
abbrev pub HaveDescriptions : NumberedTables → Type 0
HaveDescriptions tables =
    AllByRecursion (λ t. list_any (same_type (Stated t.description)) tables.descriptions ≡ true)
    tables.templates

-- code without anything
abbrev pub no_code : Code
no_code = record {
  signature = record { parameters = []; result = None };
  descriptions = [];
  templates = [];
  values = [];
  globals = [];
  blocks = [];
  instructions = [];
}
