-- What is looked for in a deck once all its bytes are read (own): jumps, numbers of entries, and limits.
use Rattle.std.specs.Prelude.{ℕ, ◌+◌, ◌-◌, ◌%◌, nat_eq, nat_le, nat_lt, Bool, true, false}
use Rattle.std.specs.Prelude.{◌&&◌, not, List, [], ◌∷◌, ◌++◌, length, map, Option, is_some}
use Rattle.std.specs.Prelude.{Some, None, if◌then◌else◌}
use Rattle.std.specs.List.{flat_map, list_all, sum_by}
use Rattle.std.specs.Int.{next_multiple_of}
use Rattle.pli_map.specs.Description.{Description, Array, Structure, Members, NoMembers, MemberThen}
use Rattle.pli_map.specs.Sizes.{alignment_of, size_of, stride_of}
use Rattle.pli_map.specs.Values.{holds}
use Rattle.pli_type_tree.specs.Templates.{InitialScalar}
use Rattle.pli_value.specs.Value.{Value}
use Rattle.pli_code.specs.declared.fault.DeckFault.{DeckFault}
use Rattle.pli_code.specs.declared.fault.DeckFault.TheVariants.{BadJump, BadNumber, OverLimit}
use Rattle.pli_code.specs.Decks.{CodedTemplate, CodedBlock, CodedSignature, Code, Deck, stated_at}
use Rattle.pli_code.specs.Decks.{CodedGlobal, OwnVariable, ExternalVariable, EntryPoint}
use Rattle.pli_code.specs.CodedInstruction.{Instruction}
use Rattle.pli_program.specs.declared.instruction.Instruction.TheVariants as op

-- what an item of a deck names by a number: a type that a parameter has, or a description, which is an entry
-- of the same table in which no `*` stands; an entry of another table; or an instruction at which a block
-- begins
pub data Naming : Type 0 where
  OfParameter : ℕ → Naming
  OfDescription : ℕ → Naming
  OfTemplate : ℕ → Naming
  OfValue : ℕ → Naming
  OfGlobal : ℕ → Naming
  OfBlock : ℕ → Naming
  OfInstruction : ℕ → Naming

-- the result of a signature names its description, if there is one
abbrev pub named_by_result : Option ℕ → List Naming
named_by_result None = []
named_by_result (Some d) = OfDescription d ∷ []

-- a signature names the types of its parameters and the description of its result
abbrev pub named_by_signature : CodedSignature → List Naming
named_by_signature s = map OfParameter s.parameters ++ named_by_result s.result

-- a template names its description
abbrev pub named_by_template : CodedTemplate → List Naming
named_by_template t = OfDescription t.description ∷ []

-- a global names its template, and an entry what its signature does
abbrev pub named_by_global : CodedGlobal → List Naming
named_by_global (OwnVariable _ t) = OfTemplate t ∷ []
named_by_global (ExternalVariable _ _ t) = OfTemplate t ∷ []
named_by_global (EntryPoint _ s) = named_by_signature s

-- a block names the one around it, if there is one
abbrev pub named_by_parent : Option ℕ → List Naming
named_by_parent None = []
named_by_parent (Some b) = OfBlock b ∷ []

-- a block names the one around it, the templates of its variables, and its first instruction
abbrev pub named_by_block : CodedBlock → List Naming
named_by_block b = named_by_parent b.parent ++ map OfTemplate b.variables ++ OfInstruction b.entry ∷ []

-- what an instruction names, save by a jump
abbrev pub named_by_instruction : Instruction → List Naming
named_by_instruction (op.Call b _) = OfBlock b ∷ []
named_by_instruction (op.CallExternal g _) = OfGlobal g ∷ []
named_by_instruction (op.Begin b) = OfBlock b ∷ []
named_by_instruction (op.Global g) = OfGlobal g ∷ []
named_by_instruction (op.Based d) = OfDescription d ∷ []
named_by_instruction (op.Field _ d) = OfDescription d ∷ []
named_by_instruction (op.Constant v) = OfValue v ∷ []
named_by_instruction (op.MakeDummy t) = OfTemplate t ∷ []
named_by_instruction (op.Fit d) = OfDescription d ∷ []
named_by_instruction (op.AllocateControlled g) = OfGlobal g ∷ []
named_by_instruction (op.FreeControlled g) = OfGlobal g ∷ []
named_by_instruction (op.CountGenerations g) = OfGlobal g ∷ []
named_by_instruction (op.AllocateBased t) = OfTemplate t ∷ []
named_by_instruction (op.AllocateInArea t _) = OfTemplate t ∷ []
named_by_instruction (op.FreeBased d) = OfDescription d ∷ []
named_by_instruction (op.On _ b) = OfBlock b ∷ []
named_by_instruction other = []

-- what templates and globals name; code has a first block, so that one is always named
abbrev pub named_by_variables : Code → List Naming
named_by_variables c =
    flat_map named_by_template c.templates ++ flat_map named_by_global c.globals ++ OfBlock 0 ∷ []

-- what blocks and instructions name
abbrev pub named_by_blocks : Code → List Naming
named_by_blocks c = flat_map named_by_block c.blocks ++ flat_map named_by_instruction c.instructions

-- all that code names, save by jumps
abbrev pub named_by : Code → List Naming
named_by c = named_by_signature c.signature ++ named_by_variables c ++ named_by_blocks c

-- what is named is there
abbrev pub is_there : Code → Naming → Bool
is_there c (OfParameter n) = nat_lt n (length c.descriptions)
is_there c (OfDescription n) = is_some (stated_at c n)
is_there c (OfTemplate n) = nat_lt n (length c.templates)
is_there c (OfValue n) = nat_lt n (length c.values)
is_there c (OfGlobal n) = nat_lt n (length c.globals)
is_there c (OfBlock n) = nat_lt n (length c.blocks)
is_there c (OfInstruction n) = nat_lt n (length c.instructions)

-- where an instruction may jump
abbrev pub targets_of : Instruction → List ℕ
targets_of (op.Jump i) = i ∷ []
targets_of (op.JumpUnless i) = i ∷ []
targets_of (op.Goto _ i) = i ∷ []
targets_of (op.AllocateInArea _ i) = i ∷ []
targets_of other = []

-- each jump leads to an instruction of the code
abbrev pub jumps_within : Code → Bool
jumps_within c =
    list_all (λ i. nat_lt i (length c.instructions)) (flat_map targets_of c.instructions)

-- the scalar that stands so many bytes after a description's beginning
abbrev mutual
  pub scalar_at : Description → (offset : ℕ) → Option Description
  scalar_at (Array bounds element) offset =
      if nat_lt offset (size_of (Array bounds element))
      then scalar_at element (offset % stride_of element) else None
  scalar_at (Structure members) offset = scalar_among 0 members offset
  scalar_at scalar offset = if nat_eq offset 0 then Some scalar else None

  -- the same among members, the first of which stands at its next aligned place after this byte
  pub scalar_among : (at : ℕ) → Members → (offset : ℕ) → Option Description
  scalar_among at NoMembers offset = None
  scalar_among at (MemberThen d ds) offset =
      let start = next_multiple_of at (alignment_of d) in
      if nat_lt offset start then None
      else if nat_lt offset (start + size_of d) then scalar_at d (offset - start)
      else scalar_among (start + size_of d) ds offset

-- an initial value stands on a scalar that may hold it
abbrev pub fits_scalar : Option Description → Value → Bool
fits_scalar None v = false
fits_scalar (Some d) v = holds d v

-- a template of a description: at most 1,000,000 bytes, and its initial values fit
abbrev pub is_good_template : Option Description → List InitialScalar → Bool
is_good_template None initial = true
is_good_template (Some d) initial =
    nat_le (size_of d) 1000000 && list_all (λ i. fits_scalar (scalar_at d i.offset) i.value) initial

-- the bytes of a template with initial values
abbrev pub initial_bytes : Option Description → List InitialScalar → ℕ
initial_bytes (Some d) (i ∷ is) = size_of d
initial_bytes (Some d) [] = 0
initial_bytes None initial = 0

-- templates are good, and those with initial values have at most 16,777,216 bytes together
abbrev pub within_limits : Code → Bool
within_limits c =
    list_all (λ t. is_good_template (stated_at c t.description) t.initial) c.templates
    && nat_le (sum_by (λ t. initial_bytes (stated_at c t.description) t.initial) c.templates)
    16777216

-- the first of these faults in the code of a deck
abbrev pub fault_of : Deck → Option DeckFault
fault_of d =
    if not (jumps_within d.code) then Some BadJump
    else if not (list_all (is_there d.code) (named_by d.code)) then Some BadNumber
    else if not (within_limits d.code) then Some OverLimit
    else None
