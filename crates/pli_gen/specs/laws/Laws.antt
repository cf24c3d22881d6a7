-- What the laws of the encoding say.
use Rattle.std.specs.Prelude.{◌≡◌, ℕ, Bool, Some, List, slice_get}
use Rattle.pli_map.specs.ParameterTypes.{same_type}
use Rattle.pli_program.specs.Program as programs
use Rattle.pli_type_tree.specs.TypedTree.{TypedUnit}
use Rattle.pli_type_keys.specs.Same.{same_value, same_template}
use Rattle.pli_code.specs.CodedInstruction.{Instruction}
use Rattle.pli_code.specs.CodeTables.{looked_up, program_of}
use Rattle.pli_gen_emit.specs.BlockTrees.{BlockTree}
use Rattle.pli_gen_emit.specs.TreeTranslation.{unit_code}
use Rattle.pli_gen_emit.specs.Encoding.{NumberedTables, number_in, instruction_code, coded_unit, code_of}

-- the code with its tables is the unit's code, when all numbers are looked up and its external globals have
-- their links
abbrev pub CodeIsLookedUp : Type 0
CodeIsLookedUp =
    (u : TypedUnit) (links : List ℕ) → program_of (code_of u) u.name links ≡ unit_code u links

-- no entry stands in a table twice: each has its own number
abbrev pub AreOnce : {X : Type 0} → (alike : X → X → Bool) → List X → Type 0
AreOnce {X} alike table = (n : ℕ) (x : X) → slice_get table n ≡ Some x → number_in alike table x ≡ n

-- and the other way: where no entry stands twice, what was looked up has the numbers by which it was found
abbrev pub NumbersAreFound : Type 0
NumbersAreFound =
    (tables : NumberedTables) (u : TypedUnit) (bs : List BlockTree) (code : List programs.Instruction)
    → AreOnce same_type tables.descriptions → AreOnce same_template tables.templates
    → AreOnce same_value tables.values → (i : Instruction) (j : programs.Instruction)
    → looked_up (coded_unit tables u bs code) i ≡ Some j → instruction_code tables j ≡ i
