-- The code of a unit as it is emitted, with its tables (own), by instructions that have what they name.
use Rattle.std.specs.Prelude.{ℕ, List, [], ◌∷◌, ◌++◌, map}
use Rattle.std.specs.List.{flat_map}
use Rattle.pli_map.specs.ParameterTypes.{ParameterType, Stated, same_type}
use Rattle.pli_value.specs.Value.{Value}
use Rattle.pli_program.specs.Naming.{named}
use Rattle.pli_program.specs.Program as programs
use Rattle.pli_program.specs.declared.instruction.Instruction.TheVariants as op
use Rattle.pli_type_tree.specs.Templates.{Template}
use Rattle.pli_type_tree.specs.TypedTree.{TypedUnit}
use Rattle.pli_type_keys.specs.Same.{same_value, same_template}
use Rattle.pli_code.specs.Decks.{CodedBlock, Code}
use Rattle.pli_code.specs.CodedInstruction.{Instruction}
pub use Rattle.pli_gen_emit.specs.Tables.{numbered, number_in, signature_descriptions}
pub use Rattle.pli_gen_emit.specs.Tables.{global_descriptions, global_templates, block_templates}
pub use Rattle.pli_gen_emit.specs.Tables.{NumberedTables, description_number, stated_number}
pub use Rattle.pli_gen_emit.specs.Tables.{template_number, template_code, signature_code, global_code}
pub use Rattle.pli_gen_emit.specs.Tables.{coded_block}
use Rattle.pli_gen_emit.specs.TreeTranslation.{BlockTree, blocks_of, block_code, place_after, instructions_of}

-- the descriptions that an instruction names, in which no `*` stands
abbrev pub descriptions_named : programs.Instruction → List ParameterType
descriptions_named (op.Field offset d) = Stated d ∷ []
descriptions_named (op.Based d) = Stated d ∷ []
descriptions_named (op.MakeDummy t) = Stated t.description ∷ []
descriptions_named (op.Fit d) = Stated d ∷ []
descriptions_named (op.AllocateBased t) = Stated t.description ∷ []
descriptions_named (op.AllocateInArea t target) = Stated t.description ∷ []
descriptions_named (op.FreeBased d) = Stated d ∷ []
descriptions_named i = []

-- the templates that it names
abbrev pub templates_named : programs.Instruction → List Template
templates_named (op.MakeDummy t) = t ∷ []
templates_named (op.AllocateBased t) = t ∷ []
templates_named (op.AllocateInArea t target) = t ∷ []
templates_named i = []

-- the values that it names
abbrev pub values_named : programs.Instruction → List Value
values_named (op.Constant v) = v ∷ []
values_named i = []

-- those of a unit of these blocks and instructions
abbrev pub tables_for : TypedUnit → List BlockTree → List programs.Instruction → NumberedTables
tables_for u bs code = record {
  descriptions =
      numbered same_type []
      (signature_descriptions u.signature ++ flat_map global_descriptions u.globals
      ++ map (λ t. Stated t.description) (block_templates bs) ++ flat_map descriptions_named code);
  templates =
      numbered same_template []
      (flat_map global_templates u.globals ++ block_templates bs ++ flat_map templates_named code);
  values = numbered same_value [] (flat_map values_named code);
}

-- with these tables
module _ (tables : NumberedTables) where
  -- an instruction with numbers in place of what it names
  abbrev pub instruction_code : programs.Instruction → Instruction
  instruction_code i =
      named (λ X. X) (λ j. j) (λ X f x. f x) (stated_number tables) (template_number tables)
      (number_in same_value tables.values) i

  -- blocks whose code stands one after the other
  abbrev pub coded_blocks : List BlockTree → (at : ℕ) → List CodedBlock
  coded_blocks [] p = []
  coded_blocks (b ∷ bs) p = coded_block tables b p ∷ coded_blocks bs (place_after (block_code b p) p)

  -- a unit of these blocks and instructions
  abbrev pub coded_unit : TypedUnit → List BlockTree → List programs.Instruction → Code
  coded_unit u bs code = record {
    signature = signature_code tables u.signature;
    descriptions = tables.descriptions;
    templates = map (template_code tables) tables.templates;
    values = tables.values;
    globals = map (global_code tables) u.globals;
    blocks = coded_blocks bs 0;
    instructions = map instruction_code code;
  }

-- the code of a unit
abbrev pub code_of : TypedUnit → Code
code_of u =
    let bs = blocks_of u in
    let code = instructions_of bs in
    coded_unit (tables_for u bs code) u bs code
