-- The code of a unit (own). In its tables first comes what the external procedure takes and gives, then the
-- globals, then the variables of the blocks, then the instructions, block after block.
use Rattle.std.specs.Prelude.{ℕ, suc, ◌+◌, List, [], ◌∷◌, ◌++◌, map}
use Rattle.std.specs.List.{flat_map}
use Rattle.pli_map.specs.ParameterTypes.{ParameterType, Stated, same_type}
use Rattle.pli_value.specs.Value.{Value}
use Rattle.pli_type_tree.specs.Templates.{Template}
use Rattle.pli_type_tree.specs.TypedTree.{TypedUnit}
use Rattle.pli_type_keys.specs.Same.{same_value, same_template}
use Rattle.pli_code.specs.Decks.{CodedBlock, Code}
use Rattle.pli_code.specs.CodedInstruction.{Instruction}
use Rattle.pli_gen_emit.specs.BlockTrees.{BlockTree, blocks_of}
use Rattle.pli_gen_emit.specs.Items.{Entry, NoEntry, OfDescription, OfTemplate, OfValue, Item, Label, Make}
use Rattle.pli_gen_emit.specs.Items.{size, place_of}
use Rattle.pli_gen_emit.specs.Tables.{numbered, number_in, signature_descriptions, global_descriptions}
use Rattle.pli_gen_emit.specs.Tables.{global_templates, block_templates, NumberedTables, stated_number}
use Rattle.pli_gen_emit.specs.Tables.{template_number, template_code, signature_code, global_code}
use Rattle.pli_gen_emit.specs.Tables.{coded_block}
use Rattle.pli_gen_emit.specs.Translation.{block_code}

-- the description that an item names; a template names its own
abbrev pub description_in : Item → List ParameterType
description_in (Make (OfDescription d) t with) = Stated d ∷ []
description_in (Make (OfTemplate x) t with) = Stated x.description ∷ []
description_in other = []

-- the template that it names
abbrev pub template_in : Item → List Template
template_in (Make (OfTemplate x) t with) = x ∷ []
template_in other = []

-- the value that it names
abbrev pub value_in : Item → List Value
value_in (Make (OfValue v) t with) = v ∷ []
value_in other = []

-- the tables of a unit of these blocks and items
abbrev pub tables_of : TypedUnit → List BlockTree → List Item → NumberedTables
tables_of u bs items = record {
  descriptions =
      numbered same_type []
      (signature_descriptions u.signature ++ flat_map global_descriptions u.globals
      ++ map (λ t. Stated t.description) (block_templates bs) ++ flat_map description_in items);
  templates =
      numbered same_template []
      (flat_map global_templates u.globals ++ block_templates bs ++ flat_map template_in items);
  values = numbered same_value [] (flat_map value_in items);
}

-- with these tables
module _ (tables : NumberedTables) where
  -- the number of an entry
  abbrev pub entry_number : Entry → ℕ
  entry_number NoEntry = 0
  entry_number (OfDescription d) = stated_number tables d
  entry_number (OfTemplate t) = template_number tables t
  entry_number (OfValue v) = number_in same_value tables.values v

  -- the instructions of items from a place on, among all of a unit
  abbrev pub instructions_from : (all : List Item) → (at : ℕ) → List Item → List Instruction
  instructions_from all p [] = []
  instructions_from all p (Label statement ∷ items) = instructions_from all p items
  instructions_from all p (Make x t with ∷ items) =
      with (entry_number x) (place_of all p t) ∷ instructions_from all (suc p) items

  -- blocks whose code stands one after the other, from a place on
  abbrev pub blocks_from : List BlockTree → (at : ℕ) → List CodedBlock
  blocks_from [] p = []
  blocks_from (b ∷ bs) p = coded_block tables b p ∷ blocks_from bs (p + size (block_code b))

  -- the code of a unit of these blocks and items
  abbrev pub unit_of : TypedUnit → List BlockTree → List Item → Code
  unit_of u bs items = record {
    signature = signature_code tables u.signature;
    descriptions = tables.descriptions;
    templates = map (template_code tables) tables.templates;
    values = tables.values;
    globals = map (global_code tables) u.globals;
    blocks = blocks_from bs 0;
    instructions = instructions_from items 0 items;
  }

-- the code of a unit
abbrev pub code_of : TypedUnit → Code
code_of u =
    let bs = blocks_of u in
    let items = flat_map block_code bs in
    unit_of (tables_of u bs items) u bs items
