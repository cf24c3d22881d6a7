-- What is known of a block where its variables are placed.
use Rattle.std.specs.Prelude.{ℕ, List, take}
use Rattle.pli_declare.specs.ResolvedUnits.{ResolvedUnit, all_symbols}
use Rattle.pli_declare.specs.Symbols.{Symbol}
use Rattle.pli_type_rules.specs.NamedUnits.{all_tokens, block_symbols, globals_in, parameter_numbers}
use Rattle.pli_type_rules.specs.TextOrder.{text_places}

-- the numbers of its parameters among its symbols, each under its slot; for each global of the unit, block
-- after block, its number in the order of the text; how many globals the blocks before it have; and its
-- symbols
pub record BlockFacts : Type 0 where
  pub parameters : List ℕ
  pub places : List ℕ
  pub globals : ℕ
  pub symbols : List Symbol

-- the block of this number of a unit
abbrev pub facts_of : ResolvedUnit → (block : ℕ) → BlockFacts
facts_of r block = record {
  parameters = parameter_numbers r block;
  places = text_places (all_tokens 63 (all_symbols r));
  globals = globals_in 63 (take block (all_symbols r));
  symbols = block_symbols r block;
}
