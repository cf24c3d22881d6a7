-- The worked examples compute.
use Rattle.std.proofs.Common.{refl}
use Rattle.pli_code.specs.Fields.{byte_at, number_at, many}
use Rattle.pli_deck_write.specs.Descriptions.{description_within}
use Rattle.pli_code.specs.Instructions.{instruction}
use Rattle.pli_deck_write.specs.DeckFields.{name, optional, bits_at, bit_string, characters, constant, initial, template, signature, global, block, code, contents, deck_in_versions}
use Rattle.pli_deck_write.specs.ModuleFields.{external_after, many_after, deck_in, member, module_field}
use Rattle.pli_deck_write.specs.ModuleSpelling.{module_read}
use Rattle.pli_deck_write.specs.Spelling.{deck_read_in}
use Rattle.pli_deck_write.specs.examples.DeckExamples.{WrittenSo, ReadSo}
use Rattle.pli_deck_write.specs.examples.ModuleExamples.{ModulesWrittenSo, ModulesReadSo, ModuleFaultsAre}
use Rattle.pli_deck_write.specs.examples.TypeExamples.{TypesWrittenSo, TypesReadSo}

worked : WrittenSo × ReadSo × ModulesWrittenSo × ModulesReadSo × ModuleFaultsAre
unfolding byte_at number_at many description_within instruction name optional bits_at bit_string characters constant initial template signature global block code contents deck_in_versions deck_read_in external_after many_after deck_in member module_field module_read
worked = (
  (refl, refl, refl, refl, refl, refl, refl, refl, refl, refl, refl),
  (refl, refl, refl, refl, refl, refl, refl, refl, refl, refl, refl, refl, refl, refl, refl, refl, refl, refl, refl),
  (refl, refl, refl),
  (refl, refl, refl),
  (refl, refl, refl, refl, refl, refl, refl, refl, refl),
)

pub written_so : WrittenSo
written_so = worked.0

pub read_so : ReadSo
read_so = worked.1

pub modules_written_so : ModulesWrittenSo
modules_written_so = worked.2

pub modules_read_so : ModulesReadSo
modules_read_so = worked.3

pub module_faults_are : ModuleFaultsAre
module_faults_are = worked.4

pub types_written_so : TypesWrittenSo
unfolding byte_at number_at many description_within
types_written_so = (refl, refl, refl, refl)

pub types_read_so : TypesReadSo
unfolding byte_at number_at many description_within
types_read_so = (refl, refl, refl, refl, refl, refl, refl, refl, refl, refl, refl, refl, refl, refl, refl)
