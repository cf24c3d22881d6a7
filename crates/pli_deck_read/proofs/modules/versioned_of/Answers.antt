use Rattle.pli_deck_write.specs.DeckFields.{any_version, version_in}
use Rattle.pli_deck_write.specs.ModuleFields.{module_contents, module_of, module_parts}
use Rattle.pli_deck_read.proofs.VersionReading.{after_version}
use Rattle.pli_deck_read.proofs.modules.versioned_of.Goals as goal

pub returns : goal.returns
returns c =
    rw (after_version (version_in any_version) module_contents module_of module_parts c.args.bytes.now c.in_ok-version.version c.in_ok-version.rest.now c.in_ok-version.ensures) c.contents_of.ensures
