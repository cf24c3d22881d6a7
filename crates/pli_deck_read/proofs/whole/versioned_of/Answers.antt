use Rattle.pli_deck_write.specs.DeckFields.{contents, deck_of, deck_parts, version_in}
use Rattle.pli_deck_read.specs.Wanted.{wanted_version}
use Rattle.pli_deck_read.proofs.VersionReading.{after_version}
use Rattle.pli_deck_read.proofs.whole.versioned_of.Goals as goal

pub returns : goal.returns
returns c =
    rw (after_version (version_in (wanted_version c.args.wanted)) contents deck_of deck_parts c.args.bytes.now c.in_ok-version.version c.in_ok-version.rest.now c.in_ok-version.ensures) c.contents_of.ensures
