use Rattle.std.proofs.Common.{◌≡◌, drop}
use Rattle.pli_type_keys.specs.answers.Digests.{digest_of_characters}
use Rattle.pli_type_keys.proofs.digest.digest_of_characters.Given as goal

abbrev pub invariant-loop-character : goal.invariant-loop-character
invariant-loop-character l = digest_of_characters l.whole (drop l.character-index l.characters) ≡ digest_of_characters 1 l.characters
