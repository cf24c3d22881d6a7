use Rattle.pli_deck_write.proofs.DescriptionLaws as lemma
use Rattle.pli_deck_write.proofs.laws.descriptions_both_ways.Goals as goal

pub returns : goal.returns
returns c = lemma.descriptions_both_ways
