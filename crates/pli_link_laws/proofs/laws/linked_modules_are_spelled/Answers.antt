use Rattle.pli_link_laws.proofs.ModulesSay as lemma
use Rattle.pli_link_laws.proofs.laws.linked_modules_are_spelled.Goals as goal

pub returns : goal.returns
returns c = lemma.linked_modules_are_spelled
