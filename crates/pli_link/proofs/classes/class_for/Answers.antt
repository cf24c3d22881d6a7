use Rattle.pli_link.proofs.ClassLemmas.{grows_not}
use Rattle.pli_link.proofs.classes.class_for.Goals as goal

pub returns-in_default-clause-grows : goal.returns-in_default-clause-grows
returns-in_default-clause-grows c = grows_not c.args.known.now.keys
