use Rattle.pli_include.proofs.StepsKeep.{texts_have_origins}
use Rattle.pli_include.proofs.laws.texts_have_origins.Goals as goal

pub returns : goal.returns
returns c = texts_have_origins
