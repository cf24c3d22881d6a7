use Rattle.pli_build_laws.proofs.BuiltModules as built
use Rattle.pli_build_laws.proofs.laws.built_modules_are_spelled.Goals as goal

pub returns : goal.returns
returns c = built.built_modules_are_spelled
