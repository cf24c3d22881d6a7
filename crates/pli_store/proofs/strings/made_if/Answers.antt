use Rattle.std.proofs.lemmas.Result.{IfOk-weaker}
use Rattle.pli_store.proofs.strings.made_if.Goals as goal

pub returns-clause-strings : goal.returns-clause-strings
returns-clause-strings c = IfOk-weaker c.all_of.result _ _ (λ ds all. all.strings) c.all_of.ensures

pub returns-clause-all : goal.returns-clause-all
returns-clause-all c = IfOk-weaker c.all_of.result _ _ (λ ds all asked. all.all) c.all_of.ensures
