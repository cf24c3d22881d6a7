use Rattle.std.proofs.lemmas.Result.{IfOk-weaker}
use Rattle.pli_machine_loading.proofs.AskedLemmas.{all_there}
use Rattle.pli_machine_loading.proofs.asking.strings_for.Goals as goal

pub returns : goal.returns
returns c =
    IfOk-weaker c.new.result _ _ (λ s has. all_there c.args.«module».now.units.items c.forms_in.result s c.forms_in.ensures has) c.new.ensures
