use Rattle.std.proofs.Common.{sym, ap, ◌∙◌}
use Rattle.pli_machine_perform.specs.views.HaltView.{halt_of}
use Rattle.pli_machine_perform.proofs.halting.halt_by.Goals as goal

pub returns-in-Some : goal.returns-in-Some
returns-in-Some c = ap (halt_of c.args.error) (sym c.in-Some.is ∙ c.condition_of.ensures)

pub returns-in-None : goal.returns-in-None
returns-in-None c = ap (halt_of c.args.error) (sym c.in-None.is ∙ c.condition_of.ensures)
