use Rattle.pli_deck.specs.views.OutcomeView.{outcome_view}
use Rattle.pli_deck.proofs.FaultsTold.{faults_told}
use Rattle.pli_deck.proofs.compiler.Compiler.compile.Goals as goal

pub returns-clause-told : goal.returns-clause-told
returns-clause-told c = faults_told c.args.texts.now (outcome_view c.in_ok-compiled.compiled) c.in_ok-compiled.ensures
