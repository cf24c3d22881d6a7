use Rattle.std.proofs.Common.{refl}
use Rattle.clap.proofs.OnLiterals.{clap_on_literals}
use Rattle.pli_bench.specs.examples.Examples.{NoWords, FiveSteps, StepsAreNoNumber, FileIsNoWord, HelpIsAsked}
use Rattle.pli_bench.proofs.laws.worked_examples.Goals as goal

no_words : NoWords
unfolding clap_on_literals
no_words = (refl, refl)

five_steps : FiveSteps
unfolding clap_on_literals
five_steps = (refl, refl)

no_number : StepsAreNoNumber
unfolding clap_on_literals
no_number = refl

file : FileIsNoWord
unfolding clap_on_literals
file = refl

help : HelpIsAsked
unfolding clap_on_literals
help = refl

pub returns : goal.returns
returns c = record { no_words = no_words; five_steps = five_steps; no_number = no_number; file = file; help = help }
