use Rattle.std.proofs.Common.{◌≡◌, [], drop}
use Rattle.pli_parse_expression.specs.Assignments.{accepts, is_assignment}
use Rattle.pli_parse_expression.specs.answers.Tests.{onto}
use Rattle.pli_parse_expression.proofs.assignment.is_assignment.Given as goal

-- the pass over what is left says what the test says
abbrev pub invariant-loop-text : goal.invariant-loop-text
invariant-loop-text l = accepts l.state l.frame (onto l.around.items []) (drop l.text-index l.texts) ≡ is_assignment l.texts
