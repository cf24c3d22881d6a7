use Rattle.std.proofs.Common.{ℕ, Option, drop}
use Rattle.pli_map.specs.Description.{Description}
use Rattle.pli_declare.specs.Descriptions.{members_made}
use Rattle.pli_declare_variables.specs.answers.Measures.{AreMeasured, IsFront}
use Rattle.pli_declare_variables.proofs.sizes.structure.Given as goal

abbrev pub invariant-loop-number : goal.invariant-loop-number
invariant-loop-number l = (describe : ℕ → Option Description) → AreMeasured describe l.measured l.members
    → IsFront l.whole (members_made describe (drop l.number-index l.members)) (members_made describe l.members)
