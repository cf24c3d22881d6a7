use Rattle.std.proofs.Common.{◌≡◌, ◌≤◌, ◌+◌, length}
use Rattle.pli_parse_declaration.specs.DeclarationReading.{nest_at}
use Rattle.pli_parse_declaration.proofs.DeclarationNests.{Walks}
use Rattle.pli_parse_declaration.proofs.nest.nest_at.Given as goal

-- the walk that is left is the whole walk
abbrev pub invariant-loop-nest : goal.invariant-loop-nest
invariant-loop-nest l =
    record {
      value : Walks l.nest l.expects l.next l.rest (nest_at l.fn.at l.fn.texts);
      place : (l.fn.at ≤ l.next) × (l.next + length l.rest ≡ l.fn.at + length l.fn.texts);
    }

abbrev pub decreases-loop-nest : goal.decreases-loop-nest
decreases-loop-nest l = length l.rest
