use Rattle.std.proofs.Common.{◌≡◌, ◌+◌, ◌*◌, ◌≤◌, ◌++◌, length}
use Rattle.pli_run.specs.Print.{characters_from}
use Rattle.pli_print.proofs.printing.put_characters.Given as goal

-- what is put and what is left to put are together what is printed
abbrev pub invariant-loop-from : goal.invariant-loop-from
invariant-loop-from l = record {
  within : l.from ≤ 121;
  bytes : l.output.items ++ (characters_from l.from l.rest).bytes ≡ l.initial.output.items ++ (characters_from l.initial.from l.initial.rest).bytes;
  column : (characters_from l.from l.rest).column ≡ (characters_from l.initial.from l.initial.rest).column;
}

abbrev pub decreases-loop-from : goal.decreases-loop-from
decreases-loop-from l = 121 * length l.rest + l.from
