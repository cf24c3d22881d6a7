use Rattle.std.proofs.Common.{◌≤◌, take}
use Rattle.std.specs.List.{All}
use Rattle.pli_include.specs.Pieces.{IsPlain}
use Rattle.pli_include.proofs.reading.staying.Given as goal

-- so many are plain, and there is room for them
abbrev pub invariant-loop-count : goal.invariant-loop-count
invariant-loop-count l = record {
  plain : All IsPlain (take l.count l.tokens);
  room : l.count ≤ l.room;
}
