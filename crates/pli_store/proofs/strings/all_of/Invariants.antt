use Rattle.std.proofs.Common.{◌≡◌, length}
use Rattle.pli_store.specs.answers.StringLists.{AreStrings}
use Rattle.pli_store.proofs.strings.all_of.Given as goal

-- the descriptions so far are those of the least lengths
abbrev pub invariant-loop-shorter : goal.invariant-loop-shorter
invariant-loop-shorter l = record {
  count : length l.all.items ≡ l.shorter;
  strings : AreStrings l.form l.all.items;
}
