use Rattle.std.proofs.Common.{◌≡◌, ◌≤◌, ◌+◌, length, map}
use Rattle.pli_parse_declaration.specs.DeclarationReading.{list_at}
use Rattle.pli_parse_declaration.proofs.DeclarationLists.{Left}
use Rattle.pli_parse_declaration.proofs.list.list_at.Given as goal

-- the values that were read, in front of those that are left, are all of them
abbrev pub invariant-loop-values : goal.invariant-loop-values
invariant-loop-values g l =
    let one = g.R.ListReader.one l.reader in
    record {
      value : Left l.separator one (map g.R.ListReader.tree l.values.items) l.next l.rest (list_at l.separator one l.fn.at l.fn.texts);
      place : (l.fn.at ≤ l.next) × (l.next + length l.rest ≡ l.fn.at + length l.fn.texts);
    }

abbrev pub decreases-loop-values : goal.decreases-loop-values
decreases-loop-values g l = length l.rest
