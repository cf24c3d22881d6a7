use Rattle.std.proofs.Common.{◌≡◌, ◌+◌, ◌++◌, map, length}
use Rattle.std.specs.Iterator.Adapters.{zip_first, zip_second}
use Rattle.std.specs.Slice.Iter.{iter_rest}
use Rattle.pli_declare.specs.Tables.{item_entries}
use Rattle.pli_declare_tables.specs.views.TableView.{named_view, entries_view}
use Rattle.pli_declare.proofs.ItemsStandAfter.{StandFrom}
use Rattle.pli_declare_tables.proofs.entries.add_items.Given as goal

-- the entries so far, and those of the names that are left
abbrev pub invariant-loop-named : goal.invariant-loop-named
invariant-loop-named l =
    let left = iter_rest (zip_first l.named-iterator) in
    let standings = iter_rest (zip_second l.named-iterator) in
    record {
      entries : entries_view l.entries.items ++ item_entries l.base (map named_view left) standings
          ≡ entries_view l.initial.entries.items ++ item_entries l.base (map named_view l.names) l.standings;
      stand : StandFrom (length l.yielded) standings;
      count : length l.entries.items ≡ l.base + length l.yielded;
    }
