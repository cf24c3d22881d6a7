use Rattle.std.proofs.Common.{◌≡◌, ◌<◌, ℕ, false, length, get_or, take}
use Rattle.std.specs.List.{list_any}
use Rattle.pli_declare_tables.specs.views.TableView.{entries_view}
use Rattle.pli_declare.specs.Places.{owner_is}
use Rattle.pli_declare_variables.proofs.places.with_members.Given as goal

-- the marks that the entries so far have set
abbrev pub invariant-loop-entry : goal.invariant-loop-entry
invariant-loop-entry l =
    record {
      long : length l.marks.items ≡ length l.entries;
      marked : (n : ℕ) → n < length l.entries → get_or l.marks.items n false ≡ list_any (owner_is n) (take l.entry-index (entries_view l.entries));
    }
