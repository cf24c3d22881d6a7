use Rattle.std.proofs.Common.{◌≡◌, ℕ, ◌<◌, ◌≤◌, ◌+◌, length, get_or}
use Rattle.pli_declare_tables.specs.views.TableView.{entries_view}
use Rattle.pli_declare.specs.Descriptions.{described}
use Rattle.pli_declare_variables.specs.answers.Measures.{IsMeasured}
use Rattle.pli_declare_variables.specs.declared.sizes.Measured.TheVariants.{Unknown}
use Rattle.pli_declare_variables.proofs.sizes.measure_all.Given as goal

-- what the last items take is known
abbrev pub invariant-loop-done : goal.invariant-loop-done
invariant-loop-done l =
    record {
      count : length l.measured.items ≡ length l.entries;
      known : (k : ℕ) → length l.entries ≤ k + l.done → k < length l.entries
          → IsMeasured (get_or l.measured.items k Unknown) (described (length l.entries) (entries_view l.entries) l.codes k);
    }
