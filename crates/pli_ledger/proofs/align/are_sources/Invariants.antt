use Rattle.std.specs.Prelude.{◌≡◌, map, drop}
use Rattle.pli_meaning.specs.Scratch.{sources}
use Rattle.pli_ledger.specs.answers.Aligning.{unit_name}
use Rattle.pli_ledger.proofs.align.are_sources.Given as goal

-- if what is left of the units are the sources that are left, all are
abbrev pub invariant-loop-entry : goal.invariant-loop-entry
invariant-loop-entry l =
    map unit_name l.left ≡ sources (drop l.entry-index l.entries) → map unit_name l.units ≡ sources l.entries
