-- The tables of all blocks of a unit, and of the unit itself.
use Rattle.std.proofs.Common.{◌≡◌, ℕ, zero, suc, ◌+◌, true, List, [], ◌∷◌, map, None, refl, ap, arith}
use Rattle.pli_declare_outline.specs.Outlines.{Mark, Declared, Labelled, Entered, Used, Jumped, PlacedMark, Outline}
use Rattle.pli_declare_scopes.specs.Repeats.{verdicts_of}
use Rattle.pli_declare_scopes.specs.Scopes.{BlockItems}
use Rattle.pli_declare.specs.Tables.{Entry, written, with_verdicts, entries_in, heading_entries, unit_entries, numbers_from, table_with, table_in}
use Rattle.pli_declare.specs.answers.Owners.{AllAfterOwners}
use Rattle.pli_declare.proofs.MembersStandAfter.{owners_stand_before}

pub all_after : (o : Outline) (first count : ℕ) → AllAfterOwners (map (entries_in o) (numbers_from first count))
all_after o first zero n lt = absurd (omega arith)
all_after o first (suc count) zero lt = owners_stand_before o first
all_after o first (suc count) (suc n) lt = all_after o (first + 1) count n (omega arith)

pub tables_in : (o : Outline) (ns : List ℕ) → map table_with (map (entries_in o) ns) ≡ map (table_in o) ns
tables_in o [] = refl
tables_in o (n ∷ ns) = ap (λ ts. table_in o n ∷ ts) (tables_in o ns)

abbrev counted : List Entry → BlockItems
counted es = map (λ e. record { name = e.identifier.name; owner = None; counts = true }) es

heading_is : (mark : Mark) → with_verdicts (heading_entries mark) (verdicts_of (map written (heading_entries mark))) ≡ counted (heading_entries mark)
heading_is (Declared items) = refl
heading_is (Labelled label) = refl
heading_is (Entered heading region) = refl
heading_is (Used names) = refl
heading_is (Jumped label) = refl

-- the unit's own name counts
pub unit_is : (ps : List PlacedMark) → with_verdicts (unit_entries ps) (verdicts_of (map written (unit_entries ps))) ≡ counted (unit_entries ps)
unit_is [] = refl
unit_is (p ∷ ps) = heading_is p.mark
