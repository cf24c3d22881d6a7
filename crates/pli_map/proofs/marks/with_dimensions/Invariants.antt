use Rattle.std.proofs.Common.{◌≡◌, ◌≢◌, true, drop}
use Rattle.pli_map.specs.Marks.{are_all_short, with_dimensions}
use Rattle.pli_map.proofs.marks.with_dimensions.Given as goal

-- the mark of the dimensions from here on
abbrev pub invariant-loop-at : goal.invariant-loop-at
invariant-loop-at l = l.mark ≢ 0 → (l.element ≢ 0) × (are_all_short (drop l.at l.bounds) ≡ true) × (with_dimensions (drop l.at l.bounds) l.element ≡ l.mark)
