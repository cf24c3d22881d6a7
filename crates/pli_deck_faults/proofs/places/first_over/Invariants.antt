use Rattle.std.proofs.Common.{◌-◌, ◌<◌, ◌≤◌, length, get_or}
use Rattle.pli_deck_faults.proofs.places.first_over.Given as goal

-- those before low end at the offset or before it, and that at high after it
abbrev pub invariant-loop-low : goal.invariant-loop-low
invariant-loop-low l =
    record {
      order : l.low ≤ l.high;
      bound : l.high ≤ length l.ends;
      before : 0 < l.low → get_or l.ends (l.low - 1) 0 ≤ l.offset;
      here : l.high < length l.ends → l.offset < get_or l.ends l.high 0;
    }

abbrev pub decreases-loop-low : goal.decreases-loop-low
decreases-loop-low l = l.high - l.low
