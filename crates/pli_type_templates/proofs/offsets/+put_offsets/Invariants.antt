use Rattle.std.proofs.Common.{◌≡◌, ◌≤◌, ◌+◌, ◌-◌, ◌*◌, ◌++◌, length, take}
use Rattle.std.specs.List.{flat_map}
use Rattle.pli_type_rules.specs.InitialScalars.{counted_from}
use Rattle.pli_type_templates.specs.Plans.{spread}
use Rattle.pli_type_templates.proofs.offsets.+put_offsets.Given as goal

abbrev pub decreases-put_offsets : goal.decreases-put_offsets
decreases-put_offsets l = length l.levels.now

-- the bytes so far and those of the elements that are left are those of all
abbrev pub invariant-loop-passed : goal.invariant-loop-passed
invariant-loop-passed l = record {
  whole : take l.wanted (l.offsets.items ++ flat_map (spread l.inner) (counted_from l.at l.level.distance (l.level.count - l._passed)))
      ≡ take l.wanted (l.fn.offsets.items ++ spread l.fn.levels l.fn.first);
  room : length l.offsets.items ≤ l.wanted;
  reach : l.at + (l.level.count - l._passed) * l.level.distance ≤ 4294967295;
}
