use Rattle.std.proofs.Common.{◌≡◌, ◌<◌, ◌≤◌, ◌+◌, ◌*◌, ◌^◌, drop, length}
use Rattle.pli_declare.specs.Initials.{all_given}
use Rattle.pli_declare_attributes.proofs.initials.given.Given as goal

-- the elements so far and those that are left; each value gives fewer than 2 ^ 64
abbrev pub invariant-loop-value : goal.invariant-loop-value
invariant-loop-value l =
    record {
      whole : l.given + all_given (drop l.value-index l.values) ≡ all_given l.values;
      limit : l.given ≤ l.value-index * 18446744073709551615;
      few : length l.values < 2 ^ 64;
    }
