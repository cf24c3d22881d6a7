-- The fields of a name are given back by its characters.
use Rattle.std.specs.Prelude.{◌≡◌, ◌≤◌, ◌-◌, ◌++◌, ℕ, List, length, take, drop, replicate, Some}
use Rattle.std.proofs.Common.{arith, ap, length-take, take-append-drop}
use Rattle.pli_base.specs.Name.{name_of}
use Rattle.pli_base.specs.declared.name.Name.TheInside.{Inside}

fields : List ℕ → ℕ → Inside
fields bytes count = record { bytes = bytes; count = count }

pub restored : (n : Inside) → (n.count ≤ 31) × (drop n.count n.bytes ≡ replicate (31 - n.count) 0)
    × (length n.bytes ≡ 31) × (name_of (take n.count n.bytes) ≡ Some (take n.count n.bytes))
    → record {
      bytes = take n.count n.bytes
          ++ replicate (31 - length (take n.count n.bytes)) 0;
      count = length (take n.count n.bytes);
    } ≡ n
unfolding fields
restored n h =
    let counted : length (take n.count n.bytes) ≡ n.count = simp length-take (omega arith) in
    let whole : take n.count n.bytes ++ replicate (31 - n.count) 0 ≡ n.bytes =
    rw (← h.1) (take-append-drop n.count n.bytes) in
    rw counted (ap (λ b. fields b n.count) whole)
