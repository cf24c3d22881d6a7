-- Alignments are 1, 2, 4 or 8.
use Rattle.std.proofs.Common.{◌<◌, ◌≤◌, nat_le, if◌then◌else◌, Bool, true, false, arith}
use Rattle.pli_map.specs.Description.{Description, FixedBinary, Character, Varying, Bit, Pointer, Offset, Area, Array, Structure, Members, NoMembers, MemberThen}
use Rattle.pli_map.specs.Sizes.{alignment_of, greatest_alignment}

between : (b c : Bool) → (0 < (if b then 2 else (if c then 4 else 8))) × ((if b then 2 else (if c then 4 else 8)) ≤ 8)
between true c = (omega arith, omega arith)
between false true = (omega arith, omega arith)
between false false = (omega arith, omega arith)

mutual
  in_range : (d : Description) → (0 < alignment_of d) × (alignment_of d ≤ 8)
  in_range (FixedBinary p) = between (nat_le p 15) (nat_le p 31)
  in_range (Character n) = (omega arith, omega arith)
  in_range (Varying n) = (omega arith, omega arith)
  in_range (Bit n) = (omega arith, omega arith)
  in_range Pointer = (omega arith, omega arith)
  in_range Offset = (omega arith, omega arith)
  in_range (Area n) = (omega arith, omega arith)
  in_range (Array bounds element) = in_range element
  in_range (Structure members) = members_in_range members

  members_in_range : (ds : Members) → (0 < greatest_alignment ds) × (greatest_alignment ds ≤ 8)
  members_in_range NoMembers = (omega arith, omega arith)
  members_in_range (MemberThen d ds) =
      let first = in_range d in
      let others = members_in_range ds in
      (omega arith, omega arith)

pub alignment_positive : (d : Description) → 0 < alignment_of d
alignment_positive d = (in_range d).0

pub alignment_small : (d : Description) → alignment_of d ≤ 8
alignment_small d = (in_range d).1

pub members_positive : (ds : Members) → 0 < greatest_alignment ds
members_positive ds = (members_in_range ds).0

pub members_small : (ds : Members) → greatest_alignment ds ≤ 8
members_small ds = (members_in_range ds).1
