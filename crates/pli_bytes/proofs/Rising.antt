-- Scalars that lie one after the other.
use Rattle.std.proofs.Common.{◌≡◌, ℕ, zero, suc, ◌+◌, ◌*◌, ◌≤◌, List, [], ◌∷◌, ◌++◌, map, arith}
use Rattle.std.specs.Int.{next_multiple_of}
use Rattle.pli_map.specs.Description.{Description, FixedBinary, Character, Varying, Bit, Pointer, Offset, Area, Array, Structure, Members, NoMembers, MemberThen}
use Rattle.pli_map.specs.Parts.{PlacedPart, moved}
use Rattle.pli_map.specs.Sizes.{count_of, alignment_of, size_of, end_after, stride_of}
use Rattle.pli_map.proofs.Places.{fits_stride}
use Rattle.pli_bytes.specs.Contents.{spread, scalars_at, scalars_after}

-- the first begins no earlier than at one byte, each after the end of the one before, and the last ends no later than at another byte
abbrev pub Rise : (low : ℕ) → List PlacedPart → (high : ℕ) → Type 0
Rise low [] high = low ≤ high
Rise low (s ∷ ss) high = (low ≤ s.offset) × Rise (s.offset + size_of s.description) ss high

pub rise_ends : (low : ℕ) (ss : List PlacedPart) (high : ℕ) → Rise low ss high → low ≤ high
rise_ends low [] high h = h
rise_ends low (s ∷ ss) high h = omega (arith, h.0, rise_ends (s.offset + size_of s.description) ss high h.1)

pub rise_wider : (less low : ℕ) (ss : List PlacedPart) (high more : ℕ) → less ≤ low → high ≤ more → Rise low ss high → Rise less ss more
rise_wider less low [] high more a b h = omega (arith, h)
rise_wider less low (s ∷ ss) high more a b h =
    let end = s.offset + size_of s.description in
    (omega (arith, h.0), rise_wider end end ss high more (omega arith) b h.1)

pub rise_both : (low : ℕ) (ss : List PlacedPart) (middle : ℕ) (ts : List PlacedPart) (high : ℕ) → Rise low ss middle → Rise middle ts high → Rise low (ss ++ ts) high
rise_both low [] middle ts high h k = rise_wider low middle ts high high h (omega arith) k
rise_both low (s ∷ ss) middle ts high h k = (h.0, rise_both (s.offset + size_of s.description) ss middle ts high h.1 k)

pub rise_moved : (m low : ℕ) (ss : List PlacedPart) (high : ℕ) → Rise low ss high → Rise (m + low) (map (moved m) ss) (m + high)
rise_moved m low [] high h = omega (arith, h)
rise_moved m low (s ∷ ss) high h =
    let size = size_of s.description in
    (omega (arith, h.0), rise_wider (m + s.offset + size) (m + (s.offset + size)) (map (moved m) ss) (m + high) (m + high) (omega arith) (omega arith) (rise_moved m (s.offset + size) ss high h.1))

pub rise_spread : (at stride count : ℕ) (ss : List PlacedPart) (size : ℕ) → size ≤ stride → Rise 0 ss size → Rise at (spread at stride count ss) (at + count * stride)
rise_spread at stride zero ss size fits h = omega arith
rise_spread at stride (suc n) ss size fits h =
    let all : at + suc n * stride ≡ at + stride + n * stride = omega arith in
    rise_both at (map (moved at) ss) (at + stride) (spread (at + stride) stride n ss) (at + suc n * stride)
    (rise_wider at (at + 0) (map (moved at) ss) (at + size) (at + stride) (omega arith) (omega (arith, fits)) (rise_moved at 0 ss size h))
    (rise_wider (at + stride) (at + stride) (spread (at + stride) stride n ss) (at + stride + n * stride) (at + suc n * stride) (omega arith) (omega (arith, all))
    (rise_spread (at + stride) stride n ss size fits h))

alone_rises : (d : Description) → Rise 0 (record { offset = 0; description = d } ∷ []) (size_of d)
alone_rises d = (omega arith, omega arith)

mutual
  -- the scalars of a description, within its bytes
  pub rises : (d : Description) → Rise 0 (scalars_at d) (size_of d)
  rises (FixedBinary p) = alone_rises (FixedBinary p)
  rises (Character n) = alone_rises (Character n)
  rises (Varying n) = alone_rises (Varying n)
  rises (Bit n) = alone_rises (Bit n)
  rises Pointer = alone_rises Pointer
  rises Offset = alone_rises Offset
  rises (Area n) = omega arith
  rises (Array bounds element) =
      let stride = stride_of element in
      let count = count_of bounds in
      rise_wider 0 0 (spread 0 stride count (scalars_at element)) (0 + count * stride) (count * stride) (omega arith) (omega arith)
      (rise_spread 0 stride count (scalars_at element) (size_of element) (fits_stride element) (rises element))
  rises (Structure members) = rises_after 0 members

  pub rises_after : (at : ℕ) (ds : Members) → Rise at (scalars_after at ds) (end_after at ds)
  rises_after at NoMembers = omega arith
  rises_after at (MemberThen d ds) =
      let start = next_multiple_of at (alignment_of d) in
      rise_both at (map (moved start) (scalars_at d)) (start + size_of d) (scalars_after (start + size_of d) ds) (end_after (start + size_of d) ds)
      (rise_wider at (start + 0) (map (moved start) (scalars_at d)) (start + size_of d) (start + size_of d) (omega arith) (omega arith) (rise_moved start 0 (scalars_at d) (size_of d) (rises d)))
      (rises_after (start + size_of d) ds)
