-- How many bytes a description takes, and on which bytes it may stand.
use Rattle.std.specs.Prelude.{ℕ, ◌+◌, ◌*◌, max, nat_le, int_le, ◌-ℤ◌, unsigned_abs, List, [], ◌∷◌}
use Rattle.std.specs.Prelude.{if◌then◌else◌}
use Rattle.std.specs.Int.{next_multiple_of, div_ceil}
use Rattle.pli_map.specs.declared.description.Bounds.{Bounds}
use Rattle.pli_map.specs.Description.{Description, FixedBinary, Character, Varying, Bit, Pointer, Offset}
use Rattle.pli_map.specs.Description.{Area, Array, Structure, Members, NoMembers, MemberThen}

-- how many subscripts bounds have
abbrev pub extent_of : Bounds → ℕ
extent_of b = if int_le b.low b.high then unsigned_abs (b.high -ℤ b.low) + 1 else 0

-- how many elements an array of these bounds has
abbrev pub count_of : List Bounds → ℕ
count_of [] = 1
count_of (b ∷ bs) = extent_of b * count_of bs

-- how many bytes a number of so many binary digits takes (own)
abbrev pub number_bytes : (precision : ℕ) → ℕ
number_bytes p = if nat_le p 15 then 2 else (if nat_le p 31 then 4 else 8)

-- a description stands on a byte whose number is a multiple of its alignment
abbrev mutual
  pub alignment_of : Description → ℕ
  alignment_of (FixedBinary p) = number_bytes p
  alignment_of (Character n) = 1
  alignment_of (Varying n) = 2
  alignment_of (Bit n) = 1
  alignment_of Pointer = 4
  alignment_of Offset = 4
  alignment_of (Area n) = 8
  alignment_of (Array bounds element) = alignment_of element
  alignment_of (Structure members) = greatest_alignment members

  -- the greatest that a member has; 1 without members
  pub greatest_alignment : Members → ℕ
  greatest_alignment NoMembers = 1
  greatest_alignment (MemberThen d ds) = max (alignment_of d) (greatest_alignment ds)

-- the size in bytes (own): a member stands at its next aligned place, and a structure ends with its last
-- member
abbrev mutual
  pub size_of : Description → ℕ
  size_of (FixedBinary p) = number_bytes p
  size_of (Character n) = n
  size_of (Varying n) = 2 + n
  size_of (Bit n) = div_ceil n 8
  size_of Pointer = 8
  size_of Offset = 4
  size_of (Area n) = n
  size_of (Array bounds element) = count_of bounds * next_multiple_of (size_of element) (alignment_of element)
  size_of (Structure members) = end_after 0 members

  -- where the last of these members ends, if each stands at its next aligned place after the one before, and
  -- the first after this byte
  pub end_after : ℕ → Members → ℕ
  end_after at NoMembers = at
  end_after at (MemberThen d ds) = end_after (next_multiple_of at (alignment_of d) + size_of d) ds

-- from one element of an array to the next
abbrev pub stride_of : Description → ℕ
stride_of element = next_multiple_of (size_of element) (alignment_of element)
