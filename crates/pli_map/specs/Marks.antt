-- Marks of descriptions (own): numbers by which small descriptions are known to be equal at once. No two descriptions that are
-- marked have one mark. What a description is stands in the last three binary digits of its mark.
use Rattle.std.specs.Prelude.{◌≡◌, ◌≢◌, ℕ, suc, ℤ, pos, negsuc, ◌+◌, ◌*◌, nat_eq, nat_lt, Bool, true, ◌&&◌}
use Rattle.std.specs.Prelude.{if◌then◌else◌, List, [], ◌∷◌}
use Rattle.pli_map.specs.declared.description.Bounds.{Bounds}
use Rattle.pli_map.specs.Description.{Description, FixedBinary, Character, Varying, Bit, Pointer, Offset}
use Rattle.pli_map.specs.Description.{Area, Array, Structure, Members, NoMembers, MemberThen}

-- a bound as a number without a sign
abbrev pub bound_mark : ℤ → ℕ
bound_mark (pos n) = n * 2
bound_mark (negsuc n) = suc n * 2 + 1

-- bounds before what was marked; a low bound of 1, whose mark is 2, takes one binary digit
abbrev pub with_low : (low mark : ℕ) → ℕ
with_low low mark = if nat_eq low 2 then mark * 2 else (mark * 65536 + low) * 2 + 1

-- both bounds of a dimension before what was marked
abbrev pub with_bounds : Bounds → (mark : ℕ) → ℕ
with_bounds b mark = with_low (bound_mark b.low) (mark * 65536 + bound_mark b.high)

-- the bounds of an array before its element
abbrev pub with_dimensions : List Bounds → (element : ℕ) → ℕ
with_dimensions [] m = m * 2
with_dimensions (b ∷ bs) m = with_bounds b (with_dimensions bs m) * 2 + 1

-- a member before others; a small mark takes ten binary digits, and each other one twenty
abbrev pub with_member : (member others : ℕ) → ℕ
with_member m others = if nat_lt m 512 then others * 1024 + m * 2 else others * 1048576 + m * 2 + 1

abbrev mutual
  -- the mark of a description
  pub mark_of : Description → ℕ
  mark_of (Area n) = n * 8
  mark_of (FixedBinary p) = p * 8 + 1
  mark_of (Character n) = n * 8 + 2
  mark_of (Varying n) = n * 8 + 3
  mark_of (Bit n) = n * 8 + 4
  mark_of Pointer = 5
  mark_of Offset = 13
  mark_of (Array bounds element) = with_dimensions bounds (mark_of element) * 8 + 6
  mark_of (Structure members) = mark_of_members members * 8 + 7

  -- of the members of a structure
  pub mark_of_members : Members → ℕ
  mark_of_members NoMembers = 1
  mark_of_members (MemberThen d ds) = with_member (mark_of d) (mark_of_members ds)

-- the mark of a scalar; 0 of what is none
abbrev pub scalar_mark : Description → ℕ
scalar_mark (Area _) = 0
scalar_mark (Array _ _) = 0
scalar_mark (Structure _) = 0
scalar_mark scalar = mark_of scalar

-- the mark of the elements of an array of scalars; 0 of what is none
abbrev pub elements_mark : Description → ℕ
elements_mark (Array bounds element) = scalar_mark element
elements_mark other = 0

-- bounds that 16 binary digits hold
abbrev pub are_short : Bounds → Bool
are_short b = nat_lt (bound_mark b.low) 65536 && nat_lt (bound_mark b.high) 65536

-- the same of each of some bounds
abbrev pub are_all_short : List Bounds → Bool
are_all_short [] = true
are_all_short (b ∷ bs) = are_short b && are_all_short bs

abbrev mutual
  -- whether a description is marked: its bounds are short, and so are the marks of its members
  pub is_marked : Description → Bool
  is_marked (Array bounds element) = are_all_short bounds && is_marked element
  is_marked (Structure members) = are_marked members
  is_marked other = true

  -- the same of each member
  pub are_marked : Members → Bool
  are_marked NoMembers = true
  are_marked (MemberThen d ds) = nat_lt (mark_of d) 524288 && (is_marked d && are_marked ds)

-- a number is the mark of a description, or 0, which says nothing
abbrev pub HasMark : Description → ℕ → Type 0
HasMark d m = m ≢ 0 → (is_marked d ≡ true) × (mark_of d ≡ m)

-- a number is the mark of the elements of an array of scalars, or 0, which says nothing
abbrev pub HasElements : Description → ℕ → Type 0
HasElements d m = m ≢ 0 → elements_mark d ≡ m

-- the same of members
abbrev pub HaveMark : Members → ℕ → Type 0
HaveMark ds m = m ≢ 0 → (are_marked ds ≡ true) × (mark_of_members ds ≡ m)
