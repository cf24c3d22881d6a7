-- Which code is too long, so that a unit is G1 (own): a table of more than 65,535 entries, a block of more
-- than 65,535 slots, a structure of more than 65,535 members, templates with initial values whose sizes come
-- to more than 16,777,216 bytes, or a number that is wider than its field in the bytes of code.
use Rattle.std.specs.Prelude.{ℕ, suc, ◌+◌, nat_lt, Bool, true, false, not, ◌&&◌, ◌||◌, Option, Some, None}
use Rattle.std.specs.Prelude.{List, [], ◌∷◌, length, slice_get}
use Rattle.std.specs.List.{list_all, list_any, sum_by}
use Rattle.std.specs.Option.{option_and_then}
use Rattle.pli_map.specs.Description.{Description, Array, Structure, Members, NoMembers, MemberThen}
use Rattle.pli_map.specs.ParameterTypes.{ParameterType, Stated, AnyString, AnyArray, ArrayOf, StructureOf, stated}
use Rattle.pli_map.specs.Sizes.{size_of}
use Rattle.pli_code.specs.CodeFields.{block_fits, instruction_fits}
use Rattle.pli_code.specs.Decks.{CodedTemplate, CodedBlock, Code}

-- the greatest number of entries
abbrev pub entry_limit : ℕ
entry_limit = 65535

-- a table has more entries
abbrev pub is_over : {X : Type 0} → List X → Bool
is_over entries = nat_lt entry_limit (length entries)

-- a block has more parameters and AUTOMATIC variables
abbrev pub has_many_slots : CodedBlock → Bool
has_many_slots b = nat_lt entry_limit (b.parameters + length b.variables)

-- how many members a structure has
abbrev pub member_count : Members → ℕ
member_count NoMembers = 0
member_count (MemberThen d ds) = suc (member_count ds)

abbrev mutual
  -- a structure somewhere in a description has too many
  pub has_many_members : Description → Bool
  has_many_members (Array bounds element) = has_many_members element
  has_many_members (Structure members) =
      nat_lt entry_limit (member_count members) || one_has_many members
  has_many_members scalar = false

  -- one somewhere in its members has
  pub one_has_many : Members → Bool
  one_has_many NoMembers = false
  one_has_many (MemberThen d ds) = has_many_members d || one_has_many ds

-- one somewhere in what is stated of a type has; no parameter is a structure in which a `*` stands
abbrev pub has_many_types : ParameterType → Bool
has_many_types (Stated d) = has_many_members d
has_many_types (AnyString form) = false
has_many_types (AnyArray dimensions element) = has_many_types element
has_many_types (ArrayOf bounds element) = has_many_types element
has_many_types (StructureOf members) = true

-- the bytes of a description that is there
abbrev pub bytes_of : Option Description → ℕ
bytes_of None = 0
bytes_of (Some d) = size_of d

-- the bytes of a template that has initial values; others count none
abbrev pub initial_bytes_of : List ParameterType → CodedTemplate → ℕ
initial_bytes_of types t = bytes_if t.initial
  where
    bytes_if : {X : Type 0} → List X → ℕ
    bytes_if [] = 0
    bytes_if (i ∷ is) = bytes_of (option_and_then stated (slice_get types t.description))

-- those of all templates together
abbrev pub initial_bytes : Code → ℕ
initial_bytes c = sum_by (initial_bytes_of c.descriptions) c.templates

-- a number of a block or of an instruction is wider than its field
abbrev pub has_wide_number : Code → Bool
has_wide_number c = not (list_all block_fits c.blocks && list_all instruction_fits c.instructions)

-- the code is over one of these limits
abbrev pub is_too_long : Code → Bool
is_too_long c =
    is_over c.descriptions || is_over c.templates || is_over c.values || is_over c.globals
    || is_over c.blocks || is_over c.instructions || list_any has_many_slots c.blocks
    || list_any has_many_types c.descriptions || nat_lt 16777216 (initial_bytes c) || has_wide_number c
