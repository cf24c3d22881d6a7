-- Parts of what a description describes, by their offsets (own).
use Rattle.std.specs.Prelude.{ℕ, zero, suc, ◌+◌, Option, Some, None}
use Rattle.std.specs.Int.{next_multiple_of}
use Rattle.pli_map.specs.Description.{Description, Members, NoMembers, MemberThen}
use Rattle.pli_map.specs.Sizes.{alignment_of, size_of}

-- a part of a description: how many bytes after its beginning it stands, and what it is
pub record PlacedPart : Type 0 where
  pub offset : ℕ
  pub description : Description

-- the member of this number, if each stands at its next aligned place after the one before, and the first
-- after this byte
abbrev pub member_after : ℕ → Members → ℕ → Option PlacedPart
member_after at NoMembers i = None
member_after at (MemberThen d ds) zero =
    Some (record { offset = next_multiple_of at (alignment_of d); description = d })
member_after at (MemberThen d ds) (suc i) =
    member_after (next_multiple_of at (alignment_of d) + size_of d) ds i

-- the same part of what stands this many bytes further
abbrev pub moved : ℕ → PlacedPart → PlacedPart
moved n p = record { offset = n + p.offset; description = p.description }
