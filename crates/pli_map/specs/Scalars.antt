-- The scalars of a description (own): the types of values, in the order in which they stand, those of an array
-- in row-major order. What a description holds is the list of what they hold. An area is no scalar: it holds
-- blocks, which are storage of their own.
use Rattle.std.specs.Prelude.{ℕ, ◌+◌, ◌-◌, ◌*◌, ◌/◌, ◌%◌, nat_eq, nat_lt, ◌&&◌, Option, Some, None}
use Rattle.std.specs.Prelude.{option_map}
use Rattle.std.specs.Prelude.{Bool, true, false, if◌then◌else◌, List, [], ◌∷◌, ◌++◌, replicate}
use Rattle.std.specs.List.{flat_map}
use Rattle.std.specs.Int.{next_multiple_of}
use Rattle.pli_map.specs.Description.{Description, Area, Array, Structure, Members, NoMembers, MemberThen}
use Rattle.pli_map.specs.Same.{same}
use Rattle.pli_map.specs.Sizes.{count_of, alignment_of, size_of, stride_of}

-- an array or a structure
abbrev pub is_aggregate : Description → Bool
is_aggregate (Array _ _) = true
is_aggregate (Structure _) = true
is_aggregate other = false

-- an area
abbrev pub is_area : Description → Bool
is_area (Area bytes) = true
is_area other = false

-- no aggregate and no area
abbrev pub is_scalar : Description → Bool
is_scalar (Area _) = false
is_scalar (Array _ _) = false
is_scalar (Structure _) = false
is_scalar scalar = true

-- how many scalars a description has
abbrev mutual
  pub scalars_in : Description → ℕ
  scalars_in (Area bytes) = 0
  scalars_in (Array bounds element) = count_of bounds * scalars_in element
  scalars_in (Structure members) = scalars_among members
  scalars_in scalar = 1

  -- how many the members of a structure have together
  pub scalars_among : Members → ℕ
  scalars_among NoMembers = 0
  scalars_among (MemberThen d ds) = scalars_in d + scalars_among ds

-- the scalars themselves
abbrev mutual
  pub scalars_of : Description → List Description
  scalars_of (Area bytes) = []
  scalars_of (Array bounds element) = flat_map (λ ds. ds) (replicate (count_of bounds) (scalars_of element))
  scalars_of (Structure members) = scalars_of_members members
  scalars_of scalar = scalar ∷ []

  -- those of members, one member after another
  pub scalars_of_members : Members → List Description
  scalars_of_members NoMembers = []
  scalars_of_members (MemberThen d ds) = scalars_of d ++ scalars_of_members ds

-- a description stands here itself: at no distance, and the same
abbrev pub stands_here : Description → (offset : ℕ) → (part : Description) → Bool
stands_here whole offset part = nat_eq offset 0 && same whole part

-- which scalar of a description is the first of the part that stands so many bytes after its beginning and
-- has this description; none where no such part stands there
abbrev mutual
  pub first_scalar : Description → (offset : ℕ) → (part : Description) → Option ℕ
  first_scalar (Array bounds element) offset part =
      if stands_here (Array bounds element) offset part then Some 0
      else if nat_lt (offset / stride_of element) (count_of bounds)
      then option_map (λ k. offset / stride_of element * scalars_in element + k)
      (first_scalar element (offset % stride_of element) part)
      else None
  first_scalar (Structure members) offset part =
      if stands_here (Structure members) offset part then Some 0
      else scalar_after 0 members offset part
  first_scalar scalar offset part = if stands_here scalar offset part then Some 0 else None

  -- the same among members, each at its next aligned place after the one before, and the first after this
  -- byte
  pub scalar_after : (at : ℕ) → Members → (offset : ℕ) → (part : Description) → Option ℕ
  scalar_after at NoMembers offset part = None
  scalar_after at (MemberThen d ds) offset part =
      if nat_lt offset (next_multiple_of at (alignment_of d) + size_of d)
      then (if nat_lt offset (next_multiple_of at (alignment_of d)) then None
      else first_scalar d (offset - next_multiple_of at (alignment_of d)) part)
      else option_map (λ k. scalars_in d + k)
      (scalar_after (next_multiple_of at (alignment_of d) + size_of d) ds offset part)
