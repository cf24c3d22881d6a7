-- How many of the scalars of a description stand before the part that a path leads to, and descriptions of
-- which each part takes bytes (own).
use Rattle.std.specs.Prelude.{ℕ, zero, suc, ◌+◌, ◌*◌, nat_lt, Bool, true, false, ◌&&◌, ◌||◌, Option, Some, None}
use Rattle.std.specs.Prelude.{option_map, option_and_then, List, [], ◌∷◌}
use Rattle.pli_map.specs.Description.{Description, FixedBinary, Character, Varying, Bit, Pointer, Offset}
use Rattle.pli_map.specs.Description.{Area, Array, Structure, Members, NoMembers, MemberThen}
use Rattle.pli_map.specs.Parts.{PathStep, Member, Element, index_of, part_at}
use Rattle.pli_map.specs.Scalars.{scalars_in}
use Rattle.pli_map.specs.Sizes.{count_of}

-- before a member: those of the members before it
abbrev pub scalars_before_member : Members → (number : ℕ) → Option ℕ
scalars_before_member NoMembers i = None
scalars_before_member (MemberThen d ds) zero = Some 0
scalars_before_member (MemberThen d ds) (suc i) =
    option_map (λ k. scalars_in d + k) (scalars_before_member ds i)

-- before the part that one step leads to: for an element, those of the elements before it
abbrev pub scalars_before_step : Description → PathStep → Option ℕ
scalars_before_step (Structure members) (Member i) = scalars_before_member members i
scalars_before_step (Array bounds element) (Element xs) =
    option_map (λ k. k * scalars_in element) (index_of bounds xs)
scalars_before_step d s = None

-- before the part that a path leads to: for each step those before it, in what the steps before it lead to;
-- none where the path leads nowhere
abbrev pub scalars_before : Description → List PathStep → Option ℕ
scalars_before d [] = Some 0
scalars_before d (s ∷ path) =
    option_and_then (λ p. option_and_then (λ k. option_map (λ j. k + j) (scalars_before p.description path))
    (scalars_before_step d s)) (part_at d s)

-- each length, each size and each array's number of elements is at least 1, as in descriptions that are
-- declared
abbrev mutual
  pub is_filled : Description → Bool
  is_filled (FixedBinary p) = true
  is_filled (Character n) = nat_lt 0 n
  is_filled (Varying n) = nat_lt 0 n
  is_filled (Bit n) = nat_lt 0 n
  is_filled Pointer = true
  is_filled Offset = true
  is_filled (Area n) = nat_lt 0 n
  is_filled (Array bounds element) = nat_lt 0 (count_of bounds) && is_filled element
  is_filled (Structure NoMembers) = false
  is_filled (Structure (MemberThen d ds)) = is_filled d && are_filled ds

  -- so in each member
  pub are_filled : Members → Bool
  are_filled NoMembers = true
  are_filled (MemberThen d ds) = is_filled d && are_filled ds

-- it is an area, or one is within it
abbrev mutual
  pub has_area : Description → Bool
  has_area (Area n) = true
  has_area (Array bounds element) = has_area element
  has_area (Structure members) = have_area members
  has_area scalar = false

  -- so one of these members
  pub have_area : Members → Bool
  have_area NoMembers = false
  have_area (MemberThen d ds) = has_area d || have_area ds
