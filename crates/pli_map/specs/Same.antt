-- Equality of descriptions as a test (own).
use Rattle.std.specs.Prelude.{Bool, true, false, ◌==◌, ◌&&◌, List, [], ◌∷◌}
use Rattle.std.specs.Ordering.{int_eq}
use Rattle.pli_map.specs.declared.description.Bounds.{Bounds}
use Rattle.pli_map.specs.Description.{Description, FixedBinary, Character, Varying, Bit, Pointer, Offset}
use Rattle.pli_map.specs.Description.{Area, Array, Structure, Members, NoMembers, MemberThen}

-- each dimension has the same low and the same high bound
abbrev pub same_bounds : List Bounds → List Bounds → Bool
same_bounds [] [] = true
same_bounds (b ∷ bs) (c ∷ cs) = int_eq b.low c.low && int_eq b.high c.high && same_bounds bs cs
same_bounds bs cs = false

-- types, bounds and structure agree
abbrev mutual
  pub same : Description → Description → Bool
  same (FixedBinary p) (FixedBinary q) = p == q
  same (Character n) (Character m) = n == m
  same (Varying n) (Varying m) = n == m
  same (Bit n) (Bit m) = n == m
  same Pointer Pointer = true
  same Offset Offset = true
  same (Area n) (Area m) = n == m
  same (Array bs d) (Array cs e) = same_bounds bs cs && same d e
  same (Structure ds) (Structure es) = same_members ds es
  same d e = false

  -- equal members, as many of each structure
  pub same_members : Members → Members → Bool
  same_members NoMembers NoMembers = true
  same_members (MemberThen d ds) (MemberThen e es) = same d e && same_members ds es
  same_members ds es = false
