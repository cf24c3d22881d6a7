-- Plans: where the scalars of a description stand, so that those of a member are found without a look at the
-- members before it.
use Rattle.std.specs.Prelude.{◌≡◌, ◌≤◌, ℕ, zero, suc, ◌+◌, ◌*◌, nat_le, Bool, true, false, Option, Some, None}
use Rattle.std.specs.Prelude.{IfSome, List, [], ◌∷◌, map}
use Rattle.std.specs.Int.{next_multiple_of}
use Rattle.std.specs.List.{flat_map}
use Rattle.pli_map.specs.Description.{Description, FixedBinary, Character, Varying, Bit, Pointer, Offset}
use Rattle.pli_map.specs.Description.{Area, Array, Structure, Members, NoMembers, MemberThen}
use Rattle.pli_map.specs.Parts.{PlacedPart}
use Rattle.pli_map.specs.Sizes.{alignment_of, count_of, size_of, stride_of}
use Rattle.pli_type_rules.specs.InitialScalars.{counted_from}
use Rattle.pli_type_rules.specs.NamedUnits.{is_length}
use Rattle.pli_type_templates.specs.declared.plan.ArrayLevel.{ArrayLevel}

-- a scalar, and the byte on which it begins where all subscripts above it are the lowest
pub record Leaf : Type 0 where
  pub first : ℕ
  pub description : Description

-- a scalar; an array, by how many elements it has and how many bytes from one to the next; a structure
mutual
  pub data Plan : Type 0 where
    OfScalar : (leaf : Leaf) → Plan
    OfArray : (level : ArrayLevel) (element : Plan) → Plan
    OfStructure : (members : Plans) → Plan

  -- the plans of the members of a structure
  pub data Plans : Type 0 where
    NoPlans : Plans
    PlanThen : (first : Plan) (others : Plans) → Plans

-- the plan of a description that begins on this byte; an area has none
abbrev mutual
  pub plan_from : (first : ℕ) → Description → Plan
  plan_from first (Array bounds element) =
      OfArray (record { count = count_of bounds; distance = stride_of element }) (plan_from first element)
  plan_from first (Structure ds) = OfStructure (plans_from first 0 ds)
  plan_from first (Area bytes) = OfStructure NoPlans
  plan_from first scalar = OfScalar (record { first = first; description = scalar })

  -- the plans of members of a structure that begins on this byte, where those before them end so far after
  -- it
  pub plans_from : (first ended : ℕ) → Members → Plans
  plans_from first ended NoMembers = NoPlans
  plans_from first ended (MemberThen d ds) =
      PlanThen (plan_from (first + next_multiple_of ended (alignment_of d)) d)
      (plans_from first (next_multiple_of ended (alignment_of d) + size_of d) ds)

-- what the members on a way lead to, if to a scalar or to an array of scalars
abbrev mutual
  pub leaf_in : Plan → (path : List ℕ) → Option Leaf
  leaf_in (OfScalar leaf) path = Some leaf
  leaf_in (OfArray level element) path = leaf_in element path
  leaf_in (OfStructure ps) [] = None
  leaf_in (OfStructure ps) (i ∷ path) = leaf_in_member ps i path

  -- the same from the member of this number on
  pub leaf_in_member : Plans → (number : ℕ) → (path : List ℕ) → Option Leaf
  leaf_in_member NoPlans i path = None
  leaf_in_member (PlanThen p ps) zero path = leaf_in p path
  leaf_in_member (PlanThen p ps) (suc i) path = leaf_in_member ps i path

-- the arrays on this way, the outermost first
abbrev mutual
  pub levels_in : Plan → (path : List ℕ) → List ArrayLevel
  levels_in (OfScalar leaf) path = []
  levels_in (OfArray level element) path = level ∷ levels_in element path
  levels_in (OfStructure ps) [] = []
  levels_in (OfStructure ps) (i ∷ path) = levels_in_member ps i path

  -- the same from the member of this number on
  pub levels_in_member : Plans → (number : ℕ) → (path : List ℕ) → List ArrayLevel
  levels_in_member NoPlans i path = []
  levels_in_member (PlanThen p ps) zero path = levels_in p path
  levels_in_member (PlanThen p ps) (suc i) path = levels_in_member ps i path

-- the byte on which a scalar begins for each element of the arrays above it, in row-major order
abbrev pub spread : List ArrayLevel → (first : ℕ) → List ℕ
spread [] first = first ∷ []
spread (l ∷ ls) first = flat_map (spread ls) (counted_from first l.distance l.count)

-- scalars on these bytes, each of this description
abbrev pub placed_as : Description → List ℕ → List PlacedPart
placed_as d ns = map (λ n. record { offset = n; description = d }) ns

-- the scalars of a leaf under these arrays, all so many bytes further
abbrev pub placed : Option Leaf → List ArrayLevel → (base : ℕ) → List PlacedPart
placed None levels base = []
placed (Some leaf) levels base = placed_as leaf.description (spread levels (base + leaf.first))

-- the scalars of an item on this way
abbrev pub scalars_planned : Plan → (path : List ℕ) → List PlacedPart
scalars_planned p path = placed (leaf_in p path) (levels_in p path) 0

-- plans of variables

-- a scalar that is compiled: a number or a string within the language's limits, or a locator
abbrev pub is_compiled_scalar : Description → Bool
is_compiled_scalar (FixedBinary precision) = nat_le precision 63
is_compiled_scalar (Character n) = is_length n
is_compiled_scalar (Varying n) = is_length n
is_compiled_scalar (Bit n) = is_length n
is_compiled_scalar Pointer = true
is_compiled_scalar Offset = true
is_compiled_scalar other = false

-- over how many bytes the elements of an array stand
abbrev pub spread_over : List ArrayLevel → ℕ
spread_over [] = 0
spread_over (l ∷ ls) = l.count * l.distance

-- the elements of each array stand within one of the array round it
abbrev pub AreNested : List ArrayLevel → Type 0
AreNested [] = Unit {0}
AreNested (l ∷ ls) = (spread_over ls ≤ l.distance) × AreNested ls

-- a scalar that is compiled, which with the arrays above it stands within so many bytes after this byte
pub record IsStoredLeaf (from bytes : ℕ) (levels : List ArrayLevel) (leaf : Leaf) : Type 0 where
  pub first : leaf.first ≤ from + bytes
  pub over : spread_over levels ≤ bytes
  pub nested : AreNested levels
  pub scalar : is_compiled_scalar leaf.description ≡ true

-- each way leads to such a scalar, if to one, of a variable of at most 1,000,000 bytes
abbrev pub IsStoredPlan : Plan → Type 0
IsStoredPlan p = (path : List ℕ) → IfSome (leaf_in p path) (IsStoredLeaf 0 1000000 (levels_in p path))
