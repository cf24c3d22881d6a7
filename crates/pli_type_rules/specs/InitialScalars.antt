-- Initial values: which scalars of a variable have the values that INITIAL says, for an item's elements in
-- row-major order over all its dimensions, and each fitted to its scalar (X3.74; the order own). A scalar is
-- told by the byte on which it begins.
use Rattle.std.specs.Prelude.{ℕ, zero, suc, ◌+◌, Option, Some, None, List, [], ◌∷◌, ◌++◌, replicate}
use Rattle.std.specs.Int.{next_multiple_of}
use Rattle.std.specs.List.{flat_map}
use Rattle.std.specs.Option.{unwrap_or}
use Rattle.pli_base.specs.Declarations.{integer_of}
use Rattle.pli_base.specs.declared.declaration.InitialValue.{InitialValue}
use Rattle.pli_base.specs.declared.declaration.InitialValue.TheVariants as initial
use Rattle.pli_map.specs.Description.{Description, Area, Array, Structure, Members, NoMembers, MemberThen}
use Rattle.pli_map.specs.PlacedParts.{PlacedPart}
use Rattle.pli_map.specs.Sizes.{alignment_of, count_of, size_of, stride_of}
use Rattle.pli_map.specs.Values.{first_value}
use Rattle.pli_operation.specs.Operations.{Calculation, Calculates, fitted_to}
use Rattle.pli_type_tree.specs.Templates.{InitialScalar, Template}
use Rattle.pli_value.specs.Value.{Value, Number, Characters, Bits, Located}
use Rattle.pli_value.specs.declared.locator.Locator.TheVariants as locators

-- from so many numbers on, each so many after the one before
abbrev pub counted_from : (first distance count : ℕ) → List ℕ
counted_from first distance zero = []
counted_from first distance (suc count) = first ∷ counted_from (first + distance) distance count

-- the scalars of an item that is this description, or a member of it on this way, where the description
-- begins on this byte
abbrev mutual
  pub scalars_on : Description → (path : List ℕ) → (at : ℕ) → List PlacedPart
  scalars_on (Area bytes) path at = []
  scalars_on (Array bounds element) path at =
      flat_map (λ k. scalars_on element path k) (counted_from at (stride_of element) (count_of bounds))
  scalars_on (Structure ds) [] at = []
  scalars_on (Structure ds) (i ∷ path) at = scalars_in_member ds i path at 0
  scalars_on scalar path at = record { offset = at; description = scalar } ∷ []

  -- those of the member of this number, by the way that is left, where those before it end so far after the
  -- structure's beginning
  pub scalars_in_member : Members → (number : ℕ) → (path : List ℕ) → (at ended : ℕ) → List PlacedPart
  scalars_in_member NoMembers i path at ended = []
  scalars_in_member (MemberThen d ds) zero path at ended =
      scalars_on d path (at + next_multiple_of ended (alignment_of d))
  scalars_in_member (MemberThen d ds) (suc i) path at ended =
      scalars_in_member ds i path at (next_multiple_of ended (alignment_of d) + size_of d)

-- a value for as many elements as its factor says
abbrev pub times : Option ℕ → Value → List Value
times None v = v ∷ []
times (Some factor) v = replicate factor v

-- the values that stand in INITIAL, one for each element; null stands as that of pointers
abbrev pub values_written : List InitialValue → List Value
values_written [] = []
values_written (initial.Integer factor value ∷ more) =
    times factor (Number (integer_of value)) ++ values_written more
values_written (initial.Characters text ∷ more) = Characters text ∷ values_written more
values_written (initial.Bits bits ∷ more) = Bits bits ∷ values_written more
values_written (initial.Null ∷ more) = Located locators.Null ∷ values_written more

-- as the scalar holds it: a string cut or extended on the right. Null leaves the value with which the scalar
-- begins, which is that of its type, and so does a value that does not suit its scalar, which is a fault of
-- its declaration
abbrev pub as_held : Description → Value → Value
as_held d v = calculated_value (fitted_to d v)
  where
    calculated_value : Calculation → Value
    calculated_value (Calculates w) = w
    calculated_value other = unwrap_or (first_value d) v

-- each value with its scalar, as long as there are both
abbrev pub each_with : List PlacedPart → List Value → List InitialScalar
each_with (s ∷ ss) (v ∷ vs) =
    record { offset = s.offset; value = as_held s.description v } ∷ each_with ss vs
each_with scalars values = []

-- an item with INITIAL: the variable itself, or a member of it on this way
pub record InitialItem : Type 0 where
  pub path : List ℕ
  pub values : List InitialValue

-- the scalars that an item with INITIAL gives values
abbrev pub initial_scalars : Description → InitialItem → List InitialScalar
initial_scalars d i = each_with (scalars_on d i.path 0) (values_written i.values)

-- what a variable is made from, item by item in the order of the text
abbrev pub template_of : Description → List InitialItem → Template
template_of d declared = record { description = d; initial = flat_map (initial_scalars d) declared }
