-- Activations: a list, the newest first. An activation is named by its height, which is how many there are
-- when it is the newest.
use Rattle.std.specs.Prelude.{ℕ, zero, suc, nat_eq, Bool, ◌&&◌, Option, Some, None, List, [], ◌∷◌, length}
use Rattle.std.specs.Prelude.{if◌then◌else◌}
use Rattle.pli_base.specs.declared.statement.Condition.{Condition}
use Rattle.pli_base.specs.declared.statement.Condition.TheVariants.{FixedOverflow, ZeroDivide, Area}
use Rattle.pli_map.specs.Variables.{Variable}
use Rattle.pli_world.specs.Storage.{Place}

-- what an activation of a block begins with: the number of the unit in the program and that of the block, its
-- statement, and its AUTOMATIC variables in the order of the text
pub record Head : Type 0 where
  pub unit : ℕ
  pub block : ℕ
  pub statement : ℕ
  pub variables : List Variable

-- the ON-units of an activation: the number of the block of each, at most one for each condition
pub record OnUnits : Type 0 where
  pub overflow : Option ℕ
  pub zero_divide : Option ℕ
  pub area : Option ℕ

-- none
abbrev pub no_on_unit : OnUnits
no_on_unit = record { overflow = None; zero_divide = None; area = None }

-- the one for a condition
abbrev pub on_unit_for : Condition → OnUnits → Option ℕ
on_unit_for FixedOverflow units = units.overflow
on_unit_for ZeroDivide units = units.zero_divide
on_unit_for Area units = units.area

-- with this one for a condition, or with none for it
abbrev pub with_on_unit : Condition → Option ℕ → OnUnits → OnUnits
with_on_unit FixedOverflow unit units = record units { overflow = unit }
with_on_unit ZeroDivide unit units = record units { zero_divide = unit }
with_on_unit Area unit units = record units { area = unit }

-- an activation of a block of a unit, at a statement. Outer names mean the activation whose height is the
-- static link, 0 for none. A slot is a parameter or an AUTOMATIC variable. Pending are the dummy arguments of
-- calls that are being prepared; owned are the generations that end with it, those of its variables and the
-- dummy arguments that it received. Its ON-units stay while it runs, unless REVERT removes them.
pub record Activation : Type 0 where
  pub unit : ℕ
  pub block : ℕ
  pub statement : ℕ
  pub link : ℕ
  pub slots : List Place
  pub pending : List ℕ
  pub owned : List ℕ
  pub on_units : OnUnits

-- how many activations there may be (own)
abbrev pub activation_limit : ℕ
activation_limit = 1000

-- the activation of a height
abbrev pub activation_at : List Activation → (height : ℕ) → Option Activation
activation_at [] height = None
activation_at (a ∷ older) height =
    if nat_eq height (suc (length older)) then Some a else activation_at older height

-- the height of the activation so many static links outward from the one of a height
abbrev pub outward_from : List Activation → (height outward : ℕ) → Option ℕ
outward_from [] height outward = None
outward_from (a ∷ older) height zero =
    if nat_eq height (suc (length older)) then Some height else outward_from older height zero
outward_from (a ∷ older) height (suc outward) =
    if nat_eq height (suc (length older)) then outward_from older a.link outward
    else outward_from older height (suc outward)

-- an activation is one of a block of a unit
abbrev pub is_of : (unit block : ℕ) → Activation → Bool
is_of unit block a = nat_eq a.unit unit && nat_eq a.block block

-- the height of the nearest activation of a block, outward from the one of a height along static links
abbrev pub nearest_of : (unit block : ℕ) → List Activation → (height : ℕ) → Option ℕ
nearest_of unit block [] height = None
nearest_of unit block (a ∷ older) height =
    if nat_eq height (suc (length older))
    then (if is_of unit block a then Some height else nearest_of unit block older a.link)
    else nearest_of unit block older height

-- the newest changed
abbrev pub with_newest : (Activation → Activation) → List Activation → List Activation
with_newest change [] = []
with_newest change (a ∷ older) = change a ∷ older

-- all but the newest
abbrev pub without_newest : List Activation → List Activation
without_newest [] = []
without_newest (a ∷ older) = older
