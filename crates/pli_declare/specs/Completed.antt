-- What attributes without a fault are completed to.
use Rattle.std.specs.Prelude.{ℕ, Bool, ◌&&◌, ◌||◌, if◌then◌else◌, Option, Some, None, option_map, List}
use Rattle.std.specs.Prelude.{map}
use Rattle.pli_base.specs.Declarations as tree
use Rattle.pli_base.specs.declared.declaration.InitialValue.{InitialValue}
use Rattle.pli_base.specs.declared.declaration.WrittenBounds.{WrittenBounds}
use Rattle.pli_map.specs.Description.{Description}
use Rattle.pli_map.specs.declared.description.Bounds.{Bounds}
use Rattle.pli_map.specs.ParameterTypes.{ParameterType}
use Rattle.pli_declare.specs.Sets.{static, based, controlled, external, built_in, entry, has}
use Rattle.pli_declare.specs.Sets.{set_of, outermost}
use Rattle.pli_declare.specs.Agreement.{may_be_open}
use Rattle.pli_declare.specs.Types.{number_of, scalar_of}
use Rattle.pli_declare.specs.Types as types
use Rattle.pli_declare.specs.Extents.{all_bounds, has_star}
use Rattle.pli_declare.specs.Initials.{values_in}
use Rattle.pli_declare.specs.Faults.{parameters_in, returned_in, parameter_of, described_scalar}
use Rattle.pli_declare.specs.Faults.{type_taken}
use Rattle.pli_declare.specs.declared.place.ItemPlace.{ItemPlace}
use Rattle.pli_declare.specs.declared.place.Position.{Position}
use Rattle.pli_declare.specs.declared.place.Position.TheVariants.{AtLevelOne, Member, Parameter}
use Rattle.pli_declare.specs.declared.place.Position.TheVariants.{Result}
use Rattle.pli_declare.specs.declared.completed.DeclaredStorage.{DeclaredStorage}
use Rattle.pli_declare.specs.declared.completed.DeclaredStorage.TheVariants.{Automatic, Static}
use Rattle.pli_declare.specs.declared.completed.DeclaredStorage.TheVariants.{Based}
use Rattle.pli_declare.specs.declared.completed.DeclaredStorage.TheVariants.{Controlled}
use Rattle.pli_declare.specs.declared.completed.ScopeAttribute.{ScopeAttribute}
use Rattle.pli_declare.specs.declared.completed.ScopeAttribute.TheVariants.{Internal, External}

-- a variable, or a member of one: its type unless it has members, and its own dimensions, in which an extent
-- that is `*` counts as 1; of a parameter in which a `*` stands, its type; its storage, its scope and its
-- first values
pub record Variable : Type 0 where
  pub description : Option Description
  pub bounds : List Bounds
  pub taken : Option ParameterType
  pub storage : Option DeclaredStorage
  pub scope : ScopeAttribute
  pub initial : List InitialValue

-- what a name is, when its attributes are completed
pub data Completed : Type 0 where
  OfVariable : (variable : Variable) → Completed
  OfEntry : (parameters : List ParameterType) (result : Option Description) → Completed
  OfBuiltIn : Completed

-- AUTOMATIC by default; EXTERNAL implies STATIC unless CONTROLLED stands
abbrev pub storage_of : ℕ → DeclaredStorage
storage_of s =
    if has s controlled then Controlled else if has s based then Based else if has s static then Static
    else if has s external then Static else Automatic

-- a member has the storage of the whole, a parameter that of its argument
abbrev pub storage_at : Position → ℕ → Option DeclaredStorage
storage_at AtLevelOne s = Some (storage_of s)
storage_at Member s = None
storage_at Parameter s = None
storage_at Result s = None

-- INTERNAL by default
abbrev pub scope_of : ℕ → ScopeAttribute
scope_of s = if has s external then External else Internal

-- the type of a parameter in which a `*` stands
abbrev pub open_type : (is_parameter : Bool) → List WrittenBounds → ℕ → Option ℕ → (star : Bool)
    → Option ParameterType
open_type is_parameter dimensions s n star =
    if is_parameter && (star || has_star dimensions) then Some (type_taken dimensions s n star) else None

-- an item as a variable
unfoldable pub variable_of : ItemPlace → tree.Item → Variable
variable_of p i =
    let attributes = map outermost i.attributes in
    record {
      description =
          if p.has_members then None else Some (scalar_of (set_of attributes) (number_of attributes));
      bounds = all_bounds i.dimensions;
      taken =
          open_type (may_be_open p) i.dimensions (set_of attributes) (number_of attributes)
          (types.has_star attributes);
      storage = storage_at p.position (set_of attributes);
      scope = scope_of (set_of attributes);
      initial = values_in i.attributes;
    }

-- what an item is
unfoldable pub completed_of : ItemPlace → tree.Item → Completed
completed_of p i =
    let s = set_of (map outermost i.attributes) in
    if has s entry
    then OfEntry (map parameter_of (parameters_in i.attributes))
    (option_map described_scalar (returned_in i.attributes))
    else if has s built_in then OfBuiltIn
    else OfVariable (variable_of p i)
