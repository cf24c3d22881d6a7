-- Worked examples: items with their faults, and what they are completed to.
use Rattle.std.specs.Prelude.{◌≡◌, ℕ, true, false, pos, Option, Some, None, List, [], ◌∷◌, map}
use Rattle.pli_base.specs.declared.code.Code.{Code}
use Rattle.pli_base.specs.declared.code.Code.TheVariants.{AttributesConflict, AttributesMissing, BadPrecision}
use Rattle.pli_base.specs.declared.code.Code.TheVariants.{BadLength, BadBounds, BadInitial}
use Rattle.pli_base.specs.declared.code.Code.TheVariants.{AreaNotAllowedHere, GenerationTooLarge}
use Rattle.pli_base.specs.Declarations.{SimpleAttribute, Fixed, Binary, Character, Bit, Varying, Pointer}
use Rattle.pli_base.specs.Declarations.{Offset, Area, Based, Controlled, Static, Automatic, External}
use Rattle.pli_base.specs.Declarations.{Internal, Builtin, Initial, Attribute, Simple, Entry, Returns, Plain}
use Rattle.pli_base.specs.Declarations.{AnyEntry, Item}
use Rattle.pli_base.specs.declared.declaration.WrittenBounds.{WrittenBounds}
use Rattle.pli_base.specs.declared.declaration.WrittenBounds.TheVariants as limits
use Rattle.pli_base.specs.declared.declaration.WrittenLength.TheVariants as extent
use Rattle.pli_base.specs.declared.declaration.InitialValue.{InitialValue}
use Rattle.pli_base.specs.declared.declaration.InitialValue.TheVariants as initial
use Rattle.pli_map.specs.Description as type
use Rattle.pli_map.specs.declared.description.Bounds.{Bounds}
use Rattle.pli_map.specs.ParameterTypes.{ParameterType, Stated, AnyString, AnyArray, ArrayOf}
use Rattle.pli_map.specs.declared.parameter.StringForm.TheVariants as forms
use Rattle.pli_declare.specs.Completed.{Completed, OfVariable, OfEntry, OfBuiltIn, completed_of}
use Rattle.pli_declare.specs.Faults.{item_fault, result_fault}
use Rattle.pli_declare.specs.declared.place.ItemPlace.{ItemPlace}
use Rattle.pli_declare.specs.declared.place.Position.TheVariants as position
use Rattle.pli_declare.specs.declared.completed.DeclaredStorage.{DeclaredStorage}
use Rattle.pli_declare.specs.declared.completed.ScopeAttribute.{ScopeAttribute}
use Rattle.pli_declare.specs.declared.completed.DeclaredStorage.TheVariants as storage
use Rattle.pli_declare.specs.declared.completed.ScopeAttribute.TheVariants as scope

-- at level 1, without members
abbrev pub alone : ItemPlace
alone =
    record {
      position = position.AtLevelOne;
      has_members = false;
      in_array = false;
      elements_above = Some 1;
      built_in_name = false;
    }

-- the place of a level 1 that has members
abbrev pub above_members : ItemPlace
above_members =
    record {
      position = position.AtLevelOne;
      has_members = true;
      in_array = false;
      elements_above = Some 1;
      built_in_name = false;
    }

-- the place of a member that has none
abbrev pub member : ItemPlace
member =
    record {
      position = position.Member;
      has_members = false;
      in_array = false;
      elements_above = Some 1;
      built_in_name = false;
    }

-- the place of a parameter
abbrev pub parameter : ItemPlace
parameter =
    record {
      position = position.Parameter;
      has_members = false;
      in_array = false;
      elements_above = Some 1;
      built_in_name = false;
    }

-- BUILTIN
abbrev pub built_in : ItemPlace
built_in =
    record {
      position = position.AtLevelOne;
      has_members = false;
      in_array = false;
      elements_above = Some 1;
      built_in_name = true;
    }

-- an item of these dimensions and attributes
abbrev pub item : List WrittenBounds → List Attribute → Item
item dimensions attributes =
    record { level = None; names = []; dimensions = dimensions; attributes = attributes }

-- an item of these attributes, without dimensions
abbrev pub simple : List SimpleAttribute → Item
simple attributes = item [] (map Simple attributes)

-- from 1 to n
abbrev pub up_to : ℕ → WrittenBounds
up_to n = limits.Stated None (record { negative = false; value = n })

-- an item at a place has this fault
abbrev pub Faulty : ItemPlace → Item → Code → Type 0
Faulty p i code = item_fault p i ≡ Some code

-- an item at a place has no fault, and is completed to this
abbrev pub Is : ItemPlace → Item → Completed → Type 0
Is p i completed = (item_fault p i ≡ None) × (completed_of p i ≡ completed)

-- a number n, this often
abbrev pub times : Option ℕ → ℕ → InitialValue
times factor n = initial.Integer factor (record { negative = false; value = n })

-- a variable of this type without dimensions and first values, with a storage class and a scope
abbrev pub variable : type.Description → Option DeclaredStorage → ScopeAttribute → Completed
variable d where_from known =
    OfVariable (record {
      description = Some d;
      bounds = [];
      taken = None;
      storage = where_from;
      scope = known;
      initial = [];
    })

-- `BIN(63) FIXED`, `FIXED BIN`, `BIT`, `AREA`, and `CHAR VAR` of a parameter
abbrev pub Defaults : Type 0
Defaults =
    Is alone (simple (Binary (Some 63) ∷ Fixed None
    ∷ [])) (variable (type.FixedBinary 63) (Some storage.Automatic) scope.Internal)
    × Is alone (simple (Fixed None ∷ Binary None
    ∷ [])) (variable (type.FixedBinary 15) (Some storage.Automatic) scope.Internal)
    × Is alone (simple (Bit None ∷ [])) (variable (type.Bit 1) (Some storage.Automatic) scope.Internal)
    × Is alone (simple (Area None ∷ [])) (variable (type.Area 1000) (Some storage.Automatic) scope.Internal)
    × Is parameter (simple (Character None ∷ Varying ∷ [])) (variable (type.Varying 1) None scope.Internal)

-- EXTERNAL implies STATIC unless CONTROLLED stands
abbrev pub StorageClasses : Type 0
StorageClasses =
    Is alone (simple (Pointer ∷ External ∷ [])) (variable type.Pointer (Some storage.Static) scope.External)
    × Is alone (simple (Pointer ∷ External ∷ Controlled
    ∷ [])) (variable type.Pointer (Some storage.Controlled) scope.External)
    × Is alone (simple (Offset None ∷ Based None
    ∷ [])) (variable type.Offset (Some storage.Based) scope.Internal)

-- `(0:3, 2) FIXED BIN INIT(1, (7) 2)`: eight elements
abbrev pub Arrays : Type 0
Arrays =
    Is alone (item (limits.Stated (Some (record { negative = false; value = 0 }))
    (record { negative = false; value = 3 }) ∷ up_to 2 ∷ [])
    (Simple (Fixed None) ∷ Simple (Binary None) ∷ Simple (Initial (times None 1 ∷ times (Some 7) 2 ∷ []))
    ∷ []))
    (OfVariable (record {
      description = Some (type.FixedBinary 15);
      bounds = record { low = pos 0; high = pos 3 } ∷ record { low = pos 1; high = pos 2 } ∷ [];
      taken = None;
      storage = Some storage.Automatic;
      scope = scope.Internal;
      initial = times None 1 ∷ times (Some 7) 2 ∷ [];
    }))

-- a structure has no type of its own
abbrev pub Structures : Type 0
Structures =
    Is above_members (simple (Static ∷ []))
    (OfVariable (record {
      description = None;
      bounds = [];
      taken = None;
      storage = Some storage.Static;
      scope = scope.Internal;
      initial = [];
    }))

-- `ENTRY((5) BIT, CHAR(3)) RETURNS(PTR)`, `ENTRY EXTERNAL` and `BUILTIN`
abbrev pub Entries : Type 0
Entries =
    Is alone (item [] (Entry (Some (
    record { dimensions = up_to 5 ∷ []; attributes = Plain (Bit None) ∷ [] }
    ∷ record { dimensions = []; attributes = Plain (Character (Some (extent.Stated 3))) ∷ [] } ∷ []))
    ∷ Returns (Plain Pointer ∷ []) ∷ []))
    (OfEntry (Stated (type.Array (record { low = pos 1; high = pos 5 } ∷ []) (type.Bit 1))
    ∷ Stated (type.Character 3) ∷ []) (Some type.Pointer))
    × Is alone (item [] (Entry None ∷ Simple External ∷ [])) (OfEntry [] None)
    × Is built_in (simple (Builtin ∷ [])) OfBuiltIn

-- a parameter of this type, in which a `*` stands, and counts as 1 in what it is apart from that
abbrev pub starred : type.Description → List Bounds → ParameterType → Completed
starred d bounds taken =
    OfVariable (record {
      description = Some d;
      bounds = bounds;
      taken = Some taken;
      storage = None;
      scope = scope.Internal;
      initial = [];
    })

-- from 1 to n, as a description has it
abbrev pub from_one : ℕ → Bounds
from_one n = record { low = pos 1; high = pos n }

-- the parameters `CHAR(*)`, `CHAR(*) VAR`, `(*, *) FIXED BIN`, `(*) BIT(*)` and `(3) CHAR(*)`; and
-- `ENTRY((*) PTR)`
abbrev pub Asterisks : Type 0
Asterisks =
    Is parameter (simple (Character (Some extent.Any) ∷ []))
    (starred (type.Character 1) [] (AnyString forms.Character))
    × Is parameter (simple (Character (Some extent.Any) ∷ Varying ∷ []))
    (starred (type.Varying 1) [] (AnyString forms.Varying))
    × Is parameter (item (limits.Any ∷ limits.Any ∷ []) (Simple (Fixed None) ∷ Simple (Binary None) ∷ []))
    (starred (type.FixedBinary 15) (from_one 1 ∷ from_one 1 ∷ []) (AnyArray 2 (Stated (type.FixedBinary 15))))
    × Is parameter (item (limits.Any ∷ []) (Simple (Bit (Some extent.Any)) ∷ []))
    (starred (type.Bit 1) (from_one 1 ∷ []) (AnyArray 1 (AnyString forms.Bit)))
    × Is parameter (item (up_to 3 ∷ []) (Simple (Character (Some extent.Any)) ∷ []))
    (starred (type.Character 1) (from_one 3 ∷ []) (ArrayOf (from_one 3 ∷ []) (AnyString forms.Character)))
    × Is alone (item [] (Entry (Some (
    record { dimensions = limits.Any ∷ []; attributes = Plain Pointer ∷ [] } ∷ [])) ∷ []))
    (OfEntry (AnyArray 1 (Stated type.Pointer) ∷ []) None)

-- `*` as a length of what is no parameter, as a result's and as an area's size
abbrev pub BadLengthStars : Type 0
BadLengthStars =
    Faulty alone (simple (Character (Some extent.Any) ∷ [])) BadLength
    × Faulty member (simple (Bit (Some extent.Any) ∷ [])) BadLength
    × Faulty parameter (simple (Area (Some extent.Any) ∷ [])) BadLength
    × (result_fault (Plain (Character (Some extent.Any)) ∷ []) ≡ Some BadLength)

-- `*` as bounds of what is no parameter, beside a bound that is none, and nine of them
abbrev pub BadBoundStars : Type 0
BadBoundStars =
    Faulty alone (item (limits.Any ∷ []) (Simple Pointer ∷ [])) BadBounds
    × Faulty parameter (item (limits.Any ∷ up_to 3 ∷ []) (Simple Pointer ∷ [])) BadBounds
    × Faulty parameter (item (limits.Any ∷ limits.Any ∷ limits.Any ∷ limits.Any ∷ limits.Any ∷ limits.Any
    ∷ limits.Any ∷ limits.Any ∷ limits.Any ∷ []) (Simple Pointer ∷ [])) BadBounds

-- twice; two types; VARYING without CHARACTER; a precision after both FIXED and BINARY
abbrev pub TypesConflict : Type 0
TypesConflict =
    Faulty alone (simple (Bit None ∷ Bit None ∷ [])) AttributesConflict
    × Faulty alone (simple (Fixed None ∷ Binary None ∷ Pointer ∷ [])) AttributesConflict
    × Faulty alone (simple (Varying ∷ [])) AttributesConflict
    × Faulty alone (simple (Bit None ∷ Varying ∷ [])) AttributesConflict
    × Faulty alone (simple (Fixed (Some 5) ∷ Binary (Some 5) ∷ [])) AttributesConflict

-- two storage classes; EXTERNAL with BASED and with INTERNAL; storage below level 1 and of a parameter;
-- INITIAL of a parameter
abbrev pub StorageConflicts : Type 0
StorageConflicts =
    Faulty alone (simple (Bit None ∷ Automatic ∷ Static ∷ [])) AttributesConflict
    × Faulty alone (simple (Bit None ∷ External ∷ Based None ∷ [])) AttributesConflict
    × Faulty alone (simple (Bit None ∷ External ∷ Internal ∷ [])) AttributesConflict
    × Faulty member (simple (Bit None ∷ Static ∷ [])) AttributesConflict
    × Faulty parameter (simple (Bit None ∷ Static ∷ [])) AttributesConflict
    × Faulty parameter (simple (Pointer ∷ Initial (initial.Null ∷ []) ∷ [])) AttributesConflict

-- ENTRY with INTERNAL, with dimensions and as a member; BUILTIN beside another attribute and on another name;
-- a data attribute of a structure
abbrev pub OtherConflicts : Type 0
OtherConflicts =
    Faulty alone (item [] (Entry None ∷ Simple Internal ∷ [])) AttributesConflict
    × Faulty alone (item (up_to 2 ∷ []) (Entry None ∷ [])) AttributesConflict
    × Faulty member (item [] (Entry None ∷ [])) AttributesConflict
    × Faulty built_in (simple (Builtin ∷ Internal ∷ [])) AttributesConflict
    × Faulty alone (simple (Builtin ∷ [])) AttributesConflict
    × Faulty above_members (simple (Bit None ∷ [])) AttributesConflict

-- nothing; one of FIXED and BINARY, whatever its precision; RETURNS without ENTRY, which beside a data
-- attribute or members is a conflict
abbrev pub Missing : Type 0
Missing =
    Faulty alone (simple []) AttributesMissing
    × Faulty alone (simple (Fixed (Some 99) ∷ [])) AttributesMissing
    × Faulty alone (simple (Binary None ∷ Static ∷ [])) AttributesMissing
    × Faulty alone (item [] (Returns (Plain Pointer ∷ []) ∷ [])) AttributesMissing
    × Faulty alone (item [] (Returns (Plain Pointer ∷ []) ∷ Simple Pointer ∷ [])) AttributesConflict
    × Faulty above_members (item [] (Returns (Plain Pointer ∷ []) ∷ [])) AttributesConflict

-- a precision, a size and a bound over their limits; a length and an upper bound of 0; nine dimensions
abbrev pub BadNumbers : Type 0
BadNumbers =
    Faulty alone (simple (Fixed (Some 64) ∷ Binary None ∷ [])) BadPrecision
    × Faulty alone (simple (Character (Some (extent.Stated 0)) ∷ [])) BadLength
    × Faulty alone (simple (Area (Some (extent.Stated 1000001)) ∷ [])) BadLength
    × Faulty alone (item (up_to 0 ∷ []) (Simple Pointer ∷ [])) BadBounds
    × Faulty alone (item (up_to 32768 ∷ []) (Simple Pointer ∷ [])) BadBounds
    × Faulty alone (item (up_to 1 ∷ up_to 1 ∷ up_to 1 ∷ up_to 1 ∷ up_to 1 ∷ up_to 1 ∷ up_to 1 ∷ up_to 1
    ∷ up_to 1 ∷ []) (Simple Pointer ∷ [])) BadBounds

-- a value of another type, out of range and too many; INITIAL of a structure
abbrev pub BadInitials : Type 0
BadInitials =
    Faulty alone (simple (Bit None ∷ Initial (times None 1 ∷ []) ∷ [])) BadInitial
    × Faulty alone (simple (Fixed (Some 3) ∷ Binary None ∷ Initial (times None 8 ∷ []) ∷ [])) BadInitial
    × Faulty alone (simple (Fixed (Some 3) ∷ Binary None ∷ Initial (times (Some 2) 7 ∷ []) ∷ [])) BadInitial
    × (item_fault alone (simple (Fixed (Some 3) ∷ Binary None ∷ Initial (times (Some 0) 7 ∷ times None 7 ∷ [])
    ∷ [])) ≡ None)
    × Faulty above_members (simple (Initial (times None 1 ∷ []) ∷ [])) BadInitial

-- an AREA as a member, with dimensions and BASED, and in RETURNS
abbrev pub BadAreas : Type 0
BadAreas =
    Faulty member (simple (Area None ∷ [])) AreaNotAllowedHere
    × Faulty alone (item (up_to 2 ∷ []) (Simple (Area None) ∷ [])) AreaNotAllowedHere
    × Faulty alone (simple (Area None ∷ Based None ∷ [])) AreaNotAllowedHere
    × (result_fault (Plain (Area None) ∷ []) ≡ Some AttributesConflict)
    × (result_fault (Plain (Bit None) ∷ []) ≡ None)

-- the least fault of all parts of an ENTRY; a parameter of 1,001,000 bytes
abbrev pub PartsOfEntries : Type 0
PartsOfEntries =
    Faulty alone (item [] (Entry (Some (
    record { dimensions = []; attributes = Plain (Bit (Some (extent.Stated 0))) ∷ [] }
    ∷ record { dimensions = []; attributes = Plain (Fixed (Some 64)) ∷ Plain (Binary None) ∷ [] } ∷ []))
    ∷ []))
    BadPrecision
    × Faulty alone (item [] (Entry (Some (record { dimensions = []; attributes = AnyEntry ∷ [] } ∷ []))
    ∷ [])) AttributesConflict
    × Faulty alone (item [] (Entry (Some (record {
      dimensions = up_to 1000 ∷ up_to 1001
          ∷ [];
      attributes = Plain (Character None) ∷ [];
    } ∷ [])) ∷ [])) GenerationTooLarge
