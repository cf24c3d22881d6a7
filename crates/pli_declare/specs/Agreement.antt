-- Which attributes agree.
use Rattle.std.specs.Prelude.{ℕ, ◌+◌, Bool, true, false, not, ◌==◌, ◌&&◌, ◌||◌, List, [], ◌∷◌}
use Rattle.std.specs.Int.RustNames.{bit_and}
use Rattle.pli_base.specs.Declarations as tree
use Rattle.pli_declare.specs.Sets.{fixed, binary, character, varying, bit, pointer, offset, area}
use Rattle.pli_declare.specs.Sets.{automatic, static, based, controlled, internal, external}
use Rattle.pli_declare.specs.Sets.{initial, built_in, entry, returns, data_attributes}
use Rattle.pli_declare.specs.Sets.{storage_attributes, scope_attributes, has, none_of, within}
use Rattle.pli_declare.specs.Sets.{is_one_of, each_once, set_of}
use Rattle.pli_declare.specs.declared.place.ItemPlace.{ItemPlace}
use Rattle.pli_declare.specs.declared.place.Position.{Position}
use Rattle.pli_declare.specs.declared.place.Position.TheVariants.{AtLevelOne, Member, Parameter}
use Rattle.pli_declare.specs.declared.place.Position.TheVariants.{Result}

-- a variable of its own
abbrev pub is_at_level_one : Position → Bool
is_at_level_one AtLevelOne = true
is_at_level_one Member = false
is_at_level_one Parameter = false
is_at_level_one Result = false

-- a member
abbrev pub is_member : Position → Bool
is_member AtLevelOne = false
is_member Member = true
is_member Parameter = false
is_member Result = false

-- a parameter
abbrev pub is_parameter : Position → Bool
is_parameter AtLevelOne = false
is_parameter Member = false
is_parameter Parameter = true
is_parameter Result = false

-- a `*` may stand in it: a parameter without members
abbrev pub may_be_open : ItemPlace → Bool
may_be_open p = is_parameter p.position && not p.has_members

-- parameters and results have no members
abbrev pub may_have_members : Position → Bool
may_have_members AtLevelOne = true
may_have_members Member = true
may_have_members Parameter = false
may_have_members Result = false

-- what may not stand there: storage and scope stand at level 1 only, parameters and results begin with no
-- value, and no function returns an area
abbrev pub excluded_at : Position → ℕ
excluded_at AtLevelOne = 0
excluded_at Member = storage_attributes + scope_attributes
excluded_at Parameter = storage_attributes + scope_attributes + initial
excluded_at Result = storage_attributes + scope_attributes + initial + area

-- the data attributes of one data type; of FIXED and BINARY one may be missing, and so may all, which are
-- faults of their own
abbrev pub data_types : List ℕ
data_types =
    0 ∷ fixed ∷ binary ∷ (fixed + binary) ∷ character ∷ (character + varying) ∷ bit ∷ pointer ∷ offset ∷ area
    ∷ []

-- a variable of level 1 that is neither an array nor a structure
abbrev pub is_plain : ItemPlace → (is_array : Bool) → Bool
is_plain p is_array = is_at_level_one p.position && not p.has_members && not is_array

-- ENTRY with RETURNS and EXTERNAL only
abbrev pub agrees_as_entry : ItemPlace → (is_array : Bool) → ℕ → Bool
agrees_as_entry p is_array s = is_plain p is_array && has s entry && within s (entry + returns + external)

-- BUILTIN alone, on the name of a built-in function
abbrev pub agrees_as_built_in : ItemPlace → (is_array : Bool) → ℕ → Bool
agrees_as_built_in p is_array s = is_plain p is_array && p.built_in_name && s == built_in

-- one data type, at most one storage class and one scope, EXTERNAL without AUTOMATIC and BASED, RETURNS
-- without ENTRY beside no data attribute and no members, what may stand at its place, and no data attribute
-- beside members
abbrev pub agrees_as_variable : ItemPlace → ℕ → Bool
agrees_as_variable p s =
    none_of s (entry + built_in)
    && is_one_of (bit_and s data_attributes) data_types
    && is_one_of (bit_and s storage_attributes) (0 ∷ automatic ∷ static ∷ based ∷ controlled ∷ [])
    && is_one_of (bit_and s scope_attributes) (0 ∷ internal ∷ external ∷ [])
    && (none_of s external || none_of s (automatic + based))
    && (none_of s returns || none_of s data_attributes && not p.has_members)
    && none_of s (excluded_at p.position)
    && (not p.has_members || may_have_members p.position && none_of s data_attributes)

-- the set is that of an entry, of a built-in function or of a variable
unfoldable pub set_agrees : ItemPlace → (is_array : Bool) → ℕ → Bool
set_agrees p is_array s =
    agrees_as_entry p is_array s || agrees_as_built_in p is_array s || agrees_as_variable p s

-- attributes agree where each stands once and their set is one of those
abbrev pub attributes_agree : ItemPlace → (is_array : Bool) → List tree.DescribedAttribute → Bool
attributes_agree p is_array attributes = each_once 0 attributes && set_agrees p is_array (set_of attributes)

-- an attribute is missing: RETURNS stands without ENTRY; or no data attribute or only one of FIXED and BINARY
-- stands where there are neither members nor ENTRY nor BUILTIN
unfoldable pub is_missing : ItemPlace → ℕ → Bool
is_missing p s =
    has s returns && none_of s entry
    || not p.has_members && none_of s (entry + built_in)
    && is_one_of (bit_and s data_attributes) (0 ∷ fixed ∷ binary ∷ [])
