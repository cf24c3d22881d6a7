-- Digests by which tables are searched. Equal entries have one digest, and others mostly different ones; the
-- entries that a search finds are compared whole.
use Rattle.std.specs.Prelude.{ℕ, ◌+◌, ◌*◌, ◌%◌, ◌^◌, List, [], ◌∷◌, unsigned_abs}
use Rattle.pli_map.specs.declared.description.Bounds.{Bounds}
use Rattle.pli_map.specs.Description.{Description, FixedBinary, Character, Varying, Bit, Pointer, Offset}
use Rattle.pli_map.specs.Description.{Area, Array, Structure, Members, NoMembers, MemberThen}
use Rattle.pli_map.specs.ParameterTypes.{ParameterType, Stated, AnyString, AnyArray, ArrayOf, StructureOf}
use Rattle.pli_map.specs.ParameterTypes.{ParameterTypes, NoType, TypeThen}
use Rattle.pli_map.specs.declared.parameter.StringForm.{StringForm}
use Rattle.pli_map.specs.declared.parameter.StringForm.TheVariants as forms

-- a digest with a number more
abbrev pub mixed : (digest number : ℕ) → ℕ
mixed h x = ((h * 1099511628211) % 2 ^ 64 + x) % 2 ^ 64

-- with the bounds of an array
abbrev pub digest_of_bounds : (digest : ℕ) → List Bounds → ℕ
digest_of_bounds h [] = h
digest_of_bounds h (b ∷ bs) = digest_of_bounds (mixed (mixed h (unsigned_abs b.low)) (unsigned_abs b.high)) bs

abbrev mutual
  -- of a description
  pub digest_of : Description → ℕ
  digest_of (FixedBinary p) = mixed 1 p
  digest_of (Character n) = mixed 2 n
  digest_of (Varying n) = mixed 3 n
  digest_of (Bit n) = mixed 4 n
  digest_of Pointer = 5
  digest_of Offset = 6
  digest_of (Area n) = mixed 7 n
  digest_of (Array bounds element) = mixed (digest_of_bounds 8 bounds) (digest_of element)
  digest_of (Structure members) = digest_of_members 9 members

  -- with the members of a structure
  pub digest_of_members : (digest : ℕ) → Members → ℕ
  digest_of_members h NoMembers = h
  digest_of_members h (MemberThen d ds) = digest_of_members (mixed h (digest_of d)) ds

-- of a form of strings
abbrev pub digest_of_form : StringForm → ℕ
digest_of_form forms.Character = 10
digest_of_form forms.Varying = 11
digest_of_form forms.Bit = 12

abbrev mutual
  -- of a type
  pub digest_of_type : ParameterType → ℕ
  digest_of_type (Stated d) = digest_of d
  digest_of_type (AnyString form) = digest_of_form form
  digest_of_type (AnyArray dimensions element) = mixed (mixed 13 dimensions) (digest_of_type element)
  digest_of_type (ArrayOf bounds element) = mixed (digest_of_bounds 14 bounds) (digest_of_type element)
  digest_of_type (StructureOf members) = digest_of_types 15 members

  -- with the types of the members of a structure
  pub digest_of_types : (digest : ℕ) → ParameterTypes → ℕ
  digest_of_types h NoType = h
  digest_of_types h (TypeThen t ts) = digest_of_types (mixed h (digest_of_type t)) ts
