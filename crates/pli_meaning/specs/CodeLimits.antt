-- Which code is too long, so that a unit is G1 (own): a table of more than 65,535 entries, a block of more
-- than 65,535 slots, a structure of more than 65,535 members, templates with initial values whose sizes come
-- to more than 16,777,216 bytes, or a number that is wider than its field in the bytes of code.
use Rattle.std.specs.Prelude.{ℕ, ◌+◌, nat_lt, Bool, true, false, not, ◌&&◌, ◌||◌, ◌∷◌, length, map}
use Rattle.std.specs.Prelude.{slice_get}
use Rattle.std.specs.List.{filter, filter_map, list_all, list_any, sum_by}
use Rattle.std.specs.Option.{option_and_then}
use Rattle.pli_map.specs.Description.{Description, Array, Structure, Members, NoMembers, MemberThen, listed}
use Rattle.pli_map.specs.ParameterTypes.{ParameterType, Stated, AnyString, AnyArray, ArrayOf, StructureOf}
use Rattle.pli_map.specs.ParameterTypes.{stated}
use Rattle.pli_map.specs.Sizes.{size_of}
use Rattle.pli_code.specs.CodeFields.{block_fits, instruction_fits}
use Rattle.pli_code.specs.Decks.{Code}

abbrev mutual
  -- a structure somewhere in a description has too many members
  pub has_many_members : Description → Bool
  has_many_members (Array bounds element) = has_many_members element
  has_many_members (Structure members) = nat_lt 65535 (length (listed members)) || one_has_many members
  has_many_members scalar = false

  -- one somewhere in its members has
  pub one_has_many : Members → Bool
  one_has_many NoMembers = false
  one_has_many (MemberThen d ds) = has_many_members d || one_has_many ds

-- one somewhere in what is stated of a type has; no parameter is a structure in which a `*` stands
abbrev pub has_many_types : ParameterType → Bool
has_many_types (Stated d) = has_many_members d
has_many_types (AnyString form) = false
has_many_types (AnyArray dimensions element) = has_many_types element
has_many_types (ArrayOf bounds element) = has_many_types element
has_many_types (StructureOf members) = true

-- the bytes of what has initial values, by the templates
abbrev pub initial_bytes : Code → ℕ
initial_bytes c =
    sum_by size_of
    (filter_map (λ t. option_and_then stated (slice_get c.descriptions t.description))
    (filter (λ t. nat_lt 0 (length t.initial)) c.templates))

-- the code is over one of these limits
abbrev pub is_too_long : Code → Bool
is_too_long c =
    list_any (nat_lt 65535)
    (length c.descriptions ∷ length c.templates ∷ length c.values ∷ length c.globals ∷ length c.blocks
    ∷ length c.instructions ∷ map (λ b. b.parameters + length b.variables) c.blocks)
    || list_any has_many_types c.descriptions || nat_lt 16777216 (initial_bytes c)
    || not (list_all block_fits c.blocks && list_all instruction_fits c.instructions)
