-- How large a module may be (own).
use Rattle.std.specs.Prelude.{nat_lt, Bool, ◌||◌, Option, List, [], ◌++◌, length, map}
use Rattle.std.specs.List.{flat_map, list_any, sum_by}
use Rattle.std.specs.Map.{values_of}
use Rattle.pli_map.specs.Description.{Description}
use Rattle.pli_map.specs.Sizes.{size_of}
use Rattle.pli_map.specs.Variables.{byte_limit}
use Rattle.pli_program.specs.declared.kind.VariableKind.{VariableKind}
use Rattle.pli_program.specs.declared.kind.VariableKind.TheVariants.{Static, Controlled}
use Rattle.pli_type_tree.specs.Templates.{Template}
use Rattle.pli_code.specs.Decks.{Code, CodedGlobal, OwnVariable, ExternalVariable, EntryPoint}
use Rattle.pli_code.specs.Decks.{there, template_at}
use Rattle.pli_link.specs.Names.{Declaration, externals}
use Rattle.pli_link.specs.Units.{Compiled}

-- what is made of a template before the program begins: of that of a STATIC variable one, and none of that of
-- a CONTROLLED one
abbrev pub made_of : VariableKind → Option Template → List Template
made_of Static t = there t
made_of Controlled t = []

-- the STATIC variable that a unit has for itself, if a global is one
abbrev pub own_in : Code → CodedGlobal → List Template
own_in code (OwnVariable kind t) = made_of kind (template_at code t)
own_in code (ExternalVariable name kind t) = []
own_in code (EntryPoint name signature) = []

-- those among globals
abbrev pub own_of : Code → List CodedGlobal → List Template
own_of code gs = flat_map (own_in code) gs

-- those of all units
abbrev pub all_own : List Compiled → List Template
all_own cs = flat_map (λ c. own_of c.deck.code c.deck.code.globals) cs

-- the external variable of a first declaration, if it is STATIC
abbrev pub shared_in : Declaration → List Template
shared_in d = made_of d.kind d.template

-- the variables that are made before a program begins: each unit's own STATIC ones, and each external one that
-- is STATIC by its first declaration once
abbrev pub variables_made : List Compiled → List Template
variables_made cs = all_own cs ++ flat_map shared_in (values_of (externals cs))

-- one that has more bytes than a variable may have
abbrev pub is_oversized : Description → Bool
is_oversized d = nat_lt 1000000 (size_of d)

-- one of these variables has, or all together have more bytes than may live
abbrev pub are_too_large : List Description → Bool
are_too_large ds = list_any is_oversized ds || nat_lt byte_limit (sum_by size_of ds)

-- the variables are too large; or there are more than 65,535 external ones, 1,000,000 instructions or 65,535
-- units
abbrev pub is_too_large : List Compiled → Bool
is_too_large cs =
    are_too_large (map (λ t. t.description) (variables_made cs)) || nat_lt 65535 (length (externals cs))
    || nat_lt 1000000 (sum_by (λ c. length c.deck.code.instructions) cs) || nat_lt 65535 (length cs)
