-- The faults of linking (own).
use Rattle.std.specs.Prelude.{nat_eq, nat_lt, Bool, false, not, ◌||◌, ◌&&◌, Option, option_map, unwrap_or}
use Rattle.std.specs.Prelude.{is_none, List, [], ◌∷◌, ◌++◌, length, drop, map, slice_get, if◌then◌else◌}
use Rattle.std.specs.Cmp.Lexicographic.{pointwise, slice_cmp}
use Rattle.std.specs.List.{filter, flat_map, fold, list_any, sum_by}
use Rattle.std.specs.Map.{values_of}
use Rattle.std.specs.Option.{option_eq}
use Rattle.std.specs.Ordering.{nat_cmp}
use Rattle.pli_base.specs.Name.{Name}
use Rattle.pli_map.specs.ParameterTypes.{same_type}
use Rattle.pli_map.specs.Sizes.{size_of}
use Rattle.pli_map.specs.Variables.{byte_limit}
use Rattle.pli_program.specs.declared.kind.VariableKind.{VariableKind}
use Rattle.pli_type_keys.specs.Same.{same_template}
use Rattle.pli_type_tree.specs.Templates.{Template}
use Rattle.pli_sort.specs.Sorting as sorting
use Rattle.pli_code.specs.Decks.{Code, CodedGlobal, CodedSignature, OwnVariable, ExternalVariable, EntryPoint}
use Rattle.pli_code.specs.Decks.{there}
use Rattle.pli_code.specs.ModuleParts.{kind_number}
use Rattle.pli_link.specs.Link.{defined_again}
use Rattle.pli_link.specs.ModuleSize.{made_of}
use Rattle.pli_link.specs.Names.{Declaration, with_name, meant}
use Rattle.pli_link.specs.Shared.{unit_named, template_at, externals}
use Rattle.pli_link.specs.Units.{Compiled, procedure_of}
use Rattle.pli_link.specs.declared.linking.LinkFault.{LinkFault}
use Rattle.pli_link.specs.declared.linking.LinkFault.TheVariants.{NoMainProcedure, TwoMainProcedures}
use Rattle.pli_link.specs.declared.linking.LinkFault.TheVariants.{Unresolved, DefinedTwice, Mismatch}
use Rattle.pli_link.specs.declared.linking.LinkFault.TheVariants.{ModuleTooLarge}
use Rattle.pli_link.specs.declared.units.LinkedName.{LinkedName}

-- ---- globals

-- procedures of two units take and give the same: the numbers of their types are looked up in the tables of
-- each, and a `*` is the same as a `*` only
abbrev pub same_signature : Code → CodedSignature → (other : Code) → CodedSignature → Bool
same_signature c s d t =
    pointwise (option_eq same_type) (map (slice_get c.descriptions) s.parameters)
    (map (slice_get d.descriptions) t.parameters)
    && option_eq (option_eq same_type) (option_map (slice_get c.descriptions) s.result)
    (option_map (slice_get d.descriptions) t.result)

-- a variable of this kind and template is like the first one of its name, if there is one
abbrev pub is_like_first : VariableKind → Option Template → (first : Option Declaration) → Bool
is_like_first kind t first =
    unwrap_or
    (option_map
    (λ f. nat_eq (kind_number f.kind) (kind_number kind) && option_eq same_template f.template t) first) false

-- the name of a global that is an entry of which no unit has the procedure
abbrev pub unresolved : List Compiled → Code → CodedGlobal → List Name
unresolved cs code (EntryPoint name s) = if is_none (unit_named cs name) then name ∷ [] else []
unresolved cs code other = []

-- the name of a global that is unlike others of its name: of an external variable that has a procedure's
-- name, or is of another kind or has another description or other initial values than the first one; and of
-- an entry of which the first procedure takes or gives something else
abbrev pub mismatched : List Compiled → Code → CodedGlobal → List Name
mismatched cs code (OwnVariable kind t) = []
mismatched cs code (ExternalVariable name kind t) =
    if is_none (unit_named cs name) && is_like_first kind (template_at code t) (meant (externals cs) name)
    then [] else name ∷ []
mismatched cs code (EntryPoint name s) =
    flat_map
    (λ c. if same_signature c.deck.code c.deck.code.signature code s then [] else name ∷ [])
    (there (unit_named cs name))

-- the names of globals that are found so, of each unit each name once, with the unit
abbrev pub found_in : (Code → CodedGlobal → List Name) → List Compiled → List LinkedName
found_in names_of cs =
    flat_map (λ c. map (λ n. record { name = n; unit = c.unit })
    (fold with_name [] (flat_map (names_of c.deck.code) c.deck.code.globals))) cs

-- ---- how large a module may be

-- the STATIC variable that a unit has for itself, if a global is one
abbrev pub own_in : Code → CodedGlobal → List Template
own_in code (OwnVariable kind t) = made_of kind (template_at code t)
own_in code other = []

-- the variables that are made before a program begins: each unit's own STATIC ones, and each external one
-- that is STATIC by its first declaration once
abbrev pub variables_made : List Compiled → List Template
variables_made cs =
    flat_map (λ c. flat_map (own_in c.deck.code) c.deck.code.globals) cs
    ++ flat_map (λ d. made_of d.kind d.template) (values_of (externals cs))

-- a variable has more bytes than it may have, or all together have more than may live; or there are more than
-- 65,535 external variables, 1,000,000 instructions or 65,535 units
abbrev pub is_too_large : List Compiled → Bool
is_too_large cs =
    let made = map (λ t. t.description) (variables_made cs) in
    (list_any (λ d. nat_lt 1000000 (size_of d)) made || nat_lt byte_limit (sum_by size_of made))
    || nat_lt 65535 (length (externals cs))
    || nat_lt 1000000 (sum_by (λ c. length c.deck.code.instructions) cs) || nat_lt 65535 (length cs)

-- ---- all faults

-- this fault, if it is one
abbrev pub told_if : Bool → LinkFault → List LinkFault
told_if holds fault = if holds then fault ∷ [] else []

-- a fault for each of these, in the order of names; those of one name in the order of units
abbrev pub told_of : (LinkedName → LinkFault) → List LinkedName → List LinkFault
told_of fault names = map fault (sorting.in_order (λ n. n.name) (slice_cmp nat_cmp) names)

-- the faults of units in the order of their names, by code, name and unit
abbrev pub link_faults : List Compiled → List LinkFault
link_faults cs =
    told_if (not (list_any (λ c. c.deck.is_main) cs)) NoMainProcedure
    ++ told_of TwoMainProcedures (map procedure_of (drop 1 (filter (λ c. c.deck.is_main) cs)))
    ++ told_of Unresolved (found_in (unresolved cs) cs) ++ told_of DefinedTwice (defined_again [] cs)
    ++ told_of Mismatch (found_in (mismatched cs) cs) ++ told_if (is_too_large cs) ModuleTooLarge
