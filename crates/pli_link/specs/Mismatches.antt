-- Globals that fit no procedure, or not the procedure or the variable of their name (own).
use Rattle.std.specs.Prelude.{Bool, true, false, not, ◌&&◌, Option, Some, None, is_none, List, [], ◌∷◌, map}
use Rattle.std.specs.Prelude.{if◌then◌else◌}
use Rattle.std.specs.List.{flat_map}
use Rattle.std.specs.Option.{option_eq}
use Rattle.pli_base.specs.Name.{Name}
use Rattle.pli_program.specs.declared.kind.VariableKind.{VariableKind}
use Rattle.pli_type_tree.specs.Templates.{Template}
use Rattle.pli_code.specs.Decks.{Code, CodedGlobal, OwnVariable, ExternalVariable, EntryPoint}
use Rattle.pli_code.specs.Decks.{template_at}
use Rattle.pli_link.specs.Alike.{FoundSignature, same_kind, same_signature, signature_at}
use Rattle.pli_type_keys.specs.Same.{same_template}
use Rattle.pli_link.specs.Names.{Declaration, with_name, meant, procedures, unit_named}
use Rattle.pli_link.specs.Names.{first_declaration}
use Rattle.pli_link.specs.Units.{Compiled}
use Rattle.pli_link.specs.declared.global_fault.GlobalFault.{GlobalFault}
use Rattle.pli_link.specs.declared.global_fault.GlobalFault.TheVariants.{Unresolved, Mismatch}
use Rattle.pli_link.specs.declared.units.LinkedName.{LinkedName}

-- an entry of this signature is unlike the procedure of its name, if there is one
abbrev pub is_unlike_procedure : FoundSignature → Option Compiled → Bool
is_unlike_procedure s None = false
is_unlike_procedure s (Some c) = not (same_signature (signature_at c.deck.code c.deck.code.signature) s)

-- an external variable of this kind and template is like the first one of its name
abbrev pub is_like_first : VariableKind → Option Template → (first : Option Declaration) → Bool
is_like_first kind t None = false
is_like_first kind t (Some first) = same_kind first.kind kind && option_eq same_template first.template t

-- it is not, or has the name of a procedure
abbrev pub is_unlike : VariableKind → Option Template → (procedure : Option Compiled)
    → (first : Option Declaration) → Bool
is_unlike kind t (Some c) first = true
is_unlike kind t None first = not (is_like_first kind t first)

-- a global of a unit has this fault: an entry, that no unit has a procedure of its name, or that the first
-- one which has takes or gives something else; a variable, that it has a procedure's name, or that the first
-- variable of its name is of another kind, or has another description or other initial values
abbrev pub has_fault : List Compiled → GlobalFault → Code → CodedGlobal → Bool
has_fault cs Unresolved code (OwnVariable kind t) = false
has_fault cs Unresolved code (ExternalVariable name kind t) = false
has_fault cs Unresolved code (EntryPoint name s) = is_none (meant (procedures cs) name)
has_fault cs Mismatch code (OwnVariable kind t) = false
has_fault cs Mismatch code (ExternalVariable name kind t) =
    is_unlike kind (template_at code t) (unit_named cs name) (first_declaration cs name)
has_fault cs Mismatch code (EntryPoint name s) =
    is_unlike_procedure (signature_at code s) (unit_named cs name)

-- the name of a global that has one
abbrev pub name_of : CodedGlobal → List Name
name_of (OwnVariable kind t) = []
name_of (ExternalVariable name kind t) = name ∷ []
name_of (EntryPoint name s) = name ∷ []

-- names, each once
abbrev pub each_once : (before : List Name) → List Name → List Name
each_once before [] = before
each_once before (n ∷ ns) = each_once (with_name before n) ns

-- the name of a global, if it has this fault
abbrev pub faulty_in : List Compiled → GlobalFault → Code → CodedGlobal → List Name
faulty_in cs f code g = if has_fault cs f code g then name_of g else []

-- the names of globals that have it
abbrev pub faulty_names : List Compiled → GlobalFault → Code → List CodedGlobal → List Name
faulty_names cs f code gs = flat_map (faulty_in cs f code) gs

-- names with their unit
abbrev pub linked_in : (unit : Name) → List Name → List LinkedName
linked_in unit names = map (λ n. record { name = n; unit = unit }) names

-- the names of a unit's globals that have it, each once, with the unit
abbrev pub faulty_in_unit : List Compiled → GlobalFault → Compiled → List LinkedName
faulty_in_unit cs f c = linked_in c.unit (each_once [] (faulty_names cs f c.deck.code c.deck.code.globals))

-- those among all units
abbrev pub faulty_linked : List Compiled → GlobalFault → (some : List Compiled) → List LinkedName
faulty_linked cs f some = flat_map (faulty_in_unit cs f) some
