-- What a unit's globals are: variables, which are made from templates, and entries, which have signatures.
use Rattle.std.specs.Prelude.{Bool, true, false, Option, Some, None, List, [], ◌∷◌, if◌then◌else◌}
use Rattle.pli_map.specs.Description.{Description}
use Rattle.pli_program.specs.declared.kind.VariableKind.{VariableKind}
use Rattle.pli_program.specs.declared.kind.VariableKind.TheVariants.{Static, Controlled}
use Rattle.pli_type_tree.specs.Templates.{Template}
use Rattle.pli_type_tree.specs.TypedTree.{Signature, Global, OwnVariable, ExternalVariable, EntryPoint}
pub use Rattle.pli_type_tree.specs.ProgramVariables.{global_variable}

-- the templates of those that are variables
abbrev pub templates_in : List Global → List Template
templates_in [] = []
templates_in (OwnVariable kind t ∷ gs) = t ∷ templates_in gs
templates_in (ExternalVariable name kind t ∷ gs) = t ∷ templates_in gs
templates_in (EntryPoint name signature ∷ gs) = templates_in gs

-- the kind of a global that is a variable
abbrev pub kind_of : Option Global → Option VariableKind
kind_of (Some (OwnVariable kind t)) = Some kind
kind_of (Some (ExternalVariable name kind t)) = Some kind
kind_of (Some (EntryPoint name signature)) = None
kind_of None = None

-- the description of a global that is a variable
abbrev pub description_of : Option Global → Option Description
description_of (Some (OwnVariable kind t)) = Some t.description
description_of (Some (ExternalVariable name kind t)) = Some t.description
description_of (Some (EntryPoint name signature)) = None
description_of None = None

-- there is a kind, and it is this one
abbrev pub is_kind : VariableKind → Option VariableKind → Bool
is_kind Static (Some Static) = true
is_kind Controlled (Some Controlled) = true
is_kind kind other = false

-- the description of a global that is a variable of a kind
abbrev pub described_as : VariableKind → Option Global → Option Description
described_as kind g = if is_kind kind (kind_of g) then description_of g else None

-- the signature of a global that is an entry
abbrev pub signature_of : Option Global → Option Signature
signature_of (Some (EntryPoint name signature)) = Some signature
signature_of g = None
