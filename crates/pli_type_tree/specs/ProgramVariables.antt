-- The variables of a program among the globals of its units.
use Rattle.std.specs.Prelude.{Option, Some, None}
use Rattle.pli_base.specs.Name.{Name}
use Rattle.pli_program.specs.Kinds.{ProgramVariable}
use Rattle.pli_type_tree.specs.Templates.{variable_of}
use Rattle.pli_type_tree.specs.TypedTree.{Global, OwnVariable, ExternalVariable, EntryPoint}

-- the variable that a global is, unless it is an entry
abbrev pub global_variable : Global → Option (ProgramVariable Name)
global_variable (OwnVariable kind t) =
    Some (record { kind = kind; global = record { external = None; variable = variable_of t } })
global_variable (ExternalVariable name kind t) =
    Some (record { kind = kind; global = record { external = Some name; variable = variable_of t } })
global_variable (EntryPoint name signature) = None
