-- Which kind of block a procedure or an ON-unit has.
use Rattle.std.specs.Prelude.{if◌then◌else◌}
use Rattle.pli_program.specs.Kinds.{BlockKind, Procedure, OnUnit}
use Rattle.pli_type_tree.specs.TypedTree.{TypedProcedure}

-- that of an ON-unit, or that of a procedure
abbrev pub kind_of_procedure : TypedProcedure → BlockKind
kind_of_procedure f = if f.is_on_unit then OnUnit else Procedure
