-- What resolving answers.
use Rattle.std.specs.Prelude.{◌≡◌, [], Result, Ok, Err}
use Rattle.std.specs.Global.{Vec}
use Rattle.pli_base.specs.Statements.{ExternalProcedure}
use Rattle.pli_base.specs.declared.statement.Procedure.{Procedure}
use Rattle.pli_base.specs.views.StatementView.{unit_view}
use Rattle.pli_declare.specs.Resolution.{resolution_faults}
use Rattle.pli_base.specs.declared.failure.Failure.{Failure}
use Rattle.pli_base.specs.declared.failure.Failure.TheVariants as failures
use Rattle.pli_base.specs.declared.token.Fault.{Fault}

-- the resolved unit of this tree, where there are no faults; or all of them; memory may be refused
-- anywhere
abbrev pub IsResolved : Result Procedure (Failure (Vec Fault)) → ExternalProcedure → Type 0
IsResolved (Ok resolved) u = (resolution_faults u ≡ []) × (unit_view resolved ≡ u)
IsResolved (Err (failures.Fault faults)) u = (faults.items ≡ resolution_faults u) × (faults.items ≡ [] → ⊥)
IsResolved (Err failures.OutOfMemory) u = Unit {0}
