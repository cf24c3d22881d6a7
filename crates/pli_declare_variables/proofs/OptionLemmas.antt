-- The options of a procedure, by the parts of its tree.
use Rattle.std.proofs.Common.{◌≡◌, map, ap}
use Rattle.pli_base.specs.laws.StatementLaws.{unit_out}
use Rattle.pli_base.specs.views.StatementView.{option_view, unit_view}
use Rattle.pli_base.specs.declared.statement.Procedure.{Procedure, out-Procedure}

pub options_out : (p : Procedure) → (unit_view p).heading.options ≡ map option_view (out-Procedure p).options.items
options_out p = ap (λ u. u.heading.options) (unit_out p)
