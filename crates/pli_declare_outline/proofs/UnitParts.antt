-- The parts of a procedure's tree.
use Rattle.std.proofs.Common.{◌≡◌, ap}
use Rattle.pli_base.specs.laws.StatementLaws.{unit_out}
use Rattle.pli_base.specs.views.StatementView.{unit_view}
use Rattle.pli_base.specs.declared.statement.Procedure.{Procedure, out-Procedure}

pub number_out : (p : Procedure) → (unit_view p).heading.number ≡ (out-Procedure p).number
number_out p = ap (λ u. u.heading.number) (unit_out p)

pub end_out : (p : Procedure) → (unit_view p).end ≡ (out-Procedure p).end
end_out p = ap (λ u. u.end) (unit_out p)
