-- The headings of procedures, by the parts of their trees; the least of codes.
use Rattle.std.proofs.Common.{◌≡◌, Option, Some, None, refl, ap}
use Rattle.pli_base.specs.declared.code.Code.{Code}
use Rattle.pli_declare.specs.Faults.{lesser}
use Rattle.pli_base.specs.laws.StatementLaws.{unit_out}
use Rattle.pli_base.specs.views.StatementView.{unit_view}
use Rattle.pli_base.specs.declared.statement.Procedure.{Procedure, out-Procedure}

pub parameters_out : (p : Procedure) → (unit_view p).heading.parameters ≡ (out-Procedure p).parameters.items
parameters_out p = ap (λ u. u.heading.parameters) (unit_out p)

pub name_out : (p : Procedure) → (unit_view p).heading.name ≡ (out-Procedure p).name
name_out p = ap (λ u. u.heading.name) (unit_out p)

pub lesser_none : (code : Option Code) → lesser code None ≡ code
lesser_none None = refl
lesser_none (Some c) = refl
