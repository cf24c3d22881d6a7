use Rattle.std.proofs.Common.{ap, ◌∙◌}
use Rattle.pli_declare.specs.Symbols.{found_in}
use Rattle.pli_declare.specs.ResolvedUnits.{functions_in}
use Rattle.pli_resolve_unit.proofs.resolving.callables.Goals as goal

pub returns : goal.returns
returns c = record {
  functions = λ at. c.in_ok-functions.ensures at ∙ ap (λ marks. found_in (functions_in marks) at) c.requires.are_marks;
  procedures = c.in_ok-unit_procedures.ensures;
}
