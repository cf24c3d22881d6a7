use Rattle.std.proofs.Common.{ap, ◌∙◌}
use Rattle.pli_resolve.specs.views.UnitView.{rows_view}
use Rattle.pli_type_walk.proofs.WalkEndLemmas.{first_entered}
use Rattle.pli_type_statement.proofs.checking.names_and_templates.Goals as goal

pub name_unit-requires-clause-symbols : goal.name_unit-requires-clause-symbols
name_unit-requires-clause-symbols c = ap rows_view c.deref.ensures.value ∙ c.in_ok-symbols.ensures

pub templates-requires : goal.templates-requires
templates-requires c = ap rows_view c.deref-2.ensures.value ∙ c.in_ok-symbols.ensures

pub returns-clause-naming : goal.returns-clause-naming
returns-clause-naming c =
    first_entered c.args.unit.now c.in_ok-naming.naming c.enter.new.self c.in_ok-naming.ensures c.in_ok-enter.ensures.entered
