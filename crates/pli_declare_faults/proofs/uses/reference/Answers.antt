use Rattle.pli_declare_outline.specs.views.OutlineView.{outline_view}
use Rattle.pli_declare_faults.proofs.uses.reference.Goals as goal

pub returns-clause-target : goal.returns-clause-target
returns-clause-target c = λ at. c.reference_with.ensures.target (outline_view c.args.scopes.now.outline.now) c.args.here at c.in_ok-looked.ensures
