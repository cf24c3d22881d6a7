use Rattle.std.proofs.Common.{arith}
use Rattle.std.proofs.lemmas.Result.{on_ok_weaker}
use Rattle.pli_declare_outline.specs.views.OutlineView.{outline_view, mark_view}
use Rattle.pli_declare_faults.specs.answers.Walks.{mark_goodness}
use Rattle.pli_declare_faults.proofs.ParametersGathered.{put_after}
use Rattle.pli_declare_faults.proofs.known.Known.append_at.Goals as goal

pub returns-clause-answers : goal.returns-clause-answers
returns-clause-answers c =
    on_ok_weaker c.append_mark.result
    (λ e. put_after c.args.all.now.items c.args.block c.index_mut.result.now c.append_mark.new.answers
    (mark_goodness (outline_view c.args.self.now.scopes.outline.now) c.args.block (mark_view c.args.mark.now)) (omega (arith, c.requires)) c.index_mut.ensures.value e)
    c.append_mark.ensures.answers
