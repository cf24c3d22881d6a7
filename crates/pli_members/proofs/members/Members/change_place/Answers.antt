use Rattle.std.proofs.Common.{◌≡◌, sym, None}
use Rattle.std.proofs.lemmas.Result.{err_from_is_err_and}
use Rattle.pli_members.specs.views.ChangeView.{change_view}
use Rattle.pli_members.specs.Refusals.{refusal_of_lines}
use Rattle.pli_members.proofs.ChangeDoes.{clear_at_place, refused_exhausted, not_refused}
use Rattle.pli_members.proofs.members.Members.change_place.Goals as goal

-- the change of these lines is not what is refused
is_clear : (c : goal.In_ok-step) → refusal_of_lines (change_view c.args.change) c.in-Ok.ensures.found.member.lines ≡ None
is_clear c = clear_at_place c.args.self.now c.args.name.now c.in-Ok.at c.in-Ok.ensures.found (change_view c.args.change) c.index.result.now c.lines.result.now (rw (← c.self.view_is) c.index.ensures) c.lines.ensures c.in_default-change_refusal.ensures

-- a version is wanting
pub returns-in_err-step-clause-refusal : goal.returns-in_err-step-clause-refusal
returns-in_err-step-clause-refusal c =
    let clear = clear_at_place c.args.self.now c.args.name.now c.in-Ok.at c.in-Ok.ensures.found (change_view c.args.change) c.index.result.now c.lines.result.now (rw (← c.self.view_is) c.index.ensures) c.lines.ensures c.in_default-change_refusal.ensures in
    let refused = refused_exhausted c.args.self.now c.args.name.now c.in-Ok.at c.in-Ok.ensures.found (change_view c.args.change) clear c.in_err-step.ensures.none.1 in
    let left = err_from_is_err_and c.from_residual.result c.from_residual.ensures.1 in
    rw (left.1, left.2, c.in_err-step.ensures.none.0) (sym refused)

-- nothing is
pub returns-clause-refusal : goal.returns-clause-refusal
returns-clause-refusal c = sym (not_refused c.args.self.now c.args.name.now c.in-Ok.at c.in-Ok.ensures.found (change_view c.args.change) (is_clear c) (rw c.in_ok-step.ensures.left.current c.in_ok-step.ensures.left.fits))

pub returns-clause-found : goal.returns-clause-found
returns-clause-found c = record { place = c.in-Ok.ensures.found; clear = is_clear c; left = c.in_ok-step.ensures.left }
