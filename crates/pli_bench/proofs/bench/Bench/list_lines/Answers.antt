use Rattle.std.specs.Prelude.{◌++◌}
use Rattle.std.proofs.Common.{sym, ap, ◌∙◌}
use Rattle.std.specs.Option.{option_copied}
use Rattle.std.proofs.lemmas.Result.{err_from_is_err_and}
use Rattle.pli_base.specs.laws.DeviceLaws.{AppendsPrefix-more}
use Rattle.pli_members.specs.declared.refusal.Refusal.TheVariants.{NoSuchMember}
use Rattle.pli_commands.specs.AnswerLines.{okay, refused, numbered_lines}
use Rattle.pli_bench.proofs.CommandsObeyed.{lists_none, lists}
use Rattle.pli_commands.proofs.PartAfterPart.{writes_then}
use Rattle.pli_bench.proofs.bench.Bench.list_lines.Goals as goal

pub returns-in_default-clause-answered : goal.returns-in_default-clause-answered
returns-in_default-clause-answered g c =
    (refused NoSuchMember, lists_none c.args.self.now c.self.inside.members c.self.inside.ledger _ c.self.inside.steps c.self.view_is c.args.name (sym c.lines.ensures ∙ ap option_copied c.in_default.is), c.put_refusal.ensures.written)

pub returns-in_err-put_lines-clause-answered : goal.returns-in_err-put_lines-clause-answered
returns-in_err-put_lines-clause-answered g c =
    let p = err_from_is_err_and c.from_residual.result c.from_residual.ensures.1 in
    let lines = c.in-Some.lines.now in (
      numbered_lines 1 lines ++ okay,
      lists c.args.self.now c.self.inside.members c.self.inside.ledger _ c.self.inside.steps c.self.view_is c.args.name lines (sym c.lines.ensures ∙ ap option_copied c.in-Some.is),
      rw p.1 (AppendsPrefix-more _ _ (numbered_lines 1 lines) okay c.in_err-put_lines.ensures.written),
    )

pub returns-clause-answered : goal.returns-clause-answered
returns-clause-answered g c =
    let lines = c.in-Some.lines.now in (
      numbered_lines 1 lines ++ okay,
      lists c.args.self.now c.self.inside.members c.self.inside.ledger _ c.self.inside.steps c.self.view_is c.args.name lines (sym c.lines.ensures ∙ ap option_copied c.in-Some.is),
      writes_then _ _ _ (numbered_lines 1 lines) okay _ c.in_ok-put_lines.ensures.written c.put_parts.ensures.written,
    )
