use Rattle.std.specs.Prelude.{◌++◌, refl}
use Rattle.std.specs.List.{flat_map}
use Rattle.std.proofs.Common.{ap, ◌∙◌}
use Rattle.std.proofs.lemmas.Result.{err_from_is_err_and}
use Rattle.pli_base.specs.laws.DeviceLaws.{AppendsPrefix-more}
use Rattle.pli_commands.specs.AnswerLines.{okay, member_line}
use Rattle.pli_commands.proofs.PartAfterPart.{writes_then}
use Rattle.pli_bench.proofs.bench.Bench.list_members.Goals as goal

pub returns-in_err-put_members-clause-answered : goal.returns-in_err-put_members-clause-answered
returns-in_err-put_members-clause-answered g c =
    let p = err_from_is_err_and c.from_residual.result c.from_residual.ensures.1 in
    let text = flat_map member_line c.entries.result.now in
    let same = ap (flat_map member_line) (c.entries.ensures.entries ∙ ap (λ s. s.store.entries) c.self.view_is) in
    (text ++ okay, (ap (λ t. t ++ okay) same, refl), rw p.1 (AppendsPrefix-more _ _ text okay c.in_err-put_members.ensures.written))

pub returns-clause-answered : goal.returns-clause-answered
returns-clause-answered g c =
    let text = flat_map member_line c.entries.result.now in
    let same = ap (flat_map member_line) (c.entries.ensures.entries ∙ ap (λ s. s.store.entries) c.self.view_is) in
    (text ++ okay, (ap (λ t. t ++ okay) same, refl), writes_then _ _ _ text okay _ c.in_ok-put_members.ensures.written c.put_parts.ensures.written)
