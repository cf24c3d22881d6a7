use Rattle.std.specs.Prelude.{◌+◌, ◌<◌, ◌++◌, length, drop}
use Rattle.std.proofs.Common.{rules, arith, ap, sym, ◌∙◌}
use Rattle.std.proofs.lemmas.List.{drop_all}
use Rattle.std.proofs.lemmas.Result.{err_from_is_err_and}
use Rattle.pli_commands.proofs.LinesListed.{numbered_line}
use Rattle.pli_commands.specs.AnswerLines.{numbered_lines}
use Rattle.pli_commands.proofs.BytesWaiting.{has_put_more, breaks_in, writes_all}
use Rattle.pli_commands.proofs.LinesListed.{lines_from, line_parts}
use Rattle.pli_commands.proofs.listing.put_lines.Goals as goal

pub loop-place-preserved : goal.loop-place-preserved
loop-place-preserved g c =
    let i = c.loop-place.place in
    let lines = c.args.lines.now in
    let within : i < length lines = omega arith in
    let later = numbered_lines (i + 1 + 1) (drop (i + 1) lines) in
    let parts = line_parts (i + 1) c.index-lines-place.result c.as_bytes.result.now c.text.result.now (c.as_bytes.ensures.value ∙ c.format.ensures.text) c.text.ensures in
    let rest = lines_from lines i c.index-lines-place.result within ∙ ap (λ l. numbered_line (i + 1) l ++ later) (sym c.index-lines-place.is) ∙ ap (λ t. t ++ later) parts in
    record {
      passed = has_put_more _ _ _ _ c.loop-place.batch _ _ later c.loop-place.invariant.passed rest c.add_parts.new.self c.in_ok-add_parts.ensures.passed;
      mark = search rules;
    }

pub returns-in_err-add_parts-clause-written : goal.returns-in_err-add_parts-clause-written
returns-in_err-add_parts-clause-written g c =
    let p = err_from_is_err_and c.from_residual.result c.from_residual.ensures.1 in
    let i = c.loop-place.place in
    let lines = c.args.lines.now in
    let within : i < length lines = omega arith in
    let later = numbered_lines (i + 1 + 1) (drop (i + 1) lines) in
    let parts = line_parts (i + 1) c.index-lines-place.result c.as_bytes.result.now c.text.result.now (c.as_bytes.ensures.value ∙ c.format.ensures.text) c.text.ensures in
    let rest = lines_from lines i c.index-lines-place.result within ∙ ap (λ l. numbered_line (i + 1) l ++ later) (sym c.index-lines-place.is) ∙ ap (λ t. t ++ later) parts in
    rw p.1 (breaks_in _ _ _ _ c.loop-place.batch _ _ later c.loop-place.invariant.passed rest c.in_err-add_parts.ensures.passed)

pub returns-clause-written : goal.returns-clause-written
returns-clause-written g c =
    let done = ap (numbered_lines (c.loop-place.place + 1)) (drop_all c.loop-place.place c.args.lines.now (omega arith)) in
    writes_all _ _ _ c.loop-place.batch _ c.loop-place.invariant.passed done _ c.put.result c.put.ensures.written
