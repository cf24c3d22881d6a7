use Rattle.std.specs.Prelude.{◌+◌, ◌<◌, ◌++◌, length, decimal, drop}
use Rattle.std.specs.List.{flat_map}
use Rattle.std.proofs.Common.{rules, arith, ap, sym, ◌∙◌}
use Rattle.std.proofs.lemmas.List.{drop_all}
use Rattle.std.proofs.lemmas.Result.{err_from_is_err_and}
use Rattle.pli_commands.specs.AnswerLines.{kind_word, member_line}
use Rattle.pli_commands.proofs.BytesWaiting.{has_put_more, breaks_in, writes_all}
use Rattle.pli_commands.proofs.LinesListed.{members_from, member_parts}
use Rattle.pli_commands.proofs.listing.put_members.Goals as goal

pub loop-entry-preserved : goal.loop-entry-preserved
loop-entry-preserved g c =
    let i = c.loop-entry.entry-index in
    let entries = c.args.entries.now in
    let within : i < length entries = omega arith in
    let later = flat_map member_line (drop (i + 1) entries) in
    let parts = member_parts c.entry-item.result c.bytes.result.now c.as_bytes.result.now c.as_bytes-in-loop-entry.result.now
    (c.bytes.ensures ∙ c.name-name.ensures) (c.as_bytes.ensures.value ∙ c.kind_word.ensures ∙ ap kind_word c.kind.ensures) (c.as_bytes-in-loop-entry.ensures.value ∙ c.format.ensures.text ∙ ap (λ l. decimal (length l)) c.lines.ensures) in
    let rest = members_from entries i c.entry-item.result within ∙ ap (λ e. member_line e ++ later) (sym c.entry-item.is) ∙ ap (λ t. t ++ later) parts in
    record {
      passed = has_put_more _ _ _ _ c.loop-entry.batch _ _ later c.loop-entry.invariant.passed rest c.add_parts.new.self c.in_ok-add_parts.ensures.passed;
      mark = search rules;
    }

pub returns-in_err-add_parts-clause-written : goal.returns-in_err-add_parts-clause-written
returns-in_err-add_parts-clause-written g c =
    let p = err_from_is_err_and c.from_residual.result c.from_residual.ensures.1 in
    let i = c.loop-entry.entry-index in
    let entries = c.args.entries.now in
    let within : i < length entries = omega arith in
    let later = flat_map member_line (drop (i + 1) entries) in
    let parts = member_parts c.entry-item.result c.bytes.result.now c.as_bytes.result.now c.as_bytes-in-loop-entry.result.now
    (c.bytes.ensures ∙ c.name-name.ensures) (c.as_bytes.ensures.value ∙ c.kind_word.ensures ∙ ap kind_word c.kind.ensures) (c.as_bytes-in-loop-entry.ensures.value ∙ c.format.ensures.text ∙ ap (λ l. decimal (length l)) c.lines.ensures) in
    let rest = members_from entries i c.entry-item.result within ∙ ap (λ e. member_line e ++ later) (sym c.entry-item.is) ∙ ap (λ t. t ++ later) parts in
    rw p.1 (breaks_in _ _ _ _ c.loop-entry.batch _ _ later c.loop-entry.invariant.passed rest c.in_err-add_parts.ensures.passed)

pub returns-clause-written : goal.returns-clause-written
returns-clause-written g c =
    let done = ap (flat_map member_line) (drop_all c.loop-entry.entry-index c.args.entries.now (omega arith)) in
    writes_all _ _ _ c.loop-entry.batch _ c.loop-entry.invariant.passed done _ c.put.result c.put.ensures.written
