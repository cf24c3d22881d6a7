use Rattle.std.specs.Prelude.{[], ◌+◌, ◌<◌, ◌≤◌, length, drop, refl}
use Rattle.std.proofs.Common.{rules, arith}
use Rattle.std.proofs.lemmas.Result.{err_from_is_err_and}
use Rattle.pli_commands.specs.Dumps.{hex_from}
use Rattle.pli_commands.proofs.BytesWaiting.{has_put_more, breaks_in, writes_all}
use Rattle.pli_commands.proofs.HexLines.{hex_more, hex_done}
use Rattle.pli_commands.proofs.dumping.put_hex.Goals as goal

pub loop-byte-preserved : goal.loop-byte-preserved
loop-byte-preserved g c =
    let i = c.loop-byte.byte-index in
    let bytes = c.args.bytes.now in
    let within : i < length bytes = omega arith in
    let next = c.next_column-column.result in
    record {
      passed = has_put_more _ _ _ _ c.loop-byte.batch _ _ (hex_from next (drop (i + 1) bytes)) c.loop-byte.invariant.passed (hex_more c.loop-byte.column next bytes i 0 within c.next_column-column.ensures.value) c.add_byte.new.batch c.in_ok-add_byte.ensures.passed;
      within = c.next_column-column.ensures.within;
      mark = search rules;
    }

pub returns-in_err-add_byte-clause-written : goal.returns-in_err-add_byte-clause-written
returns-in_err-add_byte-clause-written g c =
    let p = err_from_is_err_and c.from_residual.result c.from_residual.ensures.1 in
    let i = c.loop-byte.byte-index in
    let bytes = c.args.bytes.now in
    let within : i < length bytes = omega arith in
    rw p.1 (breaks_in _ _ _ _ c.loop-byte.batch _ _ _ c.loop-byte.invariant.passed (hex_more c.loop-byte.column _ bytes i 0 within refl) c.in_err-add_byte.ensures.passed)

pub returns-in_err-add-clause-written : goal.returns-in_err-add-clause-written
returns-in_err-add-clause-written g c =
    let p = err_from_is_err_and c.from_residual-in_err-add.result c.from_residual-in_err-add.ensures.1 in
    let past : length c.args.bytes.now ≤ c.loop-byte.byte-index = omega arith in
    rw p.1 (breaks_in _ _ _ _ c.loop-byte.batch _ _ [] c.loop-byte.invariant.passed (hex_done c.loop-byte.column c.args.bytes.now c.loop-byte.byte-index _ past c.last_end.ensures) c.in_err-add.ensures.passed)

pub returns-clause-written : goal.returns-clause-written
returns-clause-written g c =
    let past : length c.args.bytes.now ≤ c.loop-byte.byte-index = omega arith in
    let all = has_put_more _ _ _ _ c.loop-byte.batch _ _ [] c.loop-byte.invariant.passed (hex_done c.loop-byte.column c.args.bytes.now c.loop-byte.byte-index _ past c.last_end.ensures) c.add.new.self c.in_ok-add.ensures.passed in
    writes_all _ _ _ c.add.new.self [] all refl _ c.put.result c.put.ensures.written
