use Rattle.std.proofs.Common.{◌≡◌, ℤ, sym, ◌∙◌, subst, arith}
use Rattle.std.specs.Int.{w16, w32, w64}
use Rattle.std.proofs.lemmas.Int.{to_z-of_z}
use Rattle.std.proofs.Math.Facts.{Fits-of_z}
use mir.Val.{SFits}
use Rattle.pli_map.specs.Description.{FixedBinary}
use Rattle.pli_map.proofs.StoredNumbers.{is_16, is_32, is_64}
use Rattle.pli_value.specs.Value.{Number}
use Rattle.pli_bytes.specs.Changes.{IsPut}
use Rattle.pli_bytes.proofs.WrittenValues.{number_put}
use Rattle.pli_bytes.proofs.putting.put_first_number.Goals as goal

pub returns-in-Ok-clause-put : goal.returns-in-Ok-clause-put
returns-in-Ok-clause-put c =
    let same : c.in-Ok.number ≡ c.args.number = c.in-Ok.ensures.1 ∙ to_z-of_z w64 c.args.number c.ranges.number in
    let fits : SFits w16 c.in-Ok.number = subst (SFits w16) (sym c.in-Ok.ensures.1) c.in-Ok.ensures.0 in
    subst (λ (x : ℤ). IsPut (FixedBinary c.args.precision) (Number x) 0 c.args.bytes.now c.write_i16.new.buf) same
    (number_put c.args.precision 2 w16 c.in-Ok.number (is_16 c.args.precision (omega arith)) (Fits-of_z fits).fits fits c.args.bytes.now c.write_i16.new.buf c.if-bytes-ge2.true c.write_i16.ensures)

pub returns-in-Ok-try_from-clause-put : goal.returns-in-Ok-try_from-clause-put
returns-in-Ok-try_from-clause-put c =
    let same : c.in-Ok-try_from.number ≡ c.args.number = c.in-Ok-try_from.ensures.1 ∙ to_z-of_z w64 c.args.number c.ranges.number in
    let fits : SFits w32 c.in-Ok-try_from.number = subst (SFits w32) (sym c.in-Ok-try_from.ensures.1) c.in-Ok-try_from.ensures.0 in
    subst (λ (x : ℤ). IsPut (FixedBinary c.args.precision) (Number x) 0 c.args.bytes.now c.write_i32.new.buf) same
    (number_put c.args.precision 4 w32 c.in-Ok-try_from.number (is_32 c.args.precision (omega arith) (omega arith)) (Fits-of_z fits).fits fits c.args.bytes.now c.write_i32.new.buf c.if-bytes-ge4.true c.write_i32.ensures)

pub returns-in-32-to-255-clause-put : goal.returns-in-32-to-255-clause-put
returns-in-32-to-255-clause-put c =
    let fits = c.ranges.number in
    number_put c.args.precision 8 w64 c.args.number (is_64 c.args.precision (omega arith)) (Fits-of_z fits).fits fits c.args.bytes.now c.write_i64.new.buf c.if-bytes-ge8.true c.write_i64.ensures
