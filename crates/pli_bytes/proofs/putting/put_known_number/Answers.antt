use Rattle.std.proofs.Common.{◌≡◌, ◌^◌, ◌<◌, ◌++◌, drop, ap, ◌∙◌, unsigned_abs, arith}
use Rattle.std.specs.Int.{w16, w32, w64, cast_signed, cast_unsigned}
use Rattle.std.proofs.lemmas.Bool.{ltb-true}
use Rattle.std.proofs.lemmas.Int.{to_z-of_z}
use Rattle.std.proofs.Math.Facts.{Fits-of_z}
use mir.Val.{SFits}
use Rattle.byteorder.specs.Endian.{big_bytes}
use Rattle.pli_map.proofs.StoredNumbers.{is_16, is_32, is_64, fits_16, fits_32}
use Rattle.pli_bytes.proofs.WrittenValues.{number_put}
use Rattle.pli_bytes.proofs.putting.put_known_number.Goals as goal

pub returns-in-16-to-31 : goal.returns-in-16-to-31
returns-in-16-to-31 c =
    let p = c.args.precision in
    let x = c.args.number in
    let old = c.args.bytes.now in
    let few : unsigned_abs x < 2 ^ p = ltb-true (unsigned_abs x) (2 ^ p) c.requires.digits in
    let is = is_32 p (omega arith) (omega arith) in
    let fits : SFits w32 x = fits_32 p x (omega arith) few in
    number_put p 4 w32 x is (Fits-of_z fits).fits fits old c.write_i32.new.buf (omega (arith, is.1, c.requires.within))
    (c.write_i32.ensures ∙ ap (λ y. big_bytes 4 (cast_unsigned w32 (cast_signed w32 (cast_unsigned w32 y))) ++ drop 4 old) (to_z-of_z w64 x c.ranges.number))

pub returns-in-0-to-15 : goal.returns-in-0-to-15
returns-in-0-to-15 c =
    let p = c.args.precision in
    let x = c.args.number in
    let old = c.args.bytes.now in
    let few : unsigned_abs x < 2 ^ p = ltb-true (unsigned_abs x) (2 ^ p) c.requires.digits in
    let is = is_16 p (omega arith) in
    let fits : SFits w16 x = fits_16 p x (omega arith) few in
    number_put p 2 w16 x is (Fits-of_z fits).fits fits old c.write_i16.new.buf (omega (arith, is.1, c.requires.within))
    (c.write_i16.ensures ∙ ap (λ y. big_bytes 2 (cast_unsigned w16 (cast_signed w16 (cast_unsigned w16 y))) ++ drop 2 old) (to_z-of_z w64 x c.ranges.number))

pub returns-in_default : goal.returns-in_default
returns-in_default c =
    let p = c.args.precision in
    let fits = c.ranges.number in
    let is = is_64 p (omega arith) in
    number_put p 8 w64 c.args.number is (Fits-of_z fits).fits fits c.args.bytes.now c.write_i64.new.buf (omega (arith, is.1, c.requires.within)) c.write_i64.ensures
