use Rattle.std.proofs.Common.{◌≡◌, ◌/◌, ◌%◌, ◌*◌, ◌<◌, ◌≤◌, min, true, refl, sym, ap, subst, ◌∙◌, arith}
use Rattle.std.proofs.Math.Nat.{div-lt_iff_lt-mul}
use Rattle.std.proofs.lemmas.Bool.{eqb-true}
use Rattle.std.specs.Option.{is_some}
use Rattle.pli_map.specs.Description.{Character}
use Rattle.pli_map.specs.Scalars.{first_scalar}
use Rattle.pli_map.specs.Sizes.{count_of, stride_of}
use Rattle.pli_map.proofs.ScalarLawsHold.{whole_found}
use Rattle.pli_map.proofs.ScalarsAmong.{some_in_array}
use Rattle.pli_store.proofs.part.is_text_in.Goals as goal

pub returns : goal.returns
returns c = λ e.
    let n = c.args.count in
    let o = c.args.offset in
    let bounds = c.args._bounds.now in
    let d = Character n in
    let stride : stride_of d ≡ n = omega arith in
    let within : o < count_of bounds * n = omega (arith, c.requires, c.if-offset-size.false, ap (λ s. count_of bounds * s) stride) in
    let some : 0 < n = omega (arith, c.if-count-eq0.false) in
    let below : o / n < count_of bounds = (div-lt_iff_lt-mul some).1 within in
    let fewer : o / n ≤ o = omega arith in
    let rest : o % n ≡ 0 = ap (λ s. o % s) (sym c.from.ensures) ∙ eqb-true (o % c.from.result) 0 e in
    some_in_array bounds d o (o / n) (o % n) (min (count_of bounds) 18446744073709551615) d (ap (λ s. o / s) (sym stride)) (ap (λ s. o % s) (sym stride)) refl
    (omega (arith, below, fewer)) (subst (λ r. is_some (first_scalar d r d) ≡ true) (sym rest) (ap is_some (whole_found d)))
