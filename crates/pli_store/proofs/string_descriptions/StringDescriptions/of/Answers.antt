use Rattle.std.proofs.Common.{◌-◌, ◌<◌, length, ap, ◌∙◌, rules, arith, eqb-true, refl}
use Rattle.std.proofs.lemmas.Option.{slice_get_read}
use Rattle.pli_map.specs.ParameterTypes.{string_of}
use Rattle.pli_store.specs.answers.Strings.{listed}
use Rattle.pli_store.proofs.StringLemmas.{string_at}
use Rattle.pli_store.proofs.string_descriptions.StringDescriptions.of.Goals as goal

pub bounds-all-at : goal.bounds-all-at
bounds-all-at c =
    omega (
      arith,
      ap length c.of_form-all.ensures.is,
      eqb-true (length (listed c.args.self.now c.args.form)) 32767 c.requires.has,
      c.requires.some,
      c.requires.few,
    )

pub offset_bounds-all-at : goal.offset_bounds-all-at
offset_bounds-all-at c =
    let lt : c.args.length - 1 < length c.of_form-all.result.now =
    omega (
      arith,
      ap length c.of_form-all.ensures.is,
      eqb-true (length (listed c.args.self.now c.args.form)) 32767 c.requires.has,
      c.requires.some,
      c.requires.few,
    )
    in
    search rules

pub returns : goal.returns
returns c =
    let all = c.of_form-all.result.now in
    let long = ap length c.of_form-all.ensures.is ∙ eqb-true (length (listed c.args.self.now c.args.form)) 32767 c.requires.has in
    let at = c.args.length - 1 in
    string_at c.args.form all at c.index-all-at.result c.of_form-all.ensures.strings
    (slice_get_read all (length all) at c.index-all-at.result refl (omega (arith, long, c.requires.some, c.requires.few)) c.index-all-at.is)
    ∙ ap (string_of c.args.form) (omega (arith, c.requires.some))
