use Rattle.std.proofs.Common.{◌≡◌, ℕ, Bool, List, length, Some, None, option_map, SFits, w64, rules, sym, ap, ◌∙◌}
use Rattle.std.proofs.lemmas.Int.{to_z-of_z}
use Rattle.pli_value.specs.Short.{short_view}
use Rattle.pli_value.specs.Strings.{piece, part_of}
use Rattle.pli_value.proofs.ShortLemmas.{counted}
use Rattle.pli_value.proofs.short.substr.Goals as goal

pub returns-in-Some : goal.returns-in-Some
returns-in-Some c =
    let first = c.args.first in
    let count = c.args.count in
    let s : List Bool = short_view c.args.bits in
    let first_fits : SFits w64 first = search rules in
    let count_fits : SFits w64 count = search rules in
    let is = rw (to_z-of_z w64 first first_fits, to_z-of_z w64 count count_fits) at c.in-Some.ensures.part in
    let found : part_of (length s) first count ≡ Some c.in-Some.found =
    ap (λ (n : ℕ). part_of n first count) (counted c.args.bits.count c.args.bits.number) ∙ sym is in
    ap (option_map (piece s)) found ∙ ap Some (sym c.part.ensures)

pub returns-in-None : goal.returns-in-None
returns-in-None c =
    let first = c.args.first in
    let count = c.args.count in
    let s : List Bool = short_view c.args.bits in
    let first_fits : SFits w64 first = search rules in
    let count_fits : SFits w64 count = search rules in
    let is = rw (to_z-of_z w64 first first_fits, to_z-of_z w64 count count_fits) at c.in-None.ensures.part in
    let found : part_of (length s) first count ≡ None =
    ap (λ (n : ℕ). part_of n first count) (counted c.args.bits.count c.args.bits.number) ∙ sym is in
    ap (option_map (piece s)) found
