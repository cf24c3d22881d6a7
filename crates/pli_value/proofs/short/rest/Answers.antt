use Rattle.std.proofs.Common.{◌≡◌, ℕ, Bool, List, length, Some, None, option_map, SFits, w64, rules, sym, ap, ◌∙◌}
use Rattle.std.proofs.lemmas.Int.{to_z-of_z}
use Rattle.pli_value.specs.Short.{short_view}
use Rattle.pli_value.specs.Strings.{piece, rest_of}
use Rattle.pli_value.proofs.ShortLemmas.{counted}
use Rattle.pli_value.proofs.short.rest.Goals as goal

pub returns-in-Some : goal.returns-in-Some
returns-in-Some c =
    let first = c.args.first in
    let s : List Bool = short_view c.args.bits in
    let first_fits : SFits w64 first = search rules in
    let is = rw (to_z-of_z w64 first first_fits) at c.in-Some.ensures.part in
    let found : rest_of (length s) first ≡ Some c.in-Some.found =
    ap (λ (n : ℕ). rest_of n first) (counted c.args.bits.count c.args.bits.number) ∙ sym is in
    ap (option_map (piece s)) found ∙ ap Some (sym c.part.ensures)

pub returns-in-None : goal.returns-in-None
returns-in-None c =
    let first = c.args.first in
    let s : List Bool = short_view c.args.bits in
    let first_fits : SFits w64 first = search rules in
    let is = rw (to_z-of_z w64 first first_fits) at c.in-None.ensures.part in
    let found : rest_of (length s) first ≡ None =
    ap (λ (n : ℕ). rest_of n first) (counted c.args.bits.count c.args.bits.number) ∙ sym is in
    ap (option_map (piece s)) found
