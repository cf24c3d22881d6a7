use Rattle.std.proofs.Common.{ℕ, Some, None, ◌<◌, length, arith, Option}
use Rattle.std.proofs.lemmas.Bool.{eqb-false}
use Rattle.pli_value.proofs.PlaceLemmas.{index_is}
use Rattle.pli_value.proofs.character.index.Goals as goal

pub returns-in-Some : goal.returns-in-Some
returns-in-Some c =
    let some : 0 < length c.args.sought.now = grind (arith, eqb-false) in
    index_is c.args.characters.now c.args.sought.now (Some c.in-Some.place) some c.in-Some.ensures

pub returns-in-None : goal.returns-in-None
returns-in-None c =
    let some : 0 < length c.args.sought.now = grind (arith, eqb-false) in
    let nothing : Option ℕ = None in
    index_is c.args.characters.now c.args.sought.now nothing some c.in-None.ensures
