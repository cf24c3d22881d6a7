use Rattle.std.proofs.Common.{◌+◌, ◌≤◌, Option, length, rules, sym, subst}
use Rattle.std.specs.Option.{IfSome}
use Rattle.pli_holes.specs.declared.hole.Hole.{Hole}
use Rattle.pli_holes.specs.Steps.{IsLed}
use Rattle.pli_holes.proofs.WordLemmas.{led_is}
use Rattle.pli_holes.proofs.write.lead.Goals as goal

pub returns : goal.returns
returns c =
    let P : Option Hole → Type 0 = λ o. IsLed o c.args.to c.args.region.now c.args.first c.set_word.new.self c.args.first in
    let Q : Option Hole → Type 0 = λ o. IfSome o (λ h. h.start + 8 ≤ length c.args.region.now) in
    subst P (sym c.in-Some.is)
    (led_is c.args.region.now c.set_word.new.self c.in-Some.hole c.args.to c.args.first (subst Q c.in-Some.is c.requires.within) (search rules) c.set_word.ensures)
