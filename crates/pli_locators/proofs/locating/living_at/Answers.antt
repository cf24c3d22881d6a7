use Rattle.std.proofs.Common.{sym, ap}
use Rattle.pli_locators.proofs.locating.living_at.Goals as goal
use Rattle.pli_world.specs.World.{unless_dead}

pub returns-in-Some : goal.returns-in-Some
returns-in-Some c = λ w. ap (λ o. unless_dead o w) (sym c.in-Some.ensures)

pub returns-in-None : goal.returns-in-None
returns-in-None c = λ w. ap (λ o. unless_dead o w) (sym c.in-None.ensures)
