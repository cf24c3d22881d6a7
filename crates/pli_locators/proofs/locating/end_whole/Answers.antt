use Rattle.std.proofs.Common.{eq-eqb, ne_eqb}
use Rattle.pli_locators.proofs.locating.end_whole.Goals as goal

pub returns-then-place-eq0-clause-storage : goal.returns-then-place-eq0-clause-storage
returns-then-place-eq0-clause-storage c = rw (eq-eqb c.args.place.position 0 c.if-place-eq0.true) c.end_one.ensures.storage

pub returns-else-place-eq0-clause-storage : goal.returns-else-place-eq0-clause-storage
returns-else-place-eq0-clause-storage c = rw (ne_eqb c.args.place.position 0 c.if-place-eq0.false) c.free_block.ensures.storage
