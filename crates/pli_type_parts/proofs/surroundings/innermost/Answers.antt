use Rattle.pli_type_parts.proofs.SearchLemmas.{number_ends}
use Rattle.pli_type_parts.proofs.surroundings.innermost.Goals as goal

pub returns : goal.returns
returns c = number_ends c.loop-list.number c.args.lists.now c.loop-list.list-index c.loop-list-test.false c.loop-list.invariant
