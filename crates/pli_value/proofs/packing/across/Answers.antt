use Rattle.pli_value.proofs.ByteLemmas.{across_front, across_back}
use Rattle.pli_value.proofs.packing.across.Goals as goal

pub returns-clause-front : goal.returns-clause-front
returns-clause-front c = λ i below within. across_front c.args.first c.args.second c.args.shift i c.ranges.second.fits c.requires below within

pub returns-clause-back : goal.returns-clause-back
returns-clause-back c = λ i below over. across_back c.args.first c.args.second c.args.shift i c.requires below over
