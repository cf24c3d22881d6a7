use Rattle.std.proofs.Common.{arith, rules}
use Rattle.pli_holes.proofs.WordLemmas.{put_is}
use Rattle.pli_holes.proofs.write.put_hole.Goals as goal

pub returns : goal.returns
returns c = let r = c.ranges in put_is c.args.region.now c.set_word.new.self c.set_word-2.new.self c.args.hole c.args.next c.requires.within (search rules) (omega arith) c.set_word.ensures c.set_word-2.ensures
