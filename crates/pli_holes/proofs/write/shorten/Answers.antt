use Rattle.std.proofs.Common.{arith}
use Rattle.pli_holes.proofs.TakeLemmas.{shortened_part}
use Rattle.pli_holes.proofs.write.shorten.Goals as goal

pub returns : goal.returns
returns c =
    shortened_part c.args.region.now c.put_hole.new.region c.args.start c.args.room _ _
    (omega (arith, c.word.ensures, c.requires.fits)) (omega (arith, c.word.ensures, c.requires.whole, c.requires.aligned, c.if-left-eq0.false)) c.word-next.ensures c.put_hole.ensures
