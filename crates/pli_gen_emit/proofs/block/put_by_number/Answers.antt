use Rattle.std.proofs.Common.{refl, arith}
use Rattle.pli_gen_emit.proofs.BlockLemmas.{put_after}
use Rattle.pli_gen_emit.proofs.block.put_by_number.Goals as goal

pub returns : goal.returns
returns c =
    put_after c.args.lists.now.items c.args.block.head.now.number c.in-Some.list.now c.push.new.self c.args.block (omega (arith, c.in-Some.ensures.variant.0 refl)) c.in-Some.ensures.value c.in_ok-push.ensures.items
