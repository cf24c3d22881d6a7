use Rattle.pli_commands.proofs.BytesWaiting.{passed_by}
use Rattle.pli_commands.proofs.batch.Batch.add.Goals as goal

pub returns-then-bytes-gt-BATCH_LIMIT-clause-passed : goal.returns-then-bytes-gt-BATCH_LIMIT-clause-passed
returns-then-bytes-gt-BATCH_LIMIT-clause-passed g c = passed_by _ _ _ c.args.self.now c.args.bytes.now _ _ c.in_ok-put.ensures.written c.put_all.ensures.written c.in_ok-put.ensures.none_left
