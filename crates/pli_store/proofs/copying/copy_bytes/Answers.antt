use Rattle.std.proofs.Common.{get_or, ap}
use Rattle.pli_store.proofs.CopiedBytes.{all_copied}
use Rattle.pli_store.proofs.copying.copy_bytes.Goals as goal

pub returns-then-from-to : goal.returns-then-from-to
returns-then-from-to c =
    let gs = c.args.generations.now in
    all_copied gs c.args.from c.args.to c.args.size c.requires.to c.if-from-to.true (get_or gs c.args.to.at c.index-generations-to.result)
    c.copy_within.new.generation (ap (get_or gs c.args.to.at) c.index-generations-to.is) c.copy_within.ensures
