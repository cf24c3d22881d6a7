use Rattle.pli_map.proofs.StoredNumbers.{extended}
use Rattle.pli_bytes.proofs.stored.store_extended.Goals as goal

pub returns : goal.returns
returns c =
    extended c.args.text.now c.args.bytes.now c.copy_from_slice.new.self c.fill.new.self c.requires c.copy_from_slice.ensures.after (c.fill.ensures.after (λ y e. e))
