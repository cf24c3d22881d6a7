use Rattle.pli_bytes.proofs.PutFront.{put_or_same_after}
use Rattle.pli_map.specs.Description.{Pointer}
use Rattle.pli_value.specs.Value.{Located}
use Rattle.pli_store.proofs.pointers.put_pointer_at.Goals as goal

pub returns-clause-put : goal.returns-clause-put
returns-clause-put c =
    put_or_same_after c.put_first_pointer.result Pointer (Located c.args.locator) c.args.offset c.args.bytes.now c.put_first_pointer.new.bytes
    c.put_first_pointer.ensures.put
