use Rattle.std.proofs.Common.{subst}
use Rattle.pli_bytes.specs.Changes.{IsPut}
use Rattle.pli_map.specs.Description.{Pointer}
use Rattle.pli_value.specs.Value.{Located}
use Rattle.pli_store.proofs.pointers.put_first_pointer.Goals as goal

pub returns-clause-put : goal.returns-clause-put
returns-clause-put c =
    subst (λ l. IsPut Pointer (Located l) 0 c.args.bytes.now c.put_numbers.new.bytes) c.in-Some.ensures.numbers c.put_numbers.ensures
