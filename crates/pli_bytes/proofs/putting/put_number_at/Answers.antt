use Rattle.std.proofs.Common.{ℤ, subst}
use Rattle.std.specs.Int.{w64}
use Rattle.std.proofs.lemmas.Int.{to_z-of_z}
use Rattle.pli_bytes.specs.Changes.{PutOrSame}
use Rattle.pli_map.specs.Description.{FixedBinary}
use Rattle.pli_value.specs.Value.{Number}
use Rattle.pli_bytes.proofs.PutFront.{rest_from, put_or_same_after}
use Rattle.pli_bytes.proofs.putting.put_number_at.Goals as goal

pub returns-clause-put : goal.returns-clause-put
returns-clause-put c =
    put_or_same_after c.put_first_number.result (FixedBinary c.args.precision) (Number c.args.number) c.args.offset c.args.bytes.now c.put_first_number.new.bytes
    (subst (λ (x : ℤ). PutOrSame c.put_first_number.result (FixedBinary c.args.precision) (Number x) 0 (rest_from c.args.offset c.args.bytes.now) c.put_first_number.new.bytes)
    (to_z-of_z w64 c.args.number c.ranges.number) c.put_first_number.ensures.put)
