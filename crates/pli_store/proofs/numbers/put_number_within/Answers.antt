use Rattle.std.proofs.Common.{ℤ, subst}
use Rattle.std.specs.Int.{w64}
use Rattle.std.proofs.lemmas.Int.{to_z-of_z}
use Rattle.pli_bytes.specs.Changes.{IsPut}
use Rattle.pli_bytes.proofs.PutFront.{rest_from, put_after}
use Rattle.pli_map.specs.Description.{FixedBinary}
use Rattle.pli_value.specs.Value.{Number}
use Rattle.pli_store.proofs.numbers.put_number_within.Goals as goal

pub returns : goal.returns
returns c =
    put_after (FixedBinary c.args.precision) (Number c.args.number) c.args.offset c.args.bytes.now c.put_known_number.new.bytes
    (subst (λ (x : ℤ). IsPut (FixedBinary c.args.precision) (Number x) 0 (rest_from c.args.offset c.args.bytes.now) c.put_known_number.new.bytes)
    (to_z-of_z w64 c.args.number c.ranges.number) c.put_known_number.ensures)
