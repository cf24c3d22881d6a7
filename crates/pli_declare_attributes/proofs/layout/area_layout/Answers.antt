use Rattle.std.proofs.Common.{arith}
use Rattle.std.specs.Int.{next_multiple_of}
use Rattle.pli_declare_attributes.proofs.CountLemmas.{as_whole}
use Rattle.pli_declare_attributes.proofs.layout.area_layout.Goals as goal

pub returns : goal.returns
returns c =
    as_whole c.of.result c.next_multiple_of.result (next_multiple_of c.args.size 8) 8
    (λ near. omega (arith, near, c.min.ensures, c.next_multiple_of.ensures.value)) (λ far. omega (arith, far, c.min.ensures, c.next_multiple_of.ensures.value)) c.of.ensures
