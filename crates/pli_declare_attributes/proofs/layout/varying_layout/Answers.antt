use Rattle.std.proofs.Common.{◌+◌, arith}
use Rattle.pli_declare_attributes.proofs.CountLemmas.{as_whole}
use Rattle.pli_declare_attributes.proofs.layout.varying_layout.Goals as goal

pub returns : goal.returns
returns c =
    as_whole c.of.result (2 + c.min.result) (2 + c.args.length) 2 (λ near. omega (arith, near, c.min.ensures)) (λ far. omega (arith, far, c.min.ensures)) c.of.ensures
