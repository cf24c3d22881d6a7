use Rattle.std.proofs.Common.{Err}
use Rattle.pli_bench.proofs.DevicesServed.{serves}
use Rattle.pli_bench.proofs.serving.serve.Goals as goal

pub returns-clause-broke : goal.returns-clause-broke
returns-clause-broke g c = λ _.
    (c.in-Err.field-0, serves _ _ c.new.result c.serve.new.self _ (Err c.in-Err.field-0) c.new.ensures c.in-Err.ensures.served c.in-Err.ensures.few c.in-Err.ensures.blamed)
