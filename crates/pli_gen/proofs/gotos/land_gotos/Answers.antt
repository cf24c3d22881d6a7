use Rattle.std.proofs.Common.{ap, ◌∙◌}
use Rattle.pli_gen.specs.answers.Pieces.{first_step}
use Rattle.pli_gen.proofs.CodeEmitted.{landed_alike}
use Rattle.pli_gen.proofs.gotos.land_gotos.Goals as goal

pub returns : goal.returns
returns c =
    c.land_each.ensures
    ∙ landed_alike _ _ (λ n. c.in_ok-places.ensures n ∙ ap (λ is. first_step is 0 n 0) c.as_slice.ensures.value) c.args.code.now.items c.args.gotos.now
