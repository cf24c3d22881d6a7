use Rattle.std.proofs.Common.{map, refl, arith}
use Rattle.std.proofs.lemmas.Result.{on_ok_weaker}
use Rattle.pli_declare_faults.proofs.ParametersGathered.{put_after}
use Rattle.pli_declare_faults.proofs.parameters.append_at.Goals as goal

pub returns : goal.returns
returns c =
    on_ok_weaker c.append_names.result
    (λ e. put_after c.args.all.now.items c.args.region c.in-Some.names.now c.append_names.new.names (map (λ i. i.name) c.args.parameters.now) (omega (arith, c.in-Some.ensures.variant.0 refl)) c.in-Some.ensures.value e)
    c.append_names.ensures
