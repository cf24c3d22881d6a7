use Rattle.std.proofs.Common.{refl, arith}
use Rattle.pli_declare_found.proofs.PutBackLemmas.{put_back}
use Rattle.pli_declare_found.proofs.references.remember.Goals as goal

pub returns : goal.returns
returns c =
    put_back c.args.tables.now.items c.in-Some.block c.in-Some-get_mut.table.now c.remember_in.new.table (omega (arith, c.in-Some-get_mut.ensures.variant.0 refl)) c.in-Some-get_mut.ensures.value
    c.remember_in.ensures
