use Rattle.std.proofs.Common.{sym, ◌∙◌}
use Rattle.pli_store.proofs.SpareLemmas.{front_is}
use Rattle.pli_store.proofs.spare.put_all.Goals as goal

pub returns-then-own-eq4 : goal.returns-then-own-eq4
returns-then-own-eq4 c = c.put_four.ensures ∙ front_is 4 c.args.bytes.now c.args.own.now (sym c.requires ∙ c.if-own-eq4.true) c.requires

pub returns-then-own-eq8 : goal.returns-then-own-eq8
returns-then-own-eq8 c = c.put_eight.ensures ∙ front_is 8 c.args.bytes.now c.args.own.now (sym c.requires ∙ c.if-own-eq8.true) c.requires
