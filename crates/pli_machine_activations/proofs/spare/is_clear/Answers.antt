use Rattle.std.proofs.Common.{sym, ◌∙◌, arith}
use Rattle.std.specs.Prelude.{vec_len}
use Rattle.std.proofs.lemmas.Bool.{eqb-true}
use Rattle.std.proofs.lemmas.List.{nil_from_length}
use Rattle.pli_machine_activations.proofs.spare.is_clear.Goals as goal

pub returns-clause-none : goal.returns-clause-none
returns-clause-none c = λ _.
    let temporaries = c.args.room.now.temporaries in
    nil_from_length temporaries.items (omega (arith, temporaries.ok.0, eqb-true (vec_len temporaries) 0 (sym c.is_empty.ensures ∙ c.if-not-is_empty.false)))
