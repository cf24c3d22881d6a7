use Rattle.std.proofs.Common.{None, ap, sym, ◌∙◌, replicate, arith}
use Rattle.std.specs.Prelude.{vec_len}
use Rattle.std.proofs.lemmas.Bool.{eqb-true}
use Rattle.std.proofs.lemmas.List.{nil_from_length}
use Rattle.pli_machine_activations.proofs.entering.unset.Goals as goal

pub returns-then-is_empty : goal.returns-then-is_empty
returns-then-is_empty c =
    let temporaries = c.args.temporaries.now in
    nil_from_length temporaries.items (omega (arith, temporaries.ok.0, eqb-true (vec_len temporaries) 0 (sym c.is_empty.ensures ∙ c.if-is_empty.true)))
    ∙ ap (λ n. replicate n None) (sym c.if-count-eq0.true)
