use Rattle.std.proofs.Common.{subst, take, ap, ◌∙◌}
use Rattle.pli_map.specs.Description.{Varying}
use Rattle.pli_value.specs.Value.{Characters}
use Rattle.pli_bytes.specs.Changes.{IsPut}
use Rattle.pli_bytes.proofs.FittedTexts.{varying_held}
use Rattle.pli_bytes.proofs.putting.put_varying.Goals as goal

pub returns-clause-put : goal.returns-clause-put
returns-clause-put c =
    subst (λ text. IsPut (Varying c.args.greatest) (Characters text) 0 c.args.bytes.now c.write_text.new.bytes)
    (c.fit_varying.ensures ∙ ap (λ n. take n c.args.text.now) c.from-size.ensures) c.write_text.ensures

pub returns-clause-held : goal.returns-clause-held
returns-clause-held c = λ e. varying_held c.args.greatest c.args.text.now
