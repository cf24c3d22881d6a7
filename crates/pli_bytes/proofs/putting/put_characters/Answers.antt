use Rattle.std.proofs.Common.{subst}
use Rattle.pli_map.specs.Description.{Character}
use Rattle.pli_value.specs.Strings.{fitted}
use Rattle.pli_value.specs.Value.{Characters}
use Rattle.pli_bytes.specs.Changes.{IsPut}
use Rattle.pli_bytes.proofs.FittedTexts.{fixed_held}
use Rattle.pli_bytes.proofs.putting.put_characters.Goals as goal

pub returns-clause-put : goal.returns-clause-put
returns-clause-put c =
    subst (λ n. IsPut (Character n) (Characters (fitted 32 n c.args.text.now)) 0 c.args.bytes.now c.write_fitted.new.bytes) c.from-size.ensures
    c.write_fitted.ensures

pub returns-clause-held : goal.returns-clause-held
returns-clause-held c = λ e. fixed_held c.args.count c.args.text.now
