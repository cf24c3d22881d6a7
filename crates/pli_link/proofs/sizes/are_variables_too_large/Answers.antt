use Rattle.std.proofs.Common.{◌≡◌, ◌∙◌, ap, Bool, true, false, not, refl, is_none, is_some}
use Rattle.pli_link.specs.ModuleSize.{variables_made}
use Rattle.pli_link.specs.answers.Tables.{units_in}
use Rattle.pli_link.proofs.ByteCountLemmas.{too_large}
use Rattle.pli_link.proofs.sizes.are_variables_too_large.Goals as goal

turned : (a b : Bool) → a ≡ not b → b ≡ not a
turned true true e = e
turned true false e = refl
turned false true e = refl
turned false false e = e

pub returns : goal.returns
returns c = turned (is_some c.bytes_made.result) c.is_none.result c.is_none.ensures ∙ ap is_none c.bytes_made.ensures ∙ too_large (variables_made (units_in c.args.names.now))
