use Rattle.std.proofs.Common.{min, ap, ◌∙◌}
use Rattle.pli_deck_write.specs.ModuleSpelling.{description_bytes}
use Rattle.pli_deck_faults.proofs.extent.cut_size.Goals as goal

pub returns-in-Some : goal.returns-in-Some
returns-in-Some c = c.far_size.ensures ∙ ap (λ o. min (description_bytes o) 4294967296) c.in-Some.ensures

pub returns-in-None : goal.returns-in-None
returns-in-None c = ap (λ o. min (description_bytes o) 4294967296) c.in-None.ensures
