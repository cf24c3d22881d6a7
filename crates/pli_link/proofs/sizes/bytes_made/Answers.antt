use Rattle.std.proofs.Common.{◌∙◌, ap, sym}
use Rattle.std.specs.List.{flat_map}
use Rattle.std.specs.Map.{values_of}
use Rattle.pli_link.specs.ModuleSize.{all_own, shared_in}
use Rattle.pli_link.specs.Names.{externals}
use Rattle.pli_link.specs.answers.Counting.{counted, if_counted}
use Rattle.pli_link.specs.answers.Tables.{units_in}
use Rattle.pli_link.proofs.ByteCountLemmas.{counted_after}
use Rattle.pli_link.proofs.sizes.bytes_made.Goals as goal

pub returns-in_err-with_all_own : goal.returns-in_err-with_all_own
returns-in_err-with_all_own c =
    let cs = units_in c.args.names.now in
    let shared = flat_map shared_in (values_of (externals cs)) in
    c.from_residual.ensures
    ∙ ap (λ o. if_counted o (λ more. counted more shared)) (sym c.in_err-with_all_own.was ∙ c.with_all_own.ensures.counts)
    ∙ sym (counted_after 0 (all_own cs) shared)

pub returns : goal.returns
returns c =
    let cs = units_in c.args.names.now in
    let shared = flat_map shared_in (values_of (externals cs)) in
    c.with_externals.ensures.counts
    ∙ ap (λ es. counted c.in_ok-with_all_own.field-0 (flat_map shared_in (values_of es))) c.requires.1
    ∙ ap (λ o. if_counted o (λ more. counted more shared)) (sym c.in_ok-with_all_own.was ∙ c.with_all_own.ensures.counts)
    ∙ sym (counted_after 0 (all_own cs) shared)
