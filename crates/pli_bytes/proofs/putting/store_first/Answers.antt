use Rattle.std.proofs.Common.{◌++◌, drop, ap, ◌∙◌}
use Rattle.pli_map.specs.StoredValues.{stored_bytes}
use Rattle.pli_map.specs.views.DescriptionView.{description_view}
use Rattle.pli_value.specs.Value.{value_view}
use Rattle.pli_bytes.proofs.WrittenValues.{stored_put}
use Rattle.pli_bytes.proofs.putting.store_first.Goals as goal

pub returns : goal.returns
returns c =
    let d = description_view c.args.description.now in
    let v = value_view c.args.value.now in
    let old = c.args.bytes.now in
    stored_put d v old _ c.requires.storable c.requires.held
    (ap (λ l. l ++ drop c.args.size old) c.store_value.ensures ∙ ap (λ n. stored_bytes d v ++ drop n old) c.requires.size)
