use Rattle.std.proofs.Common.{◌≡◌, pos, take, Some, sym, ap}
use Rattle.std.specs.Option.{unwrap_or}
use Rattle.std.proofs.lemmas.Result.{IfOk-weaker}
use Rattle.pli_map.specs.StoredValues.{loaded_value}
use Rattle.pli_map.specs.views.DescriptionView.{description_view}
use Rattle.pli_value.specs.Value.{value_view, Number}
use Rattle.pli_bytes.specs.Contents.{value_of}
use Rattle.pli_bytes.proofs.reading.load_first.Goals as goal

pub returns : goal.returns
returns c =
    let d = description_view c.args.description.now in
    let front = take c.args.size c.args.bytes.now in
    IfOk-weaker c.load_value.result (λ v. loaded_value d front ≡ Some (value_view v)) (λ v. value_view v ≡ value_of d front)
    (λ v e. ap (λ o. unwrap_or o (Number (pos 0))) (sym e)) c.load_value.ensures
