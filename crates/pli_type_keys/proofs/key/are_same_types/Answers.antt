use Rattle.std.proofs.lemmas.Bool.Decides.{same_from_decides}
use Rattle.pli_map.specs.ParameterTypes.{same_type}
use Rattle.pli_map.specs.laws.ParameterLaws.{same_type_decides}
use Rattle.pli_map.specs.views.ParameterView.{type_seen}
use Rattle.pli_type_keys.proofs.key.are_same_types.Goals as goal

pub returns : goal.returns
returns c =
    let left = type_seen c.args.left in
    let right = type_seen c.args.right in
    same_from_decides c.equals.result (same_type left right) c.equals.ensures (same_type_decides left right)
