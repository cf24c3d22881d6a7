use Rattle.std.proofs.Common.{◌≡◌, subst}
use Rattle.pli_map.specs.Description.{FixedBinary}
use Rattle.pli_map.specs.views.DescriptionView.{description_view}
use Rattle.pli_store.proofs.storage.Storage.usual_row.Goals as goal

pub returns : goal.returns
returns c = record {
  leads = c.in_ok-part.ensures;
  precision = subst (λ n. description_view c.args.place.description.now ≡ FixedBinary n) c.if-precision-ne-USUAL_DIGITS.false c.in_ok-precision.ensures;
}
