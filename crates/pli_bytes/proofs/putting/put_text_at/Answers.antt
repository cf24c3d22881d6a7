use Rattle.pli_map.specs.views.DescriptionView.{description_view}
use Rattle.pli_value.specs.Value.{Characters}
use Rattle.pli_bytes.specs.Changes.{text_fitted}
use Rattle.pli_bytes.proofs.PutFront.{put_or_same_after}
use Rattle.pli_bytes.proofs.putting.put_text_at.Goals as goal

pub returns-clause-put : goal.returns-clause-put
returns-clause-put c =
    let d = description_view c.args.description.now in
    put_or_same_after c.put_first_text.result d (Characters (text_fitted d c.args.text.now)) c.args.offset c.args.bytes.now c.put_first_text.new.bytes
    c.put_first_text.ensures.put
