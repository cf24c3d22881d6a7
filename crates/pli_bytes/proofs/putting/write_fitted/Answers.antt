use Rattle.pli_bytes.proofs.FittedTexts.{fitted_put}
use Rattle.pli_bytes.proofs.putting.write_fitted.Goals as goal

pub returns : goal.returns
returns c =
    fitted_put c.args.size c.args.text.now c.fit_varying-front.result.now c.args.bytes.now c.write_front.new.bytes c.fill.new.bytes c.requires
    c.fit_varying-front.ensures c.write_front.ensures c.fill.ensures
