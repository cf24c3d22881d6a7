use Rattle.std.proofs.Common.{◌∙◌, ap}
use Rattle.pli_link.specs.answers.Counting.{counted}
use Rattle.pli_link.proofs.ByteCountLemmas.{shown, shown_values}
use Rattle.pli_link.proofs.sizes.with_externals.Goals as goal

pub loop-external-init : goal.loop-external-init
loop-external-init c = (
  tt,
  tt,
  c.requires,
  ap (λ ts. counted c.args.bytes (shown ts)) (c.into_iter-external-iterator.ensures.into_iter_gives ∙ c.values-external-items.ensures.rest)
      ∙ ap (counted c.args.bytes) (shown_values c.args.externals.now.entries),
)
