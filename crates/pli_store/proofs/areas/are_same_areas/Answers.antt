use Rattle.std.proofs.Common.{refl}
use Rattle.pli_store.proofs.areas.are_same_areas.Goals as goal

pub returns-then-have_same_size : goal.returns-then-have_same_size
returns-then-have_same_size c = (λ e. c.if-have_same_size.ensures refl, λ e. refl)
