use Rattle.std.proofs.Common.{refl}
use Rattle.pli_map.proofs.description.Description.is_same.Goals as goal

pub returns-then-are_same_arrays : goal.returns-then-are_same_arrays
returns-then-are_same_arrays c = (λ e. c.if-are_same_arrays.ensures refl, λ e. refl)
