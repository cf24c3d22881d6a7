-- What holds of each thing of a list, whose places are counted.
use Rattle.std.proofs.Common.{ℕ, suc, ◌<◌, List, [], ◌∷◌}
use Rattle.std.specs.Prelude.{slice_index}
use Rattle.std.specs.List.{AllByRecursion}
use Rattle.pli_deck_laws.specs.UnitTypes.{IsByte}

pub each_byte : (text : List ℕ) → ((place : ℕ) → slice_index text place < 256) → AllByRecursion IsByte text
each_byte [] h = tt
each_byte (c ∷ cs) h = (h 0, each_byte cs (λ i. h (suc i)))
