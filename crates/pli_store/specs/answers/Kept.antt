-- What storage of the program keeps.
use Rattle.std.specs.Prelude.{ℕ, suc, nat_le, Bool, ◌&&◌, List, [], ◌∷◌}
use Rattle.pli_world.specs.Storage.{Generation}

-- numbers of generations rise from this one on, and are below that one
abbrev pub rise : (from : ℕ) → List Generation → (to : ℕ) → Bool
rise from [] to = nat_le from to
rise from (g ∷ gs) to = nat_le from g.number && rise (suc g.number) gs to
