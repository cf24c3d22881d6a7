-- The last of the values that were read so far.
use Rattle.std.specs.Prelude.{List, [], ◌∷◌, Option, Some, None}

-- the last of these, if there is one
abbrev pub last_of : {X : Type 0} → List X → Option X
last_of [] = None
last_of (x ∷ []) = Some x
last_of (x ∷ y ∷ ys) = last_of (y ∷ ys)
