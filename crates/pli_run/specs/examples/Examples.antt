-- Worked examples: printing at the end of a line.
use Rattle.std.specs.Prelude.{◌≡◌, [], ◌∷◌, ◌++◌, codes, replicate}
use Rattle.pli_run.specs.Print.{print}

-- an item that ends in column 119: the blank stands in column 120, and no line end
abbrev pub EndsBefore : Type 0
EndsBefore = print 97 (replicate 23 65) ≡ record { bytes = replicate 23 65 ++ 32 ∷ []; column = 121 }

-- an item that ends in column 120: a line end
abbrev pub EndsFull : Type 0
EndsFull = print 97 (replicate 24 65) ≡ record { bytes = replicate 24 65 ++ 10 ∷ []; column = 1 }

-- an item that does not fit its line begins the next one
abbrev pub DoesNotFit : Type 0
DoesNotFit = print 97 (replicate 25 65) ≡ record { bytes = 10 ∷ replicate 25 65 ++ 32 ∷ []; column = 27 }

-- an item is placed at the next tab stop
abbrev pub AtTabStop : Type 0
AtTabStop = print 16 (codes "7") ≡ record { bytes = replicate 9 32 ++ codes "7 "; column = 27 }
