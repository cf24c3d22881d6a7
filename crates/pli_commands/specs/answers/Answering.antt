-- Texts of several parts.
use Rattle.std.specs.Prelude.{ℕ, List, [], ◌∷◌, ◌++◌, Option, Result, Ok, Err}
use Rattle.std.specs.Io.KnownBytes.{Appends}
use Rattle.pli_base.specs.Devices.{AppendsPrefix}

-- the parts, one after another
abbrev pub joined : List (List ℕ) → List ℕ
joined [] = []
joined (p ∷ ps) = p ++ joined ps

-- all of the text was written; or, where the writer failed, some first bytes of it
abbrev pub Writes : {A E : Type 0} → (old new : Option (List ℕ)) → List ℕ → Result A E → Type 0
Writes old new text (Ok x) = Appends old new text
Writes old new text (Err e) = AppendsPrefix old new text
