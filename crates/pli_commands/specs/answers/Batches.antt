-- Bytes on their way to a writer.
use Rattle.std.specs.Prelude.{◌≡◌, ℕ, List, ◌++◌, Option, Result, Ok, Err}
use Rattle.std.specs.Io.KnownBytes.{Appends}
use Rattle.pli_base.specs.Devices.{AppendsPrefix}

-- how many bytes may wait
abbrev pub batch_limit : ℕ
batch_limit = 4096

-- some first bytes of these were written, and the others are left
pub record HasPut (old new : Option (List ℕ)) (whole left : List ℕ) : Type 0 where
  pub text : List ℕ
  pub written : Appends old new text
  pub whole_is : text ++ left ≡ whole

-- what is left waits; or the writer failed after some first bytes
abbrev pub Passes : {A E : Type 0} → (old new : Option (List ℕ)) → (whole left : List ℕ) → Result A E → Type 0
Passes old new whole left (Ok x) = HasPut old new whole left
Passes old new whole left (Err e) = AppendsPrefix old new whole
