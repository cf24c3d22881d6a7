-- What changes where a value is put into bytes.
use Rattle.std.specs.Prelude.{◌≡◌, ◌≤◌, ◌<◌, ℕ, Bool, true, false, List, ◌++◌, length, take}
use Rattle.pli_map.specs.Description.{Description, Character, Varying}
use Rattle.pli_map.specs.Sizes.{size_of}
use Rattle.pli_value.specs.Strings.{fitted}
use Rattle.pli_value.specs.Value.{Value, Characters}
use Rattle.pli_bytes.specs.Contents.{value_of, value_in, with_bytes_at}

-- the bytes of a scalar at an offset hold this value now, and no others have changed
pub record IsPut (d : Description) (v : Value) (offset : ℕ) (old new : List ℕ) : Type 0 where
  pub bytes : List ℕ
  pub size : length bytes ≡ size_of d
  pub hold : value_of d bytes ≡ v
  pub put : new ≡ with_bytes_at offset bytes old

-- a value is put, or nothing has changed
abbrev pub PutOrSame : Bool → Description → Value → (offset : ℕ) → (old new : List ℕ) → Type 0
PutOrSame true d v offset old new = IsPut d v offset old new
PutOrSame false d v offset old new = new ≡ old

-- what a string of this description holds of characters that are assigned to it: they are cut on the right, or
-- extended there with blanks
abbrev pub text_fitted : Description → List ℕ → List ℕ
text_fitted (Character n) text = fitted 32 n text
text_fitted (Varying n) text = take n text
text_fitted d text = text

-- characters are put after those of a string of CHARACTER VARYING, and both are no more than so many
pub record IsAppended (greatest offset : ℕ) (more : List ℕ) (room : ℕ) (old new : List ℕ) : Type 0 where
  pub text : List ℕ
  pub was : value_in old (record { offset = offset; description = Varying greatest }) ≡ Characters text
  pub put : IsPut (Varying greatest) (Characters (text ++ more)) offset old new
  pub fits : length (text ++ more) ≤ room

-- the same, or nothing has changed
abbrev pub AppendedOrSame : Bool → (greatest offset : ℕ) → (more : List ℕ) → (room : ℕ) → (old new : List ℕ)
    → Type 0
AppendedOrSame true greatest offset more room old new = IsAppended greatest offset more room old new
AppendedOrSame false greatest offset more room old new = new ≡ old

-- characters and those of a string of CHARACTER VARYING before them are more than it may hold, or than so
-- many
abbrev pub IsTooLong : (greatest offset : ℕ) → (more : List ℕ) → (room : ℕ) → (bytes : List ℕ) → Type 0
IsTooLong greatest offset more room bytes =
    (text : List ℕ) →
    value_in bytes (record { offset = offset; description = Varying greatest }) ≡ Characters text →
    length (text ++ more) ≤ greatest → room < length (text ++ more)
