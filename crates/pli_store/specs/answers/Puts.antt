-- What changes where values are put into storage of the program.
use Rattle.std.specs.Prelude.{◌≡◌, ◌≤◌, ◌<◌, ℕ, ◌+◌, Bool, true, false, Some, List, [], ◌∷◌, ◌++◌, length}
use Rattle.std.specs.Prelude.{slice_get, slice_set}
use Rattle.pli_bytes.specs.Contents.{values_of, bytes_from, with_bytes_at}
use Rattle.pli_map.specs.Description.{Description, Varying}
use Rattle.pli_value.specs.Value.{Value, Characters}
use Rattle.pli_world.specs.Storage as plain
use Rattle.pli_world.specs.Storage.{values_from, with_values_at}
use Rattle.pli_store.specs.answers.Found.{PartStands}
use Rattle.pli_store.specs.declared.generation.Generation.{Generation}
use Rattle.pli_store.specs.declared.part.GenerationPart.{GenerationPart}
use Rattle.pli_store.specs.views.GenerationView.{generation_view}

-- the bytes of a generation from one on are these; nothing else has changed
pub record BytesPut (old new : Generation) (offset : ℕ) (bytes : List ℕ) : Type 0 where
  pub put : new.bytes.items ≡ with_bytes_at offset bytes old.bytes.items
  pub others : generation_view new ≡ record (generation_view old) {
    values = values_of (generation_view old).description new.bytes.items;
  }

-- so many bytes stand there: in this generation, from one of its bytes on
pub record BytesStand (gs : List Generation) (part : GenerationPart) (size : ℕ) : Type 0 where
  pub generation : Generation
  pub stands : slice_get gs part.at ≡ Some generation
  pub within : part.offset + size ≤ length generation.bytes.items

-- so many bytes that stand somewhere are put elsewhere; nothing else has changed
pub record BytesCopied (old new : List Generation) (from to : GenerationPart) (size : ℕ) : Type 0 where
  pub source : Generation
  pub target : Generation
  pub changed : Generation
  pub read : slice_get old from.at ≡ Some source
  pub written : slice_get old to.at ≡ Some target
  pub put : BytesPut target changed to.offset (bytes_from from.offset size source.bytes.items)
  pub new_is : new ≡ slice_set old to.at changed

-- the scalars of a part of the generation that stands there hold these values; nothing else has changed
pub record ValuesPut (old new : List plain.Generation) (part : GenerationPart) (d : Description)
    (vs : List Value) : Type 0 where
  pub there : PartStands old part d
  pub changed : new ≡ slice_set old part.at (record there.generation {
    values = with_values_at there.scalar vs there.generation.values;
  })

-- the same, or nothing has changed
abbrev pub ValuesPutOrSame : Bool → (old new : List plain.Generation) → GenerationPart → Description
    → List Value → Type 0
ValuesPutOrSame true old new part d vs = ValuesPut old new part d vs
ValuesPutOrSame false old new part d vs = new ≡ old

-- characters are put after those of a string of CHARACTER VARYING that stands there, and both are no more
-- than it may hold and than so many
pub record IsLengthened (old new : List plain.Generation) (part : GenerationPart) (greatest : ℕ)
    (more : List ℕ) (room : ℕ) : Type 0 where
  pub text : List ℕ
  pub puts : ValuesPut old new part (Varying greatest) (Characters (text ++ more) ∷ [])
  pub was : (there : PartStands old part (Varying greatest)) →
      values_from there.scalar 1 there.generation.values ≡ Characters text ∷ []
  pub short : length (text ++ more) ≤ greatest
  pub fits : length (text ++ more) ≤ room

-- the same, or nothing has changed
abbrev pub LengthenedOrSame : Bool → (old new : List plain.Generation) → GenerationPart → (greatest : ℕ)
    → (more : List ℕ) → (room : ℕ) → Type 0
LengthenedOrSame true old new part greatest more room = IsLengthened old new part greatest more room
LengthenedOrSame false old new part greatest more room = new ≡ old

-- characters and those of a string of CHARACTER VARYING that stands there are more than it may hold, or than
-- so many
abbrev pub IsTooLong : List plain.Generation → GenerationPart → (greatest : ℕ) → (more : List ℕ) → (room : ℕ)
    → Type 0
IsTooLong gs part greatest more room =
    (there : PartStands gs part (Varying greatest)) (text : List ℕ) →
    values_from there.scalar 1 there.generation.values ≡ Characters text ∷ [] →
    length (text ++ more) ≤ greatest → room < length (text ++ more)
