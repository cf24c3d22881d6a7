-- What storage of the program says.
use Rattle.std.specs.Prelude.{◌≡◌, ◌≤◌, ◌<◌, ℕ, ℤ, ◌+◌, Bool, true, false, List, ◌++◌, length, map}
use Rattle.pli_run.specs.declared.ending.RunError.TheVariants.{StorageLimit}
use Rattle.pli_map.specs.Description.{Description, FixedBinary, Varying}
use Rattle.pli_map.specs.Sizes.{size_of}
use Rattle.pli_map.specs.Values.{holds}
use Rattle.pli_map.specs.Variables.{byte_limit}
use Rattle.pli_map.specs.views.DescriptionView.{description_view}
use Rattle.pli_world.specs.Targets as target
use Rattle.pli_world.specs.World.{World, Yields, Raises, held, stored, made_of}
use Rattle.pli_world.specs.Storage as plain
use Rattle.pli_world.specs.Storage.{live_bytes, generation_limit}
use Rattle.pli_store.specs.answers.Found.{LeadsTo, LeadsToNone}
use Rattle.pli_store.specs.views.GenerationView.{generation_view, made_view}
use Rattle.pli_value.specs.Value.{Value, Number, Characters}
use Rattle.pli_store.specs.declared.living.Target.{Target}
use Rattle.pli_store.specs.declared.part.GenerationPart.{GenerationPart}
use Rattle.pli_store.specs.declared.place.Place.{Place}
use Rattle.pli_store.specs.declared.storage.Storage.{Storage}

-- a place
abbrev pub place_view : Place → plain.Place
place_view p =
    record {
      generation = p.generation;
      position = p.position;
      whole = description_view p.whole.now;
      offset = p.offset;
      description = description_view p.description.now;
    }

-- what lives at a position of a generation: the place of the whole of it, and how it was made
abbrev pub target_view : Target → target.Target
target_view t = record { place = place_view t.place; made = made_view t.made }

-- the generations that live, in the order in which they were made
abbrev pub storage_view : Storage → List plain.Generation
storage_view s = map generation_view s.generations.items

-- the number that the next generation gets
abbrev pub made_count : Storage → ℕ
made_count s = s.made

-- the world with this storage
abbrev pub with_storage : Storage → World → World
with_storage s w = record w { storage = storage_view s; made = made_count s }

-- nothing has changed
pub record SameStorage (old new : Storage) : Type 0 where
  pub storage : storage_view new ≡ storage_view old
  pub made : made_count new ≡ made_count old

-- a value is put at a place, or nothing has changed
abbrev pub ValuePut : Bool → (old new : Storage) → plain.Place → Value → Type 0
ValuePut true old new p v = (w : World) → stored p v (with_storage old w) ≡ Yields tt (with_storage new w)
ValuePut false old new p v = SameStorage old new

-- a value may not be put at a place outside areas: its description does not hold it, or it leads to no part
abbrev pub CannotPut : Storage → plain.Place → Value → Type 0
CannotPut s p v = holds p.description v ≡ true → LeadsToNone (storage_view s) p

-- the same of a number
abbrev pub NumberPut : Bool → (old new : Storage) → plain.Place → ℤ → Type 0
NumberPut b old new p x = ValuePut b old new p (Number x)

-- a number may not be put at a place of numbers of at most 63 binary digits
abbrev pub CannotPutNumber : Storage → plain.Place → ℤ → Type 0
CannotPutNumber s p x =
    (precision : ℕ) → p.description ≡ FixedBinary precision → precision ≤ 63 → CannotPut s p (Number x)

-- characters are put after those that a place holds, and both are no more than so many
pub record IsAppended (old new : Storage) (p : plain.Place) (more : List ℕ) (room : ℕ) : Type 0 where
  pub text : List ℕ
  pub was : (w : World) → held p (with_storage old w) ≡ Yields (Characters text) (with_storage old w)
  pub puts : (w : World) →
      stored p (Characters (text ++ more)) (with_storage old w) ≡ Yields tt (with_storage new w)
  pub fits : length (text ++ more) ≤ room

-- the same, or nothing has changed
abbrev pub Appended : Bool → (old new : Storage) → plain.Place → (more : List ℕ) → (room : ℕ) → Type 0
Appended true old new p more room = IsAppended old new p more room
Appended false old new p more room = SameStorage old new

-- characters may not be put after those that a place outside areas holds: it is no place of CHARACTER
-- VARYING, it leads to no part, or both are more than the string may hold, or than so many
abbrev pub CannotAppend : Storage → plain.Place → (more : List ℕ) → (room : ℕ) → Type 0
CannotAppend s p more room =
    (greatest : ℕ) → p.description ≡ Varying greatest →
    (part : GenerationPart) → LeadsTo (storage_view s) p part →
    (w : World) (text : List ℕ) → held p (with_storage s w) ≡ Yields (Characters text) (with_storage s w) →
    length (text ++ more) ≤ greatest → room < length (text ++ more)

-- there is room for a new generation of a description, or a limit is passed, whatever it is to begin with
abbrev pub RoomFor : Bool → Storage → Description → Type 0
RoomFor true s d =
    (made_count s < generation_limit) × (live_bytes (storage_view s) + size_of d ≤ byte_limit)
RoomFor false s d =
    (w : World) (how : plain.Made) (vs : List Value) →
    made_of d how vs (with_storage s w) ≡ Raises StorageLimit (with_storage s w)
