-- What is stored is loaded.
use Rattle.std.specs.Prelude.{◌≡◌, Some, IsTrue, length}
use Rattle.pli_map.specs.Description.{Description}
use Rattle.pli_map.specs.Sizes.{size_of}
use Rattle.pli_map.specs.StoredValues.{is_storable, stored_bytes, loaded_value}
use Rattle.pli_map.specs.Values.{holds}
use Rattle.pli_value.specs.Value.{Value}

-- the bytes of a value are as many as its description takes
abbrev pub StoredBytesFill : Type 0
StoredBytesFill = (d : Description) (v : Value) → IsTrue (holds d v) → length (stored_bytes d v) ≡ size_of d

-- the bytes of a value hold that value
abbrev pub StoredIsLoaded : Type 0
StoredIsLoaded =
    (d : Description) (v : Value) → IsTrue (is_storable d) → IsTrue (holds d v)
    → loaded_value d (stored_bytes d v) ≡ Some v

-- two values that a description holds, of the same bytes, are one
abbrev pub BytesAreOfOneValue : Type 0
BytesAreOfOneValue =
    (d : Description) (v w : Value) → IsTrue (is_storable d) → IsTrue (holds d v) → IsTrue (holds d w)
    → stored_bytes d v ≡ stored_bytes d w → v ≡ w
