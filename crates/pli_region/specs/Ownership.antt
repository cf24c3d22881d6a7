-- What memory owns, and what a reference to it shows.
use Rattle.std.specs.Prelude.{ℕ, ◌+◌, ◌^◌, List, length}
use base.Fraction.{full_share}
use base.Fml.{Lft, Share, Fml, ffalse, fsep, flt, froom}
use denote.Builtin.{u8}
use denote.RawPtr.{Ptr, block_ptr, null_ptr}
use denote.RawPtr.Bytes.{bytes}
use denote.Sharing.{said, beside}
use denote.Slice.{elements_shared}
use mir.Syntax.{Ty, w8, ty_int, ty_array}

-- the type of a block of so many bytes
abbrev pub block_of : (size : ℕ) → Ty
block_of size = ty_array (ty_int w8) size

-- a share of these bytes from a pointer on
abbrev pub bytes_at : Share → Ptr → List ℕ → Fml
bytes_at q (block_ptr b o) xs = bytes q xs b o
bytes_at q null_ptr xs = ffalse

-- from a pointer on these bytes, and after them room for so many more, fewer than 2^63 in all
abbrev pub owned : Ptr → List ℕ → (room : ℕ) → Fml
owned (block_ptr b o) xs room =
    fsep (flt (length xs + room) (2 ^ 63))
    (fsep (bytes full_share xs b o) (froom (block_of room) b (o + length xs)))
owned null_ptr xs room = ffalse

-- the same bytes, as a reference shows them
abbrev pub lent : Ptr → List ℕ → (room : ℕ) → Lft → Fml
lent (block_ptr b o) xs room = beside (said (flt (length xs + room) (2 ^ 63))) (elements_shared u8 xs b o)
lent null_ptr xs room = said ffalse
