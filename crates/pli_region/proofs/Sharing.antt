-- A reference to memory is made of a borrow of it: it lends each byte. Assumes `Logic`.
use Prim.Native.Nat.{ℕ, ◌+◌, ◌^◌}
use mathlib.Core.List.{List, [], ◌∷◌}
use lib.ListN.{length}
use seplogic.Ra.Ura.{Ura}
use base.Fraction.{full_share}
use base.Fml.{Lft, ftrue, ffalse, fsep, flt, froom}
use types.Logic.{Logic}
use denote.Builtin.{u8}
use denote.Copied.{uint_Copied}
use denote.Memory.{part_at, shared_of}
use denote.Plain.{uint_row_laws}
use denote.RawPtr.{Ptr, block_ptr, null_ptr}
use denote.RawPtr.Bytes.{bytes}
use denote.Sharing.{ShrLaws, said}
use denote.SharingLaws.{beside_shr_laws, said_shr_laws}
use denote.Slice.{elements_shared, elements_shr_laws}
use denote.Struct.Lending.{Lends, Lends-both, Lends-first, Lends-nothing, Lends-said, Lends-false}
use mir.Syntax.{w8}
use Rattle.pli_region.specs.Ownership.{block_of, owned, lent}

pub lent_laws : (p : Ptr) (xs : List ℕ) (room : ℕ) → ShrLaws (lent p xs room)
lent_laws (block_ptr b o) xs room =
    beside_shr_laws (said (flt (length xs + room) (2 ^ 63))) (elements_shared u8 xs b o)
    (said_shr_laws (flt (length xs + room) (2 ^ 63)) tt) (elements_shr_laws u8 (uint_row_laws w8) xs b o)
lent_laws null_ptr xs room = said_shr_laws ffalse tt

module _ {M : Type 1} {𝓤 : Ura M} (𝓛 : Logic 𝓤) (l : Lft) where
  Lends-bytes : (xs : List ℕ) (b o : ℕ) → Lends 𝓛 (bytes full_share xs b o) (elements_shared u8 xs b o) l
  Lends-bytes [] b o = Lends-nothing 𝓛 ftrue l
  Lends-bytes (x ∷ xs) b o =
      Lends-both 𝓛 (part_at u8 full_share x b o) (bytes full_share xs b (o + 1)) (shared_of u8 x b o)
      (elements_shared u8 xs b (o + 1)) l (λ κ ts. (uint_Copied 𝓛 w8).shares full_share l x κ ts b o) (Lends-bytes xs b (o + 1))

  pub Lends-memory : (p : Ptr) (xs : List ℕ) (room : ℕ) → Lends 𝓛 (owned p xs room) (lent p xs room) l
  Lends-memory (block_ptr b o) xs room =
      let few = flt (length xs + room) (2 ^ 63) in let after = froom (block_of room) b (o + length xs) in
      Lends-both 𝓛 few (fsep (bytes full_share xs b o) after) (said few) (elements_shared u8 xs b o) l
      (Lends-said 𝓛 few tt l) (Lends-first 𝓛 (bytes full_share xs b o) after (elements_shared u8 xs b o) l (Lends-bytes xs b o))
  Lends-memory null_ptr xs room = Lends-false 𝓛 (said ffalse) l
