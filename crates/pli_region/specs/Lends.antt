-- What memory is once a part of it that was lent to be written has come back.
use Rattle.std.specs.Prelude.{ℕ, List, take, drop}
use Rattle.std.specs.Borrow.{Fml, MutBor, Array, Lends}
use Rattle.std.specs.List.{refill}
use Rattle.pli_region.specs.Words.{overwritten}
use Rattle.pli_region.specs.declared.memory.Memory.{Memory}
use Rattle.pli_region.specs.contracts.memory.Memory.{the_row}
use denote.Builtin.{u8}

-- memory with other bytes
abbrev pub with_items : Memory → List ℕ → Memory
with_items m xs = record { ptr = m.ptr; items = xs; room = m.room }

-- with these in the place of the bytes from a place on
abbrev pub written : Memory → (from count : ℕ) → List ℕ → Memory
written m from count ws =
    with_items m (overwritten m.items from (refill count (take count (drop from m.items)) ws))

-- the part ends as what was written through the reference
abbrev pub lends_part : MutBor Memory → (from count : ℕ) → MutBor (List ℕ) → Fml
lends_part m from count r = Lends the_row (Array u8 0) m r (written m.now from count)
