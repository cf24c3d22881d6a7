-- What the fields of a region keep.
use Rattle.std.specs.Prelude.{◌≡◌, ◌^◌, ◌<◌, ℕ, length}
use Rattle.pli_region.specs.declared.memory.Lease.{Lease}
use Rattle.pli_region.specs.declared.memory.Memory.{Memory}

-- the memory has as many bytes as the length says, no room after them, and goes back whole to its allocator
pub record IsHeld {A : Type 0} (memory : Memory) (len : ℕ) (lease : Lease A) (alloc : A) : Type 0 where
  pub count : length memory.items ≡ len
  pub small : len < 2 ^ 32
  pub full : memory.room ≡ 0
  pub place : lease.ptr ≡ memory.ptr
  pub size : lease.size ≡ len
  pub owner : lease.alloc ≡ alloc
