-- Strings of few bits as numbers (own): the last bit is worth 1, and each other one twice what the next is.
use Rattle.std.specs.Prelude.{ℕ, ◌-◌, nat_eq, Bool, List, map}
use Rattle.std.specs.Int.{bit_at}
use Rattle.std.specs.List.{range_with_len}
use Rattle.pli_value.specs.declared.short_bits.ShortBits.{ShortBits}

-- so many binary digits of a number, the one that is worth the most first
abbrev pub bits_of : (count number : ℕ) → List Bool
bits_of count number = map (λ k. nat_eq (bit_at number (count - 1 - k)) 1) (range_with_len 0 count)

-- what such a string of the program says
abbrev pub short_view : ShortBits → List Bool
short_view s = bits_of s.count s.number
