-- A count of one byte is read as a byte.
use Rattle.std.proofs.Common.{◌≡◌, ℕ, List, [], ◌∷◌, ap}
use Rattle.std.specs.Int.{is_in_range}
use Rattle.pli_base.specs.Results.{◌>>=◌}
use Rattle.pli_code.specs.Fields.{held, number_at, byte_at, from_to, count_of_one, u1}
use Rattle.pli_code.proofs.FieldLaws.{count_read, no_count}

one_byte : (bytes : List ℕ) → number_at 1 bytes ≡ byte_at bytes
unfolding byte_at
one_byte [] = no_count
one_byte (b ∷ bytes) = count_read b bytes

pub counts_are_bytes : (low high : ℕ) (bytes : List ℕ) → (from_to low high count_of_one).read bytes ≡ (from_to low high u1).read bytes
counts_are_bytes low high bytes = ap (λ r. r >>= λ x. held (is_in_range low high x.0) x) (one_byte bytes)
