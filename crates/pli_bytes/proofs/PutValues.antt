-- A value put at an offset: there the bytes hold it, and no others have changed.
use Rattle.std.proofs.Common.{◌≡◌, ℕ, ◌+◌, ◌≤◌, List, length, take, drop, sym, ap, ◌∙◌, arith}
use Rattle.pli_map.specs.Description.{Description}
use Rattle.pli_map.specs.Sizes.{size_of}
use Rattle.pli_value.specs.Value.{Value}
use Rattle.pli_bytes.specs.Changes.{IsPut}
use Rattle.pli_bytes.specs.Contents.{value_of, value_in, bytes_from, with_bytes_at}
use Rattle.pli_bytes.proofs.PutBytes.{before_put, between_put, after_put, length_put}

module _ (d : Description) (v : Value) (o : ℕ) (old new : List ℕ) (inside : o + size_of d ≤ length old) (put : IsPut d v o old new) where
  starts : o ≤ length old
  starts = omega (arith, inside)

  pub put_value : value_in new (record { offset = o; description = d }) ≡ v
  put_value =
      ap (λ bytes. value_of d (bytes_from o (size_of d) bytes)) put.put ∙ ap (λ n. value_of d (bytes_from o n (with_bytes_at o put.bytes old))) (sym put.size)
      ∙ ap (value_of d) (between_put o put.bytes old starts) ∙ put.hold

  pub put_before : take o new ≡ take o old
  put_before = ap (take o) put.put ∙ before_put o put.bytes old starts

  pub put_after : drop (o + size_of d) new ≡ drop (o + size_of d) old
  put_after =
      ap (λ n. drop (o + n) new) (sym put.size) ∙ ap (drop (o + length put.bytes)) put.put ∙ after_put o put.bytes old starts
      ∙ ap (λ n. drop (o + n) old) put.size

  pub put_length : length new ≡ length old
  put_length = ap length put.put ∙ length_put o put.bytes old (omega (arith, inside, put.size))
