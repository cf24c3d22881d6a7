use Rattle.std.proofs.Common.{ℕ, ◌<◌, List, length, slice_index, ap, ◌∙◌, subst, arith}
use Rattle.pli_value.specs.Packing.{packed}
use Rattle.pli_value.proofs.PackedLaws.{packed_is}
use Rattle.pli_bytes.proofs.stored.store_bits.Goals as goal

pub returns : goal.returns
returns c =
    let small : (k : ℕ) → slice_index c.copy_from_slice.new.self k < 256 = λ k. let f = c.type_inv.bytes k in omega arith in
    let from : (k : ℕ) → slice_index c.bytes-from.result.now k < 256 = subst (λ (xs : List ℕ). (k : ℕ) → slice_index xs k < 256) c.copy_from_slice.ensures.after small in
    c.copy_from_slice.ensures.after ∙ packed_is (length c.args.bits.now) c.bytes-from.result.now c.bytes-from.ensures.packed from ∙ ap packed c.bytes-from.ensures.value
