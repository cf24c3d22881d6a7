use Rattle.std.proofs.Common.{ℕ, Bool, false, ◌+◌, ◌-◌, ◌*◌, nat_eq, List, get_or, sym, ap, ◌∙◌}
use Rattle.std.specs.Int.{bit_at}
use Rattle.pli_value.proofs.PackedLaws.{bit_in_byte}
use Rattle.pli_value.proofs.bit.Bits.octet.Goals as goal

pub returns : goal.returns
returns c = λ i below.
    ap (λ (b : ℕ). nat_eq (bit_at b (7 - i)) 1) (c.byte_at.ensures ∙ ap (λ (xs : List ℕ). get_or xs c.args.number 0) c.as_slice.ensures.value)
    ∙ sym (bit_in_byte c.self.inside.count c.self.inside.bytes.items c.args.number i c.self.invariant below)
    ∙ ap (λ (s : List Bool). get_or s (8 * c.args.number + i) false) c.self.view_is
