use Rattle.std.proofs.Common.{ℕ, ap, sym, ◌∙◌, arith}
use Rattle.pli_value.specs.Packing.{unpacked}
use Rattle.pli_bytes.proofs.short.short_bits.Goals as goal

pub short_of-requires : goal.short_of-requires
short_of-requires c = record {
  few = omega (arith, c.if-count-gt-SHORT_LIMIT.false);
  within = omega (arith, c.bytes.ensures.packed.needed, c.length-count.ensures.value);
}

pub returns : goal.returns
returns c =
    sym c.bytes.ensures.value ∙ ap (λ (n : ℕ). unpacked n c.bytes.result.now) (sym c.length-count.ensures.value) ∙ sym c.short_of.ensures
