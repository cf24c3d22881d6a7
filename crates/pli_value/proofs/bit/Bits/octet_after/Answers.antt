use Rattle.std.proofs.Common.{ℕ, Bool, false, ◌+◌, ◌-◌, ◌*◌, nat_eq, List, get_or, ap, ◌∙◌, arith}
use Rattle.std.specs.Int.{bit_at}
use Rattle.std.proofs.lemmas.Nat.Bits.{bit_at-zero}
use Rattle.pli_value.specs.Packing.{packed_bit}
use Rattle.pli_value.proofs.PackedLaws.{bit_shown, bit_in_first}
use Rattle.pli_value.proofs.bit.Bits.octet_after.Goals as goal

-- where all eight stand in the string
pub returns-then-before-place-clause-none : goal.returns-then-before-place-clause-none
returns-then-before-place-clause-none c = λ i below early. absurd (omega (arith, early, c.if-before-place.true))

pub returns-then-before-place-clause-some : goal.returns-then-before-place-clause-some
returns-then-before-place-clause-some c = λ i below over.
    c.window.ensures i below
    ∙ ap (λ (xs : List ℕ). packed_bit xs (8 * c.args.number - c.args.before + i)) c.as_slice-bytes.ensures.value
    ∙ bit_shown c.self.inside.count c.self.inside.bytes.items c.args.self.now (8 * c.args.number - c.args.before + i) (8 * c.args.number + i - c.args.before)
    c.self.invariant c.self.view_is (omega (arith, c.if-before-place.true))

-- where none does
pub returns-then-shift-gt7-clause-none : goal.returns-then-shift-gt7-clause-none
returns-then-shift-gt7-clause-none c = λ i below early. ap (λ (b : ℕ). nat_eq b 1) (bit_at-zero (7 - i))

pub returns-then-shift-gt7-clause-some : goal.returns-then-shift-gt7-clause-some
returns-then-shift-gt7-clause-some c = λ i below over. absurd (omega (arith, below, over, c.if-shift-gt7.true, c.if-before-place.false))

-- where the last ones do
pub returns-clause-none : goal.returns-clause-none
returns-clause-none c = λ i below early.
    ap (λ (b : ℕ). nat_eq b 1)
    (c.across.ensures.front i below (omega (arith, early, c.if-shift-gt7.false, c.if-before-place.false)) ∙ bit_at-zero (7 - (8 - (c.args.before - 8 * c.args.number) + i)))

pub returns-clause-some : goal.returns-clause-some
returns-clause-some c = λ i below over.
    let at : ℕ = 15 - (8 - (c.args.before - 8 * c.args.number) + i) in
    ap (λ (b : ℕ). nat_eq b 1) (c.across.ensures.back i below (omega (arith, below, over, c.if-shift-gt7.false, c.if-before-place.false)))
    ∙ ap (λ (b : ℕ). nat_eq (bit_at b at) 1) (c.byte_at.ensures ∙ ap (λ (xs : List ℕ). get_or xs 0 0) c.as_slice-bytes.ensures.value)
    ∙ bit_in_first c.self.inside.count c.self.inside.bytes.items (8 * c.args.number + i - c.args.before) at c.self.invariant
    (omega (arith, below, over, c.if-before-place.false)) (omega (arith, below, over, c.if-shift-gt7.false, c.if-before-place.false))
    ∙ ap (λ (s : List Bool). get_or s (8 * c.args.number + i - c.args.before) false) c.self.view_is
