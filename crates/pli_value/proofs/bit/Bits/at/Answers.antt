use Rattle.std.proofs.Common.{◌≡◌, nat_eq, false, get_or, length, sym, ap, ◌∙◌, ◌-◌, ◌%◌, ◌/◌, ◌<◌, arith}
use Rattle.std.specs.Int.{bit_at}
use Rattle.std.proofs.lemmas.List.{get_or_read}
use Rattle.std.proofs.lemmas.Nat.Bits.{shr_and_one}
use Rattle.pli_value.proofs.PackingLaws.{bit_after, bit_at_place}
use Rattle.pli_value.proofs.bit.Bits.at.Goals as goal

pub returns-then-place-self : goal.returns-then-place-self
returns-then-place-self c =
    bit_after c.self.inside.count c.self.inside.bytes.items c.args.place c.if-place-self.true ∙ ap (λ s. get_or s c.args.place false) c.self.view_is

pub returns : goal.returns
returns c =
    let bytes = c.self.inside.bytes.items in
    let within : c.args.place / 8 < length bytes = omega (arith, c.self.invariant.needed) in
    let read : c.index.result.now ≡ get_or bytes (c.args.place / 8) 0 = get_or_read bytes (c.args.place / 8) c.index.result.now within c.index.ensures 0 in
    ap (λ b. nat_eq b 1) (shr_and_one c.index.result.now (7 - c.args.place % 8))
    ∙ ap (λ b. nat_eq (bit_at b (7 - c.args.place % 8)) 1) read
    ∙ sym (bit_at_place c.self.inside.count bytes c.args.place c.if-place-self.false)
    ∙ ap (λ s. get_or s c.args.place false) c.self.view_is
