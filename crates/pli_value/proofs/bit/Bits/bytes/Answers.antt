use Rattle.std.proofs.Common.{◌≡◌, ℕ, List, length, sym, ap, ◌∙◌, subst}
use Rattle.pli_value.specs.Packing.{unpacked, IsPacked}
use Rattle.pli_value.proofs.PackingLaws.{bits_counted}
use Rattle.pli_value.proofs.bit.Bits.bytes.Goals as goal

pub returns-clause-value : goal.returns-clause-value
returns-clause-value c =
    let count : length c.args.self.now ≡ c.self.inside.count =
    sym (ap length c.self.view_is) ∙ bits_counted c.self.inside.count c.self.inside.bytes.items in
    ap (λ n. unpacked n c.as_slice.result.now) count ∙ ap (unpacked c.self.inside.count) c.as_slice.ensures.value ∙ c.self.view_is

pub returns-clause-packed : goal.returns-clause-packed
returns-clause-packed c =
    let count : length c.args.self.now ≡ c.self.inside.count =
    sym (ap length c.self.view_is) ∙ bits_counted c.self.inside.count c.self.inside.bytes.items in
    let P : ℕ → Type 0 = λ n. IsPacked n c.as_slice.result.now in
    let Q : List ℕ → Type 0 = λ bytes. IsPacked c.self.inside.count bytes in
    subst P (sym count) (subst Q (sym c.as_slice.ensures.value) c.self.invariant)
