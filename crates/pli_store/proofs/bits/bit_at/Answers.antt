use Rattle.std.proofs.Common.{[], ◌∷◌, nat_eq, take, get_or, ap, sym, ◌∙◌}
use Rattle.std.proofs.lemmas.List.{drop_more}
use Rattle.std.proofs.lemmas.Nat.Bits.{shr_and_one}
use Rattle.pli_bytes.specs.Contents.{value_of}
use Rattle.pli_map.specs.Description as tree
use Rattle.pli_value.specs.Value.{Bits}
use Rattle.pli_store.proofs.bits.bit_at.Goals as goal

pub returns : goal.returns
returns c =
    let bytes = c.args.bytes.now in
    let x = get_or bytes c.args.offset 0 in
    ap (λ l. value_of (tree.Bit 1) (take 1 l)) (drop_more bytes c.args.offset 0 c.if-offset-bytes.false)
    ∙ ap (λ b. Bits (nat_eq b 1 ∷ [])) (sym (shr_and_one x 7))
