use Rattle.std.proofs.Common.{[], ◌∷◌, ◌++◌, drop, refl, sym, take, ap, ◌∙◌, add-one}
use Rattle.std.proofs.lemmas.List.{set_split}
use Rattle.pli_store.proofs.bits.put_bit_at.Goals as goal

pub returns-clause-put : goal.returns-clause-put
returns-clause-put c =
    let bytes = c.args.bytes.now in
    let at = c.args.offset in
    let x = c.byte_of.result in
    record {
      bytes = x ∷ [];
      size = refl;
      hold = c.byte_of.ensures;
      put = set_split bytes at x c.if-offset-bytes.false ∙ ap (λ k. take at bytes ++ x ∷ drop k bytes) (sym (add-one at));
    }
