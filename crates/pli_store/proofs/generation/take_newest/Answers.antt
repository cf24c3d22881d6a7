use Rattle.std.proofs.Common.{◌≡◌, ◌-◌, [], ◌∷◌, ◌++◌, length, get_or, sym, ap, ◌∙◌, arith}
use Rattle.std.specs.Prelude.{vec_len}
use Rattle.std.specs.List.{remove}
use Rattle.std.proofs.lemmas.List.{append-nil, length-append}
use Rattle.std.proofs.lemmas.List.Edits.{remove-append_right}
use Rattle.std.proofs.Math.Seq.{get_or-append_seam}
use Rattle.pli_store.proofs.generation.take_newest.Goals as goal

pub returns-clause-value : goal.returns-clause-value
returns-clause-value c =
    let left = c.take_last.new.self.items in
    let last = c.take_last.result in
    let at = vec_len c.args.generations.now - 1 in
    let here : at ≡ length left = omega (arith, length-append left (last ∷ []), ap length c.take_last.ensures.items, c.args.generations.now.ok.0, c.requires) in
    sym (get_or-append_seam left last [] last)
    ∙ ap (λ items. get_or items (length left) last) (sym c.take_last.ensures.items)
    ∙ ap (λ k. get_or c.args.generations.now.items k last) (sym here)

pub returns-clause-items : goal.returns-clause-items
returns-clause-items c =
    let left = c.take_last.new.self.items in
    let last = c.take_last.result in
    let at = vec_len c.args.generations.now - 1 in
    let here : length left ≡ at = omega (arith, length-append left (last ∷ []), ap length c.take_last.ensures.items, c.args.generations.now.ok.0, c.requires) in
    let first : at - at ≡ 0 = omega arith in
    sym (append-nil left)
    ∙ sym (ap (λ k. left ++ remove (last ∷ []) k) first)
    ∙ sym (remove-append_right left (last ∷ []) at at here (omega arith))
    ∙ ap (λ items. remove items at) (sym c.take_last.ensures.items)
