use Rattle.std.proofs.Common.{◌≡◌, ℕ, ◌-◌, List, ◌++◌, length, take, drop, sym, ap, ◌∙◌, append_assoc, take-append-drop}
use Rattle.std.proofs.lemmas.List.{take_rest}
use Rattle.pli_base.specs.laws.DeviceLaws.{Appends-then}
use Rattle.pli_base.proofs.device.put_all.Goals as goal

-- n more bytes are done
moves_front : (all done rest : List ℕ) (n : ℕ) → all ≡ done ++ rest → all ≡ (done ++ take n rest) ++ take (length rest - n) (drop n rest)
moves_front all done rest n e =
    e ∙ ap (λ l. done ++ l) (sym (take-append-drop n rest)) ∙ sym (append_assoc done (take n rest) (drop n rest)) ∙ ap (λ l. (done ++ take n rest) ++ l) (sym (take_rest rest n))

pub loop-count-preserved : goal.loop-count-preserved
loop-count-preserved g c =
    let (done, split, appended, marked) = c.loop-count.invariant in
    let rest = c.loop-count.rest.now in
    let n = c.in_ok-count.count in
    (done ++ take n rest, moves_front _ done rest n split, Appends-then _ _ _ _ _ appended c.in_ok-count.ensures.moved, c.in_ok-count.ensures.mark.1 ∙ sym c.in_ok-count.ensures.mark.0 ∙ marked)
