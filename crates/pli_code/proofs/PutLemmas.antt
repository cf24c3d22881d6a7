-- Values put one after another.
use Rattle.std.proofs.Common.{◌≡◌, List, ◌++◌, ℕ, sym, ap, ◌∙◌, append_assoc}

-- what is put after what was put makes a whole
pub then_put : (out before after x y whole : List ℕ) → before ≡ out ++ x → whole ≡ x ++ y → after ≡ before ++ y → after ≡ out ++ whole
then_put out before after x y whole p w q = q ∙ ap (λ bs. bs ++ y) p ∙ append_assoc out x y ∙ ap (λ bs. out ++ bs) (sym w)
