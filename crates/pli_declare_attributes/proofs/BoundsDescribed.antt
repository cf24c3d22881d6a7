-- Bounds that are good, as those of a description, with one dimension more.
use Rattle.std.proofs.Common.{◌≡◌, ℕ, ◌+◌, ◌<◌, Bool, true, false, ◌&&◌, List, [], ◌∷◌, ◌++◌, length, get_or, take, drop, refl, sym, ap, ◌∙◌}
use Rattle.std.specs.List.{list_all}
use Rattle.std.proofs.lemmas.List.{drop_more, take_more, map_push}
use Rattle.pli_base.specs.declared.declaration.WrittenBounds.{WrittenBounds}
use Rattle.pli_map.specs.declared.description.Bounds.{Bounds}
use Rattle.pli_declare.specs.Extents.{are_good, bounds_of, all_bounds}

both : (a b : Bool) → (a && b) ≡ true → (a ≡ true) × (b ≡ true)
both true b h = (refl, h)
both false b h = cc

pub good_next : (dimensions : List WrittenBounds) (n : ℕ) (d : WrittenBounds) → n < length dimensions → list_all are_good (drop n dimensions) ≡ true
    → (are_good (get_or dimensions n d) ≡ true) × (list_all are_good (drop (n + 1) dimensions) ≡ true)
good_next dimensions n d lt good =
    both (are_good (get_or dimensions n d)) (list_all are_good (drop (n + 1) dimensions)) (sym (ap (list_all are_good) (drop_more dimensions n d lt)) ∙ good)

pub described_next : (dimensions : List WrittenBounds) (n : ℕ) (d : WrittenBounds) (before after : List Bounds) (bounds : Bounds) → n < length dimensions
    → after ≡ before ++ bounds ∷ [] → bounds ≡ bounds_of (get_or dimensions n d) → before ≡ all_bounds (take n dimensions)
    → after ≡ all_bounds (take (n + 1) dimensions)
described_next dimensions n d before after bounds lt more is done =
    more ∙ ap (λ bs. bs ++ bounds ∷ []) done ∙ ap (λ b. all_bounds (take n dimensions) ++ b ∷ []) is
    ∙ sym (ap all_bounds (take_more dimensions n d lt) ∙ map_push bounds_of (take n dimensions) (get_or dimensions n d))
