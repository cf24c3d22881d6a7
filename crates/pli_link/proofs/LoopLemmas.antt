-- Loops that append what stands for each element.
use Rattle.std.proofs.Common.{◌≡◌, ◌<◌, ◌+◌, ◌++◌, ◌∷◌, [], ℕ, Bool, true, false, not, cond, if◌then◌else◌, List, length, map, drop, get_or, refl, sym, ap, ◌∙◌}
use Rattle.std.proofs.lemmas.List.{append_assoc, at_drop_more}
use Rattle.pli_link.specs.Link.{mains}
use Rattle.pli_link.specs.Units.{procedure_of}
use Rattle.pli_link.specs.declared.units.NamedUnit.{NamedUnit}
use Rattle.pli_link.specs.views.UnitView.{compiled_view}

-- what stands for one element more is a list
pub more_joined : {X Y : Type 0} (all : List X → List Y) (each : X → List Y) → ((x : X) (xs : List X) → all (x ∷ xs) ≡ each x ++ all xs)
    → (xs : List X) (i : ℕ) (d : X) (before here whole : List Y) → i < length xs → d ≡ get_or xs i d → here ≡ before ++ each d
    → before ++ all (drop i xs) ≡ whole → here ++ all (drop (i + 1) xs) ≡ whole
more_joined all each splits xs i d before here whole lt read added was =
    let x = get_or xs i d in
    let rest = drop (i + 1) xs in
    let step : before ++ all (drop i xs) ≡ before ++ all (x ∷ rest) = at_drop_more (λ ys. before ++ all ys) xs i d lt in
    ap (λ h. h ++ all rest) (added ∙ ap (λ y. before ++ each y) read) ∙ append_assoc before (each x) (all rest)
    ∙ ap (λ ys. before ++ ys) (sym (splits x rest)) ∙ sym step ∙ was

-- the main procedures of one unit more
pub one_main : (u : NamedUnit) (us : List NamedUnit) → map procedure_of (mains (map compiled_view (u ∷ us)))
    ≡ (if not u.deck.now.is_main then [] else procedure_of (compiled_view u) ∷ []) ++ map procedure_of (mains (map compiled_view us))
one_main u us = by u.deck.now.is_main
  where
    by : (b : Bool) → map procedure_of (cond b (compiled_view u ∷ mains (map compiled_view us)) (mains (map compiled_view us)))
        ≡ (if not b then [] else procedure_of (compiled_view u) ∷ []) ++ map procedure_of (mains (map compiled_view us))
    by true = refl
    by false = refl
