-- Things that are put into a list unless their like stands there: the list has the like of each that was put.
use Rattle.std.proofs.Common.{◌≡◌, Bool, true, false, ◌||◌, List, [], ◌∷◌, ◌++◌, if◌then◌else◌, refl, sym, ap, ◌∙◌}
use Rattle.std.specs.List.{list_any}
use Rattle.std.specs.Cmp.Lexicographic.{same_text}
use Rattle.std.proofs.Math.Bool.{or-true, or-false}
use Rattle.std.proofs.lemmas.List.Folds.{list_any-append}
use Rattle.pli_base.specs.Name.{Name}
use Rattle.pli_base.specs.Words.{same_name}

-- one more is seen, where what is alike is equal
module _ {A : Type 0} (like : A → A → Bool) (alike : (i j : A) → like i j ≡ true → i ≡ j) (keys before : List A) (x : A) (seen : (i : A) → list_any (like i) keys ≡ list_any (like i) before) where
  last : (xs : List A) (i : A) → list_any (like i) (xs ++ x ∷ []) ≡ (list_any (like i) xs || like i x)
  last xs i = list_any-append (like i) xs (x ∷ []) ∙ ap (λ b. list_any (like i) xs || b) (or-false (like i x))

  kept : (i : A) → list_any (like x) keys ≡ true → list_any (like i) keys ≡ (list_any (like i) keys || like i x)
  kept i there = by (like i x) refl
    where
      by : (b : Bool) → like i x ≡ b → list_any (like i) keys ≡ (list_any (like i) keys || b)
      by true e = ap (λ (j : A). list_any (like j) keys) (alike i x e) ∙ there ∙ sym (or-true (list_any (like i) keys))
      by false e = sym (or-false (list_any (like i) keys))

  pub seen_more : (next : List A) → next ≡ (if list_any (like x) keys then keys else keys ++ x ∷ [])
      → (i : A) → list_any (like i) next ≡ list_any (like i) (before ++ x ∷ [])
  seen_more next e i = by (list_any (like x) keys) refl ∙ ap (λ b. b || like i x) (seen i) ∙ sym (last before i)
    where
      by : (b : Bool) → list_any (like x) keys ≡ b → list_any (like i) next ≡ (list_any (like i) keys || like i x)
      by true f = ap (list_any (like i)) (e ∙ ap (λ b. if b then keys else keys ++ x ∷ []) f) ∙ kept i f
      by false f = ap (list_any (like i)) (e ∙ ap (λ b. if b then keys else keys ++ x ∷ []) f) ∙ last keys i

-- names alike are equal
pub names_alike : (i j : Name) → same_name i j ≡ true → i ≡ j
names_alike i j h = same_text i j (sym h)
