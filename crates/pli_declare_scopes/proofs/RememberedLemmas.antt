-- What is remembered of names is what is found of them.
use Rattle.std.proofs.Common.{◌≡◌, Bool, true, false, List, [], ◌∷◌, Some, IfSome, cond, ◌&&◌, if◌then◌else◌, refl, sym, ap, ◌∙◌, true≢false}
use Rattle.std.specs.Global.{Vec}
use Rattle.std.specs.Map.{lookup}
use Rattle.std.specs.Cmp.Lexicographic.{pointwise, same_text}
use Rattle.indexmap.specs.IndexMap.{insert_entry}
use Rattle.pli_base.specs.Name.{Name}
use Rattle.pli_base.specs.Words.{same_name}
use Rattle.pli_declare_scopes.specs.declared.found.Found.{Found}
use Rattle.pli_declare_scopes.specs.answers.Remembered.{AreRemembered}

-- lists of the same names are one list
both : (x y : Name) (xs ys : List Name) → same_name x y ≡ true → xs ≡ ys → x ∷ xs ≡ y ∷ ys
both x y xs ys h e = ap (λ n. n ∷ xs) (same_text x y (sym h)) ∙ ap (λ ns. y ∷ ns) e

same_names : (xs ys : List Name) → pointwise same_name xs ys ≡ true → xs ≡ ys
same_names [] [] h = refl
same_names [] (y ∷ ys) h = absurd (true≢false (sym h))
same_names (x ∷ xs) [] h = absurd (true≢false (sym h))
same_names (x ∷ xs) (y ∷ ys) h = by (same_name x y) refl (same_names xs ys) h
  where
    by : (b : Bool) → same_name x y ≡ b → (pointwise same_name xs ys ≡ true → xs ≡ ys)
        → b && pointwise same_name xs ys ≡ true → x ∷ xs ≡ y ∷ ys
    by true e rest h = both x y xs ys e (rest h)
    by false e rest h = absurd (true≢false (sym h))

module _ (find : List Name → Found) where
  -- what is looked up is what is found
  pub recalled : (names : List Name) (es : List (Vec Name × Found)) → AreRemembered find es
      → IfSome (lookup (λ k. pointwise same_name names k.items) es) (λ found. found ≡ find names)
  recalled names [] all = tt
  recalled names (e ∷ es) all = by (pointwise same_name names e.0.items) refl (recalled names es all.1)
    where
      by : (b : Bool) → pointwise same_name names e.0.items ≡ b
          → IfSome (lookup (λ k. pointwise same_name names k.items) es) (λ found. found ≡ find names)
          → IfSome (cond b (Some e.1) (lookup (λ k. pointwise same_name names k.items) es)) (λ found. found ≡ find names)
      by true same rest = all.0 ∙ ap (find) (sym (same_names names e.0.items same))
      by false same rest = rest

  -- one more is remembered
  pub one_more : (es : List (Vec Name × Found)) (names : Vec Name) (found : Found) → AreRemembered find es → found ≡ find names.items
      → AreRemembered find (insert_entry (λ x y. pointwise same_name x.items y.items) es names found)
  one_more [] names found all e = (e, tt)
  one_more (x ∷ xs) names found all e = by (pointwise same_name names.items x.0.items) refl (one_more xs names found all.1 e)
    where
      by : (b : Bool) → pointwise same_name names.items x.0.items ≡ b
          → AreRemembered find (insert_entry (λ x y. pointwise same_name x.items y.items) xs names found)
          → AreRemembered find (if b then (x.0, found) ∷ xs else x ∷ insert_entry (λ x y. pointwise same_name x.items y.items) xs names found)
      by true same rest = (e ∙ ap (find) (same_names names.items x.0.items same), all.1)
      by false same rest = (all.0, rest)
