-- Tables of names, in which of several things of one name the first stays.
use Rattle.std.proofs.Common.{◌≡◌, Bool, true, false, ◌||◌, cond, if◌then◌else◌, Some, Result, Ok, Err, is_err, OnOk, is_some, List, [], ◌∷◌, ◌++◌, refl, sym, ap, ◌∙◌, true≢false}
use Rattle.std.specs.List.{list_any}
use Rattle.std.specs.Map.{keys_of, lookup}
use Rattle.indexmap.specs.IndexMap.{insert_entry}
use Rattle.pli_base.specs.Name.{Name}
use Rattle.pli_base.specs.Words.{same_name, is_among}
use Rattle.pli_link.specs.Names.{with_first, firsts}

-- what holds where a call succeeds
pub was_ok : {A B P : Type 0} (r : Result A B) → is_err r ≡ false → OnOk r P → P
was_ok (Ok x) e h = h
was_ok (Err x) e h = absurd (true≢false e)

-- some after others
pub firsts_after : {A : Type 0} (before xs ys : List (Name × A)) → firsts before (xs ++ ys) ≡ firsts (firsts before xs) ys
firsts_after before [] ys = refl
firsts_after before (x ∷ xs) ys = firsts_after (with_first before x) xs ys

pub some_among : {A : Type 0} (test : Name → Bool) (es : List (Name × A)) → is_some (lookup test es) ≡ list_any test (keys_of es)
some_among test [] = refl
some_among test (e ∷ es) = by (test e.0) (some_among test es)
  where
    by : (b : Bool) → is_some (lookup test es) ≡ list_any test (keys_of es) → is_some (cond b (Some e.1) (lookup test es)) ≡ (b || list_any test (keys_of es))
    by true h = refl
    by false h = h

pub new_entry : {A : Type 0} (es : List (Name × A)) (n : Name) (x : A) → is_among n (keys_of es) ≡ false → insert_entry same_name es n x ≡ es ++ (n, x) ∷ []
new_entry [] n x h = refl
new_entry (e ∷ es) n x h = by (same_name n e.0) h (new_entry es n x)
  where
    by : (b : Bool) → (b || is_among n (keys_of es)) ≡ false → (is_among n (keys_of es) ≡ false → insert_entry same_name es n x ≡ es ++ (n, x) ∷ [])
        → (if b then (e.0, x) ∷ es else e ∷ insert_entry same_name es n x) ≡ e ∷ (es ++ (n, x) ∷ [])
    by true h more = absurd (true≢false h)
    by false h more = ap (λ l. e ∷ l) (more h)

-- a thing of a new name is put after the others, and a thing of a name that is there is not
pub put_first : {A : Type 0} (es : List (Name × A)) (n : Name) (x : A) → is_some (lookup (same_name n) es) ≡ false → insert_entry same_name es n x ≡ with_first es (n, x)
put_first es n x h =
    let e : is_among n (keys_of es) ≡ false = sym (some_among (same_name n) es) ∙ h in
    new_entry es n x e ∙ sym (ap (λ b. if b then es else es ++ (n, x) ∷ []) e)

pub left_as_is : {A : Type 0} (es : List (Name × A)) (n : Name) (x : A) → is_some (lookup (same_name n) es) ≡ true → es ≡ with_first es (n, x)
left_as_is es n x h = sym (ap (λ b. if b then es else es ++ (n, x) ∷ []) (sym (some_among (same_name n) es) ∙ h))
