-- Parts put one after another.
use Rattle.std.specs.Prelude.{◌≡◌, ℕ, ◌+◌, ◌<◌, List, [], ◌∷◌, ◌++◌, length, map, take, drop, get_or, Option, refl}
use Rattle.std.proofs.Common.{sym, ap, ◌∙◌, append_assoc, append-nil, take-append-drop}
use Rattle.std.proofs.lemmas.List.{take_more, map-append}
use Rattle.std.specs.Io.KnownBytes.{Appends}
use Rattle.pli_base.specs.Devices.{AppendsPrefix}
use Rattle.pli_base.specs.laws.DeviceLaws.{Appends-then, AppendsPrefix-more, Appends-then_AppendsPrefix}
use Rattle.pli_commands.specs.answers.Answering.{joined}

pub joined-append : (xs ys : List (List ℕ)) → joined (xs ++ ys) ≡ joined xs ++ joined ys
joined-append [] ys = refl
joined-append (x ∷ xs) ys = ap (λ t. x ++ t) (joined-append xs ys) ∙ sym (append_assoc x (joined xs) (joined ys))

-- one part more
pub joined_more : {A : Type 0} (f : A → List ℕ) (xs : List A) (i : ℕ) (d : A) → i < length xs
    → joined (map f (take (i + 1) xs)) ≡ joined (map f (take i xs)) ++ f (get_or xs i d)
joined_more f xs i d h =
    ap (λ t. joined (map f t)) (take_more xs i d h) ∙ ap joined (map-append f (take i xs) (get_or xs i d ∷ []))
    ∙ joined-append (map f (take i xs)) (f (get_or xs i d) ∷ []) ∙ ap (λ t. joined (map f (take i xs)) ++ t) (append-nil (f (get_or xs i d)))

-- the parts from one more on
pub joined_rest : {A : Type 0} (f : A → List ℕ) (xs : List A) (i : ℕ) → joined (map f (take i xs)) ++ joined (map f (drop i xs)) ≡ joined (map f xs)
joined_rest f xs i =
    sym (joined-append (map f (take i xs)) (map f (drop i xs))) ∙ ap joined (sym (map-append f (take i xs) (drop i xs))) ∙ ap (λ t. joined (map f t)) (take-append-drop i xs)

-- a part is written after those before it
pub more_written : {A : Type 0} (f : A → List ℕ) (xs : List A) (i : ℕ) (d : A) (a b c : Option (List ℕ)) → i < length xs
    → Appends a b (joined (map f (take i xs))) → Appends b c (f (get_or xs i d)) → Appends a c (joined (map f (take (i + 1) xs)))
more_written f xs i d a b c h p q = rw (joined_more f xs i d h) (Appends-then a b c _ _ p q)

-- the writer failed in a part after those before it: some first bytes of all parts are written
pub some_written : {A : Type 0} (f : A → List ℕ) (xs : List A) (i : ℕ) (d : A) (a b c : Option (List ℕ)) → i < length xs
    → Appends a b (joined (map f (take i xs))) → AppendsPrefix b c (f (get_or xs i d)) → AppendsPrefix a c (joined (map f xs))
some_written f xs i d a b c h p q =
    rw (← joined_rest f xs (i + 1), joined_more f xs i d h) (AppendsPrefix-more a c _ _ (Appends-then_AppendsPrefix a b c _ _ p q))
