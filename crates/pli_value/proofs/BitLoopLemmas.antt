-- Strings of bits that are made bit by bit: what stands there so far, and one bit more.
use Rattle.std.proofs.Common.{◌≡◌, ℕ, zero, suc, ◌+◌, ◌-◌, ◌<◌, ◌≤◌, Bool, false, List, [], ◌∷◌, ◌++◌, length, take, drop, map, replicate, get_or, refl, sym, ap, ◌∙◌, arith}
use Rattle.std.specs.List.{range_with_len}
use Rattle.std.proofs.lemmas.List.{get_or-map, length-take, length-drop, length-map, get_or-take, get_or-drop, length-append, length-replicate}
use Rattle.std.proofs.lemmas.List.FromFn.{length-map-range_with_len, get_or-map-range_with_len, map-range_with_len_more, fill_by_all}
use Rattle.pli_value.specs.Strings.{fitted}

-- what a function gives at the first so many places
abbrev pub tabulated : {B : Type 0} → (ℕ → B) → ℕ → List B
tabulated f n = map f (range_with_len 0 n)

-- and at one more
pub tabulated_more : {B : Type 0} → (f : ℕ → B) (n : ℕ) (now next : List B) (b : B) → now ≡ tabulated f n → next ≡ now ++ b ∷ [] → b ≡ f n
    → next ≡ tabulated f (n + 1)
tabulated_more f n now next b is pushed here =
    pushed ∙ ap (λ xs. xs ++ b ∷ []) is ∙ ap (λ x. tabulated f n ++ x ∷ []) here ∙ sym (map-range_with_len_more f 0 n n (omega arith))

pub tabulated_counted : {B : Type 0} → (f : ℕ → B) (n : ℕ) (now : List B) → now ≡ tabulated f n → length now ≡ n
tabulated_counted f n now is = ap length is ∙ length-map-range_with_len f 0 n

-- a string turned or read element by element
pub map_is_tabulated : {A B : Type 0} → (g : A → B) (s : List A) (d : A) → map g s ≡ tabulated (λ k. g (get_or s k d)) (length s)
map_is_tabulated g s d =
    fill_by_all (λ k. g (get_or s k d)) (map g s) (length s) (g d) (length-map s g) (λ k below. get_or-map g s k d (g d) below)

-- two functions that give the same at each place
pub same_tabulated : (f g : ℕ → Bool) (n : ℕ) → ((k : ℕ) → k < n → f k ≡ g k) → tabulated f n ≡ tabulated g n
same_tabulated f g n same =
    fill_by_all g (tabulated f n) n false (length-map-range_with_len f 0 n)
    (λ k below. get_or-map-range_with_len f 0 n k k false below (omega arith) ∙ same k below)

-- a string, and a part of one, element by element
pub itself_tabulated : (s : List Bool) (n : ℕ) → length s ≡ n → s ≡ tabulated (λ k. get_or s k false) n
itself_tabulated s n counted = fill_by_all (λ k. get_or s k false) s n false counted (λ k below. refl)

pub piece_tabulated : (s : List Bool) (before n : ℕ) → before + n ≤ length s → take n (drop before s) ≡ tabulated (λ k. get_or s (before + k) false) n
piece_tabulated s before n within =
    fill_by_all (λ k. get_or s (before + k) false) (take n (drop before s)) n false
    (omega (arith, length-take n (drop before s), length-drop before s))
    (λ k below. get_or-take n (drop before s) k false below ∙ get_or-drop before s k false)

-- elements that are all the default
replicated : {A : Type 0} → (d : A) (m j : ℕ) → get_or (replicate m d) j d ≡ d
replicated d zero j = refl
replicated d (suc m) zero = refl
replicated d (suc m) (suc j) = replicated d m j

append_at : {A : Type 0} → (d : A) (xs ys : List A) → ((j : ℕ) → get_or ys j d ≡ d) → (k : ℕ) → get_or (xs ++ ys) k d ≡ get_or xs k d
append_at d [] ys all k = all k
append_at d (x ∷ xs) ys all zero = refl
append_at d (x ∷ xs) ys all (suc k) = append_at d xs ys all k

-- a string cut or extended
pub fitted_is_tabulated : {A : Type 0} → (extension : A) (n : ℕ) (s : List A) → fitted extension n s ≡ tabulated (λ k. get_or s k extension) n
fitted_is_tabulated extension n s =
    fill_by_all (λ k. get_or s k extension) (fitted extension n s) n extension
    (omega (arith, length-append (take n s) (replicate (n - length s) extension), length-take n s, length-replicate (n - length s) extension))
    (λ k below. append_at extension (take n s) _ (λ j. replicated extension (n - length s) j) k ∙ get_or-take n s k extension below)
