-- Lists of the numbers from one on.
use Rattle.std.proofs.Common.{◌≡◌, ℕ, zero, suc, ◌+◌, ◌<◌, ◌≤◌, ◌≢◌, Bool, true, false, cond, List, [], ◌∷◌, ◌++◌, map, length, get_or, set, refl, ap, sym, ◌∙◌, arith}
use Rattle.std.specs.List.{filter}
use Rattle.std.proofs.lemmas.List.{map_push}
use Rattle.pli_declare.specs.Tables.{numbers_from}

-- one number more
pub numbers_more : (first count : ℕ) → numbers_from first (suc count) ≡ numbers_from first count ++ (first + count) ∷ []
numbers_more first zero = let e : first ≡ first + 0 = omega arith in ap (λ n. n ∷ []) e
numbers_more first (suc n) =
    let e : first + 1 + n ≡ first + suc n = omega arith in
    ap (λ xs. first ∷ xs) (numbers_more (first + 1) n ∙ ap (λ m. numbers_from (first + 1) n ++ m ∷ []) e)

-- what a function gives at the numbers, at one of them
pub map_at : {X : Type 0} (f : ℕ → X) (first count at : ℕ) (d : X) → at < count → get_or (map f (numbers_from first count)) at d ≡ f (first + at)
map_at f first zero at d h = absurd (omega arith)
map_at f first (suc n) zero d h = let e : first ≡ first + 0 = omega arith in ap f e
map_at f first (suc n) (suc at) d h = let e : first + 1 + at ≡ first + suc at = omega arith in map_at f (first + 1) n at d (omega arith) ∙ ap f e

-- two functions that differ at no number
pub map_same : {X : Type 0} (f g : ℕ → X) (first count : ℕ) → ((k : ℕ) → f k ≡ g k) → map f (numbers_from first count) ≡ map g (numbers_from first count)
map_same f g first zero h = refl
map_same f g first (suc n) h = ap (λ x. x ∷ map f (numbers_from (first + 1) n)) (h first) ∙ ap (λ xs. g first ∷ xs) (map_same f g (first + 1) n h)

beyond : {X : Type 0} (f g : ℕ → X) (first count at : ℕ) → at < first → ((k : ℕ) → k ≢ at → f k ≡ g k) → map f (numbers_from first count) ≡ map g (numbers_from first count)
beyond f g first zero at h others = refl
beyond f g first (suc n) at h others =
    ap (λ x. x ∷ map f (numbers_from (first + 1) n)) (others first (λ e. omega (arith, e, h))) ∙ ap (λ xs. g first ∷ xs) (beyond f g (first + 1) n at (omega arith) others)

-- two functions that differ at one number alone
pub set_at_number : {X : Type 0} (f g : ℕ → X) (first count at : ℕ) (x : X) → at < count → x ≡ g (first + at) → ((k : ℕ) → k ≢ first + at → f k ≡ g k)
    → set (map f (numbers_from first count)) at x ≡ map g (numbers_from first count)
set_at_number f g first zero at x h is others = absurd (omega arith)
set_at_number f g first (suc n) zero x h is others =
    let e : first + 0 ≡ first = omega arith in
    ap (λ y. y ∷ map f (numbers_from (first + 1) n)) (is ∙ ap g e)
    ∙ ap (λ xs. g first ∷ xs) (beyond f g (first + 1) n first (omega arith) (λ k other. others k (λ same. other (same ∙ e))))
set_at_number f g first (suc n) (suc at) x h is others =
    let e : first + suc at ≡ first + 1 + at = omega arith in
    ap (λ y. y ∷ set (map f (numbers_from (first + 1) n)) at x) (others first (λ same. omega (arith, same)))
    ∙ ap (λ xs. g first ∷ xs) (set_at_number f g (first + 1) n at x (omega arith) (is ∙ ap g e) (λ k other. others k (λ same. other (same ∙ e))))

at_cond : (b : Bool) (P : ℕ → Type 0) (x : ℕ) (xs : List ℕ) → (b ≡ true → P x) → ((i : ℕ) → i < length xs → P (get_or xs i 0))
    → (i : ℕ) → i < length (cond b (x ∷ xs) xs) → P (get_or (cond b (x ∷ xs) xs) i 0)
at_cond true P x xs here others zero within = here refl
at_cond true P x xs here others (suc i) within = others i (omega (arith, within))
at_cond false P x xs here others i within = others i within

-- what holds of each number that passes a test
pub filtered : (test : ℕ → Bool) (P : ℕ → Type 0) (first count : ℕ) → ((k : ℕ) → first ≤ k → k < first + count → test k ≡ true → P k)
    → (i : ℕ) → i < length (filter test (numbers_from first count)) → P (get_or (filter test (numbers_from first count)) i 0)
filtered test P first zero h i within = absurd (omega (arith, within))
filtered test P first (suc n) h i within =
    at_cond (test first) P first (filter test (numbers_from (first + 1) n)) (λ e. h first (omega arith) (omega arith) e)
    (filtered test P (first + 1) n (λ k from to e. h k (omega (arith, from)) (omega (arith, to)) e)) i within

push_cond : (b : Bool) (y : ℕ) (zs ys end : List ℕ) → zs ≡ ys ++ end → cond b (y ∷ zs) zs ≡ cond b (y ∷ ys) ys ++ end
push_cond true y zs ys end e = ap (λ xs. y ∷ xs) e
push_cond false y zs ys end e = e

-- a filter of one number more
pub filter_push : (test : ℕ → Bool) (xs : List ℕ) (x : ℕ) → filter test (xs ++ x ∷ []) ≡ filter test xs ++ cond (test x) (x ∷ []) []
filter_push test [] x = refl
filter_push test (y ∷ ys) x = push_cond (test y) y _ (filter test ys) (cond (test x) (x ∷ []) []) (filter_push test ys x)

-- what a function gives, at one number more
pub map_next : {X : Type 0} (f : ℕ → X) (xs : List X) (count : ℕ) (x : X) → xs ≡ map f (numbers_from 0 count) → x ≡ f count → xs ++ x ∷ [] ≡ map f (numbers_from 0 (count + 1))
map_next f xs count x so_far is =
    let next : count + 1 ≡ suc count = omega arith in
    let same : 0 + count ≡ count = omega arith in
    ap (λ ys. ys ++ x ∷ []) so_far ∙ ap (λ y. map f (numbers_from 0 count) ++ y ∷ []) (is ∙ ap f (sym same))
    ∙ sym (ap (λ n. map f (numbers_from 0 n)) next ∙ ap (map f) (numbers_more 0 count) ∙ map_push f (numbers_from 0 count) (0 + count))

pub length_numbers : (first count : ℕ) → length (numbers_from first count) ≡ count
length_numbers first zero = refl
length_numbers first (suc n) = ap suc (length_numbers (first + 1) n)
