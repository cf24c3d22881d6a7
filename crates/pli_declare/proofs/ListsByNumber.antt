-- Lists with one thing for each number.
use Rattle.std.proofs.Common.{◌≡◌, ℕ, zero, suc, ◌+◌, ◌<◌, List, [], ◌∷◌, ◌++◌, add-one, length, map, get_or, ap, sym, ◌∙◌, subst, arith}
use Rattle.std.proofs.lemmas.List.{length-map, get_or-map, map_push}
use Rattle.pli_declare.specs.Tables.{numbers_from}

pub numbers_length : (first count : ℕ) → length (numbers_from first count) ≡ count
numbers_length first zero = omega arith
numbers_length first (suc count) = ap suc (numbers_length (first + 1) count) ∙ omega arith

pub number_at : (first count i d : ℕ) → i < count → get_or (numbers_from first count) i d ≡ first + i
number_at first zero i d h = absurd (omega arith)
number_at first (suc count) zero d h = omega arith
number_at first (suc count) (suc i) d h = number_at (first + 1) count i d (omega arith) ∙ omega arith

pub made_length : {X : Type 0} (f : ℕ → X) (count : ℕ) → length (map f (numbers_from 0 count)) ≡ count
made_length f count = length-map (numbers_from 0 count) f ∙ numbers_length 0 count

pub made_at : {X : Type 0} (f : ℕ → X) (count i : ℕ) (d : X) → i < count → get_or (map f (numbers_from 0 count)) i d ≡ f i
made_at f count i d h =
    let within : i < length (numbers_from 0 count) = subst (λ n. i < n) (sym (numbers_length 0 count)) h in
    get_or-map f (numbers_from 0 count) i 0 d within ∙ ap f (number_at 0 count i 0 h ∙ omega arith)

-- where a list is seen as the things of numbers
pub seen_length : {X Y : Type 0} (view : X → Y) (f : ℕ → Y) (xs : List X) (count : ℕ) → map view xs ≡ map f (numbers_from 0 count) → length xs ≡ count
seen_length view f xs count e = sym (length-map xs view) ∙ ap length e ∙ made_length f count

pub seen_at : {X Y : Type 0} (view : X → Y) (f : ℕ → Y) (xs : List X) (count i : ℕ) (d : X) → map view xs ≡ map f (numbers_from 0 count) → i < count → view (get_or xs i d) ≡ f i
seen_at view f xs count i d e h =
    let within : i < length xs = subst (λ n. i < n) (sym (seen_length view f xs count e)) h in
    sym (get_or-map view xs i d (view d) within) ∙ ap (λ ys. get_or ys i (view d)) e ∙ made_at f count i (view d) h

numbers_more : (first count : ℕ) → numbers_from first (count + 1) ≡ numbers_from first count ++ (first + count) ∷ []
numbers_more first zero = ap (λ n. n ∷ []) (omega arith)
numbers_more first (suc count) =
    let here : suc count ≡ count + 1 = omega arith in
    let next : (first + 1) + count ≡ first + suc count = omega arith in
    let inner : numbers_from (first + 1) (suc count) ≡ numbers_from (first + 1) count ++ (first + suc count) ∷ [] =
    ap (λ n. numbers_from (first + 1) n) here ∙ numbers_more (first + 1) count ∙ ap (λ n. numbers_from (first + 1) count ++ n ∷ []) next in
    ap (λ n. numbers_from first n) (add-one (suc count)) ∙ ap (λ ns. first ∷ ns) inner

pub made_more : {X : Type 0} (f : ℕ → X) (count : ℕ) → map f (numbers_from 0 (count + 1)) ≡ map f (numbers_from 0 count) ++ f count ∷ []
made_more f count = ap (map f) (numbers_more 0 count) ∙ map_push f (numbers_from 0 count) (0 + count) ∙ ap (λ n. map f (numbers_from 0 count) ++ f n ∷ []) (omega arith)
