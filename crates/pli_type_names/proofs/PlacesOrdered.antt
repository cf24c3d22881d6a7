-- Places in the order of the text, one after another.
use Rattle.std.proofs.Common.{◌≡◌, ℕ, zero, suc, ◌+◌, ◌<◌, ◌≤◌, nat_eq, List, ◌∷◌, map, drop, length, get_or, slice_set, replicate, refl, sym, ap, ◌∙◌, arith}
use Rattle.std.specs.Prelude.{if◌then◌else◌}
use Rattle.std.proofs.lemmas.Bool.{cond-true, cond-false, eq-eqb, ne_eqb}
use Rattle.std.proofs.lemmas.List.{drop_all, drop_more}
use Rattle.pli_type_rules.specs.TextOrder.{numbers_from, place_from}
use Rattle.pli_type_rules.proofs.TextNumbers.{numbers_alike}

chosen : {A : Type 0} (m n : ℕ) (x y : A) → m ≡ n → (if nat_eq m n then x else y) ≡ x
chosen m n x y e = cond-true _ _ _ (eq-eqb m n e)

other : {A : Type 0} (m n : ℕ) (x y : A) → (m ≡ n → ⊥) → (if nat_eq m n then x else y) ≡ y
other m n x y e = cond-false _ _ _ (ne_eqb m n e)

-- what is set at one number is given there alone
set_given : {A : Type 0} (g : ℕ → A) (v : A) (from count i m : ℕ) → from + i ≡ m
    → slice_set (map g (numbers_from from count)) i v ≡ map (λ n. if nat_eq m n then v else g n) (numbers_from from count)
set_given g v from zero i m e = refl
set_given g v from (suc count) zero m e =
    ap (λ x. x ∷ map g (numbers_from (suc from) count)) (sym (chosen m from v (g from) (omega (arith, e))))
    ∙ ap (λ xs. (if nat_eq m from then v else g from) ∷ xs)
    (numbers_alike g (λ n. if nat_eq m n then v else g n) (suc from) count
    (λ n low high. sym (other m n v (g n) (λ same. absurd (omega (arith, e, same, low))))))
set_given g v from (suc count) (suc i) m e =
    ap (λ x. x ∷ slice_set (map g (numbers_from (suc from) count)) i v) (sym (other m from v (g from) (λ same. absurd (omega (arith, e, same)))))
    ∙ ap (λ xs. (if nat_eq m from then v else g from) ∷ xs) (set_given g v (suc from) count i m (omega (arith, e)))

-- the place of one number more
pub place_more : (numbers : List ℕ) (place m count : ℕ) → place < length numbers → m ≡ get_or numbers place 0
    → slice_set (map (λ n. place_from (place + 1) n (drop (place + 1) numbers)) (numbers_from 0 count)) m place
    ≡ map (λ n. place_from place n (drop place numbers)) (numbers_from 0 count)
place_more numbers place m count h is =
    let next : place + 1 ≡ suc place = omega arith in
    let rest = drop (place + 1) numbers in
    let cut : m ∷ rest ≡ drop place numbers = ap (λ n. n ∷ rest) is ∙ sym (drop_more numbers place 0 h) in
    set_given (λ n. place_from (place + 1) n rest) place 0 count m m (omega arith)
    ∙ ap (λ p. map (λ n. if nat_eq m n then place else place_from p n rest) (numbers_from 0 count)) next
    ∙ ap (λ ns. map (λ n. place_from place n ns) (numbers_from 0 count)) cut

none_placed : (count from : ℕ) → replicate count zero ≡ map (λ n. 0) (numbers_from from count)
none_placed zero from = refl
none_placed (suc count) from = ap (λ ns. 0 ∷ ns) (none_placed count (suc from))

-- no places, after all numbers
pub places_first : (numbers : List ℕ) (place : ℕ) → length numbers ≤ place
    → replicate (length numbers) zero ≡ map (λ n. place_from place n (drop place numbers)) (numbers_from 0 (length numbers))
places_first numbers place h =
    none_placed (length numbers) 0
    ∙ ap (λ ns. map (λ n. place_from place n ns) (numbers_from 0 (length numbers))) (sym (drop_all place numbers h))
