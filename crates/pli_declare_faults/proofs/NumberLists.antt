-- Lists of what belongs to each of some numbers.
use Rattle.std.proofs.Common.{◌≡◌, ℕ, zero, suc, ◌+◌, ◌<◌, ◌≤◌, List, [], ◌∷◌, ◌++◌, map, length, get_or, set, replicate, refl, sym, ap, ◌∙◌, add-zero, zero-add, add-one, arith}
use Rattle.std.proofs.lemmas.List.{map-append}
use Rattle.pli_declare.specs.Tables.{numbers_from}

pub numbers_more : (first count : ℕ) → numbers_from first (suc count) ≡ numbers_from first count ++ (first + count) ∷ []
numbers_more first zero = ap (λ (n : ℕ). n ∷ []) (sym (add-zero first))
numbers_more first (suc count) =
    ap (λ ns. first ∷ ns) (numbers_more (first + 1) count ∙ ap (λ (n : ℕ). numbers_from (first + 1) count ++ n ∷ []) (omega arith))

pub length-numbers : (first count : ℕ) → length (numbers_from first count) ≡ count
length-numbers first zero = refl
length-numbers first (suc count) = ap suc (length-numbers (first + 1) count)

module _ {A : Type 0} where
  pub length_of_numbers : (f : ℕ → A) (first count : ℕ) → length (map f (numbers_from first count)) ≡ count
  length_of_numbers f first zero = refl
  length_of_numbers f first (suc count) = ap suc (length_of_numbers f (first + 1) count)

  pub number_at : (f : ℕ → A) (first count i : ℕ) (d : A) → i < count → get_or (map f (numbers_from first count)) i d ≡ f (first + i)
  number_at f first zero i d h = absurd (omega arith)
  number_at f first (suc count) zero d h = ap f (sym (add-zero first))
  number_at f first (suc count) (suc i) d h = number_at f (first + 1) count i d (omega arith) ∙ ap f (omega arith)

  pub same_of_numbers : (f g : ℕ → A) (first count : ℕ) → ((b : ℕ) → first ≤ b → b < first + count → f b ≡ g b)
      → map f (numbers_from first count) ≡ map g (numbers_from first count)
  same_of_numbers f g first zero h = refl
  same_of_numbers f g first (suc count) h =
      let one : f first ≡ g first = h first (omega arith) (omega arith) in
      let more : map f (numbers_from (first + 1) count) ≡ map g (numbers_from (first + 1) count) =
      same_of_numbers f g (first + 1) count (λ b low high. h b (omega arith) (omega arith)) in
      λ i. one i ∷ more i

  pub replicate_numbers : (x : A) (first count : ℕ) → replicate count x ≡ map (λ b. x) (numbers_from first count)
  replicate_numbers x first zero = refl
  replicate_numbers x first (suc count) = ap (λ xs. x ∷ xs) (replicate_numbers x (first + 1) count)

  pub one_more : (f : ℕ → A) (n : ℕ) (xs : List A) (x : A) → xs ≡ map f (numbers_from 0 n) → x ≡ f n → xs ++ x ∷ [] ≡ map f (numbers_from 0 (n + 1))
  one_more f n xs x before one =
      let more : numbers_from 0 (n + 1) ≡ numbers_from 0 n ++ n ∷ [] = ap (numbers_from 0) (add-one n) ∙ numbers_more 0 n ∙ ap (λ (k : ℕ). numbers_from 0 n ++ k ∷ []) (zero-add n) in
      ap (λ ys. ys ++ x ∷ []) before ∙ ap (λ y. map f (numbers_from 0 n) ++ y ∷ []) one ∙ sym (ap (map f) more ∙ map-append f (numbers_from 0 n) (n ∷ []))

  -- one number's is changed
  pub set_of_numbers : (f g : ℕ → A) (first count i : ℕ) → i < count → ((b : ℕ) → (b ≡ first + i → ⊥) → f b ≡ g b)
      → set (map f (numbers_from first count)) i (g (first + i)) ≡ map g (numbers_from first count)
  set_of_numbers f g first zero i h same = absurd (omega arith)
  set_of_numbers f g first (suc count) zero h same =
      let one : g (first + 0) ≡ g first = ap g (add-zero first) in
      let more : map f (numbers_from (first + 1) count) ≡ map g (numbers_from (first + 1) count) =
      same_of_numbers f g (first + 1) count (λ b low high. same b (λ e. omega arith)) in
      λ k. one k ∷ more k
  set_of_numbers f g first (suc count) (suc i) h same =
      let one : f first ≡ g first = same first (λ e. omega arith) in
      let there : g (first + suc i) ≡ g (first + 1 + i) = ap g (omega arith) in
      let more : set (map f (numbers_from (first + 1) count)) i (g (first + suc i)) ≡ map g (numbers_from (first + 1) count) =
      ap (set (map f (numbers_from (first + 1) count)) i) there ∙ set_of_numbers f g (first + 1) count i (omega arith) (λ b e. same b (λ d. e (omega arith))) in
      λ k. one k ∷ more k
