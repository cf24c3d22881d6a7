-- The first place at which a string stands in another.
use Rattle.std.proofs.Common.{◌≡◌, ℕ, zero, suc, ◌+◌, ◌<◌, Bool, true, false, nat_eq, List, [], ◌∷◌, ◌++◌, length, drop, refl, sym, ap, ◌∙◌, arith, add-one, suc-add, zero-add}
use Rattle.std.specs.Prelude.{Option, Some, None}
use Rattle.std.specs.List.{starts_with}
use Rattle.std.proofs.lemmas.Slice.Eq.{starts_is}
use Rattle.std.proofs.lemmas.Bool.Decides.{Decides-eqb}
use Rattle.std.proofs.lemmas.List.Prefix.{front_fits, front_reads}
use Rattle.memchr.specs.Find.{OccursAt, FindsNeedle}
use Rattle.memchr.proofs.lemmas.MatchLemmas.{OccursAt-split}
use Rattle.pli_value.specs.Strings.{first_place, index_of, one_after, IndexIsTheFirstPlace}

is_false : (b : Bool) → (b ≡ true → ⊥) → b ≡ false
is_false true h = absurd (h refl)
is_false false h = refl

-- a string begins with another where that stands at its place 0
begins : (hay needle : List ℕ) → starts_with nat_eq hay needle ≡ true → OccursAt hay needle 0
begins hay needle is =
    let whole : hay ≡ needle ++ drop (length needle) hay = (starts_is Decides-eqb hay needle _ refl).0 is in
    record {
      fits = omega (arith, front_fits hay needle _ whole);
      reads = λ j below. rw zero-add (front_reads 0 hay needle _ whole j below);
    }

begun : (hay needle : List ℕ) → OccursAt hay needle 0 → starts_with nat_eq hay needle ≡ true
begun hay needle occurs = (starts_is Decides-eqb hay needle _ refl).1 _ (OccursAt-split hay needle 0 occurs)

-- a place in the rest of a string, and in the whole
after : (x : ℕ) (xs needle : List ℕ) (k : ℕ) → OccursAt xs needle k → OccursAt (x ∷ xs) needle (suc k)
after x xs needle k it = record { fits = omega (arith, it.fits); reads = λ j below. rw suc-add (it.reads j below) }

before : (x : ℕ) (xs needle : List ℕ) (k : ℕ) → OccursAt (x ∷ xs) needle (suc k) → OccursAt xs needle k
before x xs needle k it = record { fits = omega (arith, it.fits); reads = λ j below. rw suc-add at (it.reads j below) }

nowhere : (needle hay : List ℕ) → ((k : ℕ) → OccursAt hay needle k → ⊥) → first_place needle hay ≡ 0
nowhere needle [] never = refl
nowhere needle (x ∷ xs) never =
    let tail : first_place needle xs ≡ 0 = nowhere needle xs (λ k o. never (suc k) (after x xs needle k o)) in
    let not_here : starts_with nat_eq (x ∷ xs) needle ≡ false = is_false _ (λ is. never 0 (begins (x ∷ xs) needle is)) in
    rw not_here (ap one_after tail)

somewhere : (needle hay : List ℕ) (k : ℕ) → 0 < length needle → OccursAt hay needle k → ((j : ℕ) → j < k → OccursAt hay needle j → ⊥)
    → first_place needle hay ≡ k + 1
somewhere needle [] k some it none = absurd (omega (arith, it.fits))
somewhere needle (x ∷ xs) zero some it none = rw (begun (x ∷ xs) needle it) refl
somewhere needle (x ∷ xs) (suc k) some it none =
    let not_here : starts_with nat_eq (x ∷ xs) needle ≡ false = is_false _ (λ is. none 0 (omega arith) (begins (x ∷ xs) needle is)) in
    let tail : first_place needle xs ≡ suc k =
    somewhere needle xs k some (before x xs needle k it) (λ j below o. none (suc j) (omega arith) (after x xs needle j o)) ∙ add-one k in
    rw not_here (ap one_after tail ∙ sym (add-one (suc k)))

-- what a search finds, counted from 1
abbrev pub counted : Option ℕ → ℕ
counted None = 0
counted (Some k) = k + 1

pub index_is : (hay needle : List ℕ) (r : Option ℕ) → 0 < length needle → FindsNeedle hay needle 0 r → counted r ≡ index_of hay needle
index_is hay [] r some found = absurd (omega arith)
index_is hay (y ∷ ys) None some found =
    sym (nowhere (y ∷ ys) hay (λ k it. found k (omega arith) (omega (arith, it.fits)) it))
index_is hay (y ∷ ys) (Some k) some found =
    sym (somewhere (y ∷ ys) hay k some found.1 (λ j below it. found.0.before j (omega arith) below it))

pub index_is_first : IndexIsTheFirstPlace
index_is_first s [] some = absurd (omega arith)
index_is_first s (y ∷ ys) some = (λ place it. somewhere (y ∷ ys) s place some it.0 it.1, λ never. nowhere (y ∷ ys) s never)
