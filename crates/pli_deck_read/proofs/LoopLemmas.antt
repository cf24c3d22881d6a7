-- Reading values one after the other, as a loop does.
use Rattle.std.proofs.Common.{◌≡◌, ℕ, zero, suc, ◌-◌, ◌+◌, ◌≤◌, ◌<◌, nat_lt, Bool, true, false, cond, List, [], ◌∷◌, ◌++◌, length, take, drop, Result, Ok, Err, refl, sym, ap, ◌∙◌, append_assoc, arith, inl, inr}
use Rattle.std.proofs.lemmas.List.{append-nil}
use Rattle.std.proofs.lemmas.Bool.{lt-ltb, le-ltb, cases_lt}
use Rattle.pli_code.specs.declared.fault.DeckFault.{DeckFault}
use Rattle.pli_code.specs.declared.fault.DeckFault.TheVariants.{Truncated}
use Rattle.pli_base.specs.declared.failure.Failure.{Failure}
use Rattle.pli_base.specs.declared.failure.Failure.TheVariants as errors
use Rattle.pli_base.specs.Results.{◌>>=◌}
use Rattle.pli_code.specs.Fields.{Reader, byte_at, many}
use Rattle.pli_base.specs.answers.FailureAnswers.{Fails}

-- what was read before, and what is still read
abbrev pub in_front : {X : Type 0} → List X → List X × List ℕ → Result (List X × List ℕ) DeckFault
in_front front x = Ok (front ++ x.0, x.1)

abbrev pub with_front : {X : Type 0} → List X → Result (List X × List ℕ) DeckFault → Result (List X × List ℕ) DeckFault
with_front front read = read >>= in_front front

abbrev pub put_first : {X : Type 0} → X → List X × List ℕ → Result (List X × List ℕ) DeckFault
put_first x xs = Ok (x ∷ xs.0, xs.1)

pub regroup : {X : Type 0} (front : List X) (x : X) (read : Result (List X × List ℕ) DeckFault) → with_front front (read >>= put_first x) ≡ with_front (front ++ x ∷ []) read
regroup front x (Ok y) = ap (λ ys. Ok (ys, y.1)) (simp append_assoc)
regroup front x (Err f) = refl

pub goes_on : {X : Type 0} (read : Reader X) (front : List X) (count i : ℕ) (bytes : List ℕ) (x : X) (after : List ℕ) (total : Result (List X × List ℕ) DeckFault) → i < count → read bytes ≡ Ok (x, after)
    → with_front front (many read (count - i) bytes) ≡ total → with_front (front ++ x ∷ []) (many read (count - (i + 1)) after) ≡ total
unfolding many
goes_on read front count i bytes x after total lt h so_far =
    let k : count - i ≡ suc (count - (i + 1)) = omega arith in
    let one : with_front front (many read (count - i) bytes) ≡ with_front (front ++ x ∷ []) (many read (count - (i + 1)) after) = rw (k, h) (regroup front x (many read (count - (i + 1)) after)) in
    sym one ∙ so_far

pub ends : {X : Type 0} (read : Reader X) (e : Failure DeckFault) (front : List X) (count i : ℕ) (bytes : List ℕ) (total : Result (List X × List ℕ) DeckFault) → i < count → Fails e (read bytes)
    → with_front front (many read (count - i) bytes) ≡ total → Fails e total
unfolding many
ends read errors.OutOfMemory front count i bytes total lt h so_far = tt
ends read (errors.Fault f) front count i bytes total lt h so_far =
    let k : count - i ≡ suc (count - (i + 1)) = omega arith in
    let one : with_front front (many read (count - i) bytes) ≡ Err f = rw (k, h) refl in
    sym so_far ∙ one

pub is_done : {X : Type 0} (read : Reader X) (front : List X) (count i : ℕ) (bytes : List ℕ) (total : Result (List X × List ℕ) DeckFault) → count ≤ i → with_front front (many read (count - i) bytes) ≡ total → total ≡ Ok (front, bytes)
unfolding many
is_done read front count i bytes total le so_far =
    let k : count - i ≡ 0 = omega arith in
    let one : with_front front (many read (count - i) bytes) ≡ Ok (front, bytes) = rw k (ap (λ xs. Ok (xs, bytes)) (append-nil front)) in
    sym so_far ∙ one

-- so many bytes, if there are so many
abbrev front_of : (short : Bool) → ℕ → List ℕ → Result (List ℕ × List ℕ) DeckFault
front_of short n bytes = cond short (Err Truncated) (Ok (take n bytes, drop n bytes))

one_more : (short : Bool) (b : ℕ) (n : ℕ) (bytes : List ℕ) → (front_of short n bytes >>= put_first b) ≡ front_of short (suc n) (b ∷ bytes)
one_more true b n bytes = refl
one_more false b n bytes = refl

same_test : (n m : ℕ) → nat_lt m n ≡ nat_lt (suc m) (suc n)
same_test n m = elim (cases_lt m n) [
  | inl lt ↦ lt-ltb m n lt ∙ sym (lt-ltb (suc m) (suc n) (omega arith))
  | inr le ↦ le-ltb m n le ∙ sym (le-ltb (suc m) (suc n) (omega arith))
]

pub many_bytes : (count : ℕ) (bytes : List ℕ) → many byte_at count bytes ≡ front_of (nat_lt (length bytes) count) count bytes
unfolding many byte_at
many_bytes zero bytes = ap (λ short. front_of short 0 bytes) (sym (le-ltb (length bytes) 0 (omega arith)))
many_bytes (suc n) [] = ap (λ short. front_of short (suc n) []) (sym (lt-ltb 0 (suc n) (omega arith)))
many_bytes (suc n) (b ∷ bytes) =
    ap (λ r. r >>= put_first b) (many_bytes n bytes) ∙ one_more (nat_lt (length bytes) n) b n bytes
    ∙ ap (λ short. front_of short (suc n) (b ∷ bytes)) (same_test n (length bytes))

pub text_read : (count : ℕ) (bytes : List ℕ) → count ≤ length bytes → many byte_at count bytes ≡ Ok (take count bytes, drop count bytes)
text_read count bytes le = many_bytes count bytes ∙ ap (λ short. front_of short count bytes) (le-ltb (length bytes) count le)

pub text_short : (count : ℕ) (bytes : List ℕ) → length bytes < count → many byte_at count bytes ≡ Err Truncated
text_short count bytes lt = many_bytes count bytes ∙ ap (λ short. front_of short count bytes) (lt-ltb (length bytes) count lt)
