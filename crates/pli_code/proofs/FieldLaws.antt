-- What a field reads is what it spells, and what it spells it reads again: for each way to make a field.
use Rattle.std.proofs.Common.{◌≡◌, ℕ, zero, suc, ◌+◌, ◌*◌, ◌%◌, ◌^◌, ◌<◌, ◌≤◌, ℤ, FitsSigned, unsigned_abs, nat_lt, Bool, true, false, ◌&&◌, cond, List, [], ◌∷◌, ◌++◌, length, take, drop, Result, Ok, Err, refl, sym, ap, subst, ◌∙◌, append_assoc, arith, inl, inr}
use Rattle.std.specs.List.{flat_map, list_all}
use Rattle.std.specs.Int.{Width, w32, w64, cast_unsigned, cast_signed, is_in_range}
use Rattle.std.proofs.lemmas.Bool.{cases_lt, ltb-true, leb-true, lt-ltb, le-ltb, and_parts}
use Rattle.std.proofs.lemmas.Int.{to_z-of_z, of_z-to_z, fits_signed_from_abs}
use Rattle.std.proofs.lemmas.List.{drop_at, length-append, length-take, get_or-drop, get_or-take, get_or_past}
use Rattle.std.proofs.lemmas.List.Concat.{flat_map-cons}
use Rattle.std.proofs.lemmas.Nat.{be_bytes_2, be_bytes_4, be_bytes_8}
use Rattle.std.proofs.Math.Facts.{Fits-of_z}
use Rattle.byteorder.specs.Endian.{big_bytes, big_number}
use Rattle.byteorder.specs.Numbers.{big_number-reads_back, length-bytes_high_first}
use Rattle.pli_code.specs.declared.fault.DeckFault.{DeckFault}
use Rattle.pli_code.specs.declared.fault.DeckFault.TheVariants.{Truncated, OutOfRange}
use Rattle.pli_base.specs.Results.{◌>>=◌}
use Rattle.pli_code.specs.Fields.{AreBytes, BothWays, Reader, Field, nothing, byte_at, byte, number_at, number, held, checked, may_begin, opened_by, opened, is_near, signed, followed, ◌⊗◌, shaped, many, list_of, u2, u4, from_to}

-- ---- steps that did not fail

pub AreBytes-drop : (n : ℕ) (bytes : List ℕ) → AreBytes bytes → AreBytes (drop n bytes)
AreBytes-drop n bytes h i = rw get_or-drop (h (n + i))

pub AreBytes-take : (n : ℕ) (bytes : List ℕ) → AreBytes bytes → AreBytes (take n bytes)
AreBytes-take n bytes h i =
    elim (cases_lt i n) [
      | inl lt ↦ rw (get_or-take n bytes i 0 lt) (h i)
      | inr le ↦ rw (get_or_past (take n bytes) i 0 (omega (arith, length-take n bytes))) (omega arith)
    ]

pub bind_ok : {A B : Type 0} (r : Result A DeckFault) (f : A → Result B DeckFault) (y : B) → (r >>= f) ≡ Ok y → (x : A) × (r ≡ Ok x) × (f x ≡ Ok y)
bind_ok (Ok x) f y e = (x, refl, e)
bind_ok (Err d) f y e = absurd cc

abbrev done : {A : Type 0} → A → Result A DeckFault
done x = Ok x

pub ok_is : {A : Type 0} (x y : A) → done x ≡ done y → x ≡ y
ok_is x y e = cc

pub held_ok : {A : Type 0} (good : Bool) (x y : A) → held good x ≡ Ok y → (good ≡ true) × (x ≡ y)
held_ok true x y e = (refl, ok_is x y e)
held_ok false x y e = absurd cc

pub guard_ok : {A : Type 0} (short : Bool) (f : DeckFault) (r : Result A DeckFault) (y : A) → cond short (Err f) r ≡ Ok y → (short ≡ false) × (r ≡ Ok y)
guard_ok true f r y e = absurd cc
guard_ok false f r y e = (refl, e)

pub both_true : (a b : Bool) → a ≡ true → b ≡ true → (a && b) ≡ true
both_true a b p q = rw (p, q) refl

-- ---- the two laws

-- what a field took from the front
pub record Taken {X : Type 0} (f : Field X) (bytes : List ℕ) (x : X) (rest : List ℕ) : Type 0 where
  pub parts : bytes ≡ f.bytes_of x ++ rest
  pub fitting : f.fits x ≡ true
  pub rest_bytes : AreBytes rest

pub record IsField {X : Type 0} (f : Field X) : Type 0 where
  pub takes : (bytes : List ℕ) (x : X) (rest : List ℕ) → AreBytes bytes → f.read bytes ≡ Ok (x, rest) → Taken f bytes x rest
  pub again : (x : X) (rest : List ℕ) → f.fits x ≡ true → f.read (f.bytes_of x ++ rest) ≡ Ok (x, rest)

-- what was taken is what was answered
pub answered : {X : Type 0} (f : Field X) (bytes : List ℕ) (p q : X × List ℕ) → done p ≡ done q → Taken f bytes p.0 p.1 → Taken f bytes q.0 q.1
answered f bytes p q e t = subst (λ r. Taken f bytes r.0 r.1) (ok_is p q e) t

-- ---- no bytes, one byte, numbers

pub nothing_law : IsField nothing
nothing_law = record {
  takes = λ bytes x rest b e. answered nothing bytes (tt, bytes) (x, rest) e (record { parts = refl; fitting = refl; rest_bytes = b });
  again = λ x rest h. refl;
}

byte_takes : (bytes : List ℕ) (x : ℕ) (rest : List ℕ) → AreBytes bytes → byte_at bytes ≡ Ok (x, rest) → Taken byte bytes x rest
unfolding byte_at
byte_takes [] x rest b e = absurd cc
byte_takes (c ∷ bytes) x rest b e =
    answered byte (c ∷ bytes) (c, bytes) (x, rest) e (record { parts = refl; fitting = lt-ltb c 256 (b 0); rest_bytes = λ i. b (suc i) })

pub byte_again : (x : ℕ) (rest : List ℕ) → byte_at (x ∷ rest) ≡ Ok (x, rest)
unfolding byte_at
byte_again x rest = refl

pub byte_law : IsField byte
byte_law = record { takes = byte_takes; again = λ x rest h. byte_again x rest }

number_again : (count n : ℕ) (rest : List ℕ) → nat_lt n (256 ^ count) ≡ true → number_at count (big_bytes count n ++ rest) ≡ Ok (n, rest)
unfolding number_at
number_again count n rest h =
    let long = length-bytes_high_first count n in
    let enough : nat_lt (length (big_bytes count n ++ rest)) count ≡ false = le-ltb _ _ (omega (arith, long, length-append (big_bytes count n) rest)) in
    rw (enough, big_number-reads_back count n rest (ltb-true n (256 ^ count) h), drop_at (big_bytes count n) rest count long) refl

-- a list of these bytes alone
alone_2 : (a b : ℕ) → a < 256 → b < 256 → AreBytes (a ∷ b ∷ [])
alone_2 a b p q zero = p
alone_2 a b p q (suc zero) = q
alone_2 a b p q (suc (suc i)) = omega arith

alone_4 : (a b c d : ℕ) → a < 256 → b < 256 → c < 256 → d < 256 → AreBytes (a ∷ b ∷ c ∷ d ∷ [])
alone_4 a b c d p q r s zero = p
alone_4 a b c d p q r s (suc zero) = q
alone_4 a b c d p q r s (suc (suc zero)) = r
alone_4 a b c d p q r s (suc (suc (suc zero))) = s
alone_4 a b c d p q r s (suc (suc (suc (suc i)))) = omega arith

alone_8 : (a b c d e f g h : ℕ) → a < 256 → b < 256 → c < 256 → d < 256 → e < 256 → f < 256 → g < 256 → h < 256 → AreBytes (a ∷ b ∷ c ∷ d ∷ e ∷ f ∷ g ∷ h ∷ [])
alone_8 a b c d e f g h p q r s t u v w zero = p
alone_8 a b c d e f g h p q r s t u v w (suc zero) = q
alone_8 a b c d e f g h p q r s t u v w (suc (suc zero)) = r
alone_8 a b c d e f g h p q r s t u v w (suc (suc (suc zero))) = s
alone_8 a b c d e f g h p q r s t u v w (suc (suc (suc (suc i)))) = alone_4 e f g h t u v w i

-- a count of one byte, and none
pub count_read : (b : ℕ) (bytes : List ℕ) → number_at 1 (b ∷ bytes) ≡ Ok (b, bytes)
unfolding number_at
count_read b bytes =
    let enough : nat_lt (length (b ∷ bytes)) 1 ≡ false = le-ltb _ _ (omega arith) in
    let same : b * 1 + 0 ≡ b = omega arith in
    rw enough (ap (λ n. Ok (n, bytes)) same)

pub no_count : number_at 1 [] ≡ Err Truncated
unfolding number_at
no_count = refl

count_takes : (bytes : List ℕ) (x : ℕ) (rest : List ℕ) → AreBytes bytes → number_at 1 bytes ≡ Ok (x, rest) → Taken (number 1) bytes x rest
count_takes [] x rest fits e = absurd (let no = sym no_count ∙ e in cc)
count_takes (a ∷ bytes) x rest fits e =
    let low : a % 256 ≡ a = omega (arith, fits 0) in
    answered (number 1) (a ∷ bytes) (a, bytes) (x, rest) (sym (count_read a bytes) ∙ e) (record {
      parts = ap (λ n. n ∷ bytes) (sym low);
      fitting = lt-ltb a (256 ^ 1) (omega (arith, fits 0));
      rest_bytes = λ i. fits (suc i);
    })

pub count_law : IsField (number 1)
count_law = record { takes = count_takes; again = number_again 1 }

number_takes_2 : (bytes : List ℕ) (x : ℕ) (rest : List ℕ) → AreBytes bytes → number_at 2 bytes ≡ Ok (x, rest) → Taken (number 2) bytes x rest
unfolding number_at
number_takes_2 [] x rest fits e = absurd cc
number_takes_2 (a ∷ []) x rest fits e = absurd cc
number_takes_2 (a ∷ b ∷ bytes) x rest fits e =
    let g = guard_ok (nat_lt (length (a ∷ b ∷ bytes)) 2) Truncated (Ok (big_number 2 (a ∷ b ∷ bytes), bytes)) (x, rest) e in
    let n = big_number 2 (a ∷ b ∷ bytes) in
    let front : big_bytes 2 n ≡ a ∷ b ∷ [] = be_bytes_2 (a ∷ b ∷ []) n refl (alone_2 a b (fits 0) (fits 1)) (omega arith) in
    answered (number 2) (a ∷ b ∷ bytes) (n, bytes) (x, rest) g.1 (record {
      parts = ap (λ f. f ++ bytes) (sym front);
      fitting = lt-ltb n (256 ^ 2) (omega (arith, fits 0, fits 1));
      rest_bytes = λ i. fits (suc (suc i));
    })

number_takes_4 : (bytes : List ℕ) (x : ℕ) (rest : List ℕ) → AreBytes bytes → number_at 4 bytes ≡ Ok (x, rest) → Taken (number 4) bytes x rest
unfolding number_at
number_takes_4 [] x rest fits e = absurd cc
number_takes_4 (a ∷ []) x rest fits e = absurd cc
number_takes_4 (a ∷ b ∷ []) x rest fits e = absurd cc
number_takes_4 (a ∷ b ∷ c ∷ []) x rest fits e = absurd cc
number_takes_4 (a ∷ b ∷ c ∷ d ∷ bytes) x rest fits e =
    let g = guard_ok (nat_lt (length (a ∷ b ∷ c ∷ d ∷ bytes)) 4) Truncated (Ok (big_number 4 (a ∷ b ∷ c ∷ d ∷ bytes), bytes)) (x, rest) e in
    let n = big_number 4 (a ∷ b ∷ c ∷ d ∷ bytes) in
    let front : big_bytes 4 n ≡ a ∷ b ∷ c ∷ d ∷ [] = be_bytes_4 (a ∷ b ∷ c ∷ d ∷ []) n refl (alone_4 a b c d (fits 0) (fits 1) (fits 2) (fits 3)) (omega arith) in
    answered (number 4) (a ∷ b ∷ c ∷ d ∷ bytes) (n, bytes) (x, rest) g.1 (record {
      parts = ap (λ f. f ++ bytes) (sym front);
      fitting = lt-ltb n (256 ^ 4) (omega (arith, fits 0, fits 1, fits 2, fits 3));
      rest_bytes = λ i. fits (suc (suc (suc (suc i))));
    })

number_takes_8 : (bytes : List ℕ) (x : ℕ) (rest : List ℕ) → AreBytes bytes → number_at 8 bytes ≡ Ok (x, rest) → Taken (number 8) bytes x rest
unfolding number_at
number_takes_8 [] x rest fits e = absurd cc
number_takes_8 (a ∷ []) x rest fits e = absurd cc
number_takes_8 (a ∷ b ∷ []) x rest fits e = absurd cc
number_takes_8 (a ∷ b ∷ c ∷ []) x rest fits e = absurd cc
number_takes_8 (a ∷ b ∷ c ∷ d ∷ []) x rest fits e = absurd cc
number_takes_8 (a ∷ b ∷ c ∷ d ∷ f ∷ []) x rest fits e = absurd cc
number_takes_8 (a ∷ b ∷ c ∷ d ∷ f ∷ g ∷ []) x rest fits e = absurd cc
number_takes_8 (a ∷ b ∷ c ∷ d ∷ f ∷ g ∷ h ∷ []) x rest fits e = absurd cc
number_takes_8 (a ∷ b ∷ c ∷ d ∷ f ∷ g ∷ h ∷ i ∷ bytes) x rest fits e =
    let front = a ∷ b ∷ c ∷ d ∷ f ∷ g ∷ h ∷ i ∷ [] in
    let all = a ∷ b ∷ c ∷ d ∷ f ∷ g ∷ h ∷ i ∷ bytes in
    let n = big_number 8 all in
    let taken = guard_ok (nat_lt (length all) 8) Truncated (Ok (n, bytes)) (x, rest) e in
    let same : big_bytes 8 n ≡ front = be_bytes_8 front n refl (alone_8 a b c d f g h i (fits 0) (fits 1) (fits 2) (fits 3) (fits 4) (fits 5) (fits 6) (fits 7)) (omega arith) in
    answered (number 8) all (n, bytes) (x, rest) taken.1 (record {
      parts = ap (λ s. s ++ bytes) (sym same);
      fitting = lt-ltb n (256 ^ 8) (omega (arith, fits 0, fits 1, fits 2, fits 3, fits 4, fits 5, fits 6, fits 7));
      rest_bytes = λ k. fits (suc (suc (suc (suc (suc (suc (suc (suc k))))))));
    })

pub u2_law : IsField u2
u2_law = record { takes = number_takes_2; again = number_again 2 }

pub u4_law : IsField u4
u4_law = record { takes = number_takes_4; again = number_again 4 }

-- ---- fields made of fields

abbrev as_signed : Width → (bound : ℕ) → ℕ × List ℕ → Result (ℤ × List ℕ) DeckFault
as_signed width bound n = held (is_near bound (cast_signed width n.0)) (cast_signed width n.0, n.1)

abbrev pub with_first : {X Y : Type 0} → X → Y × List ℕ → Result ((X × Y) × List ℕ) DeckFault
with_first x y = Ok ((x, y.0), y.1)

abbrev pub then_second : {X Y : Type 0} → (X → Field Y) → X × List ℕ → Result ((X × Y) × List ℕ) DeckFault
then_second g x = (g x.0).read x.1 >>= with_first x.0

abbrev pub as_shaped : {X Y : Type 0} → (X → Y) → X × List ℕ → Result (Y × List ℕ) DeckFault
as_shaped to x = Ok (to x.0, x.1)

pub checked_law : {X : Type 0} (good : X → Bool) (f : Field X) → IsField f → IsField (checked good f)
checked_law {X} good f it = record { takes = take_one; again = once_more }
  where
    take_one : (bytes : List ℕ) (x : X) (rest : List ℕ) → AreBytes bytes → (f.read bytes >>= λ p. held (good p.0) p) ≡ Ok (x, rest) → Taken (checked good f) bytes x rest
    take_one bytes x rest b e =
        let r = bind_ok (f.read bytes) (λ p. held (good p.0) p) (x, rest) e in
        let h = held_ok (good r.0.0) r.0 (x, rest) r.2 in
        let t = it.takes bytes r.0.0 r.0.1 b r.1 in
        subst (λ p. Taken (checked good f) bytes p.0 p.1) h.1 (record { parts = t.parts; fitting = both_true _ _ t.fitting h.0; rest_bytes = t.rest_bytes })

    once_more : (x : X) (rest : List ℕ) → (f.fits x && good x) ≡ true → (f.read (f.bytes_of x ++ rest) >>= λ p. held (good p.0) p) ≡ Ok (x, rest)
    once_more x rest h =
        let both = and_parts (f.fits x) (good x) h in
        ap (λ r. r >>= λ p. held (good p.0) p) (it.again x rest both.0) ∙ ap (λ g. held g (x, rest)) both.1

-- bytes begin with one that may stand first
abbrev pub Opens : (opens : ℕ → Bool) → List ℕ → Type 0
Opens opens [] = ⊥
Opens opens (b ∷ bytes) = opens b ≡ true

opens_ok : {A : Type 0} (good : Bool) (r : Result A DeckFault) (y : A) → cond good r (Err OutOfRange) ≡ Ok y → (good ≡ true) × (r ≡ Ok y)
opens_ok true r y e = (refl, e)
opens_ok false r y e = absurd cc

begins_so : (opens : ℕ → Bool) (front rest : List ℕ) → Opens opens front → may_begin opens (front ++ rest) ≡ true
begins_so opens [] rest o = absurd o
begins_so opens (b ∷ front) rest o = o

pub opened_read : {X : Type 0} (opens : ℕ → Bool) (read : Reader X) (bytes : List ℕ) (y : X × List ℕ) → opened_by opens read bytes ≡ Ok y
    → (may_begin opens bytes ≡ true) × (read bytes ≡ Ok y)
opened_read opens read bytes y e = opens_ok (may_begin opens bytes) (read bytes) y e

pub opened_again : {X : Type 0} (opens : ℕ → Bool) (read : Reader X) (front rest : List ℕ) (y : X × List ℕ) → Opens opens front → read (front ++ rest) ≡ Ok y → opened_by opens read (front ++ rest) ≡ Ok y
opened_again opens read front rest y o h = rw (begins_so opens front rest o) h

pub opened_law : {X : Type 0} (opens : ℕ → Bool) (f : Field X) → IsField f → ((x : X) → f.fits x ≡ true → Opens opens (f.bytes_of x)) → IsField (opened opens f)
opened_law {X} opens f it first = record { takes = take_one; again = once_more }
  where
    take_one : (bytes : List ℕ) (x : X) (rest : List ℕ) → AreBytes bytes → opened_by opens f.read bytes ≡ Ok (x, rest) → Taken (opened opens f) bytes x rest
    take_one bytes x rest b e =
        let t = it.takes bytes x rest b (opened_read opens f.read bytes (x, rest) e).1 in
        record { parts = t.parts; fitting = t.fitting; rest_bytes = t.rest_bytes }

    once_more : (x : X) (rest : List ℕ) → f.fits x ≡ true → opened_by opens f.read (f.bytes_of x ++ rest) ≡ Ok (x, rest)
    once_more x rest h = opened_again opens f.read (f.bytes_of x) rest (x, rest) (first x h) (it.again x rest h)

-- numbers of so many bytes, and signed ones of their width that are no further from 0 than the bound, stand for each other
record StandFor (count : ℕ) (width : Width) (bound : ℕ) : Type 0 where
  back : (n : ℕ) → n < 256 ^ count → cast_unsigned width (cast_signed width n) ≡ n
  below : (z : ℤ) → unsigned_abs z ≤ bound → cast_unsigned width z < 256 ^ count
  there : (z : ℤ) → unsigned_abs z ≤ bound → cast_signed width (cast_unsigned width z) ≡ z

signed_law : (count : ℕ) (width : Width) (bound : ℕ) → IsField (number count) → StandFor count width bound → IsField (signed count width bound)
signed_law count width bound numbers stand = record { takes = take_one; again = once_more }
  where
    take_one : (bytes : List ℕ) (x : ℤ) (rest : List ℕ) → AreBytes bytes → (signed count width bound).read bytes ≡ Ok (x, rest) → Taken (signed count width bound) bytes x rest
    take_one bytes x rest b e =
        let r = bind_ok (number_at count bytes) (as_signed width bound) (x, rest) e in
        let h = held_ok (is_near bound (cast_signed width r.0.0)) (cast_signed width r.0.0, r.0.1) (x, rest) r.2 in
        let t = numbers.takes bytes r.0.0 r.0.1 b r.1 in
        let same : cast_unsigned width (cast_signed width r.0.0) ≡ r.0.0 = stand.back r.0.0 (ltb-true r.0.0 (256 ^ count) t.fitting) in
        subst (λ p. Taken (signed count width bound) bytes p.0 p.1) h.1 (record { parts = t.parts ∙ ap (λ n. big_bytes count n ++ r.0.1) (sym same); fitting = h.0; rest_bytes = t.rest_bytes })

    once_more : (x : ℤ) (rest : List ℕ) → is_near bound x ≡ true → (signed count width bound).read (big_bytes count (cast_unsigned width x) ++ rest) ≡ Ok (x, rest)
    once_more x rest h =
        let near = leb-true (unsigned_abs x) bound h in
        let n = cast_unsigned width x in
        ap (λ r. r >>= as_signed width bound) (numbers.again n rest (lt-ltb n (256 ^ count) (stand.below x near)))
        ∙ ap (λ z. held (is_near bound z) (z, rest)) (stand.there x near) ∙ ap (λ g. held g (x, rest)) h

word_fits : (bound : ℕ) → bound < 2147483648 → (z : ℤ) → unsigned_abs z ≤ bound → FitsSigned w32 z
word_fits bound small z near = let below : unsigned_abs z < 2 ^ 31 = omega (arith, near, small) in fits_signed_from_abs w32 z below

pub word_law : (bound : ℕ) → bound < 2147483648 → IsField (signed 4 w32 bound)
word_law bound small =
    signed_law 4 w32 bound u4_law (record {
      back = of_z-to_z w32;
      below = λ z near. (Fits-of_z (word_fits bound small z near)).fits;
      there = λ z near. to_z-of_z w32 z (word_fits bound small z near);
    })

long_fits : (bound : ℕ) → bound < 9223372036854775808 → (z : ℤ) → unsigned_abs z ≤ bound → FitsSigned w64 z
long_fits bound small z near = let below : unsigned_abs z < 2 ^ 63 = omega (arith, near, small) in fits_signed_from_abs w64 z below

pub long_law : (bound : ℕ) → bound < 9223372036854775808 → IsField (signed 8 w64 bound)
long_law bound small =
    signed_law 8 w64 bound (record { takes = number_takes_8; again = number_again 8 }) (record {
      back = of_z-to_z w64;
      below = λ z near. (Fits-of_z (long_fits bound small z near)).fits;
      there = λ z near. to_z-of_z w64 z (long_fits bound small z near);
    })

pub followed_law : {X Y : Type 0} (f : Field X) (g : X → Field Y) → IsField f → ((x : X) → IsField (g x)) → IsField (followed f g)
followed_law {X} {Y} f g first second = record { takes = take_both; again = once_more }
  where
    take_both : (bytes : List ℕ) (p : X × Y) (rest : List ℕ) → AreBytes bytes → (followed f g).read bytes ≡ Ok (p, rest) → Taken (followed f g) bytes p rest
    take_both bytes p rest b e =
        let r = bind_ok (f.read bytes) (then_second g) (p, rest) e in
        let s = bind_ok ((g r.0.0).read r.0.1) (with_first r.0.0) (p, rest) r.2 in
        let t = first.takes bytes r.0.0 r.0.1 b r.1 in
        let u = (second r.0.0).takes r.0.1 s.0.0 s.0.1 t.rest_bytes s.1 in
        answered (followed f g) bytes ((r.0.0, s.0.0), s.0.1) (p, rest) s.2 (record {
          parts = t.parts ∙ ap (λ bs. f.bytes_of r.0.0 ++ bs) u.parts ∙ sym (append_assoc (f.bytes_of r.0.0) ((g r.0.0).bytes_of s.0.0) s.0.1);
          fitting = both_true _ _ t.fitting u.fitting;
          rest_bytes = u.rest_bytes;
        })

    once_more : (p : X × Y) (rest : List ℕ) → (f.fits p.0 && (g p.0).fits p.1) ≡ true → (followed f g).read ((f.bytes_of p.0 ++ (g p.0).bytes_of p.1) ++ rest) ≡ Ok (p, rest)
    once_more p rest h =
        let both = and_parts (f.fits p.0) ((g p.0).fits p.1) h in
        let after = (g p.0).bytes_of p.1 ++ rest in
        ap (λ bs. f.read bs >>= then_second g) (append_assoc (f.bytes_of p.0) ((g p.0).bytes_of p.1) rest)
        ∙ ap (λ r. r >>= then_second g) (first.again p.0 after both.0)
        ∙ ap (λ r. r >>= with_first p.0) ((second p.0).again p.1 rest both.1)

pub pair_law : {X Y : Type 0} (f : Field X) (g : Field Y) → IsField f → IsField g → IsField (f ⊗ g)
pair_law f g first second = followed_law f (λ _. g) first (λ _. second)

infixr 40 ◌⊠◌
pub ◌⊠◌ : {X Y : Type 0} {f : Field X} {g : Field Y} → IsField f → IsField g → IsField (f ⊗ g)
first ⊠ second = pair_law _ _ first second

pub shaped_law : {X Y : Type 0} (to : X → Y) (from : Y → X) (f : Field X) → IsField f → ((x : X) → f.fits x ≡ true → from (to x) ≡ x) → ((y : Y) → f.fits (from y) ≡ true → to (from y) ≡ y) → IsField (shaped to from f)
shaped_law {X} {Y} to from f it there back = record { takes = take_one; again = once_more }
  where
    take_one : (bytes : List ℕ) (y : Y) (rest : List ℕ) → AreBytes bytes → (shaped to from f).read bytes ≡ Ok (y, rest) → Taken (shaped to from f) bytes y rest
    take_one bytes y rest b e =
        let r = bind_ok (f.read bytes) (as_shaped to) (y, rest) e in
        let t = it.takes bytes r.0.0 r.0.1 b r.1 in
        let same = there r.0.0 t.fitting in
        answered (shaped to from f) bytes (to r.0.0, r.0.1) (y, rest) r.2 (record {
          parts = t.parts ∙ ap (λ x. f.bytes_of x ++ r.0.1) (sym same);
          fitting = ap f.fits same ∙ t.fitting;
          rest_bytes = t.rest_bytes;
        })

    once_more : (y : Y) (rest : List ℕ) → f.fits (from y) ≡ true → (shaped to from f).read (f.bytes_of (from y) ++ rest) ≡ Ok (y, rest)
    once_more y rest h =
        ap (λ r. r >>= as_shaped to) (it.again (from y) rest h) ∙ ap (λ z. Ok (z, rest)) (back y h)

-- ---- lists

pub record ManyTaken {X : Type 0} (f : Field X) (count : ℕ) (bytes : List ℕ) (xs : List X) (rest : List ℕ) : Type 0 where
  pub parts : bytes ≡ flat_map f.bytes_of xs ++ rest
  pub fitting : list_all f.fits xs ≡ true
  pub counted : length xs ≡ count
  pub rest_bytes : AreBytes rest

pub many_takes : {X : Type 0} (f : Field X) → IsField f → (count : ℕ) (bytes : List ℕ) (xs : List X) (rest : List ℕ) → AreBytes bytes → many f.read count bytes ≡ Ok (xs, rest) → ManyTaken f count bytes xs rest
unfolding many
many_takes f it zero bytes xs rest b e =
    subst (λ p. ManyTaken f 0 bytes p.0 p.1) (ok_is ([], bytes) (xs, rest) e) (record { parts = refl; fitting = refl; counted = refl; rest_bytes = b })
many_takes f it (suc n) bytes xs rest b e =
    let r = bind_ok (f.read bytes) (λ x. many f.read n x.1 >>= λ ys. Ok (x.0 ∷ ys.0, ys.1)) (xs, rest) e in
    let s = bind_ok (many f.read n r.0.1) (λ ys. Ok (r.0.0 ∷ ys.0, ys.1)) (xs, rest) r.2 in
    let t = it.takes bytes r.0.0 r.0.1 b r.1 in
    let u = many_takes f it n r.0.1 s.0.0 s.0.1 t.rest_bytes s.1 in
    subst (λ p. ManyTaken f (suc n) bytes p.0 p.1) (ok_is (r.0.0 ∷ s.0.0, s.0.1) (xs, rest) s.2) (record {
      parts = t.parts ∙ ap (λ bs. f.bytes_of r.0.0 ++ bs) u.parts ∙ sym (append_assoc (f.bytes_of r.0.0) (flat_map f.bytes_of s.0.0) s.0.1)
          ∙ ap (λ bs. bs ++ s.0.1) (sym (flat_map-cons f.bytes_of r.0.0 s.0.0));
      fitting = both_true _ _ t.fitting u.fitting;
      counted = ap suc u.counted;
      rest_bytes = u.rest_bytes;
    })

pub many_again : {X : Type 0} (f : Field X) → IsField f → (xs : List X) (rest : List ℕ) → list_all f.fits xs ≡ true → many f.read (length xs) (flat_map f.bytes_of xs ++ rest) ≡ Ok (xs, rest)
unfolding many
many_again f it [] rest h = refl
many_again f it (x ∷ xs) rest h =
    let both = and_parts (f.fits x) (list_all f.fits xs) h in
    let regrouped : flat_map f.bytes_of (x ∷ xs) ++ rest ≡ f.bytes_of x ++ (flat_map f.bytes_of xs ++ rest) = ap (λ bs. bs ++ rest) (flat_map-cons f.bytes_of x xs) ∙ append_assoc (f.bytes_of x) (flat_map f.bytes_of xs) rest in
    ap (λ bs. f.read bs >>= λ y. many f.read (length xs) y.1 >>= λ ys. Ok (y.0 ∷ ys.0, ys.1)) regrouped
    ∙ ap (λ r. r >>= λ y. many f.read (length xs) y.1 >>= λ ys. Ok (y.0 ∷ ys.0, ys.1)) (it.again x (flat_map f.bytes_of xs ++ rest) both.0)
    ∙ ap (λ r. r >>= λ ys. Ok (x ∷ ys.0, ys.1)) (many_again f it xs rest both.1)

pub list_law : {X : Type 0} (counts : Field ℕ) (f : Field X) → IsField counts → IsField f → IsField (list_of counts f)
list_law {X} counts f count_law it = record { takes = take_all; again = once_more }
  where
    take_all : (bytes : List ℕ) (xs : List X) (rest : List ℕ) → AreBytes bytes → (counts.read bytes >>= λ n. many f.read n.0 n.1) ≡ Ok (xs, rest) → Taken (list_of counts f) bytes xs rest
    take_all bytes xs rest b e =
        let r = bind_ok (counts.read bytes) (λ n. many f.read n.0 n.1) (xs, rest) e in
        let t = count_law.takes bytes r.0.0 r.0.1 b r.1 in
        let u = many_takes f it r.0.0 r.0.1 xs rest t.rest_bytes r.2 in
        record {
          parts = t.parts ∙ ap (λ bs. counts.bytes_of r.0.0 ++ bs) u.parts ∙ sym (append_assoc (counts.bytes_of r.0.0) (flat_map f.bytes_of xs) rest)
              ∙ ap (λ n. (counts.bytes_of n ++ flat_map f.bytes_of xs) ++ rest) (sym u.counted);
          fitting = both_true _ _ (ap counts.fits u.counted ∙ t.fitting) u.fitting;
          rest_bytes = u.rest_bytes;
        }

    once_more : (xs : List X) (rest : List ℕ) → (counts.fits (length xs) && list_all f.fits xs) ≡ true → (counts.read ((counts.bytes_of (length xs) ++ flat_map f.bytes_of xs) ++ rest) >>= λ n. many f.read n.0 n.1) ≡ Ok (xs, rest)
    once_more xs rest h =
        let both = and_parts (counts.fits (length xs)) (list_all f.fits xs) h in
        ap (λ bs. counts.read bs >>= λ n. many f.read n.0 n.1) (append_assoc (counts.bytes_of (length xs)) (flat_map f.bytes_of xs) rest)
        ∙ ap (λ r. r >>= λ n. many f.read n.0 n.1) (count_law.again (length xs) (flat_map f.bytes_of xs ++ rest) both.0)
        ∙ many_again f it xs rest both.1

pub from_to_law : (low high : ℕ) (f : Field ℕ) → IsField f → IsField (from_to low high f)
from_to_law low high f it = checked_law (is_in_range low high) f it

pub both_ways : {X : Type 0} (f : Field X) → IsField f → BothWays f
both_ways f it = record {
  spelled = λ bytes x rest b e. let t = it.takes bytes x rest b e in (t.fitting, t.parts);
  again = it.again;
}
