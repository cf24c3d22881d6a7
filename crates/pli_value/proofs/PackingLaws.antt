-- Bits in bytes: what a bit that is set, and a byte that is added, do to the others.
use Rattle.std.proofs.Common.{◌≡◌, ◌≢◌, ℕ, zero, suc, ◌+◌, ◌-◌, ◌*◌, ◌/◌, ◌%◌, ◌^◌, ◌<◌, ◌≤◌, Bool, true, false, nat_eq, List, [], ◌∷◌, ◌++◌, length, set, get_or, bit_or, refl, sym, ap, ◌∙◌, subst, arith, w8, ⊎_elim, get_or-set_other, get_or-set_same}
use Rattle.std.specs.Int.{bit_at}
use Rattle.std.proofs.lemmas.Bool.{cases_eq}
use Rattle.std.proofs.lemmas.List.{length-set, length_push, get_or_past, get_or_read}
use Rattle.std.proofs.lemmas.List.FromFn.{length-map-range_with_len, get_or-map-range_with_len, map-range_with_len_more, fill_by_all}
use Rattle.std.proofs.lemmas.Nat.Bits.{bit_at_set_same, bit_at_set_other}
use Rattle.pli_value.specs.Packing.{packed_bit, unpacked, IsPacked}

-- a byte 0 after the others
with_zero : (bytes : List ℕ) (i : ℕ) → get_or (bytes ++ 0 ∷ []) i 0 ≡ get_or bytes i 0
with_zero [] zero = refl
with_zero [] (suc i) = refl
with_zero (x ∷ xs) zero = refl
with_zero (x ∷ xs) (suc i) = with_zero xs i

byte_more : (bytes : List ℕ) (place : ℕ) → packed_bit (bytes ++ 0 ∷ []) place ≡ packed_bit bytes place
byte_more bytes place = ap (λ b. nat_eq (bit_at b (7 - place % 8)) 1) (with_zero bytes (place / 8))

-- the bytes with the bit at a place set
abbrev pub bit_set : List ℕ → ℕ → List ℕ
bit_set bytes place = set bytes (place / 8) (bit_or (get_or bytes (place / 8) 0) (1 * 2 ^ (7 - place % 8) % 2 ^ 8))

set_here : (bytes : List ℕ) (n : ℕ) → n / 8 < length bytes → packed_bit (bit_set bytes n) n ≡ true
set_here bytes n within =
    rw get_or-set_same (rw (bit_at_set_same w8 (get_or bytes (n / 8) 0) (7 - n % 8) (omega arith)) refl)

set_elsewhere : (bytes : List ℕ) (n k : ℕ) → n / 8 < length bytes → k ≢ n → packed_bit (bit_set bytes n) k ≡ packed_bit bytes k
set_elsewhere bytes n k within other =
    ⊎_elim (λ same.
    let apart : 7 - k % 8 ≢ 7 - n % 8 = omega arith in
    rw same (rw get_or-set_same (ap (λ b. nat_eq b 1) (bit_at_set_other w8 (get_or bytes (n / 8) 0) (7 - n % 8) (omega arith) (7 - k % 8) apart))))
    (λ apart. ap (λ b. nat_eq (bit_at b (7 - k % 8)) 1) (get_or-set_other bytes (n / 8) (k / 8) _ 0 apart))
    (cases_eq (k / 8) (n / 8))

-- the first bits are those of other bytes that have the same
same_front : (n : ℕ) (bytes others : List ℕ) → ((k : ℕ) → k < n → packed_bit others k ≡ packed_bit bytes k) → unpacked n others ≡ unpacked n bytes
same_front n bytes others same =
    fill_by_all (packed_bit bytes) (unpacked n others) n false (length-map-range_with_len (packed_bit others) 0 n)
    (λ k below. get_or-map-range_with_len (packed_bit others) 0 n k k false below (omega arith) ∙ same k below)

one_more : (n : ℕ) (bytes others : List ℕ) (bit : Bool) → ((k : ℕ) → k < n → packed_bit others k ≡ packed_bit bytes k)
    → packed_bit others n ≡ bit → unpacked (n + 1) others ≡ unpacked n bytes ++ bit ∷ []
one_more n bytes others bit same here =
    map-range_with_len_more (packed_bit others) 0 n n (omega arith)
    ∙ ap (λ xs. xs ++ packed_bit others n ∷ []) (same_front n bytes others same)
    ∙ ap (λ b. unpacked n bytes ++ b ∷ []) here

-- the bit at a place of the list
pub bit_at_place : (n : ℕ) (bytes : List ℕ) (place : ℕ) → place < n → get_or (unpacked n bytes) place false ≡ packed_bit bytes place
bit_at_place n bytes place below = get_or-map-range_with_len (packed_bit bytes) 0 n place place false below (omega arith)

pub bit_after : (n : ℕ) (bytes : List ℕ) (place : ℕ) → n ≤ place → false ≡ get_or (unpacked n bytes) place false
bit_after n bytes place over = sym (get_or_past (unpacked n bytes) place false (omega (arith, length-map-range_with_len (packed_bit bytes) 0 n)))

pub bits_counted : (n : ℕ) (bytes : List ℕ) → length (unpacked n bytes) ≡ n
bits_counted n bytes = length-map-range_with_len (packed_bit bytes) 0 n

-- room for one bit more: a byte 0 where the bytes are full
pub record HasRoom (n : ℕ) (bytes room : List ℕ) : Type 0 where
  pub needed : length room ≡ (n + 1 + 7) / 8
  pub same : (k : ℕ) → packed_bit room k ≡ packed_bit bytes k

pub full : (n : ℕ) (bytes : List ℕ) → IsPacked n bytes → n % 8 ≡ 0 → HasRoom n bytes (bytes ++ 0 ∷ [])
full n bytes it whole = record { needed = omega (arith, length_push bytes 0, it.needed); same = byte_more bytes }

pub roomy : (n : ℕ) (bytes : List ℕ) → IsPacked n bytes → n % 8 ≢ 0 → HasRoom n bytes bytes
roomy n bytes it part = record { needed = omega (arith, it.needed); same = λ k. refl }

-- one bit more: what the bytes are then
pub pushed_one : (n : ℕ) (bytes room : List ℕ) → IsPacked n bytes → n < 32767 → HasRoom n bytes room
    → IsPacked (n + 1) (bit_set room n) × (unpacked (n + 1) (bit_set room n) ≡ unpacked n bytes ++ true ∷ [])
pushed_one n bytes room it limit has =
    let within : n / 8 < length room = omega (arith, has.needed) in (
      record {
        needed = length-set room (n / 8) _ ∙ has.needed;
        blank = λ k over. set_elsewhere room n k within (omega arith) ∙ has.same k ∙ it.blank k (omega arith);
        limit = omega arith;
      },
      one_more n bytes (bit_set room n) true (λ k below. set_elsewhere room n k within (omega arith) ∙ has.same k) (set_here room n within),
    )

pub pushed_zero : (n : ℕ) (bytes room : List ℕ) → IsPacked n bytes → n < 32767 → HasRoom n bytes room
    → IsPacked (n + 1) room × (unpacked (n + 1) room ≡ unpacked n bytes ++ false ∷ [])
pushed_zero n bytes room it limit has = (
  record { needed = has.needed; blank = λ k over. has.same k ∙ it.blank k (omega arith); limit = omega arith },
  one_more n bytes room false (λ k below. has.same k) (has.same n ∙ it.blank n (omega arith)),
)

-- the two ways in which room is made, and the two in which a bit is pushed
pub room_made : (n : ℕ) (bytes room : List ℕ) → IsPacked n bytes → 7 - n % 8 ≡ 7 → room ≡ bytes ++ 0 ∷ [] → HasRoom n bytes room
room_made n bytes room it whole is =
    let P : List ℕ → Type 0 = λ xs. HasRoom n bytes xs in subst P (sym is) (full n bytes it (omega arith))

pub room_there : (n : ℕ) (bytes room : List ℕ) → IsPacked n bytes → 7 - n % 8 ≢ 7 → room ≡ bytes → HasRoom n bytes room
room_there n bytes room it part is =
    let P : List ℕ → Type 0 = λ xs. HasRoom n bytes xs in subst P (sym is) (roomy n bytes it (omega arith))

-- what a push leaves
pub record IsPushed (n : ℕ) (bytes : List ℕ) (bit : Bool) (count : ℕ) (after : List ℕ) : Type 0 where
  pub packed : IsPacked (count + 1) after
  pub pushed : unpacked (count + 1) after ≡ unpacked n bytes ++ bit ∷ []

pub with_one : (n count : ℕ) (bytes room after : List ℕ) (bit : Bool) → IsPacked n bytes → n < 32767 → HasRoom n bytes room → count ≡ n
    → bit ≡ true → after ≡ bit_set room n → IsPushed n bytes bit count after
with_one n count bytes room after bit it limit has same is now =
    let P : List ℕ → Type 0 = λ xs. IsPushed n bytes bit count xs in
    let Q : Bool → Type 0 = λ b. IsPushed n bytes b count (bit_set room n) in
    let R : ℕ → Type 0 = λ k. IsPushed n bytes true k (bit_set room n) in
    let made = pushed_one n bytes room it limit has in
    subst P (sym now) (subst Q (sym is) (subst R (sym same) (record { packed = made.0; pushed = made.1 })))

pub with_none : (n count : ℕ) (bytes room after : List ℕ) (bit : Bool) → IsPacked n bytes → n < 32767 → HasRoom n bytes room → count ≡ n
    → bit ≡ false → after ≡ room → IsPushed n bytes bit count after
with_none n count bytes room after bit it limit has same is now =
    let P : List ℕ → Type 0 = λ xs. IsPushed n bytes bit count xs in
    let Q : Bool → Type 0 = λ b. IsPushed n bytes b count room in
    let R : ℕ → Type 0 = λ k. IsPushed n bytes false k room in
    let made = pushed_zero n bytes room it limit has in
    subst P (sym now) (subst Q (sym is) (subst R (sym same) (record { packed = made.0; pushed = made.1 })))

pub room_is : (n : ℕ) (bytes room : List ℕ) → HasRoom n bytes room → n / 8 < length room
room_is n bytes room has = omega (arith, has.needed)

pub set_is : (room after : List ℕ) (n k b : ℕ) → k ≡ n → n / 8 < length room → b ≡ get_or room (k / 8) b
    → after ≡ set room (k / 8) (bit_or b (1 * 2 ^ (7 - n % 8) % 2 ^ 8)) → after ≡ bit_set room n
set_is room after n k b same within read now =
    let here : n / 8 < length room → b ≡ get_or room (n / 8) 0 = λ below. get_or_read room (n / 8) b below (read ∙ ap (λ i. get_or room (i / 8) b) same) 0 in
    now ∙ ap (λ i. set room (i / 8) (bit_or b (1 * 2 ^ (7 - n % 8) % 2 ^ 8))) same
    ∙ ap (λ x. set room (n / 8) (bit_or x (1 * 2 ^ (7 - n % 8) % 2 ^ 8))) (here within)
