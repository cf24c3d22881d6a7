-- Bytes that are all the same: what scalars hold that begin with them.
use Rattle.std.proofs.Common.{◌≡◌, ℕ, zero, suc, ◌+◌, ◌-◌, ◌*◌, ◌/◌, ◌%◌, ◌^◌, ◌≤◌, nat_le, nat_eq, pos, Bool, true, false, if◌then◌else◌, List, [], ◌∷◌, ◌++◌, map, take, drop, replicate, slice_index, refl, sym, ap, ◌∙◌, arith}
use Rattle.std.specs.Int.{w16, w32, w64, cast_signed, bit_at, div_ceil}
use Rattle.std.specs.List.{range_with_len}
use Rattle.std.proofs.lemmas.Bool.{and_parts, eqb-true}
use Rattle.std.proofs.lemmas.List.{drop-replicate, map-append, take-replicate}
use Rattle.std.proofs.lemmas.List.FromFn.{length-range_with_len}
use Rattle.std.proofs.lemmas.Nat.Bits.{bit_at-zero}
use Rattle.std.proofs.lemmas.Simd.{splat_is_map}
use Rattle.byteorder.specs.Endian.{big_from}
use Rattle.pli_map.specs.Description.{Description, FixedBinary, Character, Varying, Bit, Pointer, Offset, Area, Array, Structure, Members, NoMembers, MemberThen}
use Rattle.pli_map.specs.Parts.{PlacedPart}
use Rattle.pli_map.specs.Scalars.{scalars_of, scalars_of_members}
use Rattle.pli_map.specs.Sizes.{count_of, number_bytes, size_of}
use Rattle.pli_map.specs.StoredValues.{width_of}
use Rattle.pli_map.specs.Values.{first_values, first_values_of}
use Rattle.pli_value.specs.Packing.{packed_bit}
use Rattle.pli_value.specs.Value.{Value, Number, Characters, Bits}
use Rattle.pli_bytes.specs.answers.Laying.{begins_with, all_begin_with}
use Rattle.pli_bytes.specs.Contents.{scalars_at, value_of, bytes_from, values_of}
use Rattle.pli_bytes.proofs.Kept.{values_at}
use Rattle.pli_bytes.proofs.PartLists.{repeated}
use Rattle.pli_bytes.proofs.Rising.{Rise, rise_ends, rises}
use Rattle.pli_bytes.proofs.Scalars.{described, descriptions}

-- what a scalar holds all of whose bytes are this one
abbrev pub filled : (byte : ℕ) → Description → Value
filled byte d = value_of d (replicate (size_of d) byte)

part_filled : (byte n o size : ℕ) → o + size ≤ n → bytes_from o size (replicate n byte) ≡ replicate size byte
part_filled byte n o size inside =
    ap (take size) (drop-replicate o n byte) ∙ take-replicate size (n - o) byte (omega (arith, inside))

places_filled : (byte n low : ℕ) (ss : List PlacedPart) (high : ℕ) → high ≤ n → Rise low ss high → values_at ss (replicate n byte) ≡ map (filled byte) (descriptions ss)
places_filled byte n low [] high inside h = refl
places_filled byte n low (s ∷ ss) high inside h =
    let size = size_of s.description in
    let ends = rise_ends (s.offset + size) ss high h.1 in
    ap (λ bytes. value_of s.description bytes ∷ values_at ss (replicate n byte)) (part_filled byte n s.offset size (omega (arith, ends, inside)))
    ∙ ap (λ vs. filled byte s.description ∷ vs) (places_filled byte n (s.offset + size) ss high inside h.1)

-- all scalars of a description
pub all_filled : (byte : ℕ) (d : Description) → values_of d (replicate (size_of d) byte) ≡ map (filled byte) (scalars_of d)
all_filled byte d = places_filled byte (size_of d) 0 (scalars_at d) (size_of d) (omega arith) (rises d) ∙ ap (map (filled byte)) (described d)

-- ---- zeros

none_there : (m i : ℕ) → slice_index (replicate m 0) i ≡ 0
none_there zero i = refl
none_there (suc m) zero = refl
none_there (suc m) (suc i) = none_there m i

no_number : (i n m : ℕ) → big_from i n (replicate m 0) ≡ 0
no_number i zero m = refl
no_number i (suc n) m =
    let one : slice_index (replicate m 0) i * 256 ^ n ≡ 0 * 256 ^ n = ap (λ k. k * 256 ^ n) (none_there m i) in
    let none : 0 * 256 ^ n ≡ 0 = omega arith in
    omega (arith, one, none, no_number (suc i) n m)

zero_cast : (p : ℕ) → cast_signed (width_of p) 0 ≡ pos 0
zero_cast p = by_width (nat_le p 15) (nat_le p 31)
  where
    by_width : (a b : Bool) → cast_signed (if a then w16 else (if b then w32 else w64)) 0 ≡ pos 0
    by_width true b = refl
    by_width false true = refl
    by_width false false = refl

no_bit : (m place : ℕ) → packed_bit (replicate m 0) place ≡ false
no_bit m place = ap (λ b. nat_eq (bit_at b (7 - place % 8)) 1) (none_there m (place / 8)) ∙ ap (λ n. nat_eq n 1) (bit_at-zero (7 - place % 8))

no_bits : (m : ℕ) (places : List ℕ) → map (packed_bit (replicate m 0)) places ≡ map (λ _. false) places
no_bits m [] = refl
no_bits m (k ∷ places) = ap (λ b. b ∷ map (packed_bit (replicate m 0)) places) (no_bit m k) ∙ ap (λ bs. false ∷ bs) (no_bits m places)

-- ---- the first values

repeated_map : {X Y : Type 0} (f : X → Y) (n : ℕ) (xs : List X) → map f (repeated n xs) ≡ repeated n (map f xs)
repeated_map f zero xs = refl
repeated_map f (suc n) xs = map-append f xs (repeated n xs) ∙ ap (λ ys. map f xs ++ ys) (repeated_map f n xs)

mutual
  pub filled_first : (byte : ℕ) (d : Description) → begins_with byte d ≡ true → map (filled byte) (scalars_of d) ≡ first_values d
  filled_first byte (FixedBinary p) e =
      let n = number_bytes p in
      ap (λ b. filled b (FixedBinary p) ∷ []) (eqb-true byte 0 e) ∙ ap (λ k. Number (cast_signed (width_of p) k) ∷ []) (no_number 0 n n) ∙ ap (λ x. Number x ∷ []) (zero_cast p)
  filled_first byte (Character n) e = ap (λ b. filled b (Character n) ∷ []) (eqb-true byte 32 e)
  filled_first byte (Varying n) e =
      ap (λ b. filled b (Varying n) ∷ []) (eqb-true byte 0 e) ∙ ap (λ k. Characters (take k (drop 2 (replicate (2 + n) 0))) ∷ []) (no_number 0 2 (2 + n))
  filled_first byte (Bit n) e =
      let places = range_with_len 0 n in
      ap (λ b. filled b (Bit n) ∷ []) (eqb-true byte 0 e) ∙ ap (λ bs. Bits bs ∷ []) (no_bits (div_ceil n 8) places ∙ sym (splat_is_map places n false (length-range_with_len 0 n)))
  filled_first byte (Array bounds element) e =
      repeated_map (filled byte) (count_of bounds) (scalars_of element) ∙ ap (repeated (count_of bounds)) (filled_first byte element e)
  filled_first byte (Structure members) e = filled_firsts byte members e
  filled_first byte Pointer e = ap (λ b. filled b Pointer ∷ []) (eqb-true byte 0 e)
  filled_first byte Offset e = ap (λ b. filled b Offset ∷ []) (eqb-true byte 0 e)
  filled_first byte (Area n) e = refl

  filled_firsts : (byte : ℕ) (ds : Members) → all_begin_with byte ds ≡ true → map (filled byte) (scalars_of_members ds) ≡ first_values_of ds
  filled_firsts byte NoMembers e = refl
  filled_firsts byte (MemberThen d ds) e =
      let p = and_parts (begins_with byte d) (all_begin_with byte ds) e in
      map-append (filled byte) (scalars_of d) (scalars_of_members ds)
      ∙ ap (λ vs. vs ++ map (filled byte) (scalars_of_members ds)) (filled_first byte d p.0) ∙ ap (λ vs. first_values d ++ vs) (filled_firsts byte ds p.1)

pub filled_begins : (byte : ℕ) (d : Description) → begins_with byte d ≡ true → values_of d (replicate (size_of d) byte) ≡ first_values d
filled_begins byte d e = all_filled byte d ∙ filled_first byte d e
