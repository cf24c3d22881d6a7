-- The laws of the fields of a deck.
use Rattle.std.proofs.Common.{◌≡◌, ℕ, zero, suc, ◌≤◌, ◌^◌, nat_eq, nat_le, nat_lt, Bool, true, false, ◌&&◌, cond, List, [], ◌∷◌, ◌++◌, length, get_or, take, drop, Option, Some, None, Result, Ok, Err, refl, sym, ap, subst, ◌∙◌, append_assoc, arith}
use Rattle.std.specs.Int.{is_in_range}
use Rattle.std.specs.Str.{bytes_eq}
use Rattle.std.proofs.lemmas.Bool.{ltb-true, ltb-false, leb-true, lt-ltb, le-ltb, le-leb, and_parts, eqb-true, eq-eqb}
use Rattle.std.proofs.lemmas.List.{take_at, drop_at, take-append-drop, length-append}
use Rattle.std.proofs.lemmas.List.FromFn.{length-map-range_with_len}
use Rattle.std.proofs.lemmas.Slice.Eq.{bytes_eq-Decides}
use Rattle.pli_base.specs.laws.NameLaws.{pointwise-refl}
use Rattle.pli_value.specs.Packing.{packed_bit, packed, unpacked}
use Rattle.pli_value.proofs.PackedLaws.{unpacked_packed, packed_length}
use Rattle.byteorder.specs.Endian.{big_bytes}
use Rattle.pli_code.specs.declared.fault.DeckFault.{DeckFault}
use Rattle.pli_code.specs.declared.fault.DeckFault.TheVariants.{Truncated, BadMagic}
use Rattle.pli_base.specs.Results.{◌>>=◌}
use Rattle.pli_code.specs.Fields.{AreBytes, Reader, Field, nothing, byte, held, followed, ◌⊗◌, list_of, unknown, u1, u2, u4, count_of_one, byte_at, from_to, list, shaped}
use Rattle.pli_value.specs.Value.{Value, Number, Characters, Bits, Located}
use Rattle.pli_value.specs.declared.locator.Locator.TheVariants as locators
use Rattle.pli_deck_write.specs.Descriptions.{description}
use Rattle.pli_code.specs.Instructions.{instruction_in}
use Rattle.pli_code.specs.Versions.{version_number}
use Rattle.pli_code.specs.declared.version.Version.{Version}
use Rattle.pli_code.specs.declared.version.Version.TheVariants.{First, Second, Third}
use Rattle.pli_deck_write.specs.DeckFields.{is_name, name, flag, number_if, none_last, is_number_if, optional, byte_count, bits_in, bits_at, bit_string, integer, characters, constant_form, constant_readers, constant, initial, template, parameter_count, parameter_number, signature, global_form, global_readers, global, kind_of, block_kind, block_of, block_parts, block, after_prefix, past, after_magic, if_it_may, version_among, or_bad_version, version_in, code_of, code_parts, code, contents, deck_of, deck_parts, deck_in_versions}
use Rattle.pli_code.specs.Numbered.{kind_number}
use Rattle.pli_code.proofs.FieldLaws.{AreBytes-drop, bind_ok, ok_is, held_ok, guard_ok, both_true, Taken, IsField, nothing_law, byte_law, u2_law, u4_law, count_law, byte_again, as_shaped, answered, checked_law, word_law, long_law, followed_law, ◌⊠◌, shaped_law, list_law, from_to_law}
use Rattle.pli_code.proofs.FormLaws.{AllRead, unknown_reads, made_reads, made_again, tagged_law}
use Rattle.pli_deck_write.proofs.DescriptionLaws.{description_law}
use Rattle.pli_code.proofs.InstructionLaws.{instruction_in_law}
use Rattle.pli_code.proofs.NumberedLaws.{over}
use Rattle.pli_program.specs.Program.{BlockKind, Procedure, BeginBlock, OnUnit}
use Rattle.pli_code.specs.CodeTables.{CodedGlobal, OwnVariable, ExternalVariable, EntryPoint}
use Rattle.pli_program.specs.declared.kind.VariableKind.TheVariants.{Static, Controlled}

-- ---- names, flags and numbers that may be absent

pub name_law : IsField name
unfolding name
name_law = checked_law is_name (list_of (from_to 1 31 count_of_one) byte) (list_law (from_to 1 31 count_of_one) byte (from_to_law 1 31 count_of_one count_law) byte_law)

at_most_one : (n : ℕ) → is_in_range 0 1 n ≡ true → cond (nat_eq n 1) 1 0 ≡ n
at_most_one zero h = refl
at_most_one (suc zero) h = refl
at_most_one (suc (suc n)) h =
    let le = leb-true (suc (suc n)) 1 (and_parts (nat_le 0 (suc (suc n))) (nat_le (suc (suc n)) 1) h).1 in absurd (omega (arith, le))

flag_back : (b : Bool) → nat_eq (cond b 1 0) 1 ≡ b
flag_back true = refl
flag_back false = refl

pub flag_law : IsField flag
flag_law =
    shaped_law (λ n. nat_eq n 1) (λ b. cond b 1 0) (from_to 0 1 u1) (from_to_law 0 1 u1 byte_law)
    (λ n h. at_most_one n (and_parts (nat_lt n 256) (is_in_range 0 1 n) h).1) (λ b h. flag_back b)

number_there : (n : ℕ) (b : Bool) → nat_lt n 65535 ≡ b → nat_lt n 65536 ≡ true → none_last (cond b (Some n) None) ≡ n
number_there n true e h = refl
number_there n false e h = omega (arith, ltb-false n 65535 e, ltb-true n 65536 h)

number_fits : (n : ℕ) (b : Bool) → nat_lt n 65535 ≡ b → is_number_if (cond b (Some n) None) ≡ true
number_fits n true e = e
number_fits n false e = refl

optional_back : (o : Option ℕ) → is_number_if o ≡ true → (nat_lt (none_last o) 65536 ≡ true) × (number_if (none_last o) ≡ o)
optional_back None h = (refl, refl)
optional_back (Some n) h = (lt-ltb n 65536 (omega (arith, ltb-true n 65535 h)), ap (λ t. cond t (Some n) None) h)

optional_takes : (bytes : List ℕ) (o : Option ℕ) (rest : List ℕ) → AreBytes bytes → optional.read bytes ≡ Ok (o, rest) → Taken optional bytes o rest
unfolding optional
optional_takes bytes o rest b e =
    let r = bind_ok (u2.read bytes) (as_shaped number_if) (o, rest) e in
    let t = u2_law.takes bytes r.0.0 r.0.1 b r.1 in
    let same = number_there r.0.0 (nat_lt r.0.0 65535) refl t.fitting in
    answered optional bytes (number_if r.0.0, r.0.1) (o, rest) r.2 (record {
      parts = t.parts ∙ ap (λ n. big_bytes 2 n ++ r.0.1) (sym same);
      fitting = number_fits r.0.0 (nat_lt r.0.0 65535) refl;
      rest_bytes = t.rest_bytes;
    })

optional_again : (o : Option ℕ) (rest : List ℕ) → is_number_if o ≡ true → optional.read (optional.bytes_of o ++ rest) ≡ Ok (o, rest)
unfolding optional
optional_again o rest h =
    let back = optional_back o h in
    ap (λ r. r >>= as_shaped number_if) (u2_law.again (none_last o) rest back.0) ∙ ap (λ z. Ok (z, rest)) back.1

pub optional_law : IsField optional
unfolding optional
optional_law = record { takes = optional_takes; again = optional_again }

-- ---- bits

pub record BitsTaken (count : ℕ) (bytes : List ℕ) (bits : List Bool) (rest : List ℕ) : Type 0 where
  pub parts : bytes ≡ packed bits ++ rest
  pub counted : length bits ≡ count
  pub rest_bytes : AreBytes rest

bits_take : (count : ℕ) (bytes : List ℕ) (bits : List Bool) (rest : List ℕ) → AreBytes bytes → bits_at count bytes ≡ Ok (bits, rest) → BitsTaken count bytes bits rest
unfolding bits_at
bits_take count bytes bits rest fits e =
    let k = byte_count count in
    let front = take k bytes in
    let g = guard_ok (nat_lt (length bytes) k) Truncated (bits_in count front (drop k bytes)) (bits, rest) e in
    let h = held_ok (bytes_eq front (packed (unpacked count front))) (unpacked count front, drop k bytes) (bits, rest) g.1 in
    let same : front ≡ packed (unpacked count front) = (bytes_eq-Decides front (packed (unpacked count front))).0 h.0 in
    subst (λ p. BitsTaken count bytes p.0 p.1) h.1 (record {
      parts = sym (take-append-drop k bytes) ∙ ap (λ s. s ++ drop k bytes) same;
      counted = length-map-range_with_len (packed_bit front) 0 count;
      rest_bytes = AreBytes-drop k bytes fits;
    })

bits_again : (bits : List Bool) (rest : List ℕ) → bits_at (length bits) (packed bits ++ rest) ≡ Ok (bits, rest)
unfolding bits_at
bits_again bits rest =
    let k = byte_count (length bits) in
    let len : length (packed bits) ≡ k = packed_length bits in
    let all = packed bits ++ rest in
    let enough : nat_lt (length all) k ≡ false = le-ltb _ _ (omega (arith, len, length-append (packed bits) rest)) in
    ap (λ b. cond b (Err Truncated) (bits_in (length bits) (take k all) (drop k all))) enough
    ∙ ap (λ s. bits_in (length bits) s (drop k all)) (take_at (packed bits) rest k len)
    ∙ ap (λ s. bits_in (length bits) (packed bits) s) (drop_at (packed bits) rest k len)
    ∙ ap (λ bs. held (bytes_eq (packed bits) (packed bs)) (bs, rest)) (unpacked_packed bits)
    ∙ ap (λ g. held g (bits, rest)) (pointwise-refl (packed bits))

bit_count_law : IsField (from_to 0 32767 u2)
bit_count_law = from_to_law 0 32767 u2 u2_law

abbrev bits_of : ℕ × List ℕ → Result (List Bool × List ℕ) DeckFault
bits_of n = bits_at n.0 n.1

bit_string_takes : (bytes : List ℕ) (bits : List Bool) (rest : List ℕ) → AreBytes bytes → bit_string.read bytes ≡ Ok (bits, rest) → Taken bit_string bytes bits rest
unfolding bit_string
bit_string_takes bytes bits rest b e =
    let r = bind_ok ((from_to 0 32767 u2).read bytes) bits_of (bits, rest) e in
    let t = bit_count_law.takes bytes r.0.0 r.0.1 b r.1 in
    let u = bits_take r.0.0 r.0.1 bits rest t.rest_bytes r.2 in
    let range = and_parts (nat_lt r.0.0 (256 ^ 2)) (is_in_range 0 32767 r.0.0) t.fitting in
    let small = and_parts (nat_le 0 r.0.0) (nat_le r.0.0 32767) range.1 in
    record {
      parts = t.parts ∙ ap (λ s. big_bytes 2 r.0.0 ++ s) u.parts ∙ sym (append_assoc (big_bytes 2 r.0.0) (packed bits) rest)
          ∙ ap (λ n. (big_bytes 2 n ++ packed bits) ++ rest) (sym u.counted);
      fitting = ap (λ n. nat_le n 32767) u.counted ∙ small.1;
      rest_bytes = u.rest_bytes;
    }

bit_string_again : (bits : List Bool) (rest : List ℕ) → bit_string.fits bits ≡ true → bit_string.read (bit_string.bytes_of bits ++ rest) ≡ Ok (bits, rest)
unfolding bit_string
bit_string_again bits rest h =
    let le : length bits ≤ 32767 = leb-true (length bits) 32767 h in
    let fits : (nat_lt (length bits) (256 ^ 2) && is_in_range 0 32767 (length bits)) ≡ true =
    both_true _ _ (lt-ltb (length bits) (256 ^ 2) (omega (arith, le))) (both_true _ _ (le-leb 0 (length bits) (omega arith)) h) in
    ap (λ s. (from_to 0 32767 u2).read s >>= bits_of) (append_assoc (big_bytes 2 (length bits)) (packed bits) rest)
    ∙ ap (λ r. r >>= bits_of) (bit_count_law.again (length bits) (packed bits ++ rest) fits) ∙ bits_again bits rest

pub bit_string_law : IsField bit_string
bit_string_law = record { takes = bit_string_takes; again = bit_string_again }

-- ---- constants, templates and signatures

integer_law : (v : Version) → IsField (integer v)
integer_law First = word_law 2147483647 (omega arith)
integer_law Second = long_law 9223372036854775807 (omega arith)
integer_law Third = long_law 9223372036854775807 (omega arith)

characters_law : IsField characters
unfolding characters
characters_law = list_law (from_to 0 32767 u2) byte bit_count_law byte_law

constants_read : (v : Version) → AllRead (constant_form v) 0 (constant_readers v)
constants_read v =
    let f = constant_form v in (
      unknown_reads f 0,
      (
        made_reads (integer v) (integer_law v) Number f 1 (λ x. refl),
        (
          made_reads characters characters_law Characters f 2 (λ x. refl),
          (
            made_reads bit_string bit_string_law Bits f 3 (λ x. refl),
            (
              made_reads nothing nothing_law (λ _. Located locators.Null) f 4 (λ x. refl),
              (
                made_reads nothing nothing_law (λ _. Located (locators.Offset 0)) f 5 (λ x. refl),
                tt,
              ),
            ),
          ),
        ),
      ),
    )

constants_again : (v : Version) (c : Value) (rest : List ℕ) → (constant_form v c).fits ≡ true → get_or (constant_readers v) (constant_form v c).tag unknown ((constant_form v c).bytes ++ rest) ≡ Ok (c, rest)
constants_again v (Number x) rest h = made_again (integer v) (integer_law v) Number x rest h
constants_again v (Characters text) rest h = made_again characters characters_law Characters text rest h
constants_again v (Bits bits) rest h = made_again bit_string bit_string_law Bits bits rest h
constants_again v (Located locators.Null) rest h = refl
constants_again v (Located (locators.Offset k)) rest h = ap (λ n. Ok (Located (locators.Offset n), rest)) (sym (eqb-true k 0 h))
constants_again v (Located (locators.Pointer generation position)) rest h = absurd cc

constant_law : (v : Version) → IsField (constant v)
unfolding constant
constant_law v = tagged_law (constant_form v) (constant_readers v) (constants_read v) (constants_again v)

initial_law : (v : Version) → IsField (initial v)
unfolding initial
initial_law v =
    shaped_law (λ p. record { offset = p.0; value = p.1 }) (λ i. (i.offset, i.value)) (u4 ⊗ constant v) (u4_law ⊠ constant_law v) (λ p h. refl) (λ i h. refl)

template_law : (v : Version) → IsField (template v)
unfolding template
template_law v =
    shaped_law (λ p. record { description = p.0; initial = p.1 }) (λ t. (t.description, t.initial)) (u2 ⊗ list_of u4 (initial v))
    (u2_law ⊠ list_law u4 (initial v) u4_law (initial_law v)) (λ p h. refl) (λ t h. refl)

parameter_count_law : IsField parameter_count
parameter_count_law = from_to_law 0 64 count_of_one count_law

parameter_number_law : IsField parameter_number
parameter_number_law = from_to_law 0 64 u1 byte_law

signature_law : IsField signature
unfolding signature
signature_law =
    shaped_law (λ p. record { parameters = p.0; result = p.1 }) (λ s. (s.parameters, s.result)) (list_of parameter_count u2 ⊗ optional)
    (list_law parameter_count u2 parameter_count_law u2_law ⊠ optional_law) (λ p h. refl) (λ s h. refl)

-- ---- globals and blocks

kind_there : (n : ℕ) → is_in_range 0 2 n ≡ true → kind_number (kind_of n) ≡ n
kind_there zero h = refl
kind_there (suc zero) h = refl
kind_there (suc (suc zero)) h = refl
kind_there (suc (suc (suc n))) h = absurd (over 0 2 (suc (suc (suc n))) (omega arith) h)

kind_back : (x : BlockKind) → kind_of (kind_number x) ≡ x
kind_back Procedure = refl
kind_back BeginBlock = refl
kind_back OnUnit = refl

block_kind_law : IsField block_kind
block_kind_law = shaped_law kind_of kind_number (from_to 0 2 u1) (from_to_law 0 2 u1 byte_law) (λ n h. kind_there n (and_parts (nat_lt n 256) (is_in_range 0 2 n) h).1) (λ x h. kind_back x)

globals_read : AllRead global_form 0 global_readers
globals_read =
    let f = global_form in (
      made_reads u2 u2_law (OwnVariable Static) f 0 (λ x. refl),
      (
        made_reads u2 u2_law (OwnVariable Controlled) f 1 (λ x. refl),
        (
          made_reads (name ⊗ u2) (name_law ⊠ u2_law) (λ p. ExternalVariable p.0 Static p.1) f 2 (λ x. refl),
          (
            made_reads (name ⊗ u2) (name_law ⊠ u2_law) (λ p. ExternalVariable p.0 Controlled p.1) f 3 (λ x. refl),
            (
              made_reads (name ⊗ signature) (name_law ⊠ signature_law) (λ p. EntryPoint p.0 p.1) f 4 (λ x. refl),
              tt,
            ),
          ),
        ),
      ),
    )

globals_again : (g : CodedGlobal) (rest : List ℕ) → (global_form g).fits ≡ true → get_or global_readers (global_form g).tag unknown ((global_form g).bytes ++ rest) ≡ Ok (g, rest)
globals_again (OwnVariable Static t) rest h = made_again u2 u2_law (OwnVariable Static) t rest h
globals_again (OwnVariable Controlled t) rest h = made_again u2 u2_law (OwnVariable Controlled) t rest h
globals_again (ExternalVariable n Static t) rest h = made_again (name ⊗ u2) (name_law ⊠ u2_law) (λ p. ExternalVariable p.0 Static p.1) (n, t) rest h
globals_again (ExternalVariable n Controlled t) rest h = made_again (name ⊗ u2) (name_law ⊠ u2_law) (λ p. ExternalVariable p.0 Controlled p.1) (n, t) rest h
globals_again (EntryPoint n s) rest h = made_again (name ⊗ signature) (name_law ⊠ signature_law) (λ p. EntryPoint p.0 p.1) (n, s) rest h

global_law : IsField global
unfolding global
global_law = tagged_law global_form global_readers globals_read globals_again

block_law : IsField block
unfolding block
block_law =
    shaped_law block_of block_parts (block_kind ⊗ optional ⊗ parameter_number ⊗ list u2 ⊗ u2 ⊗ u2 ⊗ u4)
    (block_kind_law ⊠ optional_law ⊠ parameter_number_law ⊠ list_law u2 u2 u2_law u2_law ⊠ u2_law ⊠ u2_law ⊠ u4_law)
    (λ p h. refl) (λ b h. refl)

-- ---- what stands in front of a deck

if_equal : {A : Type 0} (x b : ℕ) (r : Option A) (y : A) → cond (nat_eq x b) r None ≡ Some y → (x ≡ b) × (r ≡ Some y)
if_equal x b r y e = by_test (nat_eq x b) refl e
  where
    by_test : (t : Bool) → nat_eq x b ≡ t → cond t r None ≡ Some y → (x ≡ b) × (r ≡ Some y)
    by_test true same given = (eqb-true x b same, given)
    by_test false same given = absurd cc

after_is : (front bytes rest : List ℕ) → AreBytes bytes → after_prefix front bytes ≡ Some rest → (bytes ≡ front ++ rest) × AreBytes rest
after_is [] bytes rest fits e = let same : bytes ≡ rest = cc in (same, subst AreBytes same fits)
after_is (x ∷ xs) [] rest fits e = absurd cc
after_is (x ∷ xs) (b ∷ bytes) rest fits e =
    let here = if_equal x b (after_prefix xs bytes) rest e in
    let others = after_is xs bytes rest (λ i. fits (suc i)) here.1 in
    (ap (λ c. c ∷ bytes) (sym here.0) ∙ ap (λ s. x ∷ s) others.0, others.1)

after_again : (front rest : List ℕ) → after_prefix front (front ++ rest) ≡ Some rest
after_again [] rest = refl
after_again (x ∷ xs) rest = ap (λ t. cond t (after_prefix xs (xs ++ rest)) None) (eq-eqb x x refl) ∙ after_again xs rest

past_ok : {X : Type 0} (fault : DeckFault) (read : Reader X) (o : Option (List ℕ)) (y : X × List ℕ) → past fault read o ≡ Ok y → (bytes : List ℕ) × (o ≡ Some bytes) × (read bytes ≡ Ok y)
past_ok fault read None y e = absurd cc
past_ok fault read (Some bytes) y e = (bytes, refl, e)

pub magic_law : {X : Type 0} (magic : List ℕ) (f : Field X) → IsField f → IsField (after_magic magic f)
magic_law {X} magic f it = record { takes = take_one; again = once_more }
  where
    take_one : (bytes : List ℕ) (x : X) (rest : List ℕ) → AreBytes bytes → past BadMagic f.read (after_prefix magic bytes) ≡ Ok (x, rest) → Taken (after_magic magic f) bytes x rest
    take_one bytes x rest b e =
        let p = past_ok BadMagic f.read (after_prefix magic bytes) (x, rest) e in
        let front = after_is magic bytes p.0 b p.1 in
        let t = it.takes p.0 x rest front.1 p.2 in
        record { parts = front.0 ∙ ap (λ s. magic ++ s) t.parts ∙ sym (append_assoc magic (f.bytes_of x) rest); fitting = t.fitting; rest_bytes = t.rest_bytes }

    once_more : (x : X) (rest : List ℕ) → f.fits x ≡ true → past BadMagic f.read (after_prefix magic ((magic ++ f.bytes_of x) ++ rest)) ≡ Ok (x, rest)
    once_more x rest h =
        ap (λ s. past BadMagic f.read (after_prefix magic s)) (append_assoc magic (f.bytes_of x) rest)
        ∙ ap (past BadMagic f.read) (after_again magic (f.bytes_of x ++ rest)) ∙ it.again x rest h

-- ---- versions

-- a version that was read has this number, and may stand there
record Stands (may_stand : Version → Bool) (n : ℕ) (v : Version) : Type 0 where
  number : n ≡ version_number v
  good : may_stand v ≡ true

version_stands : (may_stand : Version → Bool) (n : ℕ) (v : Version) → version_among may_stand n ≡ Some v → Stands may_stand n v
version_stands may_stand n v e = first (nat_eq n 1) refl e
  where
    of : (w : Version) (b : Bool) → may_stand w ≡ b → n ≡ version_number w → cond b (Some w) None ≡ Some v → Stands may_stand n v
    of w true good here found = let same : w ≡ v = cc in record { number = here ∙ ap version_number same; good = ap may_stand (sym same) ∙ good }
    of w false good here found = absurd cc

    third : (b : Bool) → nat_eq n 3 ≡ b → cond b (if_it_may may_stand Third) None ≡ Some v → Stands may_stand n v
    third true here found = of Third (may_stand Third) refl (eqb-true n 3 here) found
    third false here found = absurd cc

    second : (b : Bool) → nat_eq n 2 ≡ b → cond b (if_it_may may_stand Second) (cond (nat_eq n 3) (if_it_may may_stand Third) None) ≡ Some v → Stands may_stand n v
    second true here found = of Second (may_stand Second) refl (eqb-true n 2 here) found
    second false here found = third (nat_eq n 3) refl found

    first : (b : Bool) → nat_eq n 1 ≡ b
        → cond b (if_it_may may_stand First) (cond (nat_eq n 2) (if_it_may may_stand Second) (cond (nat_eq n 3) (if_it_may may_stand Third) None)) ≡ Some v → Stands may_stand n v
    first true here found = of First (may_stand First) refl (eqb-true n 1 here) found
    first false here found = second (nat_eq n 2) refl found

there_ok : (o : Option Version) (after : List ℕ) (v : Version) (rest : List ℕ) → or_bad_version o after ≡ Ok (v, rest) → (o ≡ Some v) × (after ≡ rest)
there_ok None after v rest e = absurd cc
there_ok (Some w) after v rest e =
    let both = ok_is (w, after) (v, rest) e in (ap (λ (p : Version × List ℕ). Some p.0) both, ap (λ (p : Version × List ℕ). p.1) both)

abbrev as_version : (may_stand : Version → Bool) → ℕ × List ℕ → Result (Version × List ℕ) DeckFault
as_version may_stand n = or_bad_version (version_among may_stand n.0) n.1

version_takes : (may_stand : Version → Bool) (bytes : List ℕ) (v : Version) (rest : List ℕ) → AreBytes bytes → (version_in may_stand).read bytes ≡ Ok (v, rest) → Taken (version_in may_stand) bytes v rest
version_takes may_stand bytes v rest b e =
    let r = bind_ok (byte_at bytes) (as_version may_stand) (v, rest) e in
    let t = byte_law.takes bytes r.0.0 r.0.1 b r.1 in
    let there = there_ok (version_among may_stand r.0.0) r.0.1 v rest r.2 in
    let s = version_stands may_stand r.0.0 v there.0 in
    record {
      parts = t.parts ∙ ap (λ n. n ∷ r.0.1) s.number ∙ ap (λ bs. version_number v ∷ bs) there.1;
      fitting = s.good;
      rest_bytes = subst AreBytes there.1 t.rest_bytes;
    }

version_again : (may_stand : Version → Bool) (v : Version) (rest : List ℕ) → may_stand v ≡ true → (version_in may_stand).read (version_number v ∷ rest) ≡ Ok (v, rest)
version_again may_stand First rest h =
    ap (λ r. r >>= as_version may_stand) (byte_again 1 rest) ∙ ap (λ g. or_bad_version (cond g (Some First) None) rest) h
version_again may_stand Second rest h =
    ap (λ r. r >>= as_version may_stand) (byte_again 2 rest) ∙ ap (λ g. or_bad_version (cond g (Some Second) None) rest) h
version_again may_stand Third rest h =
    ap (λ r. r >>= as_version may_stand) (byte_again 3 rest) ∙ ap (λ g. or_bad_version (cond g (Some Third) None) rest) h

pub version_law : (may_stand : Version → Bool) → IsField (version_in may_stand)
version_law may_stand = record { takes = version_takes may_stand; again = version_again may_stand }

-- ---- decks

code_law : (v : Version) → IsField (code v)
unfolding code
code_law v =
    shaped_law code_of code_parts (signature ⊗ list (description v) ⊗ list (template v) ⊗ list (constant v) ⊗ list global ⊗ list block ⊗ list (instruction_in v))
    (signature_law ⊠ list_law u2 (description v) u2_law (description_law v) ⊠ list_law u2 (template v) u2_law (template_law v) ⊠ list_law u2 (constant v) u2_law (constant_law v)
    ⊠ list_law u2 global u2_law global_law ⊠ list_law u2 block u2_law block_law ⊠ list_law u2 (instruction_in v) u2_law (instruction_in_law v)) (λ p h. refl) (λ c h. refl)

contents_law : (v : Version) → IsField (contents v)
unfolding contents
contents_law v = name_law ⊠ flag_law ⊠ code_law v

pub deck_law : (may_stand : Version → Bool) → IsField (deck_in_versions may_stand)
unfolding deck_in_versions
deck_law may_stand =
    let parts = followed (version_in may_stand) contents in
    magic_law (80 ∷ 76 ∷ 73 ∷ 68 ∷ []) (shaped deck_of deck_parts parts)
    (shaped_law deck_of deck_parts parts (followed_law (version_in may_stand) contents (version_law may_stand) contents_law) (λ p h. refl) (λ d h. refl))
