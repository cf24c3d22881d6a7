-- What is within the limits of the language fits the fields of a deck.
use Rattle.std.proofs.Common.{◌≡◌, ℕ, zero, suc, ◌%◌, ◌<◌, ◌≤◌, ◌&&◌, ◌||◌, Bool, true, false, nat_eq, nat_le, nat_lt, int_le, if◌then◌else◌, ℤ, unsigned_abs, Option, Some, None, List, [], ◌∷◌, length, map, refl, ap, sym, ◌∙◌, arith, true≢false}
use Rattle.std.specs.List.{list_all, AllByRecursion}
use Rattle.std.specs.Int.{is_in_range}
use Rattle.std.specs.Str.{bytes_eq}
use Rattle.std.proofs.lemmas.Bool.{lt-ltb, le-leb, ltb-false, leb-true, eq-eqb, eqb-true}
use Rattle.std.proofs.lemmas.List.{length-map}
use Rattle.std.proofs.lemmas.Slice.Eq.{bytes_eq-Decides}
use Rattle.pli_base.specs.Name.{Name, name_of, is_upper, is_lower, is_letter, is_digit, is_name_character, has_form, upper}
use Rattle.pli_map.specs.declared.description.Bounds.{Bounds}
use Rattle.pli_map.specs.Description.{Description, FixedBinary, Character, Varying, Bit, Pointer, Offset, Area, Array, Structure, Members, NoMembers, MemberThen}
use Rattle.pli_map.specs.ParameterTypes.{ParameterType, Stated, AnyString, AnyArray, ArrayOf, StructureOf}
use Rattle.pli_map.specs.declared.parameter.StringForm.{StringForm}
use Rattle.pli_value.specs.Value.{Value, Number, Characters, Bits, Located}
use Rattle.pli_code.specs.Fields.{Field, u1, u2, u4, byte, from_to, list_of, count_of_one, ◌⊗◌}
use Rattle.pli_code.specs.Instructions.{precision, bound, dimension_number}
use Rattle.pli_code.specs.Versions.{written}
use Rattle.pli_deck_write.specs.Descriptions.{string_length, area_size, bounds, dimensions, members, element_of, description_within, description}
use Rattle.pli_map.specs.Description.{listed}
use Rattle.pli_deck_write.specs.DeckFields.{is_written, is_name, name, optional, bit_string, integer, characters, constant, signature, parameter_count}
use Rattle.pli_gen.specs.Limits.{member_count, has_many_members, one_has_many, has_many_types}
use Rattle.pli_deck_laws.specs.Limits.{level_limit, IfThere, IsPrecision, IsLength, IsBound, AreBounds, IsDescribed, AreDescribed, IsDimension, IsOpenElement, IsParameterType, IsConstant}
use Rattle.pli_deck_laws.specs.UnitTypes.{IsName, IsByte, HasBytes}

-- ---- tests

pub both_hold : (a b : Bool) → a ≡ true → b ≡ true → (a && b) ≡ true
both_hold a b h k = rw (h, k)

pub neither : (a b : Bool) → (a || b) ≡ false → (a ≡ false) × (b ≡ false)
neither true b h = absurd (true≢false h)
neither false b h = (refl, h)

pub each_holds : {X : Type 0} (f : X → Bool) (P : X → Type 0) → ((x : X) → P x → f x ≡ true) → (xs : List X) → AllByRecursion P xs → list_all f xs ≡ true
each_holds f P one [] h = refl
each_holds f P one (x ∷ xs) h = both_hold (f x) (list_all f xs) (one x h.0) (each_holds f P one xs h.1)

pub all_mapped : {X Y : Type 0} (g : X → Y) (P : X → Type 0) (Q : Y → Type 0) → ((x : X) → P x → Q (g x)) → (xs : List X) → AllByRecursion P xs → AllByRecursion Q (map g xs)
all_mapped g P Q one [] h = tt
all_mapped g P Q one (x ∷ xs) h = (one x h.0, all_mapped g P Q one xs h.1)

-- ---- numbers

pub fits_byte : (n : ℕ) → n ≤ 255 → u1.fits n ≡ true
fits_byte n h = lt-ltb n 256 (omega (arith, h))

pub fits_short : (n : ℕ) → n ≤ 65535 → u2.fits n ≡ true
fits_short n h = lt-ltb n 65536 (omega (arith, h))

pub fits_word : (n : ℕ) → n < 4294967296 → u4.fits n ≡ true
fits_word n h = lt-ltb n 4294967296 h

pub fits_count : (n : ℕ) → n ≤ 255 → count_of_one.fits n ≡ true
fits_count n h = lt-ltb n 256 (omega (arith, h))

pub fits_range : (low high n : ℕ) (f : Field ℕ) → f.fits n ≡ true → low ≤ n → n ≤ high → (from_to low high f).fits n ≡ true
fits_range low high n f h l m = both_hold (f.fits n) (is_in_range low high n) h (both_hold (nat_le low n) (nat_le n high) (le-leb low n l) (le-leb n high m))

pub fits_pair : {X Y : Type 0} (f : Field X) (g : Field Y) (x : X) (y : Y) → f.fits x ≡ true → g.fits y ≡ true → (f ⊗ g).fits (x, y) ≡ true
fits_pair f g x y h k = both_hold (f.fits x) (g.fits y) h k

pub fits_list : {X : Type 0} (counts : Field ℕ) (f : Field X) (xs : List X) → counts.fits (length xs) ≡ true → list_all f.fits xs ≡ true → (list_of counts f).fits xs ≡ true
fits_list counts f xs h k = both_hold (counts.fits (length xs)) (list_all f.fits xs) h k

-- a number below 65,535, or none
pub fits_optional : (o : Option ℕ) → IfThere (λ n. n < 65535) o → optional.fits o ≡ true
unfolding optional
fits_optional None h = refl
fits_optional (Some n) h = lt-ltb n 65535 h

-- ---- names

below : (c high : ℕ) (b : Bool) → b && nat_le c high ≡ true → high ≤ 255 → c < 256
below c high true h k = let l = leb-true c high h in omega (arith, l, k)
below c high false h k = absurd (true≢false (sym h))

either : (a b : Bool) (P : Type 0) → (a ≡ true → P) → (b ≡ true → P) → (a || b) ≡ true → P
either true b P f g h = f refl
either false b P f g h = g h

letter_below : (c : ℕ) → is_letter c ≡ true → c < 256
letter_below c h = either (is_upper c) (is_lower c) (c < 256) (λ e. below c 90 (nat_le 65 c) e (omega arith)) (λ e. below c 122 (nat_le 97 c) e (omega arith)) h

character_below : (c : ℕ) → is_name_character c ≡ true → c < 256
character_below c h =
    either (is_letter c || is_digit c || nat_eq c 95) (nat_eq c 36) (c < 256)
    (λ e. either (is_letter c || is_digit c) (nat_eq c 95) (c < 256)
    (λ e. either (is_letter c) (is_digit c) (c < 256) (letter_below c) (λ e. below c 57 (nat_le 48 c) e (omega arith)) e)
    (λ e. let k = eqb-true c 95 e in omega (arith, k)) e)
    (λ e. let k = eqb-true c 36 e in omega (arith, k)) h

both_of : (a b : Bool) → (a && b) ≡ true → (a ≡ true) × (b ≡ true)
both_of true b h = (refl, h)
both_of false b h = absurd (true≢false (sym h))

bytes_fit : (cs : List ℕ) → list_all is_name_character cs ≡ true → list_all byte.fits cs ≡ true
bytes_fit [] h = refl
bytes_fit (c ∷ cs) h =
    let b = both_of (is_name_character c) (list_all is_name_character cs) h in
    both_hold (byte.fits c) (list_all byte.fits cs) (lt-ltb c 256 (character_below c b.0)) (bytes_fit cs b.1)

-- what the form of a name says
record Formed (n : Name) : Type 0 where
  some : 1 ≤ length n
  few : length n ≤ 31
  bytes : list_all byte.fits n ≡ true

form_says : (n : Name) → has_form n ≡ true → length n ≤ 31 → Formed n
form_says [] h k = absurd (true≢false (sym h))
form_says (c ∷ cs) h k =
    let b = both_of (is_letter c) (list_all is_name_character cs) h in
    record { some = omega arith; few = k; bytes = both_hold (byte.fits c) (list_all byte.fits cs) (lt-ltb c 256 (letter_below c b.0)) (bytes_fit cs b.1) }

spelled : (b : Bool) (x n : Name) → (if b then Some x else None) ≡ Some n → b ≡ true
spelled true x n h = refl
spelled false x n h = absurd cc

name_says : (n : Name) → IsName n → Formed n
name_says n h =
    let b = both_of (has_form n) (nat_le (length n) 31) (spelled (has_form n && nat_le (length n) 31) (map upper n) n h) in
    form_says n b.0 (leb-true (length n) 31 b.1)

same_bytes : (xs : List ℕ) → bytes_eq xs xs ≡ true
same_bytes xs = (bytes_eq-Decides xs xs).1 refl

name_written : (n : Name) (o : Option Name) → o ≡ Some n → is_written o n ≡ true
name_written n o h = ap (λ o. is_written o n) h ∙ same_bytes n

pub fits_name : (n : Name) → IsName n → name.fits n ≡ true
unfolding name
fits_name n h =
    let f = name_says n h in
    both_hold ((list_of (from_to 1 31 count_of_one) byte).fits n) (is_name n)
    (fits_list (from_to 1 31 count_of_one) byte n (fits_range 1 31 (length n) count_of_one (fits_count (length n) (let k = f.few in omega (arith, k))) f.some f.few) f.bytes)
    (name_written n (name_of n) h)

-- ---- descriptions

pub fits_bound : (x : ℤ) → IsBound x → bound.fits x ≡ true
fits_bound x h = le-leb (unsigned_abs x) 32767 h

fits_bounds : (b : Bounds) → AreBounds b → bounds.fits b ≡ true
fits_bounds b h =
    both_hold ((bound ⊗ bound).fits (b.low, b.high)) (int_le b.low b.high) (fits_pair bound bound b.low b.high (fits_bound b.low h.1) (fits_bound b.high h.2)) h.0

pub fits_precision : (p : ℕ) → IsPrecision p → (precision written).fits p ≡ true
fits_precision p h = let k = h.1 in fits_range 1 63 p u1 (fits_byte p (omega (arith, k))) h.0 h.1

fits_length : (n : ℕ) → IsLength n → string_length.fits n ≡ true
fits_length n h = let k = h.1 in fits_range 1 32767 n u2 (fits_short n (omega (arith, k))) h.0 h.1

fits_dimensions : (bs : List Bounds) → 1 ≤ length bs → length bs ≤ 8 → AllByRecursion AreBounds bs → dimensions.fits bs ≡ true
fits_dimensions bs some few all =
    fits_list (from_to 1 8 count_of_one) bounds bs (fits_range 1 8 (length bs) count_of_one (fits_count (length bs) (omega (arith, few))) some few)
    (each_holds bounds.fits AreBounds fits_bounds bs all)

fits_area : (n : ℕ) → 1 ≤ n → n ≤ 1000000 → n % 8 ≡ 0 → area_size.fits n ≡ true
fits_area n some few eights =
    both_hold ((from_to 1 1000000 u4).fits n) (nat_eq (n % 8) 0) (fits_range 1 1000000 n u4 (fits_word n (omega (arith, few))) some few) (eq-eqb (n % 8) 0 eights)

listed_count : (ds : Members) → length (listed ds) ≡ member_count ds
listed_count NoMembers = refl
listed_count (MemberThen d ds) = ap suc (listed_count ds)

few_of : (n : ℕ) → nat_lt 65535 n ≡ false → n ≤ 65535
few_of n h = ltb-false 65535 n h

fits_members : (inner : Field ParameterType) (d : Description) (ds : Members) → has_many_members (Structure (MemberThen d ds)) ≡ false → inner.fits (Stated d) ≡ true
    → list_all inner.fits (map Stated (listed ds)) ≡ true → (members inner).fits (map Stated (listed (MemberThen d ds))) ≡ true
fits_members inner d ds few h k =
    let n = neither (nat_lt 65535 (member_count (MemberThen d ds))) (one_has_many (MemberThen d ds)) few in
    let ts = map Stated (listed (MemberThen d ds)) in
    let count = length-map (listed (MemberThen d ds)) Stated ∙ listed_count (MemberThen d ds) in
    let limit = few_of (member_count (MemberThen d ds)) n.0 in
    fits_list (from_to 1 65535 u2) inner ts
    (fits_range 1 65535 (length ts) u2 (fits_short (length ts) (omega (arith, count, limit))) (omega arith) (omega (arith, count, limit)))
    (both_hold (inner.fits (Stated d)) (list_all inner.fits (map Stated (listed ds))) h k)

mutual
  unfolding description_within

  pub fits_description : (n : ℕ) (d : Description) → IsDescribed n d → has_many_members d ≡ false → (description_within written n).fits (Stated d) ≡ true
  fits_description zero d h few = absurd h
  fits_description (suc n) (FixedBinary p) h few = fits_precision p h
  fits_description (suc n) (Character k) h few = fits_length k h
  fits_description (suc n) (Varying k) h few = fits_length k h
  fits_description (suc n) (Bit k) h few = fits_length k h
  fits_description (suc n) Pointer h few = refl
  fits_description (suc n) Offset h few = refl
  fits_description (suc n) (Area k) h few = fits_area k h.0 h.1 h.2
  fits_description (suc n) (Array bs element) h few =
      fits_pair dimensions (description_within written n) bs (Stated element) (fits_dimensions bs h.0 h.1 h.2) (fits_description n element h.3 few)
  fits_description (suc n) (Structure NoMembers) h few = absurd h
  fits_description (suc n) (Structure (MemberThen d ds)) h few =
      let one = neither (nat_lt 65535 (member_count (MemberThen d ds))) (one_has_many (MemberThen d ds)) few in
      let r = neither (has_many_members d) (one_has_many ds) one.1 in
      fits_members (description_within written n) d ds few (fits_description n d h.0 r.0) (fit_descriptions n ds h.1 r.1)

  fit_descriptions : (n : ℕ) (ds : Members) → AreDescribed n ds → one_has_many ds ≡ false → list_all (description_within written n).fits (map Stated (listed ds)) ≡ true
  fit_descriptions n NoMembers h few = refl
  fit_descriptions n (MemberThen d ds) h few =
      let r = neither (has_many_members d) (one_has_many ds) few in
      both_hold ((description_within written n).fits (Stated d)) (list_all (description_within written n).fits (map Stated (listed ds))) (fits_description n d h.0 r.0) (fit_descriptions n ds h.1 r.1)

-- ---- types in which a `*` stands

pub fits_dimension : (k : ℕ) → IsDimension k → dimension_number.fits k ≡ true
fits_dimension k h = let few = h.1 in fits_range 1 8 k u1 (fits_byte k (omega (arith, few))) h.0 h.1

fits_any_string : (n : ℕ) (f : StringForm) → (description_within written (suc n)).fits (AnyString f) ≡ true
unfolding description_within
fits_any_string n f = refl

-- an element, whose own field is the one of its level
fits_element : (n : ℕ) (e : ParameterType) → IsOpenElement e → (element_of (description_within written (suc n))).fits e ≡ true
unfolding description_within
fits_element n (Stated (FixedBinary p)) h = both_hold ((description_within written (suc n)).fits (Stated (FixedBinary p))) true (fits_precision p h) refl
fits_element n (Stated (Character k)) h = both_hold ((description_within written (suc n)).fits (Stated (Character k))) true (fits_length k h) refl
fits_element n (Stated (Varying k)) h = both_hold ((description_within written (suc n)).fits (Stated (Varying k))) true (fits_length k h) refl
fits_element n (Stated (Bit k)) h = both_hold ((description_within written (suc n)).fits (Stated (Bit k))) true (fits_length k h) refl
fits_element n (Stated Pointer) h = refl
fits_element n (Stated Offset) h = refl
fits_element n (Stated (Area k)) h = absurd h
fits_element n (Stated (Array bs d)) h = absurd h
fits_element n (Stated (Structure ds)) h = absurd h
fits_element n (AnyString f) h = refl
fits_element n other h = absurd h

fits_any_array : (n k : ℕ) (e : ParameterType) → IsDimension k → IsOpenElement e → (description_within written (suc (suc n))).fits (AnyArray k e) ≡ true
unfolding description_within
fits_any_array n k e h g = fits_pair dimension_number (element_of (description_within written (suc n))) k e (fits_dimension k h) (fits_element n e g)

fits_array_of : (n : ℕ) (bs : List Bounds) (f : StringForm) → IsDimension (length bs) → AllByRecursion AreBounds bs → (description_within written (suc (suc n))).fits (ArrayOf bs (AnyString f)) ≡ true
unfolding description_within
fits_array_of n bs f h g = fits_pair dimensions (description_within written (suc n)) bs (AnyString f) (fits_dimensions bs h.0 h.1 g) (fits_any_string n f)

-- a type that a parameter may have
pub fits_type : (t : ParameterType) → IsParameterType t → has_many_types t ≡ false → (description written).fits t ≡ true
fits_type (Stated d) h few = fits_description level_limit d h few
fits_type (AnyString f) h few = fits_any_string 511 f
fits_type (AnyArray k e) h few = fits_any_array 510 k e h.0 h.1
fits_type (ArrayOf bs (AnyString f)) h few = fits_array_of 510 bs f h.0 h.1
fits_type (ArrayOf bs other) h few = absurd h.2
fits_type (StructureOf ts) h few = absurd h

-- ---- constants

fits_integer : (x : ℤ) → unsigned_abs x ≤ 9223372036854775807 → (integer written).fits x ≡ true
fits_integer x h = le-leb (unsigned_abs x) 9223372036854775807 h

fits_characters : (text : List ℕ) → length text ≤ 32767 → AllByRecursion IsByte text → characters.fits text ≡ true
unfolding characters
fits_characters text few codes =
    fits_list (from_to 0 32767 u2) byte text (fits_range 0 32767 (length text) u2 (fits_short (length text) (omega (arith, few))) (omega arith) few)
    (each_holds byte.fits IsByte (λ c h. lt-ltb c 256 h) text codes)

fits_bits : (bits : List Bool) → length bits ≤ 32767 → bit_string.fits bits ≡ true
unfolding bit_string
fits_bits bits few = le-leb (length bits) 32767 few

pub fits_constant : (v : Value) → IsConstant v → HasBytes v → (constant written).fits v ≡ true
unfolding constant
fits_constant (Number x) h k = fits_integer x h
fits_constant (Characters text) h k = fits_characters text h k
fits_constant (Bits bits) h k = fits_bits bits h
fits_constant (Located l) h k = h

-- ---- signatures, whose descriptions have numbers below 65,535

pub fits_signature : (ps : List ℕ) (result : Option ℕ) → length ps ≤ 64 → AllByRecursion (λ n. n < 65535) ps → IfThere (λ n. n < 65535) result
    → signature.fits (record { parameters = ps; result = result }) ≡ true
unfolding signature
fits_signature ps result few all some =
    fits_pair (list_of parameter_count u2) optional ps result
    (fits_list parameter_count u2 ps (fits_range 0 64 (length ps) count_of_one (fits_count (length ps) (omega (arith, few))) (omega arith) few)
    (each_holds u2.fits (λ n. n < 65535) (λ n h. fits_short n (omega (arith, h))) ps all))
    (fits_optional result some)
