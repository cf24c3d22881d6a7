-- A name is read as itself: it has its form, and its characters are in upper case.
use Rattle.std.proofs.Common.{◌≡◌, ℕ, ◌-◌, Bool, true, false, ◌&&◌, nat_le, List, [], ◌∷◌, Some, length, map, refl, sym, arith, true≢false}
use Rattle.std.specs.List.{list_all}
use Rattle.std.proofs.lemmas.Bool.Decides.{nat_tests}
use Rattle.std.proofs.lemmas.List.{length-map}
use Rattle.std.proofs.lemmas.List.Elements.{All-cons, All-nil}
use Rattle.std.proofs.lemmas.Option.{none-some}
use Rattle.std.proofs.lemmas.Str.{IsUtf8-from_ascii}
use Rattle.std.proofs.lemmas.Str.Ascii.{IsAscii-from_all}
use Rattle.std.specs.List.{All}
use Rattle.std.specs.Prelude.{if◌then◌else◌, None, ◌<◌}
use Rattle.std.specs.Str.{IsUtf8}
use Rattle.pli_base.specs.Name.{is_lower, is_letter, is_name_character, upper, has_form, name_of}

-- in upper case a letter is no lower one any more
raised : (c : ℕ) → is_lower c ≡ true → is_lower (c - 32) ≡ false
raised c h = grind (arith, nat_tests)

raised_letter : (c : ℕ) → is_lower c ≡ true → is_letter (c - 32) ≡ true
raised_letter c h = grind (arith, nat_tests)

upper_again : (c : ℕ) → upper (upper c) ≡ upper c
upper_again c = by (is_lower c) refl
  where
    by : (b : Bool) → is_lower c ≡ b → upper (upper c) ≡ upper c
    by true h = rw (h, raised c h) refl
    by false h = rw (h, h) refl

letter_stays : (c : ℕ) → is_letter c ≡ true → is_letter (upper c) ≡ true
letter_stays c is = by (is_lower c) refl
  where
    by : (b : Bool) → is_lower c ≡ b → is_letter (upper c) ≡ true
    by true h = rw h (raised_letter c h)
    by false h = rw h is

character_stays : (c : ℕ) → is_name_character c ≡ true → is_name_character (upper c) ≡ true
character_stays c is = by (is_lower c) refl
  where
    by : (b : Bool) → is_lower c ≡ b → is_name_character (upper c) ≡ true
    by true h = rw (h, raised_letter c h) refl
    by false h = rw h is

both : (a b : Bool) → a && b ≡ true → (a ≡ true) × (b ≡ true)
both true b h = (refl, h)
both false b h = absurd (true≢false (sym h))

together : (a b : Bool) → a ≡ true → b ≡ true → a && b ≡ true
together a b h k = rw (h, k) refl

characters_stay : (cs : List ℕ) → list_all is_name_character cs ≡ true → list_all is_name_character (map upper cs) ≡ true
characters_stay [] h = refl
characters_stay (c ∷ cs) h =
    let parts = both (is_name_character c) (list_all is_name_character cs) h in
    together (is_name_character (upper c)) (list_all is_name_character (map upper cs)) (character_stays c parts.0) (characters_stay cs parts.1)

form_stays : (cs : List ℕ) → has_form cs ≡ true → has_form (map upper cs) ≡ true
form_stays [] h = h
form_stays (c ∷ cs) h =
    let parts = both (is_letter c) (list_all is_name_character cs) h in
    together (is_letter (upper c)) (list_all is_name_character (map upper cs)) (letter_stays c parts.0) (characters_stay cs parts.1)

all_again : (cs : List ℕ) → map upper (map upper cs) ≡ map upper cs
all_again [] = refl
all_again (c ∷ cs) = rw (upper_again c, all_again cs) refl

pub read_as_itself : (cs : List ℕ) → has_form cs ≡ true → nat_le (length cs) 31 ≡ true → name_of (map upper cs) ≡ Some (map upper cs)
read_as_itself cs h few =
    let short : nat_le (length (map upper cs)) 31 ≡ true = rw (length-map cs upper) few in
    rw (form_stays cs h, short, all_again cs) refl

-- the characters of a name are ASCII, so that they are a text
character_is_ascii : (c : ℕ) → is_name_character c ≡ true → c < 128
character_is_ascii c h = grind (arith, nat_tests)

letter_is_ascii : (c : ℕ) → is_letter c ≡ true → c < 128
letter_is_ascii c h = grind (arith, nat_tests)

characters_are_ascii : (cs : List ℕ) → list_all is_name_character cs ≡ true → All (λ c. c < 128) cs
characters_are_ascii [] h = All-nil (λ c. c < 128)
characters_are_ascii (c ∷ cs) h =
    let parts = both (is_name_character c) (list_all is_name_character cs) h in
    All-cons (λ c. c < 128) c cs (character_is_ascii c parts.0) (characters_are_ascii cs parts.1)

form_is_ascii : (cs : List ℕ) → has_form cs ≡ true → All (λ c. c < 128) cs
form_is_ascii [] h = absurd (true≢false (sym h))
form_is_ascii (c ∷ cs) h =
    let parts = both (is_letter c) (list_all is_name_character cs) h in
    All-cons (λ c. c < 128) c cs (letter_is_ascii c parts.0) (characters_are_ascii cs parts.1)

pub names_are_text : (n : List ℕ) → name_of n ≡ Some n → IsUtf8 n
names_are_text n h = by (has_form n && nat_le (length n) 31) refl h
  where
    by : (b : Bool) → has_form n && nat_le (length n) 31 ≡ b → (if b then Some (map upper n) else None) ≡ Some n → IsUtf8 n
    by true fits _ = IsUtf8-from_ascii n (IsAscii-from_all n (form_is_ascii n (both (has_form n) (nat_le (length n) 31) fits).0))
    by false _ h = absurd (none-some n h)
