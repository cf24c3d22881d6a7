-- The kinds of characters exclude one another, and no line end is of one.
use Rattle.std.proofs.Common.{◌≡◌, ℕ, Bool, true, false, eqb, not, ◌&&◌, List, [], ◌∷◌, Some, refl, sym, ap, ◌∙◌, arith, inl, inr}
use Rattle.std.specs.List.{list_all}
use Rattle.std.proofs.lemmas.Bool.{cases_Bool, and_parts, eqb-true}
use Rattle.std.proofs.lemmas.Bool.Decides.{nat_tests}
use Rattle.pli_base.specs.Name.{is_letter, is_digit, is_name_character}
use Rattle.pli_base.specs.declared.token.Sign.{Sign}
use Rattle.pli_lex.specs.Characters.{is_blank, is_quote, is_b, is_binary_digit, continues_number, begins_with}
use Rattle.pli_lex.specs.Signs.{single_signs, double_signs, single_in, double_in, sign_of}
use Rattle.pli_lex.proofs.TakenApart.{chosen, none_some}

-- what begins no separator: neither a blank nor the first character of a comment
abbrev pub is_solid : ℕ → Bool
is_solid c = not (is_blank c) && not (eqb c 47)

pub letter_in_name : (c : ℕ) → is_letter c ≡ true → is_name_character c ≡ true
letter_in_name c letter = rw letter refl

pub letter_solid : (c : ℕ) → is_letter c ≡ true → is_solid c ≡ true
letter_solid c letter = grind (arith, nat_tests)

pub digit_solid : (c : ℕ) → is_digit c ≡ true → is_solid c ≡ true
digit_solid c digit = grind (arith, nat_tests)

pub digit_no_letter : (c : ℕ) → is_digit c ≡ true → is_letter c ≡ false
digit_no_letter c digit = grind (arith, nat_tests)

pub binary_digit_is_digit : (c : ℕ) → is_binary_digit c ≡ true → is_digit c ≡ true
binary_digit_is_digit c digit = grind (arith, nat_tests)

pub b_no_digit : (c : ℕ) → is_b c ≡ true → is_digit c ≡ false
b_no_digit c b = grind (arith, nat_tests)

pub b_no_quote : (c : ℕ) → is_b c ≡ true → is_quote c ≡ false
b_no_quote c b = grind (arith, nat_tests)

pub b_continues : (c : ℕ) → is_b c ≡ true → continues_number c ≡ true
b_continues c b = grind (arith, nat_tests)

pub digit_continues : (c : ℕ) → is_digit c ≡ true → continues_number c ≡ true
digit_continues c digit = grind (arith, nat_tests)

-- a kind of which another has all, at the front of a text
pub not_begun : (p q : ℕ → Bool) (rest : List ℕ) → ((c : ℕ) → p c ≡ true → q c ≡ true) → begins_with q rest ≡ false → begins_with p rest ≡ false
not_begun p q [] within stops = refl
not_begun p q (c ∷ cs) within stops = elim (cases_Bool (p c)) [
  | inl is ↦ absurd (let e : false ≡ true = sym stops ∙ within c is in cc)
  | inr is ↦ is
]

-- what begins with one kind begins with no other
pub begun_otherwise : (p q : ℕ → Bool) (rest : List ℕ) → ((c : ℕ) → p c ≡ true → q c ≡ false) → begins_with p rest ≡ true → begins_with q rest ≡ false
begun_otherwise p q [] apart begins = refl
begun_otherwise p q (c ∷ cs) apart begins = apart c begins

-- ---- signs

-- what holds of each entry holds of the one that is found
single_passes : (p : ℕ → Bool) (entries : List (ℕ × Sign)) (c : ℕ) (s : Sign) → list_all (λ entry. p entry.0) entries ≡ true → single_in entries c ≡ Some s → p c ≡ true
single_passes p [] c s all found = absurd (none_some s found)
single_passes p (entry ∷ entries) c s all found =
    let parts = and_parts (p entry.0) (list_all (λ entry. p entry.0) entries) all in
    elim (chosen (eqb c entry.0) (Some entry.1) (single_in entries c) (Some s) found) [
      | inl here ↦ ap p (eqb-true c entry.0 here.0) ∙ parts.0
      | inr after ↦ single_passes p entries c s parts.1 after.1
    ]

double_passes : (p : ℕ → Bool) (entries : List (ℕ × ℕ × Sign)) (c d : ℕ) (s : Sign) → list_all (λ entry. p entry.0) entries ≡ true → double_in entries c d ≡ Some s → p c ≡ true
double_passes p [] c d s all found = absurd (none_some s found)
double_passes p (entry ∷ entries) c d s all found =
    let parts = and_parts (p entry.0) (list_all (λ entry. p entry.0) entries) all in
    elim (chosen (eqb d entry.1 && eqb c entry.0) (Some entry.2) (double_in entries c d) (Some s) found) [
      | inl here ↦ ap p (eqb-true c entry.0 (and_parts (eqb d entry.1) (eqb c entry.0) here.0).1) ∙ parts.0
      | inr after ↦ double_passes p entries c d s parts.1 after.1
    ]

-- a character that begins neither a separator nor another token than a sign
abbrev pub begins_sign : ℕ → Bool
begins_sign c = is_solid c && (not (is_letter c) && (not (is_digit c) && not (is_quote c)))

-- a sign is one or two characters, and begins nothing else
pub sign_begins : (run : List ℕ) (s : Sign) → sign_of run ≡ Some s → begins_with begins_sign run ≡ true
sign_begins [] s found = absurd (none_some s found)
sign_begins (c ∷ []) s found = single_passes begins_sign single_signs c s refl found
sign_begins (c ∷ d ∷ []) s found = double_passes begins_sign double_signs c d s refl found
sign_begins (c ∷ d ∷ e ∷ cs) s found = absurd (none_some s found)
