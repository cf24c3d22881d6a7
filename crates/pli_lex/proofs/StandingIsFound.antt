-- A token is found where it stands.
use Rattle.std.proofs.Common.{◌≡◌, ◌≢◌, ℕ, ◌+◌, ◌-◌, ◌≤◌, ◌<◌, ◌^◌, Bool, true, false, leb, ltb, not, ◌&&◌, ◌||◌, List, [], ◌∷◌, ◌++◌, length, length-append, take, drop, Option, Some, Ok, refl, sym, ap, subst, ◌∙◌, append_assoc, arith, inl, inr}
use Rattle.std.specs.List.{list_all, prefix_len}
use Rattle.std.specs.Option.{is_some}
use Rattle.std.proofs.Math.Pow.{pow_mono}
use Rattle.std.proofs.lemmas.Bool.{cases_Bool, and_parts, and_from, eqb-true, leb-true, ltb-true, not-true}
use Rattle.std.proofs.lemmas.Bool.Decides.{nat_tests}
use Rattle.std.proofs.lemmas.List.{append-nil, take_at, drop_at}
use Rattle.pli_base.specs.Name.{Name, is_letter, is_digit, is_name_character, has_form, name_of}
use Rattle.pli_base.specs.declared.code.Code.{Code}
use Rattle.pli_base.specs.declared.token.Sign.{Sign}
use Rattle.pli_base.specs.declared.token.TokenText.{TokenText}
use Rattle.pli_base.specs.declared.token.TokenText.TheVariants as texts
use Rattle.pli_lex.specs.Characters.{is_line_end, is_quote, is_b, is_binary_digit, is_width_digit, digit_value, on_one_line, continues_number, begins_with}
use Rattle.pli_lex.specs.Signs.{sign_of}
use Rattle.pli_base.specs.Digits.{value_in}
use Rattle.pli_lex.specs.Tokens.{is_constant, is_binary_constant, doubled, quoted, width_of, are_digits, bits_in, IsToken, EndsAt}
use Rattle.pli_lex.specs.Reading.{Found, word, word_at, number_of, number_at, bits, string, string_found, string_at, sign, sign_at, token_at}
use Rattle.pli_lex.proofs.TakenApart.{done, ok_is, chosen, some_is, none_some}
use Rattle.pli_lex.proofs.KindsApart.{is_solid, letter_in_name, letter_solid, digit_solid, digit_no_letter, binary_digit_is_digit, b_no_digit, b_no_quote, b_continues, digit_continues, not_begun, begun_otherwise, begins_sign, sign_begins}
use Rattle.pli_lex.proofs.LongestRuns.{run_again}
use Rattle.pli_lex.proofs.StringsEnd.{string_again}
use Rattle.pli_lex.proofs.FoundStands.{quoted_before, quoted_long}

-- ---- what the first character tells

word_first : (c : ℕ) (cs : List ℕ) → is_letter c ≡ true → token_at (c ∷ cs) ≡ word_at (c ∷ cs)
unfolding token_at
word_first c cs letter = rw letter refl

number_first : (c : ℕ) (cs : List ℕ) → is_digit c ≡ true → token_at (c ∷ cs) ≡ number_at (c ∷ cs)
unfolding token_at
number_first c cs digit = rw (digit_no_letter c digit, digit) refl

string_first : (cs : List ℕ) → token_at (39 ∷ cs) ≡ string_at (39 ∷ cs)
unfolding token_at
string_first cs = refl

sign_first : (c : ℕ) (cs : List ℕ) → begins_sign c ≡ true → token_at (c ∷ cs) ≡ sign_at (c ∷ cs)
unfolding token_at
sign_first c cs begins =
    let a = and_parts (is_solid c) (not (is_letter c) && (not (is_digit c) && not (is_quote c))) begins in
    let b = and_parts (not (is_letter c)) (not (is_digit c) && not (is_quote c)) a.1 in
    let d = and_parts (not (is_digit c)) (not (is_quote c)) b.1 in
    rw (not-true _ b.0, not-true _ d.0, not-true _ d.1) refl

-- ---- names

-- what has a name is of the form
name_form : (text : List ℕ) (name : Name) → name_of text ≡ Some name → has_form text ≡ true
name_form text name is = elim (chosen (has_form text && leb (length text) 31) _ _ _ is) [
  | inl h ↦ (and_parts (has_form text) (leb (length text) 31) h.0).0
  | inr h ↦ absurd (none_some name h.1)
]

word_found : (run rest : List ℕ) (name : Name) → name_of run ≡ Some name → begins_with is_name_character rest ≡ false → token_at (run ++ rest) ≡ Ok (texts.Word name, length run)
word_found [] rest name is ends = absurd (none_some name is)
word_found (c ∷ cs) rest name is ends =
    let run = c ∷ cs in
    let text = run ++ rest in
    let form = and_parts (is_letter c) (list_all is_name_character cs) (name_form run name is) in
    let all : list_all is_name_character run ≡ true = and_from (is_name_character c) (list_all is_name_character cs) (letter_in_name c form.0) form.1 in
    let width : prefix_len is_name_character text ≡ length run = run_again is_name_character run rest all ends in
    word_first c (cs ++ rest) form.0
    ∙ ap (λ (n : ℕ). word (name_of (take n text)) n) width
    ∙ ap (λ (l : List ℕ). word (name_of l) (length run)) (take_at run rest (length run) refl)
    ∙ ap (λ (o : Option Name). word o (length run)) is

-- ---- numbers

number_split : (run rest : List ℕ) → list_all is_digit run ≡ true → begins_with is_digit rest ≡ false → number_at (run ++ rest) ≡ number_of run rest
number_split run rest all ends =
    let text = run ++ rest in
    let width : prefix_len is_digit text ≡ length run = run_again is_digit run rest all ends in
    ap (λ (n : ℕ). number_of (take n text) (drop n text)) width
    ∙ ap (λ (l : List ℕ). number_of l (drop (length run) text)) (take_at run rest (length run) refl)
    ∙ ap (λ (l : List ℕ). number_of run l) (drop_at run rest (length run) refl)

decimal_found : (run rest : List ℕ) → is_constant run ≡ true → begins_with continues_number rest ≡ false → token_at (run ++ rest) ≡ Ok (texts.Decimal (value_in 10 run) (length run), length run)
decimal_found [] rest is ends = absurd cc
decimal_found (c ∷ cs) rest is ends =
    let run = c ∷ cs in
    let all : list_all is_digit run ≡ true = (and_parts _ (list_all is_digit run) (and_parts _ (leb (value_in 10 run) 9223372036854775807) is).0).1 in
    let digit = (and_parts (is_digit c) (list_all is_digit cs) all).0 in
    let no_b = not_begun is_b continues_number rest b_continues ends in
    number_first c (cs ++ rest) digit ∙ number_split run rest all (not_begun is_digit continues_number rest digit_continues ends)
    ∙ rw (no_b, is, ends) refl

all_within : (p q : ℕ → Bool) (run : List ℕ) → ((c : ℕ) → p c ≡ true → q c ≡ true) → list_all p run ≡ true → list_all q run ≡ true
all_within p q [] within all = refl
all_within p q (c ∷ cs) within all =
    let parts = and_parts (p c) (list_all p cs) all in
    and_from (q c) (list_all q cs) (within c parts.0) (all_within p q cs within parts.1)

binary_found : (front rest : List ℕ) (b : ℕ) → is_b b ≡ true → is_binary_constant front ≡ true → begins_with continues_number rest ≡ false
    → token_at (front ++ b ∷ rest) ≡ Ok (texts.Binary (value_in 2 front) (length front), length front + 1)
binary_found [] rest b b_is is ends = absurd cc
binary_found (c ∷ cs) rest b b_is is ends =
    let front = c ∷ cs in
    let all : list_all is_digit front ≡ true = all_within is_binary_digit is_digit front binary_digit_is_digit (and_parts _ (list_all is_binary_digit front) is).1 in
    let digit = (and_parts (is_digit c) (list_all is_digit cs) all).0 in
    number_first c (cs ++ b ∷ rest) digit ∙ number_split front (b ∷ rest) all (b_no_digit b b_is)
    ∙ rw (b_is, is, ends) refl

-- ---- strings

string_split : (characters rest : List ℕ) → on_one_line characters ≡ true → begins_with is_quote rest ≡ false → token_at (quoted characters ++ rest) ≡ string characters (length (quoted characters)) rest
string_split characters rest line stops =
    let cs = doubled characters ++ 39 ∷ rest in
    let width = length (doubled characters) + 1 in
    let long : width + 1 ≡ length (quoted characters) = sym (quoted_long characters) in
    let after : drop (width + 1) (39 ∷ cs) ≡ rest = ap (drop (width + 1)) (sym (quoted_before characters rest)) ∙ drop_at (quoted characters) rest (width + 1) (sym long) in
    ap token_at (quoted_before characters rest) ∙ string_first cs
    ∙ ap (string_found (39 ∷ cs)) (string_again characters rest line stops)
    ∙ ap (string characters (width + 1)) after ∙ ap (λ (n : ℕ). string characters n rest) long

either : (c : ℕ) → is_b c ≡ true → (is_quote c || is_b c) ≡ true
either c h = elim (cases_Bool (is_quote c)) [ inl q ↦ rw q refl | inr q ↦ rw (q, h) refl ]

characters_found : (characters rest : List ℕ) → on_one_line characters ≡ true → begins_with (λ c. is_quote c || is_b c) rest ≡ false → token_at (quoted characters ++ rest) ≡ Ok (texts.Characters characters, length (quoted characters))
characters_found characters rest line ends =
    let no_quote = not_begun is_quote (λ c. is_quote c || is_b c) rest (λ c h. rw h refl) ends in
    let no_b = not_begun is_b (λ c. is_quote c || is_b c) rest either ends in
    string_split characters rest line no_quote ∙ rw no_b refl

digit_on_line : (width c : ℕ) → width ≤ 4 → ltb (digit_value c) (2 ^ width) ≡ true → not (is_line_end c) ≡ true
digit_on_line width c narrow digit = elim (cases_Bool (is_line_end c)) [
  | inl end ↦
      let is : c ≡ 256 = eqb-true c 256 end in
      let none : 16 < 2 ^ width = ltb-true 16 (2 ^ width) (ap (λ (d : ℕ). ltb (digit_value d) (2 ^ width)) (sym is) ∙ digit) in
      let bound : 2 ^ width ≤ 2 ^ 4 = pow_mono narrow in
      absurd (omega arith)
  | inr on ↦ rw on refl
]

digits_on_line : (width : ℕ) (digits : List ℕ) → width ≤ 4 → are_digits width digits ≡ true → on_one_line digits ≡ true
digits_on_line width digits narrow all = all_within (λ digit. ltb (digit_value digit) (2 ^ width)) (λ c. not (is_line_end c)) digits (λ c h. digit_on_line width c narrow h) all

width_narrow : (after : List ℕ) (width : ℕ) → width_of after ≡ Some width → width ≤ 4
width_narrow [] width h = absurd (none_some width h)
width_narrow (b ∷ []) width h = elim (chosen (is_b b) _ _ (Some width) h) [
  | inl is ↦ let one : 1 ≡ width = some_is 1 width is.1 in omega arith
  | inr is ↦ absurd (none_some width is.1)
]
width_narrow (b ∷ d ∷ []) width h = elim (chosen (is_b b && is_width_digit d) _ _ (Some width) h) [
  | inl is ↦
      let digit : is_width_digit d ≡ true = (and_parts (is_b b) (is_width_digit d) is.0).1 in
      let w : d - 48 ≡ width = some_is (d - 48) width is.1 in
      let small : d ≤ 52 = leb-true d 52 (and_parts (leb 49 d) (leb d 52) digit).1 in
      omega arith
  | inr is ↦ absurd (none_some width is.1)
]
width_narrow (b ∷ d ∷ e ∷ cs) width h = absurd (none_some width h)

width_digit_in_name : (c : ℕ) → is_width_digit c ≡ true → is_name_character c ≡ true
width_digit_in_name c h = grind (arith, nat_tests)

-- digits that are bits, before what says how many bits each has
suffix_found : (digits after rest : List ℕ) (width taken : ℕ) → width_of after ≡ Some width → begins_with is_name_character rest ≡ false
    → (begins_with is_b (after ++ rest) ≡ true) × (string digits taken (after ++ rest) ≡ bits (Some width) digits rest (taken + length after))
suffix_found digits [] rest width taken is ends = absurd (none_some width is)
suffix_found digits (b ∷ []) rest width taken is ends = elim (chosen (is_b b) _ _ (Some width) is) [
  | inl h ↦
      let none = not_begun is_width_digit is_name_character rest width_digit_in_name ends in
      (h.0, rw (h.0, none, h.0) (ap (λ o. bits o digits rest (taken + 1)) h.1))
  | inr h ↦ absurd (none_some width h.1)
]
suffix_found digits (b ∷ d ∷ []) rest width taken is ends = elim (chosen (is_b b && is_width_digit d) _ _ (Some width) is) [
  | inl h ↦
      let parts = and_parts (is_b b) (is_width_digit d) h.0 in
      (parts.0, rw (parts.0, parts.1, parts.0, parts.1) (ap (λ o. bits o digits rest (taken + 2)) h.1))
  | inr h ↦ absurd (none_some width h.1)
]
suffix_found digits (b ∷ d ∷ e ∷ cs) rest width taken is ends = absurd (none_some width is)

bits_found : (digits after rest : List ℕ) (width : ℕ) → width_of after ≡ Some width → are_digits width digits ≡ true → begins_with is_name_character rest ≡ false
    → token_at ((quoted digits ++ after) ++ rest) ≡ Ok (texts.Bits (bits_in width digits), length (quoted digits ++ after))
bits_found digits after rest width is all ends =
    let line = digits_on_line width digits (width_narrow after width is) all in
    let suffix = suffix_found digits after rest width (length (quoted digits)) is ends in
    let no_quote = begun_otherwise is_b is_quote (after ++ rest) b_no_quote suffix.0 in
    ap token_at (append_assoc (quoted digits) after rest) ∙ string_split digits (after ++ rest) line no_quote ∙ suffix.1
    ∙ rw (all, ends) (ap (λ (n : ℕ). Ok (texts.Bits (bits_in width digits), n)) (sym (length-append (quoted digits) after)))

-- ---- signs

sign_found : (run rest : List ℕ) (s : Sign) → sign_of run ≡ Some s → begins_with (λ d. is_some (sign_of (run ++ d ∷ []))) rest ≡ false → token_at (run ++ rest) ≡ Ok (texts.Sign s, length run)
sign_found [] rest s is ends = absurd (none_some s is)
sign_found (c ∷ []) rest s is ends = sign_first c rest (sign_begins (c ∷ []) s is) ∙ rw ends (ap (λ o. sign o 1) is)
sign_found (c ∷ d ∷ []) rest s is ends =
    let two : is_some (sign_of (c ∷ d ∷ [])) ≡ true = ap is_some is in
    sign_first c (d ∷ rest) (sign_begins (c ∷ d ∷ []) s is) ∙ rw two (ap (λ o. sign o 2) is)
sign_found (c ∷ d ∷ e ∷ cs) rest s is ends = absurd (none_some s is)

-- ---- tokens

pub token_found : (run rest : List ℕ) (t : TokenText) → IsToken run t → EndsAt run t rest → token_at (run ++ rest) ≡ Ok (t, length run)
token_found run rest (texts.Word name) is ends = word_found run rest name is ends
token_found run rest (texts.Decimal value digits) is ends = rw (is.1, is.2) (decimal_found run rest is.0 ends)
token_found run rest (texts.Binary value digits) is ends =
    let long : length is.0 + 1 ≡ length run = sym (ap length is.2 ∙ length-append is.0 (is.1 ∷ [])) in
    ap (λ (l : List ℕ). token_at (l ++ rest)) is.2 ∙ ap token_at (append_assoc is.0 (is.1 ∷ []) rest) ∙ binary_found is.0 rest is.1 is.3 is.4 ends
    ∙ rw (is.5, is.6, long) refl
token_found run rest (texts.Characters characters) is ends = rw is.0 (characters_found characters rest is.1 ends)
token_found run rest (texts.Bits bits) is ends = rw (is.3, is.6) (bits_found is.0 is.1 rest is.2 is.4 is.5 ends)
token_found run rest (texts.Sign s) is ends = sign_found run rest s is ends

binary_begins : (front : List ℕ) (b : ℕ) → is_binary_constant front ≡ true → begins_with is_solid (front ++ b ∷ []) ≡ true
binary_begins [] b is = absurd cc
binary_begins (c ∷ cs) b is = digit_solid c (binary_digit_is_digit c (and_parts (is_binary_digit c) (list_all is_binary_digit cs) (and_parts _ (list_all is_binary_digit (c ∷ cs)) is).1).0)

sign_solid : (run : List ℕ) → begins_with begins_sign run ≡ true → begins_with is_solid run ≡ true
sign_solid [] begins = absurd cc
sign_solid (c ∷ cs) begins = (and_parts (is_solid c) (not (is_letter c) && (not (is_digit c) && not (is_quote c))) begins).0

-- no token begins as a separator does
pub token_begins : (run : List ℕ) (t : TokenText) → IsToken run t → begins_with is_solid run ≡ true
token_begins [] (texts.Word name) is = absurd (none_some name is)
token_begins (c ∷ cs) (texts.Word name) is = letter_solid c (and_parts (is_letter c) (list_all is_name_character cs) (name_form (c ∷ cs) name is)).0
token_begins [] (texts.Decimal value digits) is = absurd (let e : false ≡ true = is.0 in cc)
token_begins (c ∷ cs) (texts.Decimal value digits) is =
    digit_solid c (and_parts (is_digit c) (list_all is_digit cs) (and_parts _ (list_all is_digit (c ∷ cs)) (and_parts _ (leb (value_in 10 (c ∷ cs)) 9223372036854775807) is.0).0).1).0
token_begins run (texts.Binary value digits) is = rw is.2 (binary_begins is.0 is.1 is.4)
token_begins run (texts.Characters characters) is = rw is.0 refl
token_begins run (texts.Bits bits) is = rw is.3 refl
token_begins run (texts.Sign s) is = sign_solid run (sign_begins run s is)

-- ---- the longest token

-- what ends before a text ends before the front of it
ends_before : (run : List ℕ) (t : TokenText) (c : ℕ) (more after : List ℕ) → EndsAt run t (c ∷ (more ++ after)) → EndsAt run t (c ∷ more)
ends_before run (texts.Word name) c more after ends = ends
ends_before run (texts.Decimal value digits) c more after ends = ends
ends_before run (texts.Binary value digits) c more after ends = ends
ends_before run (texts.Characters characters) c more after ends = ends
ends_before run (texts.Bits bits) c more after ends = ends
ends_before run (texts.Sign s) c more after ends = ends

ends_at_end : (run : List ℕ) (t : TokenText) → EndsAt run t []
ends_at_end run (texts.Word name) = refl
ends_at_end run (texts.Decimal value digits) = refl
ends_at_end run (texts.Binary value digits) = refl
ends_at_end run (texts.Characters characters) = refl
ends_at_end run (texts.Bits bits) = refl
ends_at_end run (texts.Sign s) = refl

same_width : (first second : Found) → done {E = Code} first ≡ done second → first.1 ≡ second.1
same_width first second e = ap (λ (found : Found). found.1) (ok_is first second e)

-- where a token ends, no longer run is a token
pub longest : (run rest : List ℕ) (t : TokenText) → IsToken run t → EndsAt run t rest → (more after : List ℕ) (other : TokenText) → rest ≡ more ++ after → more ≢ [] → IsToken (run ++ more) other → ⊥
longest run rest t is ends [] after other whole some longer = some refl
longest run rest t is ends (c ∷ more) after other whole some longer =
    let stops : EndsAt run t (c ∷ more) = ends_before run t c more after (subst (EndsAt run t) whole ends) in
    let short = token_found run (c ∷ more) t is stops in
    let long = token_found (run ++ c ∷ more) [] other longer (ends_at_end (run ++ c ∷ more) other) in
    let same = same_width (t, length run) (other, length (run ++ c ∷ more)) (sym short ∙ ap token_at (sym (append-nil (run ++ c ∷ more))) ∙ long) in
    absurd (omega (arith, length-append run (c ∷ more)))
