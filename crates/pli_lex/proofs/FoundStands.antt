-- A token that is found at the front of a text stands there.
use Rattle.std.proofs.Common.{◌≡◌, ℕ, ◌+◌, true, false, not, ◌&&◌, ◌||◌, List, [], ◌∷◌, ◌++◌, length, length-append, take, drop, Option, Some, None, Ok, Err, refl, sym, ap, subst, ◌∙◌, append_assoc, arith, inl, inr}
use Rattle.std.specs.List.{prefix_len}
use Rattle.std.specs.Option.{is_some}
use Rattle.std.proofs.lemmas.Bool.{cases_Bool, and_parts, eqb-true, not-true}
use Rattle.std.proofs.lemmas.List.{take-append-drop, drop_at}
use Rattle.std.proofs.lemmas.List.Folds.{length-prefix_len}
use Rattle.pli_base.specs.Name.{Name, is_letter, is_digit, is_name_character, name_of}
use Rattle.pli_base.specs.declared.code.Code.TheVariants.{UnendedString, BadNumber, BadBits}
use Rattle.pli_base.specs.declared.token.Sign.{Sign}
use Rattle.pli_base.specs.declared.token.TokenText.TheVariants as texts
use Rattle.pli_lex.specs.Characters.{is_quote, is_b, is_width_digit, on_one_line, continues_number, begins_with}
use Rattle.pli_lex.specs.Signs.{sign_of}
use Rattle.pli_base.specs.Digits.{value_in}
use Rattle.pli_lex.specs.Tokens.{is_constant, is_binary_constant, doubled, quoted, width_of, are_digits, bits_in, IsToken, EndsAt}
use Rattle.pli_lex.specs.Reading.{Found, word, word_at, decimal, binary, number_at, string_from, suffix_width, bits, string, string_found, string_at, sign, sign_at, token_at}
use Rattle.pli_lex.proofs.TakenApart.{chosen, ok_is, begins_split}
use Rattle.pli_lex.proofs.LongestRuns.{run_stops}
use Rattle.pli_lex.proofs.StringsEnd.{string_closes}

-- the token stands at the front of the text and takes so many characters
abbrev pub StandsAt : List ℕ → Found → Type 0
StandsAt text found = (run rest : List ℕ) × (text ≡ run ++ rest) × (found.1 ≡ length run) × IsToken run found.0 × EndsAt run found.0 rest

-- ---- names

named : (o : Option Name) (width : ℕ) (found : Found) → word o width ≡ Ok found → (name : Name) × (o ≡ Some name) × ((texts.Word name, width) ≡ found)
named None width found e = absurd cc
named (Some name) width found e = (name, refl, ok_is (texts.Word name, width) found e)

word_stands : (text : List ℕ) (found : Found) → word_at text ≡ Ok found → StandsAt text found
word_stands text found e =
    let width = prefix_len is_name_character text in
    let n = named (name_of (take width text)) width found e in
    subst (StandsAt text) n.2 (take width text, drop width text, sym (take-append-drop width text), sym (length-prefix_len is_name_character text), n.1, run_stops is_name_character text)

-- ---- numbers

decimal_stands : (run rest : List ℕ) (found : Found) → decimal run rest ≡ Ok found → StandsAt (run ++ rest) found
decimal_stands run rest found e =
    let test = is_constant run && not (begins_with continues_number rest) in
    let there : Found = (texts.Decimal (value_in 10 run) (length run), length run) in
    elim (chosen test (Ok there) (Err BadNumber) (Ok found) e) [
      | inl is ↦
          let parts = and_parts (is_constant run) (not (begins_with continues_number rest)) is.0 in
          subst (StandsAt (run ++ rest)) (ok_is there found is.1) (run, rest, refl, refl, (parts.0, refl, refl), not-true _ parts.1)
      | inr is ↦ absurd (let e : Err BadNumber ≡ Ok found = is.1 in cc)
    ]

binary_stands : (run rest : List ℕ) (b : ℕ) (found : Found) → is_b b ≡ true → binary run rest ≡ Ok found → StandsAt (run ++ b ∷ rest) found
binary_stands run rest b found b_is e =
    let test = is_binary_constant run && not (begins_with continues_number rest) in
    let there : Found = (texts.Binary (value_in 2 run) (length run), length run + 1) in
    elim (chosen test (Ok there) (Err BadNumber) (Ok found) e) [
      | inl is ↦
          let parts = and_parts (is_binary_constant run) (not (begins_with continues_number rest)) is.0 in
          subst (StandsAt (run ++ b ∷ rest)) (ok_is there found is.1)
          (run ++ b ∷ [], rest, sym (append_assoc run (b ∷ []) rest), sym (length-append run (b ∷ [])), (run, b, refl, b_is, parts.0, refl, refl), not-true _ parts.1)
      | inr is ↦ absurd (let e : Err BadNumber ≡ Ok found = is.1 in cc)
    ]

number_stands : (text : List ℕ) (found : Found) → number_at text ≡ Ok found → StandsAt text found
number_stands text found e =
    let width = prefix_len is_digit text in
    let run = take width text in
    let rest = drop width text in
    elim (chosen (begins_with is_b rest) _ _ (Ok found) e) [
      | inl is ↦
          let b = begins_split is_b rest is.0 in
          let there : binary run b.1 ≡ Ok found = ap (λ (l : List ℕ). binary run (drop 1 l)) (sym b.2) ∙ is.1 in
          subst (λ (l : List ℕ). StandsAt l found) (ap (λ (l : List ℕ). run ++ l) (sym b.2) ∙ take-append-drop width text) (binary_stands run b.1 b.0 found b.3 there)
      | inr is ↦ subst (λ (l : List ℕ). StandsAt l found) (take-append-drop width text) (decimal_stands run rest found is.1)
    ]

-- ---- strings

neither : (rest : List ℕ) → begins_with is_quote rest ≡ false → begins_with is_b rest ≡ false → begins_with (λ c. is_quote c || is_b c) rest ≡ false
neither [] quote b = refl
neither (c ∷ cs) quote b = rw (quote, b) refl

-- a `B` with the digit after it
suffix_long : (b : ℕ) (rest : List ℕ) → length (take (suffix_width (b ∷ rest)) (b ∷ rest)) ≡ suffix_width (b ∷ rest)
suffix_long b [] = refl
suffix_long b (d ∷ rest) = elim (cases_Bool (is_width_digit d)) [ inl is ↦ rw is refl | inr is ↦ rw is refl ]

bits_stand : (o : Option ℕ) (digits after rest : List ℕ) (taken : ℕ) (found : Found) → width_of after ≡ o → taken ≡ length (quoted digits ++ after) → bits o digits rest taken ≡ Ok found → StandsAt (quoted digits ++ (after ++ rest)) found
bits_stand None digits after rest taken found width long e = absurd (let e : Err BadBits ≡ Ok found = e in cc)
bits_stand (Some n) digits after rest taken found width long e =
    let test = are_digits n digits && not (begins_with is_name_character rest) in
    let there : Found = (texts.Bits (bits_in n digits), taken) in
    elim (chosen test (Ok there) (Err BadBits) (Ok found) e) [
      | inl is ↦
          let parts = and_parts (are_digits n digits) (not (begins_with is_name_character rest)) is.0 in
          subst (StandsAt (quoted digits ++ (after ++ rest))) (ok_is there found is.1)
          (quoted digits ++ after, rest, sym (append_assoc (quoted digits) after rest), long, (digits, after, n, refl, width, parts.0, refl), not-true _ parts.1)
      | inr is ↦ absurd (let e : Err BadBits ≡ Ok found = is.1 in cc)
    ]

string_stands_before : (characters rest : List ℕ) (found : Found) → on_one_line characters ≡ true → begins_with is_quote rest ≡ false → string characters (length (quoted characters)) rest ≡ Ok found → StandsAt (quoted characters ++ rest) found
string_stands_before characters rest found line stops e =
    let taken = length (quoted characters) in
    let suffix = suffix_width rest in
    elim (chosen (begins_with is_b rest) _ _ (Ok found) e) [
      | inl is ↦
          let b = begins_split is_b rest is.0 in
          let long : length (take suffix rest) ≡ suffix = rw (b.2) (suffix_long b.0 b.1) in
          subst (λ (l : List ℕ). StandsAt (quoted characters ++ l) found) (take-append-drop suffix rest)
          (bits_stand (width_of (take suffix rest)) characters (take suffix rest) (drop suffix rest) (taken + suffix) found refl (omega (arith, length-append (quoted characters) (take suffix rest), long)) is.1)
      | inr is ↦
          subst (StandsAt (quoted characters ++ rest)) (ok_is (texts.Characters characters, taken) found is.1) (quoted characters, rest, refl, refl, (refl, line), neither rest stops is.0)
    ]

-- what follows the opening quote
pub quoted_before : (characters rest : List ℕ) → quoted characters ++ rest ≡ 39 ∷ (doubled characters ++ 39 ∷ rest)
quoted_before characters rest = ap (λ (l : List ℕ). 39 ∷ l) (append_assoc (doubled characters) (39 ∷ []) rest)

pub quoted_long : (characters : List ℕ) → length (quoted characters) ≡ length (doubled characters) + 1 + 1
quoted_long characters = omega (arith, length-append (doubled characters) (39 ∷ []))

found_stands : (cs : List ℕ) (o : Option (List ℕ × ℕ)) (found : Found) → string_from false cs ≡ o → string_found (39 ∷ cs) o ≡ Ok found → StandsAt (39 ∷ cs) found
found_stands cs None found is e = absurd (let e : Err UnendedString ≡ Ok found = e in cc)
found_stands cs (Some there) found is e =
    let closes = string_closes false cs there is (λ e. absurd cc) in
    let characters = there.0 in
    let rest = closes.0 in
    let long : there.1 + 1 ≡ length (quoted characters) = omega (arith, closes.4, quoted_long characters) in
    let whole : 39 ∷ cs ≡ quoted characters ++ rest = ap (λ (l : List ℕ). 39 ∷ l) closes.1 ∙ sym (quoted_before characters rest) in
    let after : drop (there.1 + 1) (39 ∷ cs) ≡ rest = ap (drop (there.1 + 1)) whole ∙ drop_at (quoted characters) rest (there.1 + 1) (sym long) in
    let string_is : string characters (length (quoted characters)) rest ≡ Ok found = ap (λ (n : ℕ). string characters n rest) (sym long) ∙ ap (string characters (there.1 + 1)) (sym after) ∙ e in
    subst (λ (l : List ℕ). StandsAt l found) (sym whole) (string_stands_before characters rest found closes.2 closes.3 string_is)

-- ---- signs

signed : (o : Option Sign) (width : ℕ) (found : Found) → sign o width ≡ Ok found → (s : Sign) × (o ≡ Some s) × ((texts.Sign s, width) ≡ found)
signed None width found e = absurd cc
signed (Some s) width found e = (s, refl, ok_is (texts.Sign s, width) found e)

no_third : (c d : ℕ) (rest : List ℕ) → begins_with (λ e. is_some (sign_of ((c ∷ d ∷ []) ++ e ∷ []))) rest ≡ false
no_third c d [] = refl
no_third c d (e ∷ rest) = refl

sign_stands : (text : List ℕ) (found : Found) → sign_at text ≡ Ok found → StandsAt text found
sign_stands [] found e = absurd cc
sign_stands (c ∷ cs) found e = elim (cases_Bool (begins_with (λ d. is_some (sign_of (c ∷ d ∷ []))) cs)) [
  | inl two ↦
      let d = begins_split _ cs two in
      let at_two : sign (sign_of (take 2 (c ∷ cs))) 2 ≡ Ok found = rw two at e in
      let n = signed (sign_of (take 2 (c ∷ cs))) 2 found at_two in
      let whole : c ∷ cs ≡ (c ∷ d.0 ∷ []) ++ d.1 = ap (λ (l : List ℕ). c ∷ l) d.2 in
      let is : sign_of (c ∷ d.0 ∷ []) ≡ Some n.0 = ap (λ (l : List ℕ). sign_of (take 2 (c ∷ l))) (sym d.2) ∙ n.1 in
      subst (StandsAt (c ∷ cs)) n.2 (c ∷ d.0 ∷ [], d.1, whole, refl, is, no_third c d.0 d.1)
  | inr one ↦
      let at_one : sign (sign_of (c ∷ [])) 1 ≡ Ok found = rw one at e in
      let n = signed (sign_of (c ∷ [])) 1 found at_one in
      subst (StandsAt (c ∷ cs)) n.2 (c ∷ [], cs, refl, refl, n.1, one)
]

-- ---- tokens

pub token_stands : (text : List ℕ) (found : Found) → token_at text ≡ Ok found → StandsAt text found
unfolding token_at
token_stands text found e =
    elim (chosen (begins_with is_letter text) _ _ (Ok found) e) [
      | inl letter ↦ word_stands text found letter.1
      | inr b ↦ elim (chosen (begins_with is_digit text) _ _ (Ok found) b.1) [
        | inl digit ↦ number_stands text found digit.1
        | inr d ↦ elim (chosen (begins_with is_quote text) _ _ (Ok found) d.1) [
          | inl quote ↦
              let q = begins_split is_quote text quote.0 in
              let whole : text ≡ 39 ∷ q.1 = q.2 ∙ ap (λ (c : ℕ). c ∷ q.1) (eqb-true q.0 39 q.3) in
              let there : string_at (39 ∷ q.1) ≡ Ok found = ap string_at (sym whole) ∙ quote.1 in
              subst (λ (l : List ℕ). StandsAt l found) (sym whole) (found_stands q.1 (string_from false q.1) found refl there)
          | inr f ↦ sign_stands text found f.1
        ]
      ]
    ]
