-- What stands on a line is found there, whatever lines come after it.
use Rattle.std.proofs.Common.{◌≡◌, ℕ, ◌+◌, ◌≤◌, Bool, false, cond, eqb, List, [], ◌∷◌, ◌++◌, length, take, drop, Option, Some, None, Result, Ok, refl, ap, ◌∙◌, arith, inl, inr}
use Rattle.std.specs.List.{prefix_len}
use Rattle.std.specs.Option.{is_some}
use Rattle.std.proofs.lemmas.Bool.{cases_Bool}
use Rattle.std.proofs.lemmas.List.{take-append-le, drop-append-le}
use Rattle.pli_base.specs.Name.{is_letter, is_digit, is_name_character, name_of}
use Rattle.pli_base.specs.declared.code.Code.{Code}
use Rattle.pli_base.specs.declared.token.TokenText.TheVariants as texts
use Rattle.pli_lex.specs.Characters.{line_end, is_blank, is_quote, is_b, is_width_digit, continues_number, begins_with, begins_comment}
use Rattle.pli_lex.specs.Signs.{sign_of}
use Rattle.pli_lex.specs.Tokens.{width_of}
use Rattle.pli_lex.specs.Reading.{Found, word, word_at, decimal, binary, number_of, number_at, string_from, bits, string, string_found, string_at, sign_at, token_at, piece, piece_at}
use Rattle.pli_lex.proofs.TakenApart.{begins_on_line}
use Rattle.pli_lex.proofs.LongestRuns.{run_within}
use Rattle.pli_lex.proofs.StringsEnd.{string_on_line, string_within}

prefix_on_line : (p : ℕ → Bool) (text more : List ℕ) → p line_end ≡ false → prefix_len p (text ++ line_end ∷ more) ≡ prefix_len p text
prefix_on_line p [] more none = rw none refl
prefix_on_line p (c ∷ cs) more none = rw (prefix_on_line p cs more none) refl

word_on_line : (text more : List ℕ) → word_at (text ++ line_end ∷ more) ≡ word_at text
word_on_line text more =
    let whole = text ++ line_end ∷ more in
    let width = prefix_len is_name_character text in
    ap (λ (n : ℕ). word (name_of (take n whole)) n) (prefix_on_line is_name_character text more refl)
    ∙ ap (λ (l : List ℕ). word (name_of l) width) (take-append-le width text (line_end ∷ more) (run_within is_name_character text))

decimal_on_line : (run rest more : List ℕ) → decimal run (rest ++ line_end ∷ more) ≡ decimal run rest
decimal_on_line run rest more = rw (begins_on_line continues_number rest more refl) refl

binary_on_line : (run rest more : List ℕ) → binary run (rest ++ line_end ∷ more) ≡ binary run rest
binary_on_line run rest more = rw (begins_on_line continues_number rest more refl) refl

number_of_on_line : (run rest more : List ℕ) → number_of run (rest ++ line_end ∷ more) ≡ number_of run rest
number_of_on_line run [] more = decimal_on_line run [] more
number_of_on_line run (b ∷ rest) more =
    ap (λ r. cond (is_b b) r (decimal run (b ∷ (rest ++ line_end ∷ more)))) (binary_on_line run rest more)
    ∙ ap (λ r. cond (is_b b) (binary run rest) r) (decimal_on_line run (b ∷ rest) more)

number_on_line : (text more : List ℕ) → number_at (text ++ line_end ∷ more) ≡ number_at text
number_on_line text more =
    let whole = text ++ line_end ∷ more in
    let width = prefix_len is_digit text in
    let within = run_within is_digit text in
    ap (λ (n : ℕ). number_of (take n whole) (drop n whole)) (prefix_on_line is_digit text more refl)
    ∙ ap (λ (l : List ℕ). number_of l (drop width whole)) (take-append-le width text (line_end ∷ more) within)
    ∙ ap (λ (l : List ℕ). number_of (take width text) l) (drop-append-le width text (line_end ∷ more) within)
    ∙ number_of_on_line (take width text) (drop width text) more

bits_on_line : (o : Option ℕ) (digits rest more : List ℕ) (taken : ℕ) → bits o digits (rest ++ line_end ∷ more) taken ≡ bits o digits rest taken
bits_on_line None digits rest more taken = refl
bits_on_line (Some width) digits rest more taken = rw (begins_on_line is_name_character rest more refl) refl

string_before_line : (characters : List ℕ) (taken : ℕ) (rest more : List ℕ) → string characters taken (rest ++ line_end ∷ more) ≡ string characters taken rest
string_before_line characters taken [] more = refl
string_before_line characters taken (b ∷ []) more = ap (λ r. cond (is_b b) r (Ok (texts.Characters characters, taken))) (bits_on_line (width_of (b ∷ [])) characters [] more (taken + 1))
string_before_line characters taken (b ∷ d ∷ rest) more = elim (cases_Bool (is_width_digit d)) [
  | inl is ↦ rw is (ap (λ r. cond (is_b b) r (Ok (texts.Characters characters, taken))) (bits_on_line (width_of (b ∷ d ∷ [])) characters rest more (taken + 2)))
  | inr is ↦ rw is (ap (λ r. cond (is_b b) r (Ok (texts.Characters characters, taken))) (bits_on_line (width_of (b ∷ [])) characters (d ∷ rest) more (taken + 1)))
]

found_on_line : (c : ℕ) (cs more : List ℕ) (o : Option (List ℕ × ℕ)) → string_from false cs ≡ o → string_found (c ∷ (cs ++ line_end ∷ more)) o ≡ string_found (c ∷ cs) o
found_on_line c cs more None is = refl
found_on_line c cs more (Some found) is =
    let short = string_within cs found is in
    let within : found.1 + 1 ≤ length (c ∷ cs) = omega arith in
    ap (string found.0 (found.1 + 1)) (drop-append-le (found.1 + 1) (c ∷ cs) (line_end ∷ more) within)
    ∙ string_before_line found.0 (found.1 + 1) (drop (found.1 + 1) (c ∷ cs)) more

string_at_on_line : (c : ℕ) (cs more : List ℕ) → string_at (c ∷ (cs ++ line_end ∷ more)) ≡ string_at (c ∷ cs)
string_at_on_line c cs more = ap (string_found (c ∷ (cs ++ line_end ∷ more))) (string_on_line false cs more) ∙ found_on_line c cs more (string_from false cs) refl

sign_on_line : (c : ℕ) (cs more : List ℕ) → sign_at (c ∷ (cs ++ line_end ∷ more)) ≡ sign_at (c ∷ cs)
sign_on_line c [] more = refl
sign_on_line c (d ∷ cs) more = elim (cases_Bool (is_some (sign_of (c ∷ d ∷ [])))) [ inl is ↦ rw is refl | inr is ↦ rw is refl ]

abbrev token_of : ℕ → Result Found Code → Result Found Code → Result Found Code → Result Found Code → Result Found Code
token_of c word number string sign = cond (is_letter c) word (cond (is_digit c) number (cond (is_quote c) string sign))

token_on_line : (c : ℕ) (cs more : List ℕ) → token_at (c ∷ (cs ++ line_end ∷ more)) ≡ token_at (c ∷ cs)
unfolding token_at
token_on_line c cs more =
    let text = c ∷ (cs ++ line_end ∷ more) in
    ap (λ r. token_of c r (number_at text) (string_at text) (sign_at text)) (word_on_line (c ∷ cs) more)
    ∙ ap (λ r. token_of c (word_at (c ∷ cs)) r (string_at text) (sign_at text)) (number_on_line (c ∷ cs) more)
    ∙ ap (λ r. token_of c (word_at (c ∷ cs)) (number_at (c ∷ cs)) r (sign_at text)) (string_at_on_line c cs more)
    ∙ ap (λ r. token_of c (word_at (c ∷ cs)) (number_at (c ∷ cs)) (string_at (c ∷ cs)) r) (sign_on_line c cs more)

comment_on_line : (c : ℕ) (cs more : List ℕ) → begins_comment (c ∷ (cs ++ line_end ∷ more)) ≡ begins_comment (c ∷ cs)
comment_on_line c [] more = elim (cases_Bool (eqb c 47)) [ inl is ↦ rw is refl | inr is ↦ rw is refl ]
comment_on_line c (d ∷ cs) more = refl

-- what is neither blank nor begins a comment
pub piece_on_line : (text more : List ℕ) → 1 ≤ length text → begins_with is_blank text ≡ false → begins_comment text ≡ false → piece_at (text ++ line_end ∷ more) ≡ piece (token_at text)
unfolding piece_at
piece_on_line [] more some blank comment = absurd (omega arith)
piece_on_line (c ∷ cs) more some blank comment = rw (blank, comment_on_line c cs more, comment, token_on_line c cs more) refl
