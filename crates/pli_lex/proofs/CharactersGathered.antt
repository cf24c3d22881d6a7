-- The characters of a string, as a loop gathers them.
use Rattle.std.proofs.Common.{◌≡◌, ◌≢◌, ℕ, ◌+◌, ◌<◌, ◌≤◌, false, List, [], ◌∷◌, ◌++◌, length, get_or, drop, Option, Some, None, refl, sym, ap, ◌∙◌, append_assoc, arith, inl, inr}
use Rattle.std.specs.Option.{option_map}
use Rattle.std.proofs.lemmas.Bool.{cases_lt}
use Rattle.std.proofs.lemmas.Bool.Decides.{nat_tests}
use Rattle.std.proofs.lemmas.List.{append-nil, drop_more, drop_all}
use Rattle.pli_lex.specs.Characters.{is_line_end, is_quote, begins_with}
use Rattle.pli_lex.specs.Reading.{string_from}

-- the characters so far, and those of what is left
abbrev pub SoFar : List ℕ → List ℕ → ℕ → Type 0
SoFar text characters i = string_from false text ≡ option_map (λ string. (characters ++ string.0, string.1 + i)) (string_from false (drop i text))

abbrev after : List ℕ → ℕ → Option (List ℕ × ℕ) → Option (List ℕ × ℕ)
after characters i found = option_map (λ string. (characters ++ string.0, string.1 + i)) found

pushed : (characters : List ℕ) (c i n k : ℕ) (found : Option (List ℕ × ℕ)) → n + i ≡ k → after characters i (option_map (λ string. (c ∷ string.0, string.1 + n)) found) ≡ after (characters ++ c ∷ []) k found
pushed characters c i n k None e = refl
pushed characters c i n k (Some string) e =
    let place : string.1 + n + i ≡ string.1 + k = omega (arith, e) in
    let all : characters ++ c ∷ string.0 ≡ (characters ++ c ∷ []) ++ string.0 = sym (append_assoc characters (c ∷ []) string.0) in
    rw (place, all) refl

abbrev String : Type 0
String = List ℕ × ℕ

twice : (c : ℕ) (found : Option String) → option_map {T = String} {U = String} (λ string. (c ∷ string.0, string.1 + 1)) (option_map {T = String} {U = String} (λ string. (string.0, string.1 + 1)) found)
    ≡ option_map {T = String} {U = String} (λ string. (c ∷ string.0, string.1 + 2)) found
twice c None = refl
twice c (Some string) = let string_is : ℕ → Option String = λ (n : ℕ). Some (c ∷ string.0, n) in ap string_is (omega arith)

another : (c : ℕ) (cs : List ℕ) → is_quote c ≡ false → is_line_end c ≡ false → string_from false (c ∷ cs) ≡ option_map (λ string. (c ∷ string.0, string.1 + 1)) (string_from false cs)
unfolding string_from
another c cs other line = rw (line, other) refl

two_quotes : (cs : List ℕ) → string_from false (39 ∷ 39 ∷ cs) ≡ option_map (λ string. (39 ∷ string.0, string.1 + 2)) (string_from false cs)
unfolding string_from
two_quotes cs = twice 39 (string_from false cs)

last_quote : (cs : List ℕ) → begins_with is_quote cs ≡ false → string_from false (39 ∷ cs) ≡ Some ([], 1)
unfolding string_from
last_quote cs last = rw last refl

pub goes_over : (text characters : List ℕ) (i : ℕ) → i < length text → get_or text i 0 ≢ 39 → get_or text i 0 < 256 → SoFar text characters i → SoFar text (characters ++ get_or text i 0 ∷ []) (i + 1)
goes_over text characters i lt other byte so_far =
    let c = get_or text i 0 in
    let no_quote : is_quote c ≡ false = grind (arith, nat_tests) in
    let no_end : is_line_end c ≡ false = grind (arith, nat_tests) in
    so_far ∙ ap (λ (l : List ℕ). after characters i (string_from false l)) (drop_more text i 0 lt)
    ∙ ap (after characters i) (another c (drop (i + 1) text) no_quote no_end) ∙ pushed characters c i 1 (i + 1) (string_from false (drop (i + 1) text)) (omega arith)

-- two quotes at a place
pub goes_over_two : (text characters : List ℕ) (i : ℕ) → i + 1 < length text → get_or text i 0 ≡ 39 → get_or text (i + 1) 0 ≡ 39 → SoFar text characters i → SoFar text (characters ++ get_or text i 0 ∷ []) (i + 2)
goes_over_two text characters i lt first second so_far =
    let here : drop i text ≡ 39 ∷ drop (i + 1) text = drop_more text i 0 (omega arith) ∙ ap (λ (c : ℕ). c ∷ drop (i + 1) text) first in
    let two : i + 1 + 1 ≡ i + 2 = omega arith in
    let next : drop (i + 1) text ≡ 39 ∷ drop (i + 2) text = drop_more text (i + 1) 0 lt ∙ ap (λ (c : ℕ). c ∷ drop (i + 1 + 1) text) second ∙ ap (λ (n : ℕ). 39 ∷ drop n text) two in
    so_far ∙ ap (λ (l : List ℕ). after characters i (string_from false l)) (here ∙ ap (λ (l : List ℕ). 39 ∷ l) next)
    ∙ ap (after characters i) (two_quotes (drop (i + 2) text)) ∙ pushed characters 39 i 2 (i + 2) (string_from false (drop (i + 2) text)) (omega arith)
    ∙ ap (λ (c : ℕ). after (characters ++ c ∷ []) (i + 2) (string_from false (drop (i + 2) text))) (sym first)

no_second : (text : List ℕ) (i : ℕ) → (i < length text → get_or text i 0 ≢ 39) → begins_with is_quote (drop i text) ≡ false
no_second text i other = elim (cases_lt i (length text)) [
  | inl lt ↦
      let no_quote : get_or text i 0 ≢ 39 = other lt in
      let is : is_quote (get_or text i 0) ≡ false = grind (arith, nat_tests) in
      ap (begins_with is_quote) (drop_more text i 0 lt) ∙ is
  | inr past ↦ ap (begins_with is_quote) (drop_all i text past)
]

pub closes_string : (text characters : List ℕ) (i : ℕ) → i < length text → get_or text i 0 ≡ 39 → (i + 1 < length text → get_or text (i + 1) 0 ≢ 39) → SoFar text characters i → string_from false text ≡ Some (characters, i + 1)
closes_string text characters i lt quote other so_far =
    let here : drop i text ≡ 39 ∷ drop (i + 1) text = drop_more text i 0 lt ∙ ap (λ (c : ℕ). c ∷ drop (i + 1) text) quote in
    let place : 1 + i ≡ i + 1 = omega arith in
    so_far ∙ ap (λ (l : List ℕ). after characters i (string_from false l)) here ∙ ap (after characters i) (last_quote (drop (i + 1) text) (no_second text (i + 1) other))
    ∙ ap (λ (l : List ℕ). Some (l, 1 + i)) (append-nil characters) ∙ ap (λ (n : ℕ). Some (characters, n)) place

pub no_string : (text characters : List ℕ) (i : ℕ) → length text ≤ i → SoFar text characters i → string_from false text ≡ None
unfolding string_from
no_string text characters i past so_far = so_far ∙ ap (λ (l : List ℕ). after characters i (string_from false l)) (drop_all i text past)
