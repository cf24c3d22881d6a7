-- A string ends at the first quote that is not one of two.
use Rattle.std.proofs.Common.{◌≡◌, ℕ, ◌+◌, ◌≤◌, Bool, true, false, not, ◌&&◌, List, [], ◌∷◌, ◌++◌, length, length-append, Some, refl, ap, subst, ◌∙◌, arith, inl, inr}
use Rattle.std.proofs.lemmas.Bool.{cases_Bool, and_parts, eqb-true, not-true}
use Rattle.pli_lex.specs.Characters.{line_end, is_line_end, on_one_line, is_quote, begins_with}
use Rattle.pli_lex.specs.Tokens.{doubled}
use Rattle.pli_lex.specs.Reading.{string_from}
use Rattle.pli_lex.proofs.TakenApart.{chosen, some_is, none_some, mapped, begins_on_line}

-- the second quote of two
abbrev pub second_quote : Bool → List ℕ
second_quote true = 39 ∷ []
second_quote false = []

-- characters and the quote that closes them
abbrev pub Closes : Bool → List ℕ → List ℕ × ℕ → Type 0
Closes second text string =
    (rest : List ℕ) × (text ≡ second_quote second ++ (doubled string.0 ++ 39 ∷ rest)) × (on_one_line string.0 ≡ true) × (begins_with is_quote rest ≡ false)
    × (string.1 ≡ length (second_quote second) + (length (doubled string.0) + 1))

-- after the first quote of two, or after another character
string_goes_on : (c : ℕ) (cs : List ℕ) (string : List ℕ × ℕ) → is_line_end c ≡ false → (is_quote c && not (begins_with is_quote cs)) ≡ false
    → Closes (is_quote c && begins_with is_quote cs) cs string → Closes false (c ∷ cs) (c ∷ string.0, string.1 + 1)
string_goes_on c cs string no_end goes_on closes = elim (cases_Bool (is_quote c)) [
  | inl quote ↦
      let more : begins_with is_quote cs ≡ true = elim (cases_Bool (begins_with is_quote cs)) [
        | inl more ↦ more
        | inr last ↦ absurd (let e : true ≡ false = rw (quote, last) at goes_on in cc)
      ] in
      let second : (is_quote c && begins_with is_quote cs) ≡ true = rw (quote, more) refl in
      let g : Closes true cs string = subst (λ (b : Bool). Closes b cs string) second closes in
      let c_is : c ≡ 39 = eqb-true c 39 quote in
      (g.0, rw (c_is, g.1) refl, rw no_end g.2, g.3, rw c_is (omega (arith, g.4)))
  | inr other ↦
      let first : (is_quote c && begins_with is_quote cs) ≡ false = rw other refl in
      let g : Closes false cs string = subst (λ (b : Bool). Closes b cs string) first closes in
      (g.0, rw other (ap (λ (l : List ℕ). c ∷ l) g.1), rw no_end g.2, g.3, rw other (omega (arith, g.4)))
]

pub string_closes : (second : Bool) (text : List ℕ) (string : List ℕ × ℕ) → string_from second text ≡ Some string → (second ≡ true → begins_with is_quote text ≡ true) → Closes second text string
unfolding string_from
string_closes second [] string h quote = absurd (none_some string h)
string_closes true (c ∷ cs) string h quote = elim (chosen (is_line_end c) _ _ (Some string) h) [
  | inl end ↦ absurd (none_some string end.1)
  | inr on ↦
      let m = mapped (λ (string : List ℕ × ℕ). (string.0, string.1 + 1)) (string_from false cs) string on.1 in
      let g = string_closes false cs m.0 m.1 (λ e. absurd cc) in
      let c_is : c ≡ 39 = eqb-true c 39 (quote refl) in
      let whole : c ∷ cs ≡ 39 ∷ (doubled m.0.0 ++ 39 ∷ g.0) = cc (c_is, g.1) in
      subst (Closes true (c ∷ cs)) m.2 (g.0, whole, g.2, g.3, omega (arith, g.4))
]
string_closes false (c ∷ cs) string h quote = elim (chosen (is_line_end c) _ _ (Some string) h) [
  | inl end ↦ absurd (none_some string end.1)
  | inr on ↦ elim (chosen (is_quote c && not (begins_with is_quote cs)) _ _ (Some string) on.1) [
    | inl last ↦
        let parts = and_parts (is_quote c) (not (begins_with is_quote cs)) last.0 in
        let c_is : c ≡ 39 = eqb-true c 39 parts.0 in
        subst (Closes false (c ∷ cs)) (some_is ([], 1) string last.1) (cs, ap (λ (d : ℕ). d ∷ cs) c_is, refl, not-true _ parts.1, refl)
    | inr more ↦
        let second = is_quote c && begins_with is_quote cs in
        let m = mapped (λ (string : List ℕ × ℕ). (c ∷ string.0, string.1 + 1)) (string_from second cs) string more.1 in
        let g = string_closes second cs m.0 m.1 (λ e. (and_parts (is_quote c) (begins_with is_quote cs) e).1) in
        subst (Closes false (c ∷ cs)) m.2 (string_goes_on c cs m.0 on.0 more.0 g)
  ]
]

pub string_again : (characters rest : List ℕ) → on_one_line characters ≡ true → begins_with is_quote rest ≡ false → string_from false (doubled characters ++ 39 ∷ rest) ≡ Some (characters, length (doubled characters) + 1)
unfolding string_from
string_again [] rest line stops = rw stops refl
string_again (c ∷ cs) rest line stops =
    let parts = and_parts (not (is_line_end c)) (on_one_line cs) line in
    let no_end : is_line_end c ≡ false = not-true _ parts.0 in
    let after = string_again cs rest parts.1 stops in
    elim (cases_Bool (is_quote c)) [
      | inl quote ↦
          let c_is : c ≡ 39 = eqb-true c 39 quote in
          let long : length (doubled cs) + 1 + 1 + 1 ≡ length (39 ∷ 39 ∷ doubled cs) + 1 = omega arith in
          rw (c_is, after) (ap (λ (n : ℕ). Some (39 ∷ cs, n)) long)
      | inr other ↦
          let long : length (doubled cs) + 1 + 1 ≡ length (c ∷ doubled cs) + 1 = omega arith in
          rw (other, no_end, other, after) (ap (λ (n : ℕ). Some (c ∷ cs, n)) long)
    ]

-- a string ends on its line
pub string_on_line : (second : Bool) (text more : List ℕ) → string_from second (text ++ line_end ∷ more) ≡ string_from second text
unfolding string_from
string_on_line second [] more = refl
string_on_line second (c ∷ cs) more =
    let tail = begins_on_line is_quote cs more refl in
    rw (tail, string_on_line (not second && (is_quote c && begins_with is_quote cs)) cs more) refl

-- a string stands within its text
pub string_within : (text : List ℕ) (string : List ℕ × ℕ) → string_from false text ≡ Some string → string.1 ≤ length text
string_within text string h =
    let closes = string_closes false text string h (λ e. absurd cc) in
    let long : length text ≡ length (doubled string.0) + length (39 ∷ closes.0) = ap length closes.1 ∙ length-append (doubled string.0) (39 ∷ closes.0) in
    omega (arith, long, closes.4)
