-- A comment ends at the first `*/`.
use Rattle.std.proofs.Common.{◌≡◌, ℕ, ◌+◌, ◌≤◌, Bool, true, false, eqb, ◌&&◌, List, [], ◌∷◌, ◌++◌, length, Option, Some, None, refl, sym, ap, ◌∙◌, append_assoc, length-append, arith, inl, inr}
use Rattle.std.specs.Option.{option_map}
use Rattle.std.proofs.lemmas.Bool.{cases_Bool, and_parts, eqb-true}
use Rattle.pli_lex.specs.Characters.{line_end, begins_with}
use Rattle.pli_lex.specs.Reading.{closing_width}
use Rattle.pli_lex.proofs.TakenApart.{chosen, some_is, none_some, same_head, same_tail, mapped, not_mapped, begins_split, begins_on_line}

abbrev is_slash : ℕ → Bool
is_slash d = eqb d 47

-- `*/` is nowhere in the text
abbrev pub NeverEnds : List ℕ → Type 0
NeverEnds body = (before after : List ℕ) → body ≡ before ++ 42 ∷ 47 ∷ after → ⊥

nothing_ends : NeverEnds []
nothing_ends [] after e = absurd cc
nothing_ends (x ∷ before) after e = absurd cc

-- `*/` does not stand at the front, and not after it
never_from : (c : ℕ) (body rest : List ℕ) → (eqb c 42 && begins_with is_slash (body ++ 42 ∷ rest)) ≡ false → NeverEnds body → NeverEnds (c ∷ body)
never_from c body rest fails never [] after e =
    let star : c ≡ 42 = same_head c 42 body (47 ∷ after) e in
    let slash : body ≡ 47 ∷ after = same_tail c 42 body (47 ∷ after) e in
    let is : false ≡ true = sym fails ∙ rw (star, slash) refl in absurd cc
never_from c body rest fails never (x ∷ before) after e = never before after (same_tail c x body (before ++ 42 ∷ 47 ∷ after) e)

pub closes : (text : List ℕ) (width : ℕ) → closing_width text ≡ Some width → (body rest : List ℕ) × (text ≡ body ++ 42 ∷ 47 ∷ rest) × NeverEnds body × (width ≡ length body + 2)
unfolding closing_width
closes [] width h = absurd (none_some width h)
closes (c ∷ cs) width h = elim (chosen (eqb c 42 && begins_with is_slash cs) _ _ (Some width) h) [
  | inl is ↦
      let parts = and_parts (eqb c 42) (begins_with is_slash cs) is.0 in
      let slash = begins_split is_slash cs parts.1 in
      let star : c ≡ 42 = eqb-true c 42 parts.0 in
      let beyond : slash.0 ≡ 47 = eqb-true slash.0 47 slash.3 in
      let whole : c ∷ cs ≡ 42 ∷ 47 ∷ slash.1 = cc (star, slash.2, beyond) in
      ([], slash.1, whole, nothing_ends, sym (some_is 2 width is.1))
  | inr is ↦
      let m = mapped (λ (n : ℕ). n + 1) (closing_width cs) width is.1 in
      let found = closes cs m.0 m.1 in
      let never = never_from c found.0 (47 ∷ found.1) (ap (λ (l : List ℕ). eqb c 42 && begins_with is_slash l) (sym found.2) ∙ is.0) found.3 in
      (c ∷ found.0, found.1, ap (λ (l : List ℕ). c ∷ l) found.2, never, omega (arith, m.2, found.4))
]

-- `*/` does not begin with the last character before it
not_yet : (c : ℕ) (body rest : List ℕ) → NeverEnds (c ∷ body) → (eqb c 42 && begins_with is_slash (body ++ 42 ∷ rest)) ≡ false
not_yet c [] rest never = elim (cases_Bool (eqb c 42)) [ inl is ↦ rw is refl | inr is ↦ rw is refl ]
not_yet c (d ∷ body) rest never = elim (cases_Bool (eqb c 42)) [
  | inl star ↦ elim (cases_Bool (eqb d 47)) [
    | inl slash ↦
        let c_is : c ≡ 42 = eqb-true c 42 star in
        let d_is : d ≡ 47 = eqb-true d 47 slash in
        absurd (never [] body (rw (c_is, d_is) refl))
    | inr other ↦ rw (star, other) refl
  ]
  | inr other ↦ rw other refl
]

pub closes_again : (body rest : List ℕ) → NeverEnds body → closing_width (body ++ 42 ∷ 47 ∷ rest) ≡ Some (length body + 2)
unfolding closing_width
closes_again [] rest never = refl
closes_again (c ∷ body) rest never =
    let beyond : NeverEnds body = λ before after e. never (c ∷ before) after (ap (λ (l : List ℕ). c ∷ l) e) in
    let more : length body + 2 + 1 ≡ length (c ∷ body) + 2 = omega arith in
    rw (not_yet c body (47 ∷ rest) never, closes_again body rest beyond) (ap (λ (n : ℕ). Some n) more)

-- what closes on a line closes in the text
pub closes_on_line : (text more : List ℕ) (width : ℕ) → closing_width text ≡ Some width → closing_width (text ++ line_end ∷ more) ≡ Some width
closes_on_line text more width h =
    let found = closes text width h in
    ap (λ (l : List ℕ). closing_width (l ++ line_end ∷ more)) found.2 ∙ ap closing_width (append_assoc found.0 (42 ∷ 47 ∷ found.1) (line_end ∷ more))
    ∙ closes_again found.0 (found.1 ++ line_end ∷ more) found.3 ∙ ap (λ (n : ℕ). Some n) (sym found.4)

-- what does not, closes on another line
pub closes_later : (text more : List ℕ) → closing_width text ≡ None → closing_width (text ++ line_end ∷ more) ≡ option_map (λ width. width + (length text + 1)) (closing_width more)
unfolding closing_width
closes_later [] more h = refl
closes_later (c ∷ cs) more h = elim (chosen (eqb c 42 && begins_with is_slash cs) _ _ None h) [
  | inl is ↦ absurd (let e : Some 2 ≡ None = is.1 in cc)
  | inr is ↦
      let here : (eqb c 42 && begins_with is_slash (cs ++ line_end ∷ more)) ≡ false = ap (λ (b : Bool). eqb c 42 && b) (begins_on_line is_slash cs more refl) ∙ is.0 in
      let beyond = closes_later cs more (not_mapped (λ (n : ℕ). n + 1) (closing_width cs) is.1) in
      rw (here, beyond) (wider (closing_width more) (length cs + 1) (length (c ∷ cs) + 1) (omega arith))
] where
  wider : (o : Option ℕ) (n m : ℕ) → n + 1 ≡ m → option_map (λ width. width + 1) (option_map (λ width. width + n) o) ≡ option_map (λ width. width + m) o
  wider None n m e = refl
  wider (Some w) n m e = ap (λ (k : ℕ). Some k) (omega (arith, e))

pub closes_within : (text : List ℕ) (width : ℕ) → closing_width text ≡ Some width → (1 ≤ width) × (width ≤ length text)
closes_within text width h =
    let found = closes text width h in
    let long : length text ≡ length found.0 + length (42 ∷ 47 ∷ found.1) = ap length found.2 ∙ length-append found.0 (42 ∷ 47 ∷ found.1) in
    (omega (arith, found.4), omega (arith, found.4, long))
