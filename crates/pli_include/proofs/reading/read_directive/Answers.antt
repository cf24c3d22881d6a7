use Rattle.std.proofs.Math.Nat.{add-zero}
use Rattle.std.proofs.lemmas.List.{get_or-drop}
use Rattle.std.proofs.Common.{◌≡◌, ℕ, ◌+◌, ◌<◌, ◌≤◌, ◌-◌, List, length, take, drop, get_or, slice_get, ◌∷◌, None, Some, true, sym, ap, ◌∙◌, subst, refl, arith}
use Rattle.std.proofs.lemmas.Option.{slice_get_read, slice_get_past}
use Rattle.pli_base.specs.Name.{Name}
use Rattle.pli_base.specs.declared.code.Code.TheVariants.{TooManyTokens, BadInclude}
use Rattle.pli_base.specs.declared.token.Token.{Token}
use Rattle.pli_include.specs.declared.reading.Pause.{Pause}
use Rattle.pli_include.specs.declared.reading.Pause.TheVariants as at
use Rattle.pli_include.specs.Expansion.{Progress, directed}
use Rattle.pli_include.specs.Pieces.{is_percent, named_by, directive}
use Rattle.pli_include.specs.answers.Pausing.{Reads}
use Rattle.pli_include.proofs.PieceIsRead.{rest_is, four_are, reads_misplaced, reads_over, reads_directive, short_is_misplaced, from_place, percent_at, fault_at}
use Rattle.pli_include.proofs.reading.read_directive.Goals as goal

-- a `%` stands at this place
abbrev Percent : List Token → ℕ → Type 0
Percent tokens place = (t : Token) × (slice_get tokens place ≡ Some t) × (is_percent t.text ≡ true)

module _ (tokens : List Token) (place : ℕ) (lt : place < length tokens) (percent : Percent tokens place) (m : Name) (s : Progress) where
  -- what stands from the place on
  abbrev rest : List Token
  rest = take (length tokens - place) (drop place tokens)

  is_rest : rest ≡ drop place tokens
  is_rest = rest_is tokens place (omega (arith, lt))

  module _ (p w n c : Token) (le : 4 ≤ length rest) (ep : p ≡ get_or rest 0 p) (ew : w ≡ get_or rest 1 w) (en : n ≡ get_or rest 2 n) (ec : c ≡ get_or rest 3 c) where
    four : rest ≡ p ∷ w ∷ n ∷ c ∷ drop 4 rest
    four = four_are rest p w n c le ep ew en ec

    from : drop place tokens ≡ p ∷ w ∷ n ∷ c ∷ drop 4 (drop place tokens)
    from = sym is_rest ∙ four ∙ ap (λ l. p ∷ w ∷ n ∷ c ∷ drop 4 l) is_rest

    first : is_percent p.text ≡ true
    first = percent_at tokens place p percent.0 _ from percent.1 percent.2

    unnamed : None ≡ named_by w.text n.text c.text → (r : Pause) → r ≡ fault_at BadInclude m p → Reads 200000 m tokens place s r s
    unnamed e r is = subst (λ r. Reads 200000 m tokens place s r s) (sym is)
        (reads_misplaced 200000 m tokens place p (w ∷ n ∷ c ∷ drop 4 (drop place tokens)) s from first (ap (λ o. directive o p w n c) (sym e)))

    over : (name : Name) → Some name ≡ named_by w.text n.text c.text → (x : Token) (k : ℕ) → k ≡ 200000 - s.read → k < length (take 4 rest) → x ≡ get_or (take 4 rest) k x
        → (r : Pause) → r ≡ fault_at TooManyTokens m x → Reads 200000 m tokens place s r s
    over name e x k room within at r is = subst (λ r. Reads 200000 m tokens place s r s) (sym is)
        (reads_over 200000 m tokens place p w n c x name (drop 4 (drop place tokens)) s from first (sym e)
        (ap (λ l. slice_get (take 4 l) (200000 - s.read)) (sym four) ∙ ap (λ i. slice_get (take 4 rest) i) (sym room) ∙ slice_get_read (take 4 rest) (length (take 4 rest)) k x refl within at))

    begins : (name : Name) → Some name ≡ named_by w.text n.text c.text → (k : ℕ) → k ≡ 200000 - s.read → length (take 4 rest) ≤ k
        → (new : Progress) → new ≡ directed s → Reads 200000 m tokens place s (at.Include (record { name = name; at = record { member = m; line = p.line }; next = place + 4 })) new
    begins name e k room past new is = subst (Reads 200000 m tokens place s (at.Include (record { name = name; at = record { member = m; line = p.line }; next = place + 4 }))) (sym is)
        (reads_directive 200000 m tokens place p w n c name s from first (sym e)
        (ap (λ l. slice_get (take 4 l) (200000 - s.read)) (sym four) ∙ ap (λ i. slice_get (take 4 rest) i) (sym room) ∙ slice_get_past (take 4 rest) k past))

  short : (p : Token) → p ≡ get_or rest 0 p → length rest < 4 → (r : Pause) → r ≡ fault_at BadInclude m p → Reads 200000 m tokens place s r s
  short p e le r is =
      let t = percent.0 in
      let at : p ≡ get_or tokens place p = e ∙ ap (λ l. get_or l 0 p) is_rest ∙ get_or-drop place tokens 0 p ∙ ap (λ n. get_or tokens n p) (add-zero place) in
      let begin = from_place tokens place p lt at in
      let few : length (p ∷ drop (place + 1) tokens) < 4 = subst (λ l. length l < 4) (is_rest ∙ begin) le in
      subst (λ r. Reads 200000 m tokens place s r s) (sym is)
      (reads_misplaced 200000 m tokens place p (drop (place + 1) tokens) s begin (percent_at tokens place p t _ begin percent.1 percent.2)
      (short_is_misplaced p (drop (place + 1) tokens) few))

pub returns-in_default-named_by : goal.returns-in_default-named_by
returns-in_default-named_by c =
    unnamed c.args.tokens.now c.args.place c.requires.within c.requires.percent c.args.member c.args.progress.now
    c.percent-item.result c.word-item.result c.named-item.result c.semicolon-item.result c.in-len4-up.len_at_least c.percent-item.is c.word-item.is c.named-item.is c.semicolon-item.is
    c.in_default-named_by.ensures _ c.fault_at-in_default-named_by.ensures

pub returns-in-Some-get : goal.returns-in-Some-get
returns-in-Some-get c =
    over c.args.tokens.now c.args.place c.requires.within c.requires.percent c.args.member c.args.progress.now
    c.percent-item.result c.word-item.result c.named-item.result c.semicolon-item.result c.in-len4-up.len_at_least c.percent-item.is c.word-item.is c.named-item.is c.semicolon-item.is
    c.in-Some.name c.in-Some.ensures c.in-Some-get.extra.now c.room.result c.room.ensures.room c.in-Some-get.ensures.lookup.3.0 c.in-Some-get.ensures.lookup.1
    _ c.fault_at-in-Some-get.ensures

pub returns-in_default : goal.returns-in_default
returns-in_default c =
    short c.args.tokens.now c.args.place c.requires.within c.requires.percent c.args.member c.args.progress.now
    c.index-rest-0.result c.index-rest-0.is c.in_default.len_below _ c.fault_at.ensures

pub returns-in_default-get : goal.returns-in_default-get
returns-in_default-get c =
    begins c.args.tokens.now c.args.place c.requires.within c.requires.percent c.args.member c.args.progress.now
    c.percent-item.result c.word-item.result c.named-item.result c.semicolon-item.result c.in-len4-up.len_at_least c.percent-item.is c.word-item.is c.named-item.is c.semicolon-item.is
    c.in-Some.name c.in-Some.ensures c.room.result c.room.ensures.room c.in_default-get.ensures.lookup.3 _ c.direct.ensures
