-- What is at the front of a text is a separator or a token that stands there, or nothing stands there.
use Rattle.std.proofs.Common.{◌≡◌, ℕ, ◌+◌, ◌<◌, Bool, true, false, cond, eqb, not, ◌&&◌, List, [], ◌∷◌, ◌++◌, length, length-append, take, drop, Option, Some, None, Ok, Err, refl, sym, ap, subst, ◌∙◌, append_assoc, arith, inl, inr}
use Rattle.std.specs.List.{prefix_len}
use Rattle.std.proofs.lemmas.Bool.{and_parts, eqb-true, not-true}
use Rattle.pli_base.specs.Name.{Name, is_letter, is_digit, is_name_character}
use Rattle.pli_base.specs.declared.code.Code.{Code}
use Rattle.pli_base.specs.declared.code.Code.TheVariants.{UnendedComment, UnendedString, BadCharacter, BadNumber, NameTooLong, BadBits}
use Rattle.pli_base.specs.declared.token.Sign.{Sign}
use Rattle.pli_base.specs.declared.token.TokenText.{TokenText}
use Rattle.pli_lex.specs.Characters.{is_blank, is_quote, is_b, continues_number, begins_with, begins_comment}
use Rattle.pli_lex.specs.Tokens.{IsSeparator, is_constant, is_binary_constant, doubled, quoted, are_digits, IsToken, EndsAt}
use Rattle.pli_lex.specs.Faults.{NothingStands, IsQuoted, IsCodeOf}
use Rattle.pli_lex.specs.Reading.{Found, Piece, word, decimal, binary, number_at, string_from, bits, string, string_found, sign, token_at, closing_width, comment, piece, piece_at}
use Rattle.pli_lex.proofs.TakenApart.{chosen, ok_is, error_is, no_fault, none_some, same_tail, bind_ok, bind_err, begins_split}
use Rattle.pli_lex.proofs.KindsApart.{is_solid}
use Rattle.pli_lex.proofs.CommentsEnd.{closes, closes_again}
use Rattle.pli_lex.proofs.StringsEnd.{string_closes, string_again}
use Rattle.pli_lex.proofs.FoundStands.{StandsAt, quoted_before, token_stands}
use Rattle.pli_lex.proofs.StandingIsFound.{token_found, token_begins}

-- a separator or a token at the front of the text takes so many characters
abbrev pub PieceStands : List ℕ → Piece → Type 0
PieceStands text (None, width) = (run rest : List ℕ) × (text ≡ run ++ rest) × (width ≡ length run) × IsSeparator run
PieceStands text (Some t, width) = StandsAt text (t, width)

-- a comment at the front of the text
pub comment_split : (text : List ℕ) → begins_comment text ≡ true → (cs : List ℕ) × (text ≡ 47 ∷ 42 ∷ cs)
comment_split [] h = absurd cc
comment_split (c ∷ []) h = absurd cc
comment_split (c ∷ d ∷ cs) h =
    let parts = and_parts (eqb c 47) (eqb d 42) h in
    let c_is : c ≡ 47 = eqb-true c 47 parts.0 in
    let d_is : d ≡ 42 = eqb-true d 42 parts.1 in
    (cs, cc (c_is, d_is))

comment_stands : (cs : List ℕ) (o : Option ℕ) (p : Piece) → closing_width cs ≡ o → comment o ≡ Ok p → PieceStands (47 ∷ 42 ∷ cs) p
comment_stands cs None p h e = absurd (let e : Err UnendedComment ≡ Ok p = e in cc)
comment_stands cs (Some width) p h e =
    let found = closes cs width h in
    let body = found.0 in
    let whole : 47 ∷ 42 ∷ cs ≡ (47 ∷ 42 ∷ (body ++ 42 ∷ 47 ∷ [])) ++ found.1 = ap (λ (l : List ℕ). 47 ∷ 42 ∷ l) (found.2 ∙ sym (append_assoc body (42 ∷ 47 ∷ []) found.1)) in
    let long : width + 2 ≡ length (47 ∷ 42 ∷ (body ++ 42 ∷ 47 ∷ [])) = omega (arith, found.4, length-append body (42 ∷ 47 ∷ [])) in
    subst (PieceStands (47 ∷ 42 ∷ cs)) (ok_is (None, width + 2) p e) (47 ∷ 42 ∷ (body ++ 42 ∷ 47 ∷ []), found.1, whole, long, inr (body, refl, found.3))

pub piece_stands : (text : List ℕ) (p : Piece) → piece_at text ≡ Ok p → PieceStands text p
unfolding piece_at
piece_stands text p e =
    elim (chosen (begins_with is_blank text) _ _ (Ok p) e) [
      | inl blank ↦
          let b = begins_split is_blank text blank.0 in
          subst (PieceStands text) (ok_is (None, 1) p blank.1) (b.0 ∷ [], b.1, b.2, refl, inl (b.0, b.3, refl))
      | inr a ↦ elim (chosen (begins_comment text) _ _ (Ok p) a.1) [
        | inl begins ↦
            let c = comment_split text begins.0 in
            let there : comment (closing_width c.0) ≡ Ok p = ap (λ (l : List ℕ). comment (closing_width (drop 2 l))) (sym c.1) ∙ begins.1 in
            subst (λ (l : List ℕ). PieceStands l p) (sym c.1) (comment_stands c.0 (closing_width c.0) p refl there)
        | inr b ↦
            let found = bind_ok (token_at text) (λ found. Ok (Some found.0, found.1)) p b.1 in
            subst (PieceStands text) (ok_is (Some found.0.0, found.0.1) p found.2) (token_stands text found.0 found.1)
      ]
    ]

-- ---- what stands is found

pub no_comment : (c : ℕ) (cs : List ℕ) → eqb c 47 ≡ false → begins_comment (c ∷ cs) ≡ false
no_comment c [] other = refl
no_comment c (d ∷ cs) other = rw other refl

pub solid_piece : (text : List ℕ) → begins_with is_solid text ≡ true → piece_at text ≡ piece (token_at text)
unfolding piece_at
solid_piece [] solid = absurd cc
solid_piece (c ∷ cs) solid =
    let parts = and_parts (not (is_blank c)) (not (eqb c 47)) solid in
    rw (not-true _ parts.0, no_comment c cs (not-true _ parts.1)) refl

solid_front : (run rest : List ℕ) → begins_with is_solid run ≡ true → begins_with is_solid (run ++ rest) ≡ true
solid_front [] rest solid = absurd cc
solid_front (c ∷ cs) rest solid = solid

pub token_piece : (run rest : List ℕ) (t : TokenText) → IsToken run t → EndsAt run t rest → piece_at (run ++ rest) ≡ Ok (Some t, length run)
token_piece run rest t is ends = solid_piece (run ++ rest) (solid_front run rest (token_begins run t is)) ∙ ap piece (token_found run rest t is ends)

pub separator_piece : (run rest : List ℕ) → IsSeparator run → piece_at (run ++ rest) ≡ Ok (None, length run)
unfolding piece_at
separator_piece run rest (inl (c, blank, is)) = rw (is, blank) refl
separator_piece run rest (inr (body, is, never)) =
    let long : length body + 2 + 2 ≡ length (47 ∷ 42 ∷ (body ++ 42 ∷ 47 ∷ [])) = omega (arith, length-append body (42 ∷ 47 ∷ [])) in
    rw (is, append_assoc body (42 ∷ 47 ∷ []) rest, closes_again body rest never) (ap (λ (n : ℕ). Ok (None, n)) long)

pub separator_some : (run : List ℕ) → IsSeparator run → 0 < length run
separator_some run (inl (c, blank, is)) = rw is (omega arith)
separator_some run (inr (body, is, never)) = rw is (omega arith)

pub token_some : (run : List ℕ) (t : TokenText) → IsToken run t → 0 < length run
token_some run t is = begun run (token_begins run t is) where
  begun : (run : List ℕ) → begins_with is_solid run ≡ true → 0 < length run
  begun [] solid = absurd cc
  begun (c ∷ cs) solid = omega arith

-- ---- where nothing stands

pub nothing_stands : (text : List ℕ) (e : Code) → piece_at text ≡ Err e → NothingStands text
nothing_stands text e h run rest whole = (
  (λ is. no_fault (piece_at text) (None, length run) e (ap piece_at whole ∙ separator_piece run rest is) h),
  (λ t is ends. no_fault (piece_at text) (Some t, length run) e (ap piece_at whole ∙ token_piece run rest t is ends) h),
)

word_code : (o : Option Name) (width : ℕ) (e : Code) → word o width ≡ Err e → NameTooLong ≡ e
word_code None width e h = error_is NameTooLong e h
word_code (Some name) width e h = absurd cc

-- what is an answer, or else this fault
choice_code : (b : Bool) (x : Found) (code e : Code) → cond b (Ok x) (Err code) ≡ Err e → code ≡ e
choice_code true x code e h = absurd cc
choice_code false x code e h = error_is code e h

decimal_code : (run rest : List ℕ) (e : Code) → decimal run rest ≡ Err e → BadNumber ≡ e
decimal_code run rest e h = choice_code (is_constant run && not (begins_with continues_number rest)) _ BadNumber e h

binary_code : (run rest : List ℕ) (e : Code) → binary run rest ≡ Err e → BadNumber ≡ e
binary_code run rest e h = choice_code (is_binary_constant run && not (begins_with continues_number rest)) _ BadNumber e h

number_code : (text : List ℕ) (e : Code) → number_at text ≡ Err e → BadNumber ≡ e
number_code text e h =
    let width = prefix_len is_digit text in
    elim (chosen (begins_with is_b (drop width text)) (binary (take width text) (drop 1 (drop width text))) (decimal (take width text) (drop width text)) (Err e) h) [
      | inl b ↦ binary_code (take width text) (drop 1 (drop width text)) e b.1
      | inr b ↦ decimal_code (take width text) (drop width text) e b.1
    ]

bits_code : (o : Option ℕ) (digits rest : List ℕ) (taken : ℕ) (e : Code) → bits o digits rest taken ≡ Err e → BadBits ≡ e
bits_code None digits rest taken e h = error_is BadBits e h
bits_code (Some width) digits rest taken e h = choice_code (are_digits width digits && not (begins_with is_name_character rest)) _ BadBits e h

string_code : (characters rest : List ℕ) (taken : ℕ) (e : Code) → string characters taken rest ≡ Err e → BadBits ≡ e
string_code characters rest taken e h = elim (chosen (begins_with is_b rest) _ _ (Err e) h) [
  | inl is ↦ bits_code _ characters _ _ e is.1
  | inr is ↦ absurd cc
]

sign_code : (o : Option Sign) (width : ℕ) (e : Code) → sign o width ≡ Err e → BadCharacter ≡ e
sign_code None width e h = error_is BadCharacter e h
sign_code (Some s) width e h = absurd cc

quote_code : (cs : List ℕ) (o : Option (List ℕ × ℕ)) (e : Code) → string_from false cs ≡ o → string_found (39 ∷ cs) o ≡ Err e → IsCodeOf (39 ∷ cs) e
quote_code cs None e is h = subst (IsCodeOf (39 ∷ cs)) (error_is UnendedString e h) (refl, open_string) where
  open_string : IsQuoted (39 ∷ cs) → ⊥
  open_string q =
      let after : cs ≡ doubled q.0 ++ 39 ∷ q.1 = same_tail 39 39 cs (doubled q.0 ++ 39 ∷ q.1) (q.2 ∙ quoted_before q.0 q.1) in
      none_some (q.0, length (doubled q.0) + 1) (sym is ∙ ap (string_from false) after ∙ string_again q.0 q.1 q.3 q.4)
quote_code cs (Some found) e is h =
    let closes = string_closes false cs found is (λ e. absurd cc) in
    let whole : 39 ∷ cs ≡ quoted found.0 ++ closes.0 = ap (λ (l : List ℕ). 39 ∷ l) closes.1 ∙ sym (quoted_before found.0 closes.0) in
    subst (IsCodeOf (39 ∷ cs)) (string_code found.0 (drop (found.1 + 1) (39 ∷ cs)) (found.1 + 1) e h) (found.0, closes.0, whole, closes.2, closes.3)

token_code : (c : ℕ) (cs : List ℕ) (e : Code) → begins_comment (c ∷ cs) ≡ false → token_at (c ∷ cs) ≡ Err e → IsCodeOf (c ∷ cs) e
unfolding token_at
token_code c cs e no_comment h =
    elim (chosen (is_letter c) _ _ (Err e) h) [
      | inl letter ↦ subst (IsCodeOf (c ∷ cs)) (word_code _ _ e letter.1) letter.0
      | inr a ↦ elim (chosen (is_digit c) _ _ (Err e) a.1) [
        | inl digit ↦ subst (IsCodeOf (c ∷ cs)) (number_code (c ∷ cs) e digit.1) digit.0
        | inr b ↦ elim (chosen (is_quote c) _ _ (Err e) b.1) [
          | inl quote ↦
              let c_is : 39 ≡ c = sym (eqb-true c 39 quote.0) in
              let there : string_found (39 ∷ cs) (string_from false cs) ≡ Err e = ap (λ (d : ℕ). string_found (d ∷ cs) (string_from false cs)) c_is ∙ quote.1 in
              subst (λ (d : ℕ). IsCodeOf (d ∷ cs) e) c_is (quote_code cs (string_from false cs) e refl there)
          | inr d ↦ subst (IsCodeOf (c ∷ cs)) (sign_code _ _ e d.1) (c, cs, refl, no_comment, rw (a.0, b.0, d.0) refl)
        ]
      ]
    ]

comment_code : (o : Option ℕ) (e : Code) → comment o ≡ Err e → UnendedComment ≡ e
comment_code None e h = error_is UnendedComment e h
comment_code (Some width) e h = absurd cc

pub piece_code : (c : ℕ) (cs : List ℕ) (e : Code) → piece_at (c ∷ cs) ≡ Err e → IsCodeOf (c ∷ cs) e
unfolding piece_at
piece_code c cs e h =
    elim (chosen (is_blank c) _ _ (Err e) h) [
      | inl blank ↦ absurd (let e : Ok (None, 1) ≡ Err e = blank.1 in cc)
      | inr a ↦ elim (chosen (begins_comment (c ∷ cs)) _ _ (Err e) a.1) [
        | inl begins ↦ subst (IsCodeOf (c ∷ cs)) (comment_code _ e begins.1) begins.0
        | inr b ↦ elim (bind_err (token_at (c ∷ cs)) (λ found. Ok (Some found.0, found.1)) e b.1) [
          | inl fails ↦ token_code c cs e b.0 fails
          | inr found ↦ absurd (let e : Ok (Some found.0.0, found.0.1) ≡ Err e = found.2 in cc)
        ]
      ]
    ]
