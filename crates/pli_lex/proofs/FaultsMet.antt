-- The fault of a place where nothing stands is the one that is met there.
use Rattle.std.proofs.Common.{◌≡◌, ℕ, Bool, true, false, eqb, ◌||◌, arith, List, [], ◌∷◌, ◌++◌, Some, None, Result, Ok, Err, refl, sym, ap, subst, ◌∙◌, inl, inr, ◌⊎◌}
use Rattle.std.specs.Bool.{if◌then◌else◌}
use Rattle.std.proofs.lemmas.Bool.{eqb-true}
use Rattle.std.proofs.lemmas.Bool.Decides.{nat_tests}
use Rattle.pli_base.specs.Name.{is_letter, is_digit}
use Rattle.pli_base.specs.declared.code.Code.{Code}
use Rattle.pli_base.specs.declared.code.Code.TheVariants.{UnendedComment, UnendedString, BadCharacter, BadNumber, NameTooLong, BadBits}
use Rattle.pli_lex.specs.declared.answer.LexFault.{LexFault}
use Rattle.pli_lex.specs.Characters.{is_quote, begins_with, begins_comment}
use Rattle.pli_lex.specs.Tokens.{doubled, quoted}
use Rattle.pli_lex.specs.Faults.{NothingStands, IsCodeOf, HasFault}
use Rattle.pli_lex.specs.Reading.{Piece, piece_at, with_front, tokens_after, tokens_of}
use Rattle.pli_lex.proofs.TakenApart.{begins_split}
use Rattle.pli_lex.proofs.FoundStands.{quoted_before}
use Rattle.pli_lex.proofs.FrontStands.{no_comment, piece_stands, piece_code}
use Rattle.pli_lex.proofs.PiecesPassed.{fault_first}
use Rattle.pli_lex.proofs.TextsSpelled.{spelled_again}

-- what begins the text: a comment, a quote, a digit, a letter, or anything else
abbrev class_at : List ℕ → ℕ
class_at text =
    if begins_comment text then 0
    else (if begins_with is_quote text then 1
    else (if begins_with is_digit text then 2
    else (if begins_with is_letter text then 3
    else 4)))

abbrev class_of : Code → ℕ
class_of UnendedComment = 0
class_of UnendedString = 1
class_of BadBits = 1
class_of BadNumber = 2
class_of NameTooLong = 3
class_of others = 4

quote_class : (cs : List ℕ) → class_at (39 ∷ cs) ≡ 1
quote_class [] = refl
quote_class (d ∷ cs) = refl

digit_apart : (c : ℕ) → is_digit c ≡ true → (eqb c 47 ≡ false) × (is_quote c ≡ false)
digit_apart c digit = (grind (arith, nat_tests), grind (arith, nat_tests))

letter_apart : (c : ℕ) → is_letter c ≡ true → (eqb c 47 ≡ false) × (is_quote c ≡ false) × (is_digit c ≡ false)
letter_apart c letter = (grind (arith, nat_tests), grind (arith, nat_tests), grind (arith, nat_tests))

digit_class : (c : ℕ) (cs : List ℕ) → is_digit c ≡ true → class_at (c ∷ cs) ≡ 2
digit_class c cs digit = let apart = digit_apart c digit in rw (no_comment c cs apart.0, apart.1, digit) refl

letter_class : (c : ℕ) (cs : List ℕ) → is_letter c ≡ true → class_at (c ∷ cs) ≡ 3
letter_class c cs letter = let apart = letter_apart c letter in rw (no_comment c cs apart.0, apart.1, apart.2, letter) refl

either_not : (a b : Bool) → (a || b) ≡ false → (a ≡ false) × (b ≡ false)
either_not true b h = absurd cc
either_not false b h = (refl, h)

class_is : (text : List ℕ) (code : Code) → IsCodeOf text code → class_at text ≡ class_of code
class_is text UnendedComment h = rw h refl
class_is text UnendedString h =
    let q = begins_split is_quote text h.0 in
    ap class_at (q.2 ∙ ap (λ (c : ℕ). c ∷ q.1) (eqb-true q.0 39 q.3)) ∙ quote_class q.1
class_is text BadBits h = ap class_at (h.2 ∙ quoted_before h.0 h.1) ∙ quote_class (doubled h.0 ++ 39 ∷ h.1)
class_is text BadNumber h = let d = begins_split is_digit text h in ap class_at d.2 ∙ digit_class d.0 d.1 d.3
class_is text NameTooLong h = let l = begins_split is_letter text h in ap class_at l.2 ∙ letter_class l.0 l.1 l.3
class_is text BadCharacter h =
    let first = either_not (is_letter h.0 || is_digit h.0) (is_quote h.0) h.4 in
    let second = either_not (is_letter h.0) (is_digit h.0) first.0 in
    let there : begins_comment (h.0 ∷ h.1) ≡ false = ap begins_comment (sym h.2) ∙ h.3 in
    ap class_at h.2 ∙ rw (there, first.1, second.1, second.0) refl
class_is text others h = absurd h

comment_class : (code : Code) → class_of code ≡ 0 → code ≡ UnendedComment
comment_class UnendedComment h = refl
comment_class others h = absurd cc

string_class : (code : Code) → class_of code ≡ 1 → (code ≡ UnendedString) ⊎ (code ≡ BadBits)
string_class UnendedString h = inl refl
string_class BadBits h = inr refl
string_class others h = absurd cc

number_class : (code : Code) → class_of code ≡ 2 → code ≡ BadNumber
number_class BadNumber h = refl
number_class others h = absurd cc

name_class : (code : Code) → class_of code ≡ 3 → code ≡ NameTooLong
name_class NameTooLong h = refl
name_class others h = absurd cc

other_class : (text : List ℕ) (code : Code) → class_of code ≡ 4 → IsCodeOf text code → code ≡ BadCharacter
other_class text BadCharacter h is = refl
other_class text UnendedComment h is = absurd cc
other_class text UnendedString h is = absurd cc
other_class text BadBits h is = absurd cc
other_class text BadNumber h is = absurd cc
other_class text NameTooLong h is = absurd cc
other_class text others h is = absurd is

-- a place has one code
one_code : (text : List ℕ) (first second : Code) → IsCodeOf text first → IsCodeOf text second → second ≡ first
one_code text UnendedComment second h is = comment_class second (sym (class_is text second is) ∙ class_is text UnendedComment h)
one_code text UnendedString second h is = elim (string_class second (sym (class_is text second is) ∙ class_is text UnendedString h)) [
  | inl same ↦ same
  | inr other ↦ absurd (h.1 (subst (IsCodeOf text) other is))
]
one_code text BadBits second h is = elim (string_class second (sym (class_is text second is) ∙ class_is text BadBits h)) [
  | inl other ↦ absurd ((subst (IsCodeOf text) other is).1 h)
  | inr same ↦ same
]
one_code text BadNumber second h is = number_class second (sym (class_is text second is) ∙ class_is text BadNumber h)
one_code text NameTooLong second h is = name_class second (sym (class_is text second is) ∙ class_is text NameTooLong h)
one_code text BadCharacter second h is = other_class text second (sym (class_is text second is) ∙ class_is text BadCharacter h) is
one_code text others second h is = absurd h

-- where nothing stands, no piece is found
nothing_found : (text : List ℕ) (p : Piece) → NothingStands text → piece_at text ≡ Ok p → ⊥
nothing_found text (None, width) nothing found = let stands = piece_stands text (None, width) found in (nothing stands.0 stands.1 stands.2).0 stands.4
nothing_found text (Some t, width) nothing found = let stands = piece_stands text (Some t, width) found in (nothing stands.0 stands.1 stands.2).1 t stands.4 stands.5

no_code : (code : Code) → IsCodeOf [] code → ⊥
no_code UnendedComment h = absurd cc
no_code UnendedString h = absurd (let e : false ≡ true = h.0 in cc)
no_code BadBits h = absurd (let e : [] ≡ quoted h.0 ++ h.1 = h.2 in cc)
no_code BadNumber h = absurd cc
no_code NameTooLong h = absurd cc
no_code BadCharacter h = absurd (let e : [] ≡ h.0 ∷ h.1 = h.2 in cc)
no_code others h = h

pub nothing_is_faulty : (number : ℕ) (rest : List ℕ) (code : Code) → NothingStands rest → IsCodeOf rest code → tokens_after 0 number rest ≡ Err (record { code = code; line = number })
nothing_is_faulty number [] code nothing is = absurd (no_code code is)
nothing_is_faulty number (c ∷ cs) code nothing is = met (piece_at (c ∷ cs)) refl where
  met : (read : Result Piece Code) → piece_at (c ∷ cs) ≡ read → tokens_after 0 number (c ∷ cs) ≡ Err (record { code = code; line = number })
  met (Ok p) found = absurd (nothing_found (c ∷ cs) p nothing found)
  met (Err e) found = fault_first number c cs e found ∙ ap (λ (d : Code). Err (record { code = d; line = number })) (one_code (c ∷ cs) code e is (piece_code c cs e found))

pub fault_is_met : (text : List ℕ) (fault : LexFault) → HasFault text fault → tokens_of text ≡ Err fault
fault_is_met text fault (tokens, rest, spelled, nothing, is) = spelled_again tokens 1 text fault.line rest spelled ∙ ap (with_front tokens) (nothing_is_faulty fault.line rest fault.code nothing is)
