-- The text of a statement: the tokens up to its first `;`.
use Rattle.std.proofs.Common.{true≢false, ◌≡◌, ◌<◌, ◌≤◌, nat_lt, ℕ, suc, zero, Bool, true, false, ◌||◌, cond, is_some, Some, None, Option, option_map, [], ◌∷◌, take, length, get_or, refl, ap, ◌∙◌, sym, arith}
use Rattle.std.specs.List.{position, position_or_len}
use Rattle.std.proofs.lemmas.Bool.{ltb-false}
use Rattle.std.proofs.lemmas.List.Quantifiers.{position-Some}
use Rattle.std.proofs.lemmas.List.Sums.{fails_before_first}
use Rattle.pli_base.specs.Words.{Tokens, is_semicolon}
use Rattle.pli_base.specs.declared.syntax.Identifier.{Identifier}
use Rattle.pli_base.specs.declared.token.Sign.TheVariants as signs
use Rattle.pli_base.specs.declared.token.TokenText.{TokenText}
use Rattle.pli_base.specs.declared.token.TokenText.TheVariants as tokens
use Rattle.pli_parse_statement.specs.StatementWords.{up_to_semicolon, kind_of}
use Rattle.pli_parse_statement.specs.answers.StatementAnswers.{AfterKind}
use Rattle.pli_parse_statement.specs.declared.first.StatementKind.{StatementKind}
use Rattle.pli_parse_statement.specs.StatementReading.{has_semicolon, label_at, Another, next_by, next_of}

-- one token more
step : (t : TokenText) (ts : Tokens) → up_to_semicolon (t ∷ ts) ≡ cond (is_semicolon t) (Some []) (option_map (λ us. t ∷ us) (up_to_semicolon ts))
unfolding up_to_semicolon
step (tokens.Sign signs.Semicolon) ts = refl
step t ts = refl

module _ (d : TokenText) where
  there : (ts : Tokens) (i : ℕ) → i < length ts → is_semicolon (get_or ts i d) ≡ true → ((k : ℕ) → k < i → is_semicolon (get_or ts k d) ≡ false) → up_to_semicolon ts ≡ Some (take i ts)
  there [] i less here before_it = absurd (omega arith)
  there (t ∷ ts) zero less here before_it = step t ts ∙ ap (λ b. cond b (Some []) (option_map (λ us. t ∷ us) (up_to_semicolon ts))) here
  there (t ∷ ts) (suc i) less here before_it =
      let first : is_semicolon t ≡ false = before_it 0 (omega arith) in
      let later : up_to_semicolon ts ≡ Some (take i ts) = there ts i (omega arith) here (λ k lt. before_it (suc k) (omega arith)) in
      step t ts ∙ rw (first, later) refl

  nowhere : (ts : Tokens) → ((k : ℕ) → k < length ts → is_semicolon (get_or ts k d) ≡ false) → up_to_semicolon ts ≡ None
  unfolding up_to_semicolon
  nowhere [] none = refl
  nowhere (t ∷ ts) none =
      let first : is_semicolon t ≡ false = none 0 (omega arith) in
      let later : up_to_semicolon ts ≡ None = nowhere ts (λ k lt. none (suc k) (omega arith)) in
      step t ts ∙ rw (first, later) refl

pub text_found : (ts : Tokens) (i : ℕ) → position is_semicolon ts ≡ Some i → up_to_semicolon ts ≡ Some (take i ts)
text_found ts i h = let p = position-Some is_semicolon ts i (tokens.Sign signs.Semicolon) h in there (tokens.Sign signs.Semicolon) ts i p.0 p.1 p.2

chosen_none : (b : Bool) (n : ℕ) → cond b (Some n) None ≡ None → b ≡ false
chosen_none true n h = cc
chosen_none false n h = refl

pub no_text : (ts : Tokens) → position is_semicolon ts ≡ None → up_to_semicolon ts ≡ None
no_text ts h =
    let far : length ts ≤ position_or_len is_semicolon ts = ltb-false (position_or_len is_semicolon ts) (length ts) (chosen_none (nat_lt (position_or_len is_semicolon ts) (length ts)) (position_or_len is_semicolon ts) h) in
    nowhere (tokens.Sign signs.Semicolon) ts (λ k less. fails_before_first is_semicolon ts k (tokens.Sign signs.Semicolon) (omega arith))

found_further : (t : TokenText) (o : Option Tokens) → is_some (option_map (λ us. t ∷ us) o) ≡ is_some o
found_further t None = refl
found_further t (Some us) = refl

one_more : (b : Bool) (t : TokenText) (o : Option Tokens) → is_some (cond b (Some []) (option_map (λ us. t ∷ us) o)) ≡ (b || is_some o)
one_more true t o = refl
one_more false t o = found_further t o

-- a `;` is ahead where the statement has a text
pub ahead : (ts : Tokens) → has_semicolon ts ≡ is_some (up_to_semicolon ts)
unfolding has_semicolon up_to_semicolon
ahead [] = refl
ahead (t ∷ ts) = ap (λ b. is_semicolon t || b) (ahead ts) ∙ sym (one_more (is_semicolon t) t (up_to_semicolon ts)) ∙ ap is_some (sym (step t ts))

-- neither a label nor its colon is a `;`
pub ahead_of_label : (ts : Tokens) → has_semicolon ts ≡ has_semicolon (label_at 0 ts).rest
unfolding has_semicolon label_at
ahead_of_label (tokens.Word n ∷ tokens.Sign signs.Colon ∷ us) = refl
ahead_of_label ts = refl

-- what comes next where no `;` is ahead, where a label stands, and where none does
pub next_endless : (ts : Tokens) → has_semicolon ts ≡ false → next_of ts ≡ Another
unfolding next_of
next_endless ts none = rw none refl

pub next_labelled : (ts : Tokens) → is_some (label_at 0 ts).value ≡ true → next_of ts ≡ Another
unfolding next_of
next_labelled ts labelled = by (has_semicolon ts) (label_at 0 ts).value labelled
  where
    by : (s : Bool) (label : Option Identifier) → is_some label ≡ true → next_by s label (kind_of ts) ≡ Another
    by s None h = absurd (true≢false (sym h))
    by true (Some l) h = refl
    by false (Some l) h = refl

pub next_unlabelled : (ts : Tokens) → has_semicolon ts ≡ true → is_some (label_at 0 ts).value ≡ false
    → next_of ts ≡ next_by true None (kind_of (label_at 0 ts).rest)
unfolding next_of label_at
next_unlabelled (tokens.Word n ∷ tokens.Sign signs.Colon ∷ us) ahead none = absurd (true≢false none)
next_unlabelled ts ahead none = rw ahead refl

-- where no label stands, tokens are passed over of the statement itself
pub after_unlabelled : (ts : Tokens) (k : StatementKind) → is_some (label_at 0 ts).value ≡ false → AfterKind (length (label_at 0 ts).rest) k → AfterKind (length ts) k
unfolding label_at
after_unlabelled (tokens.Word n ∷ tokens.Sign signs.Colon ∷ us) k none passed = absurd (true≢false none)
after_unlabelled ts k none passed = passed
