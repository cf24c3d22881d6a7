-- Readers and the functions of tokens that read the same.
use Rattle.std.specs.Prelude.{◌≡◌, ℕ, ◌+◌, Bool, true, false, ◌||◌, Option, Some, None, Result, Ok, Err, List, [], ◌∷◌, zero, suc, length, refl, if◌then◌else◌}
use Rattle.std.proofs.Common.{ap, ◌∙◌}
use Rattle.std.proofs.Math.Path.{fun_ext}
use Rattle.pli_base.specs.Name.{Name}
use Rattle.pli_base.specs.Words.{Tokens, is_word, is_open, is_close, is_comma, is_semicolon, rest_after}
use Rattle.pli_base.specs.Results.{◌>>=◌}
use Rattle.pli_base.specs.Reading.{Front, read_as, mapped, taken, enclosed, if_open, or_none}
use Rattle.pli_base.specs.declared.code.Code.{Code}
use Rattle.pli_base.specs.declared.code.Code.TheVariants.{ParenthesisExpected, SemicolonExpected}
use Rattle.pli_base.specs.declared.token.Fault.{Fault}
use Rattle.pli_base.specs.declared.token.TokenText.{TokenText}
use Rattle.pli_base.specs.declared.token.TokenText.TheVariants.{Word, Decimal, Binary, Characters, Bits, Sign}
use Rattle.pli_parse_declaration.specs.DeclarationReading.{listed_after, listed_at, list_at}
use Rattle.pli_parse_declaration.specs.Separators.{separated, after_separator}
use Rattle.pli_parse_declaration.specs.declared.list.Separator.{Separator}
use Rattle.pli_parse_declaration.specs.declared.list.Separator.TheVariants.{Commas}
use Rattle.pli_parse_statement.specs.StatementReading as old
use Rattle.pli_parse_statement.specs.StatementReading.{paired, known_first}
use Rattle.pli_parse_statement.specs.StatementWords.{after_word}
use Rattle.pli_grammar.specs.Readers as new
use Rattle.pli_grammar.specs.Readers.{Reader, token, either, optional, closed}
use Rattle.pli_grammar.specs.StatementParts as parts

pub grouped : {A B C E : Type 0} (r : Result A E) (f : A → Result B E) (g : B → Result C E) → r >>= f >>= g ≡ r >>= λ x. f x >>= g
grouped (Ok x) f g = refl
grouped (Err e) f g = refl

pub after : {A B E : Type 0} (r : Result A E) (f g : A → Result B E) → ((x : A) → f x ≡ g x) → r >>= f ≡ r >>= g
after (Ok x) f g h = h x
after (Err e) f g h = refl

pub both : {A B E : Type 0} {r s : Result A E} {f g : A → Result B E} → r ≡ s → ((x : A) → f x ≡ g x) → r >>= f ≡ s >>= g
both {r = r} {s = s} {f = f} {g = g} same h = ap (λ (q : Result _ _). q >>= f) same ∙ after s f g h

pub token_then : {B : Type 0} (fits : TokenText → Bool) (code : Code) (next : ℕ → Reader B) (p : ℕ) (ts : Tokens)
    → (token fits code p ts >>= λ x. next x.value x.next x.rest) ≡ (taken fits code p ts >>= λ us. next p (p + 1) us)
token_then fits code next p ts = grouped (taken fits code p ts) (λ us. read_as p (p + 1) us) (λ x. next x.value x.next x.rest)

pub stopped_same : {A : Type 0} (x : A) (p : ℕ) (ts : Tokens) → parts.stopped x p ts ≡ old.stopped x p ts
unfolding old.stopped
stopped_same x p ts = token_then is_semicolon SemicolonExpected (λ _. read_as x) p ts

pub closed_same : {A : Type 0} (read : Reader A) (p : ℕ) (ts : Tokens) → closed read p ts ≡ enclosed (read p ts)
closed_same read p ts =
    after (read p ts) (λ x. token is_close ParenthesisExpected x.next x.rest >>= λ y. read_as x.value y.next y.rest)
    (λ x. taken is_close ParenthesisExpected x.next x.rest >>= λ rest. read_as x.value (x.next + 1) rest)
    (λ x. token_then is_close ParenthesisExpected (λ _. read_as x.value) x.next x.rest)

pub parenthesized_same : {A : Type 0} (read : Reader A) (p : ℕ) (ts : Tokens) → new.parenthesized read p ts ≡ old.parenthesized read p ts
unfolding old.parenthesized
parenthesized_same read p ts =
    token_then is_open ParenthesisExpected (λ _. closed read) p ts
    ∙ after (taken is_open ParenthesisExpected p ts) (λ us. closed read (p + 1) us) (λ us. enclosed (read (p + 1) us)) (λ us. closed_same read (p + 1) us)

pub after_word_same : (w : Name) (ts : Tokens) → rest_after (is_word w) ts ≡ after_word w ts
unfolding rest_after after_word
after_word_same w [] = refl
after_word_same w (Word n ∷ us) = refl
after_word_same w (Decimal v d ∷ us) = refl
after_word_same w (Binary v d ∷ us) = refl
after_word_same w (Characters s ∷ us) = refl
after_word_same w (Bits s ∷ us) = refl
after_word_same w (Sign s ∷ us) = refl

pub open_same : {A : Type 0} (read : Reader A) (p : ℕ) (ts : Tokens) → optional is_open (closed read) p ts ≡ if_open read p ts (rest_after is_open ts)
open_same read p ts = by (rest_after is_open ts)
  where
    by : (o : Option Tokens) → either (new.made Some (closed read)) (read_as None) p ts o ≡ if_open read p ts o
    by None = refl
    by (Some us) = ap (mapped Some) (closed_same read (p + 1) us)

pub alike : {A : Type 0} {r s : Reader A} → ((p : ℕ) (ts : Tokens) → r p ts ≡ s p ts) → r ≡ s
alike same = fun_ext (λ p. fun_ext (λ ts. same p ts))

pub parenthesized_then : {A : Type 0} (read : Reader A) (p : ℕ) (ts : Tokens) → new.parenthesized read p ts ≡ (taken is_open ParenthesisExpected p ts >>= λ us. closed read (p + 1) us)
parenthesized_then read p ts = token_then is_open ParenthesisExpected (λ _. closed read) p ts

pub opened_same : {A : Type 0} {read was : Reader A} → ((p : ℕ) (ts : Tokens) → read p ts ≡ was p ts) → (p : ℕ) (ts : Tokens)
    → new.in_parentheses read p ts ≡ if_open was p ts (rest_after is_open ts)
opened_same {read = read} {was = was} same p ts = open_same read p ts ∙ ap (λ (r : Reader _). if_open r p ts (rest_after is_open ts)) (alike same)

-- lists

-- what follows in a list, if it goes on
abbrev pub found : {A : Type 0} → Separator → Reader A → ℕ → Tokens → Option Tokens → Result (Front (Option A)) Fault
found s read p ts None = read_as None p ts
found s read p ts (Some us) = mapped Some (read (after_separator s p) us)

module _ {A : Type 0} (s : Separator) (others : Reader (List A) → Reader (Option (List A)))
    (goes_on : (read : Reader (List A)) (p : ℕ) (ts : Tokens) → others read p ts ≡ found s read p ts (separated s ts))
    {one was : Reader A} (same : (p : ℕ) (ts : Tokens) → one p ts ≡ was p ts) where
  then_listed : (more : Reader (List A)) (was_more : Reader (List A)) → ((p : ℕ) (ts : Tokens) → more p ts ≡ was_more p ts) → (x : Front A) (o : Option Tokens)
      → mapped (λ xs. x.value ∷ or_none xs) (found s more x.next x.rest o) ≡ listed_after s was_more x o
  then_listed more was_more alike_more x None = refl
  then_listed more was_more alike_more x (Some us) = grouped (more (after_separator s x.next) us) _ _ ∙ both (alike_more (after_separator s x.next) us) (λ y. refl)

  listed_same : (bound p : ℕ) (ts : Tokens) → new.listed others one bound p ts ≡ listed_at s was bound p ts
  unfolding new.listed listed_at
  listed_same zero p ts = refl
  listed_same (suc bound) p ts =
      both (same p ts) (λ x. ap (mapped (λ xs. x.value ∷ or_none xs)) (goes_on (new.listed others one bound) x.next x.rest)
      ∙ then_listed (new.listed others one bound) (listed_at s was bound) (listed_same bound) x (separated s x.rest))

  pub list_by_same : (p : ℕ) (ts : Tokens) → new.list_by others one p ts ≡ list_at s was p ts
  list_by_same p ts = listed_same (length ts + 1) p ts

comma_found : {A : Type 0} (read : Reader A) (p : ℕ) (ts : Tokens) → optional is_comma read p ts ≡ found Commas read p ts (separated Commas ts)
comma_found read p ts = by (rest_after is_comma ts)
  where
    by : (o : Option Tokens) → either (new.made Some read) (read_as None) p ts o ≡ found Commas read p ts o
    by None = refl
    by (Some us) = refl

pub list_of_same : {A : Type 0} {one was : Reader A} → ((p : ℕ) (ts : Tokens) → one p ts ≡ was p ts) → (p : ℕ) (ts : Tokens) → new.list_of one p ts ≡ list_at Commas was p ts
list_of_same = list_by_same Commas (optional is_comma) comma_found

pub optional_same : {A : Type 0} (w : Name) (read : Reader A) (p : ℕ) (ts : Tokens) → optional (is_word w) read p ts ≡ old.optional_at w read p ts
unfolding old.optional_at
optional_same w read p ts = ap (either (new.made Some read) (read_as None) p ts) (after_word_same w ts) ∙ by (after_word w ts)
  where
    by : (o : Option Tokens) → either (new.made Some read) (read_as None) p ts o ≡ old.if_word read p ts o
    by None = refl
    by (Some us) = refl

-- words in front

pub words_same : {A B C : Type 0} (known : Name → Option A) (known' : Name → Option B) (f : Option (A × Tokens) → C) (g : Option (B × Tokens) → C)
    → f None ≡ g None → ((n : Name) (us : Tokens) → f (paired us (known n)) ≡ g (paired us (known' n)))
    → (ts : Tokens) → f (known_first known ts) ≡ g (known_first known' ts)
words_same known known' f g none some [] = none
words_same known known' f g none some (Word n ∷ us) = some n us
words_same known known' f g none some (Decimal v d ∷ us) = none
words_same known known' f g none some (Binary v d ∷ us) = none
words_same known known' f g none some (Characters s ∷ us) = none
words_same known known' f g none some (Bits s ∷ us) = none
words_same known known' f g none some (Sign s ∷ us) = none

pub row : {A B C : Type 0} (f : A → C) (g : B → C) (b : Bool) {x o : A} {y q : B} → f x ≡ g y → f o ≡ g q
    → f (if b then x else o) ≡ g (if b then y else q)
row f g true one others = one
row f g false one others = others

pub row_of_two : {A B C : Type 0} (f : A → C) (g : B → C) (a b : Bool) {x o : A} {y q : B} → f x ≡ g y → f o ≡ g q
    → f (if a then x else (if b then x else o)) ≡ g (if a || b then y else q)
row_of_two f g true b one others = one
row_of_two f g false true one others = one
row_of_two f g false false one others = others
