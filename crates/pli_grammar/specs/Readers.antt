-- Readers: each takes what it reads from the front of tokens, or gives the one fault (own). Tokens are
-- counted from 0, and p is the place of the first. What need not stand is passed over, so a fault is about
-- what must stand next.
use Rattle.std.specs.Prelude.{ℕ, zero, suc, ◌+◌, Bool, Option, Some, None, Result, List, [], ◌∷◌}
use Rattle.std.specs.Prelude.{length, if◌then◌else◌}
use Rattle.pli_base.specs.Name.{Name}
use Rattle.pli_base.specs.Words.{Tokens, same_name, is_open, is_close, is_comma, rest_after}
use Rattle.pli_base.specs.Results.{◌>>=◌ as ◌>>-◌}
use Rattle.pli_base.specs.Reading.{Front, at_fault, read_as, or_none, taken}
use Rattle.pli_base.specs.declared.code.Code.{Code}
use Rattle.pli_base.specs.declared.code.Code.TheVariants.{EndMissing, ParenthesisExpected}
use Rattle.pli_base.specs.declared.token.Fault.{Fault}
use Rattle.pli_base.specs.declared.token.TokenText.{TokenText}
use Rattle.pli_parse_statement.specs.StatementReading.{known_first}

-- what reads a value
abbrev pub Reader : Type 0 → Type 0
Reader A = (p : ℕ) → Tokens → Result (Front A) Fault

infixl 10 ◌>>=◌
-- one after another
abbrev pub ◌>>=◌ : {A B : Type 0} → Reader A → (A → Reader B) → Reader B
read >>= next = λ p ts. read p ts >>- λ x. next x.value x.next x.rest

-- what is read, made into another value
abbrev pub made : {A B : Type 0} → (A → B) → Reader A → Reader B
made f read = read >>= λ x. read_as (f x)

-- the place of the next token; nothing is read
abbrev pub here : Reader ℕ
here p ts = read_as p p ts

-- a fault at this place
abbrev pub fails : {A : Type 0} → Code → ℕ → Reader A
fails code at p ts = at_fault code at

-- the place of a token that must stand
abbrev pub token : (TokenText → Bool) → Code → Reader ℕ
token fits code p ts = taken fits code p ts >>- λ us. read_as p (p + 1) us

-- one reader after a token, where there is one, or else another
abbrev pub either : {A : Type 0} → (there other : Reader A) → (p : ℕ) → Tokens → (after : Option Tokens)
    → Result (Front A) Fault
either there other p ts None = other p ts
either there other p ts (Some us) = there (p + 1) us

-- the same, after a token that fits, where it stands next
abbrev pub after_token : {A : Type 0} → (TokenText → Bool) → (there other : Reader A) → Reader A
after_token fits there other p ts = either there other p ts (rest_after fits ts)

-- a part after a token, or none
abbrev pub optional : {A : Type 0} → (TokenText → Bool) → Reader A → Reader (Option A)
optional fits read = after_token fits (made Some read) (read_as None)

-- a part where a token that fits stands next, which is its first, or none
abbrev pub begun : {A : Type 0} → (TokenText → Bool) → Reader A → Reader (Option A)
begun fits read p ts = after_token fits (λ q us. made Some read p ts) (read_as None) p ts

-- what is read, and the `)` after it
abbrev pub closed : {A : Type 0} → Reader A → Reader A
closed read = do
  x ← read
  _ ← token is_close ParenthesisExpected
  read_as x

-- in parentheses
abbrev pub parenthesized : {A : Type 0} → Reader A → Reader A
parenthesized read = do
  _ ← token is_open ParenthesisExpected
  closed read

-- in parentheses, if there is a `(`
abbrev pub in_parentheses : {A : Type 0} → Reader A → Reader (Option A)
in_parentheses read = optional is_open (closed read)

-- one or more, where the others are found after the first, if there are any; each takes one of the bound
unfoldable pub listed : {A : Type 0} → (others : Reader (List A) → Reader (Option (List A)))
    → (one : Reader A) → (bound : ℕ) → Reader (List A)
listed others one zero p ts = at_fault EndMissing p
listed others one (suc bound) p ts =
    (one >>= λ x. made (λ xs. x ∷ or_none xs) (others (listed others one bound))) p ts

-- one or more after each other; the bound is more than the number of tokens
abbrev pub list_by : {A : Type 0} → (others : Reader (List A) → Reader (Option (List A))) → Reader A
    → Reader (List A)
list_by others one p ts = listed others one (length ts + 1) p ts

-- one or more, with commas between them
abbrev pub list_of : {A : Type 0} → Reader A → Reader (List A)
list_of = list_by (optional is_comma)

-- what a table says of a word, if the word stands there
abbrev pub meaning_in : {A : Type 0} → List (Name × A) → Name → Option A
meaning_in [] n = None
meaning_in (row ∷ rows) n = if same_name n row.0 then Some row.1 else meaning_in rows n

-- a reader by what a word in front means, where it means something, or else another
abbrev pub by_meaning : {A B : Type 0} → (A → Reader B) → (other : Reader B) → (p : ℕ) → Tokens
    → Option (A × Tokens) → Result (Front B) Fault
by_meaning read other p ts None = other p ts
by_meaning read other p ts (Some (x, us)) = read x (p + 1) us

-- the same, with the table of the words
abbrev pub worded : {A B : Type 0} → List (Name × A) → (A → Reader B) → (other : Reader B) → Reader B
worded rows read other p ts = by_meaning read other p ts (known_first (meaning_in rows) ts)

-- one part more by its reader, and those after it; a part that stands already has no reader, and is repeated
abbrev pub part_then : {A : Type 0} → Option (Reader A) → (repeated : Reader A) → (A → Reader A) → Reader A
part_then None repeated more = repeated
part_then (Some read) repeated more = read >>= more

-- parts that words begin, each at most once and in any order; each takes one of the bound
unfoldable pub parts_from : {A : Type 0} → (parts : A → List (Name × Option (Reader A))) → Code → (bound : ℕ)
    → A → Reader A
parts_from parts code zero x p ts = at_fault code p
parts_from parts code (suc bound) x p ts =
    worded (parts x) (λ part. part_then part (fails code p) (parts_from parts code bound)) (read_as x) p ts
