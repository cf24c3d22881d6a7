-- Reading tokens (own): what a reader gives, and how one goes on after another. Tokens are counted from 0,
-- and p is the place of the first.
use Rattle.std.specs.Prelude.{ℕ, ◌+◌, ◌-◌, Bool, Option, Some, None, Result, Ok, Err, List, [], ◌∷◌}
use Rattle.pli_base.specs.Results.{◌>>=◌}
use Rattle.std.specs.Prelude.{if◌then◌else◌}
use Rattle.pli_base.specs.Words.{Tokens, is_procedure, is_close, rest_after}
use Rattle.pli_base.specs.declared.code.Code.{Code}
use Rattle.pli_base.specs.declared.code.Code.TheVariants.{EndMissing, ParenthesisExpected}
use Rattle.pli_base.specs.declared.token.Fault.{Fault}
use Rattle.pli_base.specs.declared.token.Sign.TheVariants.{Colon}
use Rattle.pli_base.specs.declared.token.TokenText.{TokenText}
use Rattle.pli_base.specs.declared.token.TokenText.TheVariants.{Word, Sign}

-- a fault at a token
abbrev pub at_fault : {A : Type 0} → Code → ℕ → Result A Fault
at_fault code p = Err (record { code = code; at = p })

-- the fault at the first token, which cannot stand there; where the text ends, at its last token
unfoldable pub misfit : Code → ℕ → Tokens → Fault
misfit code p [] = record { code = EndMissing; at = p - 1 }
misfit code p (t ∷ ts) = record { code = code; at = p }

-- no reading: the fault at the first token
abbrev pub expected : {A : Type 0} → Code → ℕ → Tokens → Result A Fault
expected code p ts = Err (misfit code p ts)

-- what was read, the place after it and the tokens from there
pub record Front (A : Type 0) : Type 0 where
  pub value : A
  pub next : ℕ
  pub rest : Tokens

-- a value that was read, with what is after it
abbrev pub read_as : {A : Type 0} → A → ℕ → Tokens → Result (Front A) Fault
read_as value p ts = Ok (record { value = value; next = p; rest = ts })

-- the value becomes another
abbrev pub mapped : {A B : Type 0} → (A → B) → Result (Front A) Fault → Result (Front B) Fault
mapped f read = read >>= λ x. read_as (f x.value) x.next x.rest

-- the tokens after one that must stand, where they are known, or the fault at the first
abbrev pub taken_or : Code → ℕ → Tokens → Option Tokens → Result Tokens Fault
taken_or code p ts (Some us) = Ok us
taken_or code p ts None = expected code p ts

-- the tokens after the first, which must fit, or the fault at it
unfoldable pub taken : (TokenText → Bool) → Code → ℕ → Tokens → Result Tokens Fault
taken fits code p ts = taken_or code p ts (rest_after fits ts)

-- what is read, and the `)` after it
abbrev pub enclosed : {A : Type 0} → Result (Front A) Fault → Result (Front A) Fault
enclosed read =
    read >>= λ x. taken is_close ParenthesisExpected x.next x.rest >>= λ rest. read_as x.value (x.next
    + 1) rest

-- what stands in parentheses, if there is a `(`
abbrev pub if_open : {A : Type 0} → (ℕ → Tokens → Result (Front A) Fault) → ℕ → Tokens → Option Tokens
    → Result (Front (Option A)) Fault
if_open read p ts None = read_as None p ts
if_open read p ts (Some us) = mapped Some (enclosed (read (p + 1) us))

-- a list that need not stand
abbrev pub or_none : {A : Type 0} → Option (List A) → List A
or_none (Some xs) = xs
or_none None = []

-- the first of the tokens `name : PROCEDURE` that cannot stand there, of those that are there; of no tokens
-- the first
unfoldable pub misplaced : Tokens → Option ℕ
misplaced (Word n ∷ []) = None
misplaced (Word n ∷ Sign Colon ∷ []) = None
misplaced (Word n ∷ Sign Colon ∷ Word k ∷ ts) = if is_procedure k then None else Some 2
misplaced (Word n ∷ Sign Colon ∷ ts) = Some 2
misplaced (Word n ∷ ts) = Some 1
misplaced ts = Some 0
