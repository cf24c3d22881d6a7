-- Worked examples of expansions.
use Rattle.std.specs.Prelude.{◌≡◌, ℕ, List, [], ◌∷◌, ◌++◌, None, Some, Result, Ok, Err, codes, if◌then◌else◌}
use Rattle.pli_base.specs.Name.{Name}
use Rattle.pli_base.specs.Words.{same_name}
use Rattle.pli_base.specs.declared.code.Code.{Code}
use Rattle.pli_base.specs.declared.code.Code.TheVariants.{UnendedString, NoSuchMember, RecursiveInclude}
use Rattle.pli_base.specs.declared.code.Code.TheVariants.{TooManyTokens, BadInclude}
use Rattle.pli_base.specs.declared.token.Origin.{Origin}
use Rattle.pli_base.specs.declared.token.Sign.TheVariants.{Percent, Semicolon}
use Rattle.pli_base.specs.declared.token.Token.{Token}
use Rattle.pli_base.specs.declared.token.TokenText.{TokenText}
use Rattle.pli_base.specs.declared.token.TokenText.TheVariants.{Word, Characters, Sign}
use Rattle.pli_lex.specs.declared.answer.LexFault.{LexFault}
use Rattle.pli_include.specs.Expansion.{Look, Outcome, expanded_within}

-- a member that is read: its tokens or its fault
abbrev pub Reading : Type 0
Reading = Result (List Token) LexFault

-- a token on a line
abbrev pub on : (line : ℕ) → TokenText → Token
on line t = record { text = t; line = line }

-- `%`, which begins a directive
abbrev pub percent : TokenText
percent = Sign Percent

-- `;`, which ends one
abbrev pub semicolon : TokenText
semicolon = Sign Semicolon

-- `%INCLUDE` and what names a member, on one line
abbrev pub directive_on : (line : ℕ) → TokenText → List Token
directive_on line named =
    on line percent ∷ on line (Word (codes "INCLUDE")) ∷ on line named ∷ on line semicolon ∷ []

-- one member A
abbrev pub alone : Reading → Look
alone a name = if same_name name (codes "A") then Some a else None

-- A and K
abbrev pub beside : Reading → Reading → Look
beside a k name =
    if same_name name (codes "A") then Some a else (if same_name name (codes "K") then Some k else None)

-- a line of a member
abbrev pub place : Name → ℕ → Origin
place member line = record { member = member; line = line }

-- the fault at a line of a member, when these names were looked up
abbrev pub fault : Code → Name → ℕ → List Name → Outcome
fault code member line looked =
    Err (record { looked = looked; fault = record { code = code; origin = place member line } })

-- A is `X`, on its next line `%INCLUDE K;`, and then `Y`
abbrev pub around : TokenText → Reading
around named = Ok (on 1 (Word (codes "X")) ∷ (directive_on 2 named ++ on 3 (Word (codes "Y")) ∷ []))

-- K is `;`
abbrev pub little : Reading
little = Ok (on 1 semicolon ∷ [])

-- `X`, K's `;` and `Y`: four tokens of the directive and three others were read
abbrev pub together : Outcome
together = Ok (record {
  read = 7;
  texts = Word (codes "X") ∷ semicolon ∷ Word (codes "Y") ∷ [];
  origins = place (codes "A") 1 ∷ place (codes "K") 1 ∷ place (codes "A") 3 ∷ [];
  looked = codes "A" ∷ codes "K" ∷ [];
})

-- the directive's place is taken by K's tokens
abbrev pub Included : Type 0
Included = expanded_within 7 (beside (around (Word (codes "K"))) little) (codes "A") ≡ together

-- a quoted name may be in lower case
abbrev pub IncludedQuoted : Type 0
IncludedQuoted = expanded_within 7 (beside (around (Characters (codes "k"))) little) (codes "A") ≡ together

-- the seventh token is one too many, where six may be read
abbrev pub LastTokenTooMany : Type 0
LastTokenTooMany =
    expanded_within 6 (beside (around (Word (codes "K"))) little) (codes "A")
    ≡ fault TooManyTokens (codes "A") 3 (codes "A" ∷ codes "K" ∷ [])

-- the third token of the directive is one too many, and K is not looked up
abbrev pub DirectiveTooLong : Type 0
DirectiveTooLong =
    expanded_within 3 (beside (around (Word (codes "K"))) little) (codes "A")
    ≡ fault TooManyTokens (codes "A") 2 (codes "A" ∷ [])

-- a member that is not there is looked up
abbrev pub AbsentMember : Type 0
AbsentMember =
    expanded_within 7 (alone (around (Word (codes "K")))) (codes "A")
    ≡ fault NoSuchMember (codes "A") 2 (codes "A" ∷ codes "K" ∷ [])

-- K includes A, which is open
abbrev pub Recursive : Type 0
Recursive =
    expanded_within 100
    (beside (around (Word (codes "K"))) (Ok (directive_on 4 (Word (codes "A")))))
    (codes "A")
    ≡ fault RecursiveInclude (codes "K") 4 (codes "A" ∷ codes "K" ∷ [])

-- A includes itself, where fewer tokens may be read than the directive has: I3 comes before I2
abbrev pub TooManyBeforeRecursive : Type 0
TooManyBeforeRecursive =
    expanded_within 3 (alone (Ok (directive_on 1 (Word (codes "A"))))) (codes "A")
    ≡ fault TooManyTokens (codes "A") 1 (codes "A" ∷ [])

-- a directive ends within its member: what K begins A does not end
abbrev pub NotEndedInMember : Type 0
NotEndedInMember =
    expanded_within 100
    (beside
    (Ok (directive_on 1 (Word (codes "K")) ++ on 2 semicolon ∷ []))
    (Ok (on 5 percent ∷ on 5 (Word (codes "INCLUDE")) ∷ on 6 (Word (codes "L")) ∷ [])))
    (codes "A")
    ≡ fault BadInclude (codes "K") 5 (codes "A" ∷ codes "K" ∷ [])

-- quoted characters that spell no name; the fault comes before the limit
abbrev pub QuotedNoName : Type 0
QuotedNoName =
    expanded_within 0 (alone (Ok (directive_on 1 (Characters (codes "1K"))))) (codes "A")
    ≡ fault BadInclude (codes "A") 1 (codes "A" ∷ [])

-- a member's own fault comes before what is in it
abbrev pub FaultyMember : Type 0
FaultyMember =
    expanded_within 7
    (beside (around (Word (codes "K"))) (Err (record { code = UnendedString; line = 8 })))
    (codes "A")
    ≡ fault UnendedString (codes "K") 8 (codes "A" ∷ codes "K" ∷ [])

-- a member may stand twice, and is looked up once
abbrev pub Twice : Type 0
Twice =
    expanded_within 100
    (beside (Ok (directive_on 1 (Word (codes "K")) ++ directive_on 2 (Word (codes "K")))) little)
    (codes "A")
    ≡ Ok (record {
      read = 10;
      texts = semicolon ∷ semicolon ∷ [];
      origins = place (codes "K") 1 ∷ place (codes "K") 1 ∷ [];
      looked = codes "A" ∷ codes "K" ∷ [];
    })
