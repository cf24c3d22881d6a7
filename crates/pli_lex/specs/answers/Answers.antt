-- What the lexer answers, as callers see it.
use Rattle.std.specs.Prelude.{◌≡◌, ℕ, ◌+◌, Option, Some, None, Result, Ok, Err, List, ◌∷◌, ◌++◌, drop}
use Rattle.std.specs.Global.{Vec}
use Rattle.pli_base.specs.declared.code.Code.TheVariants.{UnendedComment}
use Rattle.pli_base.specs.declared.token.Token.{Token}
use Rattle.pli_lex.specs.declared.answer.LexFault.{LexFault}
use Rattle.pli_base.specs.declared.failure.Failure.{Failure}
use Rattle.pli_base.specs.answers.FailureAnswers.{Fails}
use Rattle.pli_lex.specs.Characters.{line_end}
use Rattle.pli_lex.specs.Reading.{closing_width, with_front, tokens_after}

-- the answer is what reading gives, unless memory runs out
abbrev pub Gives : Result (Vec Token) (Failure LexFault) → Result (List Token) LexFault → Type 0
Gives (Ok tokens) read = read ≡ Ok tokens.items
Gives (Err e) read = Fails e read

-- a comment that began on a line, and how many characters of the text it takes yet
abbrev pub in_comment : ℕ → ℕ → List ℕ → Option ℕ → Result (List Token) LexFault
in_comment began number text None = Err (record { code = UnendedComment; line = began })
in_comment began number text (Some width) = tokens_after width number text

-- the tokens of a text that begins on the line with this number, where a comment may be open that began on
-- the line `began`
abbrev pub reads : Option ℕ → ℕ → List ℕ → Result (List Token) LexFault
reads None number text = tokens_after 0 number text
reads (Some began) number text = in_comment began number text (closing_width text)

-- Whatever lines come after what is left of a line: the tokens before, and those that are read from there,
-- are the tokens after, and those that are read then.
abbrev pub Passes : Result (Option ℕ × ℕ) (Failure LexFault) → List Token → List Token → Option ℕ → ℕ
    → List ℕ → Type 0
Passes (Ok passed) before after began number text =
    (more : List ℕ)
    → with_front before (reads began number (text ++ line_end ∷ more))
    ≡ with_front after (reads passed.0 number (drop passed.1 text ++ line_end ∷ more))
Passes (Err e) before after began number text =
    (more : List ℕ) → Fails e (reads began number (text ++ line_end ∷ more))

-- the same of the whole line
abbrev pub PassesLine : Result (Option ℕ) (Failure LexFault) → List Token → List Token → Option ℕ → ℕ
    → List ℕ → Type 0
PassesLine (Ok left) before after began number text =
    (more : List ℕ) → with_front before (reads began number (text ++ line_end ∷ more))
    ≡ with_front after (reads left (number + 1) more)
PassesLine (Err e) before after began number text =
    (more : List ℕ) → Fails e (reads began number (text ++ line_end ∷ more))
