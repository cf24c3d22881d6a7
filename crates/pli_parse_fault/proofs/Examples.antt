-- The worked examples of first faults.
use Rattle.std.proofs.Common.{◌≡◌, [], ◌∷◌, codes, refl, inl, inr}
use Rattle.pli_base.specs.Words.{Tokens}
use Rattle.pli_base.specs.declared.token.Sign.TheVariants.{CloseParenthesis, Semicolon}
use Rattle.pli_base.specs.declared.token.TokenText.TheVariants.{Word, Sign}
use Rattle.pli_parse_fault.specs.examples.FirstFaultExamples.{NoneYet, StopsAtParenthesis, EndsTooEarly}

pub none_yet : NoneYet
none_yet = (Word (codes "A") ∷ Sign Semicolon ∷ [], 0, (refl, refl))

other_text : (more : Tokens)
    → ◌≡◌ {A = Tokens} (Word (codes "A") ∷ Sign CloseParenthesis ∷ more) (Word (codes "A") ∷ Sign Semicolon ∷ []) → ⊥
other_text more h = cc

pub stops_at_parenthesis : StopsAtParenthesis
stops_at_parenthesis =
    inl (
      Word (codes "A") ∷ [],
      Sign CloseParenthesis,
      [],
      refl,
      refl,
      (Sign Semicolon ∷ [], 0, (refl, refl)),
      (λ c. other_text c.0 c.2.0),
    )

pub ends_too_early : EndsTooEarly
ends_too_early = inr (refl, refl, (Sign Semicolon ∷ [], 0, (refl, refl)))
