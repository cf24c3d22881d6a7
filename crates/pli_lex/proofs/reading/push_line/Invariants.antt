use Rattle.std.proofs.Common.{◌≡◌, ℕ, List, ◌∷◌, ◌++◌, length}
use Rattle.pli_lex.specs.Characters.{line_end}
use Rattle.pli_lex.specs.answers.Answers.{reads}
use Rattle.pli_lex.specs.Reading.{with_front}
use Rattle.pli_lex.proofs.reading.push_line.Given as goal

-- the tokens so far, and those that are read from what is left of the line, are those of the line
abbrev pub invariant-loop-rest : goal.invariant-loop-rest
invariant-loop-rest l =
    (more : List ℕ)
    → with_front l.tokens.items (reads l.began l.number (l.rest ++ line_end ∷ more)) ≡ with_front l.fn.tokens.items (reads l.fn.began l.number (l.text ++ line_end ∷ more))

abbrev pub decreases-loop-rest : goal.decreases-loop-rest
decreases-loop-rest l = length l.rest
