use Rattle.std.proofs.Common.{◌≡◌, ◌+◌, drop}
use Rattle.pli_lex.specs.Characters.{text_of}
use Rattle.pli_lex.specs.answers.Answers.{reads}
use Rattle.pli_lex.specs.Reading.{with_front, lexed}
use Rattle.pli_lex.proofs.reading.lex.Given as goal

-- the tokens so far, and those that are read from the lines that are left, are those of all lines
abbrev pub invariant-loop-line : goal.invariant-loop-line
invariant-loop-line l = record {
  counted : l.number ≡ l.line-index;
  read : with_front l.tokens.items (reads l.began (l.number + 1) (text_of (drop l.line-index l.lines))) ≡ lexed l.lines;
}
