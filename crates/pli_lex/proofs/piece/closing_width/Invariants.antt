use Rattle.std.proofs.Common.{◌≡◌, ◌≤◌, ◌+◌, ◌-◌, length, drop}
use Rattle.std.specs.Option.{option_map}
use Rattle.pli_lex.specs.Reading.{closing_width}
use Rattle.pli_lex.proofs.piece.closing_width.Given as goal

-- the first `*/` of what is left, if there is one, is that of the text
abbrev pub invariant-loop-at : goal.invariant-loop-at
invariant-loop-at l = record {
  within : l.at ≤ length l.text;
  first : closing_width l.text ≡ option_map (λ width. width + l.at) (closing_width (drop l.at l.text));
}

abbrev pub decreases-loop-at : goal.decreases-loop-at
decreases-loop-at l = length l.text - l.at
