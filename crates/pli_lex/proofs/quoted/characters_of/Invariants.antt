use Rattle.std.proofs.Common.{◌≡◌, ◌≤◌, ◌+◌, ◌-◌, ◌++◌, false, length, drop}
use Rattle.std.specs.Option.{option_map}
use Rattle.pli_lex.specs.Reading.{string_from}
use Rattle.pli_lex.proofs.quoted.characters_of.Given as goal

-- the characters so far and those of what is left are those of the string
abbrev pub invariant-loop-at : goal.invariant-loop-at
invariant-loop-at l = record {
  within : l.at ≤ length l.text;
  string : string_from false l.text ≡ option_map (λ string. (l.characters.items ++ string.0, string.1 + l.at)) (string_from false (drop l.at l.text));
}

abbrev pub decreases-loop-at : goal.decreases-loop-at
decreases-loop-at l = length l.text - l.at
