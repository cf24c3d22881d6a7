use Rattle.std.proofs.Common.{◌≡◌, ◌++◌}
use Rattle.pli_value.proofs.CharacterLemmas.{shown}
use Rattle.pli_value.proofs.short.append_characters.Given as goal

abbrev pub invariant-loop-place : goal.invariant-loop-place
invariant-loop-place l = l.text.items ≡ l.initial.text.items ++ shown l.bits.count l.bits.number l.place
