use Rattle.std.proofs.Common.{◌≡◌, ◌-◌, ◌/◌, ◌%◌, eqb, map, take, drop, [], ◌∷◌, ◌++◌}
use Rattle.pli_lex.proofs.quoted.push_bits.Given as goal

abbrev pub invariant-loop-place : goal.invariant-loop-place
invariant-loop-place l = l.bits.items ≡ l.fn.bits.items ++ map (λ place. eqb (l.value / place % 2) 1) (take l.place-index (drop (4 - l.width) (8 ∷ 4 ∷ 2 ∷ 1 ∷ [])))
