use Rattle.std.proofs.Common.{◌≡◌, ◌++◌, drop, map}
use Rattle.pli_declare_variables.proofs.declared.codes_of.Given as goal

-- the codes so far, with those that are left
abbrev pub invariant-loop-one : goal.invariant-loop-one
invariant-loop-one l = l.codes.items ++ map (λ j. j.code) (drop l.one-index l.judged) ≡ map (λ j. j.code) l.judged
