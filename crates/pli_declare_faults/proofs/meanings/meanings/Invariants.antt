use Rattle.std.proofs.Common.{◌≡◌, ℕ, nat_eq, drop}
use Rattle.indexmap.specs.IndexMap.{get}
use Rattle.pli_declare.specs.Resolved.{meaning_after, meaning_at}
use Rattle.pli_declare_faults.proofs.meanings.meanings.Given as goal

-- what the uses so far give at a token, with those that are left, is what all of them give
abbrev pub invariant-loop-one : goal.invariant-loop-one
invariant-loop-one l =
    (at : ℕ) → meaning_after (get nat_eq l.meanings at) (drop l.one-index l.uses) at ≡ meaning_at l.uses at
