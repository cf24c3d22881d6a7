use Rattle.std.specs.Prelude.{◌≡◌, drop}
use Rattle.pli_ledger.specs.SameTexts.{same_texts}
use Rattle.pli_ledger.proofs.texts.same_texts.Given as goal

-- the texts that are left decide
abbrev pub invariant-loop-at : goal.invariant-loop-at
invariant-loop-at l = same_texts (drop l.at l.one) (drop l.at l.other) ≡ same_texts l.one l.other
