use Rattle.std.proofs.Common.{◌≡◌, ◌++◌, map, drop}
use Rattle.pli_include.specs.Expansion.{text_of}
use Rattle.pli_include.proofs.progress.copy_texts.Given as goal

-- the texts that are copied, and those that are left
abbrev pub invariant-loop-token : goal.invariant-loop-token
invariant-loop-token l = l.texts.items ++ map text_of (drop l.token-index l.tokens) ≡ l.initial.texts.items ++ map text_of l.tokens
