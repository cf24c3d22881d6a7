-- A unit that is not compiled has a fault.
use Rattle.std.specs.Prelude.{◌≡◌, Result, Ok, Err, List}
use Rattle.std.proofs.Common.{sym, subst}
use Rattle.pli_base.specs.Words.{Tokens}
use Rattle.pli_base.specs.declared.token.Fault.{Fault}
use Rattle.pli_deck.specs.Faults.{IsDeckOrFaults}
use Rattle.pli_meaning.specs.Scratch.{compiled_texts}
use Rattle.pli_meaning.proofs.UnitsOfTrees.{IsToldOfCompiling, compiled_told}
use Rattle.pli_code.specs.CodeTables.{Deck}

told : (r : Result Deck (List Fault)) → IsToldOfCompiling r → IsDeckOrFaults r
told (Ok c) h = h
told (Err fs) h = h

pub faults_told : (texts : Tokens) (r : Result Deck (List Fault)) → r ≡ compiled_texts texts → IsDeckOrFaults r
faults_told texts r e = told r (subst IsToldOfCompiling (sym e) (compiled_told texts))
