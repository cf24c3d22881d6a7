-- The laws about what is read and what is spelled.
use Rattle.std.proofs.Common.{◌≡◌, ℕ, List, [], Ok, Err, ap, subst, ◌∙◌}
use Rattle.std.proofs.lemmas.List.{append-nil}
use Rattle.pli_base.specs.declared.token.Token.{Token}
use Rattle.pli_lex.specs.declared.answer.LexFault.{LexFault}
use Rattle.pli_lex.specs.Characters.{text_of}
use Rattle.pli_lex.specs.Tokens.{Spells, SpellsLines}
use Rattle.pli_lex.specs.Faults.{HasFault, HasLineFault}
use Rattle.pli_lex.specs.Reading.{tokens_after, tokens_of, lexed}
use Rattle.pli_lex.proofs.FaultsMet.{fault_is_met}
use Rattle.pli_lex.proofs.TextsSpelled.{Tells, text_tells, spelled_again}

pub text_is_spelled : (text : List ℕ) (tokens : List Token) → tokens_of text ≡ Ok tokens → Spells text tokens
text_is_spelled text tokens h = subst (Tells 1 text) h (text_tells 1 text)

pub text_is_read : (text : List ℕ) (tokens : List Token) → Spells text tokens → tokens_of text ≡ Ok tokens
unfolding tokens_after
text_is_read text tokens (last, spelled) = spelled_again tokens 1 text last [] spelled ∙ ap (λ (l : List Token). Ok l) (append-nil tokens)

pub text_is_faulty : (text : List ℕ) (fault : LexFault) → tokens_of text ≡ Err fault → HasFault text fault
text_is_faulty text fault h = subst (Tells 1 text) h (text_tells 1 text)

pub lines_are_spelled : (lines : List (List ℕ)) (tokens : List Token) → lexed lines ≡ Ok tokens → SpellsLines lines tokens
lines_are_spelled lines tokens h = text_is_spelled (text_of lines) tokens h

pub lines_are_read : (lines : List (List ℕ)) (tokens : List Token) → SpellsLines lines tokens → lexed lines ≡ Ok tokens
lines_are_read lines tokens s = text_is_read (text_of lines) tokens s

pub lines_are_faulty : (lines : List (List ℕ)) (fault : LexFault) → lexed lines ≡ Err fault → HasLineFault lines fault
lines_are_faulty lines fault h = text_is_faulty (text_of lines) fault h

pub lines_faults_are_met : (lines : List (List ℕ)) (fault : LexFault) → HasLineFault lines fault → lexed lines ≡ Err fault
lines_faults_are_met lines fault h = fault_is_met (text_of lines) fault h
