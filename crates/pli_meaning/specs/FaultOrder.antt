-- In which order the faults of declarations stand (own).
use Rattle.std.specs.Prelude.{◌≡◌, ℕ, List, [], ◌∷◌, length, Ok}
use Rattle.pli_base.specs.Statements.{ExternalProcedure}
use Rattle.pli_base.specs.TreeTokens.{Rises}
use Rattle.pli_base.specs.Words.{Tokens}
use Rattle.pli_base.specs.declared.token.Fault.{Fault}
use Rattle.pli_declare.specs.Resolution.{resolution_faults}
use Rattle.pli_parse_statement.specs.StatementReading.{unit_of}

-- the tokens of faults
abbrev pub fault_tokens : List Fault → List ℕ
fault_tokens [] = []
fault_tokens (f ∷ fs) = f.at ∷ fault_tokens fs

-- the faults of the declarations of a unit that is read stand at tokens of its text that rise, so that no two
-- stand at one token
abbrev pub DeclarationFaultsRise : Type 0
DeclarationFaultsRise =
    (ts : Tokens) (u : ExternalProcedure) → unit_of ts ≡ Ok u
    → Rises 0 (fault_tokens (resolution_faults u)) (length ts)
