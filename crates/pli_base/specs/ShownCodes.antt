-- How diagnostics are told apart, and how they are shown (own).
use Rattle.std.specs.Prelude.{◌≡◌, ℕ, List, ◌∷◌, ◌++◌}
use Rattle.pli_base.specs.Codes.{code_label, code_text}
use Rattle.pli_base.specs.declared.code.Code.{Code}

-- no two codes have one label, or one text
abbrev pub OneCode : (Code → List ℕ) → Type 0
OneCode f = (a b : Code) → f a ≡ f b → a ≡ b

-- a diagnostic as it is shown: its label, a blank and its text
abbrev pub code_shown : Code → List ℕ
code_shown code = code_label code ++ 32 ∷ code_text code
