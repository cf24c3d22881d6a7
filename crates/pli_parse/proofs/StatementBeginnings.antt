-- What stands after a label is the same wherever the label stands.
use Rattle.std.proofs.Common.{◌≡◌, ℕ, ◌∷◌, refl}
use Rattle.pli_base.specs.Words.{Tokens}
use Rattle.pli_base.specs.declared.token.Sign.TheVariants as signs
use Rattle.pli_base.specs.declared.token.TokenText.TheVariants as tokens
use Rattle.pli_parse_statement.specs.StatementReading.{label_at}

pub after_label : (p : ℕ) (ts : Tokens) → (label_at p ts).rest ≡ (label_at 0 ts).rest
unfolding label_at
after_label p (tokens.Word n ∷ tokens.Sign signs.Colon ∷ us) = refl
after_label p ts = refl
