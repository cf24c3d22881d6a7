-- The number that the words spell.
use Rattle.std.proofs.Common.{◌≡◌, ◌∙◌, ap, refl, ℕ, List, Option, Some, None, Result, Ok, Err, unwrap_or}
use Rattle.std.specs.Str.Parse.{ParsesUnsigned}
use Rattle.clap.specs.Words.{Text, ReadsOne}
use Rattle.pli_bench.specs.CommandLine.{Spells}

pub spelt : (E : Type 0) (G : List ℕ → Result ℕ E → Type 0) → ((t : Text) (r : Result ℕ E) → G t r → ParsesUnsigned 64 10 t r)
    → (text : Option Text) (read : Option ℕ) (n : ℕ) → n ≡ unwrap_or read 1000000
    → (text ≡ None → read ≡ None) → ((t : Text) → text ≡ Some t → ReadsOne G t read) → Spells text n
spelt E G parses None read n is none some = is ∙ ap (λ r. unwrap_or r 1000000) (none refl)
spelt E G parses (Some t) (Some v) n is none some = λ numeral small. is ∙ (parses t (Ok v) (some t refl)).1
spelt E G parses (Some t) None n is none some = λ numeral small. absurd (parses t (Err (some t refl).0) (some t refl).1 (numeral, small))
