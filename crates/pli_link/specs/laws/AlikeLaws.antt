-- The tests of what is alike decide what is equal.
use Rattle.std.proofs.Common.{◌≡◌, Bool, refl, ap, ◌∙◌, Option, Some, None}
use Rattle.std.proofs.Common.{List, Decides}
use Rattle.std.specs.Option.{option_eq}
use Rattle.std.proofs.lemmas.Bool.Decides.{Decides-and, Decides-like}
use Rattle.std.proofs.lemmas.Slice.Eq.{slice_eq-Decides}
use Rattle.pli_map.specs.ParameterTypes.{ParameterType}
use Rattle.pli_map.specs.laws.ParameterLaws.{same_type_decides}
use Rattle.pli_type_keys.specs.laws.KeyLaws.{differ}
use Rattle.pli_link.specs.Alike.{FoundSignature, same_found, same_signature}

-- options, by a test that decides of what is there
pub option_decides : {A : Type 0} (test : A → A → Bool) → ((a b : A) → Decides (test a b) (a ≡ b))
    → (a b : Option A) → Decides (option_eq test a b) (a ≡ b)
option_decides test decides None None = (λ e. refl, λ e. refl)
option_decides test decides (Some a) (Some b) = Decides-like _ (ap Some) (λ e. cc) (decides a b)
option_decides test decides None (Some b) = differ None (Some b) (λ e. cc)
option_decides test decides (Some a) None = differ (Some a) None (λ e. cc)

-- a signature of these parameters and this result
abbrev signature : List (Option ParameterType) → Option (Option ParameterType) → FoundSignature
signature ps r = record { parameters = ps; result = r }

signature_parts : (a b : FoundSignature) → (a.parameters ≡ b.parameters) × (a.result ≡ b.result) → a ≡ b
signature_parts a b h = ap (λ ps. signature ps a.result) h.0 ∙ ap (signature b.parameters) h.1

pub signature_decides : (a b : FoundSignature) → Decides (same_signature a b) (a ≡ b)
signature_decides a b =
    Decides-like _ (signature_parts a b) (λ e. (ap (λ s. s.parameters) e, ap (λ s. s.result) e))
    (Decides-and _ _ (slice_eq-Decides (option_decides _ same_type_decides) a.parameters b.parameters _ refl)
    (option_decides same_found (option_decides _ same_type_decides) a.result b.result))
