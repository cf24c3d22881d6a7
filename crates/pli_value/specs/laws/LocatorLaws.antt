-- The test for equality of locators decides it.
use Rattle.std.proofs.Common.{◌≡◌, false, true≢false, refl, sym, ap, ◌∙◌, Decides}
use Rattle.std.proofs.lemmas.Bool.Decides.{Decides-eqb, Decides-and, Decides-like}
use Rattle.pli_value.specs.declared.locator.Locator.{Locator}
use Rattle.pli_value.specs.declared.locator.Locator.TheVariants.{Null, Pointer, Offset}
use Rattle.pli_value.specs.Locators.{same_locator}

differ : (a b : Locator) → (a ≡ b → ⊥) → Decides false (a ≡ b)
differ a b other = (λ e. absurd (true≢false (sym e)), λ e. absurd (other e))

-- the test tells whether two locators are equal
pub locator_decides : (a b : Locator) → Decides (same_locator a b) (a ≡ b)
locator_decides Null Null = (λ e. refl, λ e. refl)
locator_decides (Pointer g k) (Pointer h l) =
    Decides-like _ (λ (e, f). ap (λ n. Pointer n k) e ∙ ap (Pointer h) f) (λ e. (cc, cc))
    (Decides-and _ _ (Decides-eqb g h) (Decides-eqb k l))
locator_decides (Offset k) (Offset l) = Decides-like _ (ap Offset) (λ e. cc) (Decides-eqb k l)
locator_decides a b = differ a b (λ e. cc)
