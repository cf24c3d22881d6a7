-- Forms of strings that are asked for.
use Rattle.std.proofs.Common.{◌≡◌, ◌<◌, ◌≤◌, ◌+◌, ℕ, true, Some, List, length, slice_get, sym, ap, ◌∙◌, subst, arith, inl, inr}
use Rattle.std.proofs.lemmas.Bool.{cases_lt}
use Rattle.std.proofs.lemmas.Option.{same_Some, slice_get_within}
use Rattle.pli_code.specs.CodedInstruction.{Instruction}
use Rattle.pli_program.specs.declared.instruction.Instruction.TheVariants as op
use Rattle.pli_code.specs.declared.module.Member.{Member}
use Rattle.pli_map.specs.declared.parameter.StringForm.{StringForm}
use Rattle.pli_store.specs.answers.Strings.{asks_for, has_form}
use Rattle.pli_store.specs.declared.string_descriptions.StringDescriptions.{StringDescriptions}
use Rattle.pli_store.specs.declared.strings.StringForms.{StringForms}
use Rattle.pli_machine_activations.specs.answers.Served.{AllServed, is_served}
use Rattle.pli_machine_loading.specs.answers.AskedForms.{is_asked, UnitsAsked, AreAmong}

-- what one asks is asked still with more forms
pub still_asked : (f g : StringForms) (i : Instruction) → AreAmong f g → is_asked f i ≡ true → is_asked g i ≡ true
still_asked f g (op.MakeStringDummy form) among asked = among form asked
still_asked f g i among asked = asked

-- what holds of the first so many, and of the next, holds of one more
module _ {A : Type 0} (P : A → Type 0) (xs : List A) (n : ℕ) (x : A) (is : slice_get xs n ≡ Some x) (one : P x) where
  pub one_further : ((k : ℕ) (y : A) → k < n → slice_get xs k ≡ Some y → P y)
      → (k : ℕ) (y : A) → k < n + 1 → slice_get xs k ≡ Some y → P y
  one_further each k y within at = elim (cases_lt k n) [
    | inl before ↦ each k y before at
    | inr after ↦
        let last : k ≡ n = omega (arith, after, within) in
        subst P (same_Some x y (sym is ∙ ap (slice_get xs) (sym last) ∙ at)) one
  ]

-- what holds of as many as there are holds of each
pub of_each : {A : Type 0} (P : A → Type 0) (xs : List A) (n : ℕ) → length xs ≤ n
    → ((k : ℕ) (y : A) → k < n → slice_get xs k ≡ Some y → P y) → (k : ℕ) (y : A) → slice_get xs k ≡ Some y → P y
of_each P xs n all each k y at = each k y (omega (arith, all, slice_get_within xs k y at)) at

-- what all units ask for is there
pub all_there : (units : List Member) (f : StringForms) (s : StringDescriptions) → UnitsAsked units f
    → ((form : StringForm) → asks_for f form ≡ true → has_form s form ≡ true) → AllServed units s
all_there units f s asked has number u at k i here = by i (asked number u at k i here)
  where
    by : (i : Instruction) → is_asked f i ≡ true → is_served s i ≡ true
    by (op.MakeStringDummy form) asks = has form asks
    by i asks = asks
