-- The tests by which entries of tables are compared decide what is equal.
use Rattle.std.proofs.Common.{◌≡◌, ℕ, false, true≢false, refl, sym, ap, ◌∙◌, List, Decides}
use Rattle.std.specs.Cmp.{IsEquivalence, decided, booleans_Decides}
use Rattle.std.proofs.lemmas.Bool.Decides.{Decides-int_eq, Decides-eqb, Decides-and, Decides-like}
use Rattle.std.proofs.lemmas.Slice.Eq.{slice_eq-Decides}
use Rattle.pli_map.specs.Description.{Description}
use Rattle.pli_map.specs.laws.SameLaws.{same_decides}
use Rattle.pli_value.specs.Value.{Value, Number, Characters, Bits, Located}
use Rattle.pli_value.specs.laws.LocatorLaws.{locator_decides}
use Rattle.pli_type_tree.specs.Templates.{InitialScalar, Template}
use Rattle.pli_type_keys.specs.Same.{same_value, same_initial, same_template}

pub differ : {A : Type 0} (x y : A) → (x ≡ y → ⊥) → Decides false (x ≡ y)
differ x y other = (λ e. absurd (true≢false (sym e)), λ e. absurd (other e))

pub value_decides : (v w : Value) → Decides (same_value v w) (v ≡ w)
value_decides (Number x) (Number y) = Decides-like _ (ap Number) (λ e. cc) (Decides-int_eq x y)
value_decides (Characters s) (Characters t) =
    Decides-like _ (ap Characters) (λ e. cc) (slice_eq-Decides Decides-eqb s t _ refl)
value_decides (Bits s) (Bits t) =
    Decides-like _ (ap Bits) (λ e. cc) (slice_eq-Decides booleans_Decides s t _ refl)
value_decides (Located a) (Located b) = Decides-like _ (ap Located) (λ e. cc) (locator_decides a b)
value_decides v w = differ v w (λ e. cc)

-- an initial value of a scalar
abbrev initial : ℕ → Value → InitialScalar
initial k v = record { offset = k; value = v }

initial_parts : (a b : InitialScalar) → (a.offset ≡ b.offset) × (a.value ≡ b.value) → a ≡ b
initial_parts a b h = ap (λ k. initial k a.value) h.0 ∙ ap (initial b.offset) h.1

pub initial_decides : (a b : InitialScalar) → Decides (same_initial a b) (a ≡ b)
initial_decides a b =
    Decides-like _ (initial_parts a b) (λ e. (ap (λ i. i.offset) e, ap (λ i. i.value) e))
    (Decides-and _ _ (Decides-eqb a.offset b.offset) (value_decides a.value b.value))

-- what a variable of a description and initial values is made from
abbrev template : Description → List InitialScalar → Template
template d is = record { description = d; initial = is }

template_parts : (a b : Template) → (a.description ≡ b.description) × (a.initial ≡ b.initial) → a ≡ b
template_parts a b h = ap (λ d. template d a.initial) h.0 ∙ ap (template b.description) h.1

pub template_decides : (a b : Template) → Decides (same_template a b) (a ≡ b)
template_decides a b =
    Decides-like _ (template_parts a b) (λ e. (ap (λ t. t.description) e, ap (λ t. t.initial) e))
    (Decides-and _ _ (same_decides a.description b.description)
    (slice_eq-Decides initial_decides a.initial b.initial _ refl))

pub same_value_equivalence : IsEquivalence same_value
same_value_equivalence = decided same_value value_decides

pub same_template_equivalence : IsEquivalence same_template
same_template_equivalence = decided same_template template_decides
