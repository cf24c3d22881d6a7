-- The test for equality of types decides it; and a place that agrees with a type agrees with all types that
-- this agrees with.
use Rattle.std.proofs.Common.{◌≡◌, ◌==◌, true, false, true≢false, refl, sym, ap, subst, List}
use Rattle.std.proofs.Common.{length, Decides}
use Rattle.std.specs.Cmp.{IsEquivalence, decided}
use Rattle.std.proofs.lemmas.Bool.{and_parts, and_from}
use Rattle.std.proofs.lemmas.Bool.Decides.{Decides-eqb, Decides-and, Decides-like}
use Rattle.pli_map.specs.declared.description.Bounds.{Bounds}
use Rattle.pli_map.specs.declared.parameter.StringForm.{StringForm}
use Rattle.pli_map.specs.declared.parameter.StringForm.TheVariants as forms
use Rattle.pli_map.specs.Description.{Description, Array}
use Rattle.pli_map.specs.ParameterTypes.{ParameterType, Stated, AnyString, AnyArray, ArrayOf, StructureOf}
use Rattle.pli_map.specs.ParameterTypes.{ParameterTypes, NoType, TypeThen, same_form, same_type, same_types}
use Rattle.pli_map.specs.ParameterTypes.{is_string_of, agrees}
use Rattle.pli_map.specs.Same.{same_bounds}
use Rattle.pli_map.specs.laws.SameLaws.{all_bounds-Decides, same_decides}

differ : {A : Type 0} (x y : A) → (x ≡ y → ⊥) → Decides false (x ≡ y)
differ x y other = (λ e. absurd (true≢false (sym e)), λ e. absurd (other e))

equal : {A : Type 0} (x : A) → Decides true (x ≡ x)
equal x = (λ e. refl, λ e. refl)

pub form_decides : (f g : StringForm) → Decides (same_form f g) (f ≡ g)
form_decides forms.Character forms.Character = equal forms.Character
form_decides forms.Varying forms.Varying = equal forms.Varying
form_decides forms.Bit forms.Bit = equal forms.Bit
form_decides f g = differ f g (λ h. cc)

mutual
  -- the test tells whether two types are the same
  pub same_type_decides : (t u : ParameterType) → Decides (same_type t u) (t ≡ u)
  same_type_decides (Stated d) (Stated e) = Decides-like _ (ap Stated) (λ e. cc) (same_decides d e)
  same_type_decides (AnyString f) (AnyString g) = Decides-like _ (ap AnyString) (λ e. cc) (form_decides f g)
  same_type_decides (AnyArray k t) (AnyArray j u) =
      Decides-like _ (λ h. let first = h.0 in let others = h.1 in
      cc) (λ e. (cc, cc)) (Decides-and _ _ (Decides-eqb k j) (same_type_decides t u))
  same_type_decides (ArrayOf bs t) (ArrayOf cs u) =
      Decides-like _ (λ h. let first = h.0 in let others = h.1 in
      cc) (λ e. (cc, cc)) (Decides-and _ _ (all_bounds-Decides bs cs) (same_type_decides t u))
  same_type_decides (StructureOf ts) (StructureOf us) =
      Decides-like _ (ap StructureOf) (λ e. cc) (same_types_decide ts us)
  same_type_decides t u = differ t u (λ h. cc)

  -- the same of members
  same_types_decide : (ts us : ParameterTypes) → Decides (same_types ts us) (ts ≡ us)
  same_types_decide NoType NoType = equal NoType
  same_types_decide (TypeThen t ts) (TypeThen u us) =
      Decides-like _ (λ h. let first = h.0 in let others = h.1 in
      cc) (λ e. (cc, cc)) (Decides-and _ _ (same_type_decides t u) (same_types_decide ts us))
  same_types_decide ts us = differ ts us (λ h. cc)

pub same_type_equivalence : IsEquivalence same_type
same_type_equivalence = decided same_type same_type_decides

-- what is of a description that agrees with a type may be passed where that may
pub agrees_through : (t u : ParameterType) (e : Description) → agrees t u ≡ true → agrees u (Stated e) ≡ true
    → agrees t (Stated e) ≡ true
agrees_through t (Stated c) e h g = subst (λ x. agrees t (Stated x) ≡ true) ((same_decides c e).0 g) h
agrees_through (AnyString f) (AnyString g) e h into =
    subst (λ x. is_string_of x e ≡ true) (sym ((form_decides f g).0 h)) into
agrees_through (AnyArray k t) (AnyArray j u) (Array cs d) h g =
    let own = and_parts (j == k) (agrees t u) h in
    let other = and_parts (length cs == j) (agrees u (Stated d)) g in
    let counted : (length cs == k) ≡ true =
    subst (λ n. (length cs == n) ≡ true) ((Decides-eqb j k).0 own.0) other.0 in
    and_from _ _ counted (agrees_through t u d own.1 other.1)
agrees_through (AnyArray k t) (ArrayOf bs u) (Array cs d) h g =
    let own = and_parts (length bs == k) (agrees t u) h in
    let other = and_parts (same_bounds bs cs) (agrees u (Stated d)) g in
    let counted : (length cs == k) ≡ true =
    subst (λ (xs : List Bounds). (length xs == k) ≡ true) ((all_bounds-Decides bs cs).0 other.0) own.0 in
    and_from _ _ counted (agrees_through t u d own.1 other.1)
agrees_through (ArrayOf bs t) (ArrayOf ds u) (Array cs d) h g =
    let own = and_parts (same_bounds bs ds) (agrees t u) h in
    let other = and_parts (same_bounds ds cs) (agrees u (Stated d)) g in
    let bounded : same_bounds bs cs ≡ true =
    subst (λ (xs : List Bounds). same_bounds bs xs ≡ true) ((all_bounds-Decides ds cs).0 other.0) own.0 in
    and_from _ _ bounded (agrees_through t u d own.1 other.1)
agrees_through t u e h g = cc
