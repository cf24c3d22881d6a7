-- The part that a name's members and its subscripts lead to.
use Rattle.std.specs.Prelude.{◌≡◌, ℕ, ◌+◌, nat_eq, Bool, true, false, ◌&&◌, Option, Some, None, option_map, option_and_then}
use Rattle.std.specs.Prelude.{List, [], ◌∷◌, ◌++◌, length, if◌then◌else◌, refl}
use Rattle.std.proofs.Common.{sym, ◌∙◌, ap, subst, arith}
use Rattle.std.proofs.lemmas.Bool.{and_parts, eqb-true}
use Rattle.std.proofs.lemmas.Option.{same_Some, none-some}
use Rattle.pli_map.specs.Description.{Description, Array, Structure, Members}
use Rattle.pli_map.specs.ParameterTypes.{Stated, stated}
use Rattle.pli_map.specs.Parts.{PlacedPart, member_after}
use Rattle.pli_map.proofs.ScalarLawsHold.{whole_found}
use Rattle.pli_type_rules.specs.NamedUnits.{may_stand}
use Rattle.pli_type_rules.specs.Names.{NamedVariable}
use Rattle.pli_type_rules.specs.References.{StridedPart, strides_of, element_of, member_of, part_on, part_of, with_subscripts, subscripts_at}
use Rattle.pli_type_tree.specs.TypedTree.{Stride, TypedExpression}
use Rattle.pli_type_tree.specs.WellTyped.{LeadTo}
use Rattle.pli_type_laws.proofs.PartsLead.{Leads, leads_at, leads_member, leads_element}
use Rattle.pli_type_laws.proofs.PlainDescriptions.{plain_takes, plain_element, plain_elements, plain_dimension, plain_members, plain_member}
use Rattle.pli_type_laws.proofs.PlainDescriptions.{plain_stands}

abbrev strided : (offset : ℕ) → Description → List Stride → StridedPart
strided o d ss = record { offset = o; description = d; strides = ss }

-- a part of a variable is plain, or the whole of an area, and stands where its offset and its strides say
pub record Stands (n : ℕ) (w : Description) (p : StridedPart) : Type 0 where
  pub plain : may_stand n p.description ≡ true
  pub leads : Leads w p.offset p.strides p.description

module _ (n : ℕ) (w : Description) where
  element_stands : (o : ℕ) (d : Description) (ss : List Stride) → Stands n w (strided o d ss) → Stands n w (element_of (strided o d ss))
  element_stands o (Array bs e) ss h =
      let plain = plain_element n bs e h.plain in
      record {
        plain = plain_stands n e plain;
        leads = leads_element w o ss bs e (plain_takes n e plain) (plain_elements n bs e h.plain) h.leads;
      }
  element_stands o d ss h = h

  of_member : (o : ℕ) (ss : List Stride) (ds : Members) (i : ℕ) (q : StridedPart) (m : Option PlacedPart)
      → Stands n w (strided o (Structure ds) ss) → member_after 0 ds i ≡ m
      → option_map (λ m. strided (o + m.offset) m.description ss) m ≡ Some q → Stands n w q
  of_member o ss ds i q None h is e = absurd (none-some q e)
  of_member o ss ds i q (Some m) h is e =
      let plain = plain_member n 0 ds i m (plain_members n ds h.plain) is in
      let stands : Stands n w (strided (o + m.offset) m.description ss) = record {
        plain = plain_stands n m.description plain;
        leads = leads_member w o ss ds i m (plain_takes n m.description plain) is h.leads;
      } in
      subst (Stands n w) (same_Some _ q e) stands

  member_stands : (o : ℕ) (d : Description) (ss : List Stride) (i : ℕ) (q : StridedPart) → Stands n w (strided o d ss)
      → member_of (strided o d ss) i ≡ Some q → Stands n w q
  member_stands o (Structure ds) ss i q h e = of_member o ss ds i q (member_after 0 ds i) h refl e
  member_stands o (Array bs (Structure ds)) ss i q h e =
      of_member o (ss ++ strides_of bs (Structure ds)) ds i q (member_after 0 ds i)
      (element_stands o (Array bs (Structure ds)) ss h) refl e
  member_stands o d ss i q h e = absurd (none-some q e)

  further : (p : StridedPart) (i : ℕ) (path : List ℕ) (q : StridedPart) (m : Option StridedPart) → Stands n w p → member_of p i ≡ m
      → ((r : StridedPart) → Stands n w r → part_on r path ≡ Some q → Stands n w q)
      → option_and_then (λ r. part_on r path) m ≡ Some q → Stands n w q
  further p i path q None h is rest e = absurd (none-some q e)
  further p i path q (Some m) h is rest e = rest m (member_stands p.offset p.description p.strides i m h is) e

  pub path_stands : (p : StridedPart) (path : List ℕ) (q : StridedPart) → Stands n w p → part_on p path ≡ Some q → Stands n w q
  path_stands p [] q h e = subst (Stands n w) (same_Some _ q e) h
  path_stands p (i ∷ path) q h e = further p i path q (member_of p i) h refl (λ r s f. path_stands r path q s f) e

  subscripted : (k : ℕ) (p q : StridedPart) (a b : Bool) → Stands n w p → nat_eq k (length (element_of p).strides) ≡ a
      → (nat_eq k 0 && nat_eq (length p.strides) 0) ≡ b
      → (if a then Some (element_of p) else if b then Some p else None) ≡ Some q → Stands n w q × (length q.strides ≡ k)
  subscripted k p q true b h is zeros_are e =
      subst (λ (r : StridedPart). Stands n w r × (length r.strides ≡ k)) (same_Some _ q e)
      (element_stands p.offset p.description p.strides h, sym (eqb-true k _ is))
  subscripted k p q false true h is zeros_are e =
      let zeros = and_parts (nat_eq k 0) (nat_eq (length p.strides) 0) zeros_are in
      subst (λ (r : StridedPart). Stands n w r × (length r.strides ≡ k)) (same_Some _ q e)
      (h, eqb-true (length p.strides) 0 zeros.1 ∙ sym (eqb-true k 0 zeros.0))
  subscripted k p q false false h is zeros_are e = absurd (none-some q e)

  pub subscripts_lead : (p q : StridedPart) (xs : List TypedExpression) → Stands n w p → with_subscripts (length xs) p ≡ Some q
      → LeadTo w q.offset (subscripts_at q.strides xs) q.description × (may_stand n q.description ≡ true)
  subscripts_lead p q xs h e =
      let s = subscripted (length xs) p q _ _ h refl refl e in
      (leads_at w q.offset q.strides q.description xs s.1 s.0.leads, s.0.plain)

  pub start : may_stand n w ≡ true → Stands n w (strided 0 w [])
  start plain = record { plain = plain; leads = (0, whole_found w) }

  pub part_stands : (v : NamedVariable) (p : StridedPart) → v.whole ≡ Stated w → may_stand n w ≡ true → part_of v ≡ Some p → Stands n w p
  part_stands v p is plain e =
      path_stands (strided 0 w []) v.path p (start plain)
      (ap (λ type. option_and_then (λ d. part_on (strided 0 d []) v.path) (stated type)) (sym is) ∙ e)

-- without members and subscripts it is the whole variable
whole_element : (n : ℕ) (d : Description) → may_stand n d ≡ true → length (element_of (strided 0 d [])).strides ≡ 0
    → (element_of (strided 0 d [])).description ≡ d
whole_element n (Array [] e) plain h = absurd (plain_dimension n e plain)
whole_element n (Array (b ∷ bs) e) plain h = absurd (omega (arith, h))
whole_element n d plain h = refl

whole_cases : (n : ℕ) (d : Description) (q : StridedPart) (a b : Bool) → may_stand n d ≡ true
    → nat_eq 0 (length (element_of (strided 0 d [])).strides) ≡ a
    → (if a then Some (element_of (strided 0 d [])) else if b then Some (strided 0 d []) else None) ≡ Some q → q.description ≡ d
whole_cases n d q true b plain is e =
    sym (ap (λ (r : StridedPart). r.description) (same_Some _ q e)) ∙ whole_element n d plain (sym (eqb-true 0 _ is))
whole_cases n d q false true plain is e = sym (ap (λ (r : StridedPart). r.description) (same_Some _ q e))
whole_cases n d q false false plain is e = absurd (none-some q e)

pub whole_is : (n : ℕ) (w : Description) (v : NamedVariable) (p q : StridedPart) → v.whole ≡ Stated w → may_stand n w ≡ true
    → v.path ≡ [] → part_of v ≡ Some p → with_subscripts 0 p ≡ Some q → q.description ≡ w
whole_is n w v p q same plain none e f =
    let part : part_on (strided 0 w []) v.path ≡ Some p =
    ap (λ type. option_and_then (λ d. part_on (strided 0 d []) v.path) (stated type)) (sym same) ∙ e in
    let is : strided 0 w [] ≡ p = same_Some _ p (sym (ap (part_on (strided 0 w [])) none) ∙ part) in
    whole_cases n w q (nat_eq 0 (length (element_of (strided 0 w [])).strides)) (nat_eq 0 0 && nat_eq 0 0) plain refl
    (ap (with_subscripts 0) is ∙ f)
