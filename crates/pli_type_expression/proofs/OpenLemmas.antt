-- Parameters in which a `*` stands: what is meant of them, and which of them are locators.
use Rattle.std.proofs.Common.{◌≡◌, ℕ, zero, suc, ◌<◌, Option, Some, None, List, [], ◌∷◌, length, refl, sym, ap, arith}
use Rattle.pli_map.specs.Description.{Description}
use Rattle.pli_map.specs.ParameterTypes.{ParameterType, Stated, AnyString, AnyArray, ArrayOf, StructureOf, stated, element_type}
use Rattle.pli_type_rules.specs.References.{locator_at, open_part, open_reference}
use Rattle.pli_type_rules.specs.ExpressionTypes.{all_operands}
use Rattle.pli_type_rules.specs.declared.beginning.Beginning.{Beginning}
use Rattle.pli_type_tree.specs.TypedTree.{Root, ElementOf, TypedExpression, TypedReference}

pub whole_part_open : (t : ParameterType) (n : ℕ) → n ≡ 0 → Some t ≡ open_part t n
whole_part_open t n e = ap (open_part t) (sym e)

pub element_part_open : (t : ParameterType) (n : ℕ) → (n ≡ 0 → ⊥) → element_type n t ≡ open_part t n
element_part_open t zero h = absurd (h refl)
element_part_open t (suc n) h = refl

-- with subscripts it is an element
pub element_referred : (root : Root) (xs : List TypedExpression) → 0 < length xs → ElementOf root (all_operands xs) ≡ open_reference root xs
element_referred root [] h = absurd (omega (arith, h))
element_referred root (x ∷ xs) h = refl

-- what is stated
pub stated_so : (t : ParameterType) (d : Description) → Some d ≡ stated t → Stated d ≡ t
stated_so (Stated e) d h = ap Stated (same d e h)
  where
    same : (d e : Description) → Some d ≡ Some e → d ≡ e
    same d e h = cc
stated_so (AnyString form) d h = cc
stated_so (AnyArray k e) d h = cc
stated_so (ArrayOf bs e) d h = cc
stated_so (StructureOf ts) d h = cc

-- what is open is no locator
pub open_no_locator : (reference : TypedReference) (t : ParameterType) (area : Option Beginning) → None ≡ stated t → None ≡ locator_at reference t area
open_no_locator reference (Stated d) area h = cc
open_no_locator reference (AnyString form) area h = refl
open_no_locator reference (AnyArray k e) area h = refl
open_no_locator reference (ArrayOf bs e) area h = refl
open_no_locator reference (StructureOf ts) area h = refl
