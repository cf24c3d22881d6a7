-- Types that are the same, and in which no `*` stands.
use Rattle.std.proofs.Common.{◌≡◌, false, Some, None, refl, ap, ◌∙◌}
use Rattle.pli_map.specs.Description.{Description}
use Rattle.pli_map.specs.ParameterTypes.{ParameterType, Stated, AnyString, AnyArray, ArrayOf, StructureOf, stated}
use Rattle.pli_map.specs.Same.{same}
use Rattle.pli_type_rules.specs.StatementTyping.{are_alike}

same_some : (d e : Description) → Some d ≡ Some e → d ≡ e
same_some d e h = cc

pub alike : (t u : ParameterType) (d e : Description) → Some d ≡ stated t → Some e ≡ stated u → same d e ≡ are_alike t u
alike (Stated x) (Stated y) d e h g = ap (λ z. same z e) (same_some d x h) ∙ ap (same x) (same_some e y g)
alike (AnyString f) u d e h g = cc
alike (AnyArray k s) u d e h g = cc
alike (ArrayOf bs s) u d e h g = cc
alike (StructureOf ts) u d e h g = cc
alike (Stated x) (AnyString f) d e h g = cc
alike (Stated x) (AnyArray k s) d e h g = cc
alike (Stated x) (ArrayOf bs s) d e h g = cc
alike (Stated x) (StructureOf ts) d e h g = cc

pub first_open : (t u : ParameterType) → None ≡ stated t → false ≡ are_alike t u
first_open (Stated x) u h = cc
first_open (AnyString f) u h = refl
first_open (AnyArray k s) u h = refl
first_open (ArrayOf bs s) u h = refl
first_open (StructureOf ts) u h = refl

pub second_open : (t u : ParameterType) → None ≡ stated u → false ≡ are_alike t u
second_open (Stated x) (Stated y) h = cc
second_open (Stated x) (AnyString f) h = refl
second_open (Stated x) (AnyArray k s) h = refl
second_open (Stated x) (ArrayOf bs s) h = refl
second_open (Stated x) (StructureOf ts) h = refl
second_open (AnyString f) u h = refl
second_open (AnyArray k s) u h = refl
second_open (ArrayOf bs s) u h = refl
second_open (StructureOf ts) u h = refl
