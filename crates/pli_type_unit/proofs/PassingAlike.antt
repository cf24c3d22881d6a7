-- Which arguments may be passed by reference, as the type checker finds it.
use Rattle.std.specs.Prelude.{◌≡◌, ◌==◌, ◌&&◌, length, refl}
use Rattle.std.proofs.Common.{ap}
use Rattle.pli_map.specs.Description.{FixedBinary, Character, Varying, Bit, Pointer, Offset, Area, Array, Structure}
use Rattle.pli_map.specs.ParameterTypes.{ParameterType, Stated, AnyString, AnyArray, ArrayOf, StructureOf}
use Rattle.pli_map.specs.ParameterTypes as found
use Rattle.pli_map.specs.Same.{same_bounds}
use Rattle.pli_type_unit.specs.Passing.{agrees}

pub agrees_alike : (t u : ParameterType) → agrees t u ≡ found.agrees t u
agrees_alike (Stated d) (Stated e) = refl
agrees_alike (Stated d) (AnyString g) = refl
agrees_alike (Stated d) (AnyArray j u) = refl
agrees_alike (Stated d) (ArrayOf cs u) = refl
agrees_alike (Stated d) (StructureOf us) = refl
agrees_alike (AnyString f) (Stated e) = refl
agrees_alike (AnyString f) (AnyString g) = refl
agrees_alike (AnyString f) (AnyArray j u) = refl
agrees_alike (AnyString f) (ArrayOf cs u) = refl
agrees_alike (AnyString f) (StructureOf us) = refl
agrees_alike (AnyArray k t) (Stated (FixedBinary p)) = refl
agrees_alike (AnyArray k t) (Stated (Character n)) = refl
agrees_alike (AnyArray k t) (Stated (Varying n)) = refl
agrees_alike (AnyArray k t) (Stated (Bit n)) = refl
agrees_alike (AnyArray k t) (Stated Pointer) = refl
agrees_alike (AnyArray k t) (Stated Offset) = refl
agrees_alike (AnyArray k t) (Stated (Area n)) = refl
agrees_alike (AnyArray k t) (Stated (Structure ms)) = refl
agrees_alike (AnyArray k t) (Stated (Array cs d)) = ap (λ b. length cs == k && b) (agrees_alike t (Stated d))
agrees_alike (AnyArray k t) (AnyString g) = refl
agrees_alike (AnyArray k t) (AnyArray j u) = ap (λ b. j == k && b) (agrees_alike t u)
agrees_alike (AnyArray k t) (ArrayOf cs u) = ap (λ b. length cs == k && b) (agrees_alike t u)
agrees_alike (AnyArray k t) (StructureOf us) = refl
agrees_alike (ArrayOf bs t) (Stated (FixedBinary p)) = refl
agrees_alike (ArrayOf bs t) (Stated (Character n)) = refl
agrees_alike (ArrayOf bs t) (Stated (Varying n)) = refl
agrees_alike (ArrayOf bs t) (Stated (Bit n)) = refl
agrees_alike (ArrayOf bs t) (Stated Pointer) = refl
agrees_alike (ArrayOf bs t) (Stated Offset) = refl
agrees_alike (ArrayOf bs t) (Stated (Area n)) = refl
agrees_alike (ArrayOf bs t) (Stated (Structure ms)) = refl
agrees_alike (ArrayOf bs t) (Stated (Array cs d)) = ap (λ b. same_bounds bs cs && b) (agrees_alike t (Stated d))
agrees_alike (ArrayOf bs t) (AnyString g) = refl
agrees_alike (ArrayOf bs t) (AnyArray j u) = refl
agrees_alike (ArrayOf bs t) (ArrayOf cs u) = ap (λ b. same_bounds bs cs && b) (agrees_alike t u)
agrees_alike (ArrayOf bs t) (StructureOf us) = refl
agrees_alike (StructureOf ts) (Stated e) = refl
agrees_alike (StructureOf ts) (AnyString g) = refl
agrees_alike (StructureOf ts) (AnyArray j u) = refl
agrees_alike (StructureOf ts) (ArrayOf cs u) = refl
agrees_alike (StructureOf ts) (StructureOf us) = refl
