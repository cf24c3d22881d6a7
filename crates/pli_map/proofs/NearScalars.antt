-- Scalars that stand alone, or in an array of such.
use Rattle.std.proofs.Common.{◌≡◌, ℕ, ◌*◌, ◌/◌, ◌%◌, ◌<◌, min, true, List, refl, sym, ap, ◌∙◌, subst, arith, div-le_self}
use Rattle.std.specs.Option.{is_some}
use Rattle.std.proofs.lemmas.Nat.{div_below}
use Rattle.pli_map.specs.declared.description.Bounds.{Bounds}
use Rattle.pli_map.specs.Description.{Description, FixedBinary, Character, Varying, Bit, Pointer, Offset, Area, Array, Structure}
use Rattle.pli_map.specs.Marks.{scalar_mark, HasElements, HasMark}
use Rattle.pli_map.specs.Scalars.{first_scalar}
use Rattle.pli_map.specs.Sizes.{count_of, size_of, stride_of}
use Rattle.pli_map.proofs.MarkLemmas.{same_of_one, scalar_marked}
use Rattle.pli_map.proofs.ScalarLawsHold.{whole_found}
use Rattle.pli_map.proofs.ScalarsAmong.{some_in_array}

-- what is one scalar is found where it begins
found_itself : (whole part : Description) → whole ≡ part → is_some (first_scalar whole 0 part) ≡ true
found_itself whole part same = subst (λ d. is_some (first_scalar whole 0 d) ≡ true) same (ap is_some (whole_found whole))

pub alone_found : (whole part : Description) (m : ℕ) → (m ≡ 0 → ⊥) → HasMark whole m → m ≡ scalar_mark part → is_some (first_scalar whole 0 part) ≡ true
alone_found whole part m some here is = found_itself whole part (same_of_one whole part m some here (scalar_marked part m is))

element_at : (bounds : List Bounds) (e part : Description) (offset stride : ℕ) → e ≡ part → stride ≡ stride_of part → 0 < stride
    → offset % stride ≡ 0 → offset < count_of bounds * stride_of e → offset < 4294967296 → is_some (first_scalar (Array bounds e) offset part) ≡ true
element_at bounds e part offset stride same is positive begins within near =
    let stride_is : stride ≡ stride_of e = is ∙ ap stride_of (sym same) in
    let below : offset / stride < count_of bounds = div_below offset stride (count_of bounds) positive (omega (arith, within, ap (λ n. count_of bounds * n) stride_is)) in
    let few = div-le_self offset stride in
    some_in_array bounds e offset (offset / stride) 0 (min (count_of bounds) 18446744073709551615) part
    (ap (λ n. offset / n) stride_is) (sym begins ∙ ap (λ n. offset % n) stride_is) refl (omega (arith, below, few, near)) (found_itself e part same)

-- an element of an array of such scalars is found where it begins
pub element_found : (whole part : Description) (m offset stride size : ℕ) → (m ≡ 0 → ⊥) → HasElements whole m → m ≡ scalar_mark part → stride ≡ stride_of part
    → 0 < stride → size ≡ size_of whole → offset % stride ≡ 0 → offset < size → offset < 4294967296 → is_some (first_scalar whole offset part) ≡ true
element_found (Array bounds e) part m offset stride size some here is stride_is positive size_is begins within near =
    element_at bounds e part offset stride (same_of_one e part m some (scalar_marked e m (sym (here some))) (scalar_marked part m is)) stride_is positive begins (omega (arith, within, size_is)) near
element_found (FixedBinary p) part m offset stride size some here is stride_is positive size_is begins within near = absurd (some (sym (here some)))
element_found (Character n) part m offset stride size some here is stride_is positive size_is begins within near = absurd (some (sym (here some)))
element_found (Varying n) part m offset stride size some here is stride_is positive size_is begins within near = absurd (some (sym (here some)))
element_found (Bit n) part m offset stride size some here is stride_is positive size_is begins within near = absurd (some (sym (here some)))
element_found Pointer part m offset stride size some here is stride_is positive size_is begins within near = absurd (some (sym (here some)))
element_found Offset part m offset stride size some here is stride_is positive size_is begins within near = absurd (some (sym (here some)))
element_found (Area n) part m offset stride size some here is stride_is positive size_is begins within near = absurd (some (sym (here some)))
element_found (Structure ds) part m offset stride size some here is stride_is positive size_is begins within near = absurd (some (sym (here some)))
