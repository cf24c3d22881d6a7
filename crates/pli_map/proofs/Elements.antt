-- What the function that leads to an element computes.
use Rattle.std.proofs.Common.{◌≡◌, ℕ, zero, suc, ◌*◌, ◌≤◌, min, ℤ, List, Option, Some, None, option_map, refl, ap, sym, ◌∙◌, arith}
use Rattle.std.proofs.lemmas.Option.{same_Some, none-some}
use Rattle.std.proofs.Math.Nat.{le-mul_of_pos_right}
use Rattle.pli_map.specs.Description as tree
use Rattle.pli_map.specs.Parts.{PlacedPart, index_of, element_at}
use Rattle.pli_map.specs.Sizes.{count_of, size_of, stride_of}
use Rattle.pli_map.specs.declared.description.Bounds.{Bounds}
use Rattle.pli_map.proofs.Places.{index_below, element_inside, fits_stride}

-- an offset under the limit is the same where the index was cut at it
same_offset : (k stride : ℕ) → k * stride ≤ 1000000 → min k 1000001 * stride ≡ k * stride
same_offset k zero h = omega arith
same_offset k (suc n) h =
    let below : k ≤ k * suc n = le-mul_of_pos_right k (omega arith) in
    let whole : min k 1000001 ≡ k = omega arith in
    rw whole

-- what is known of an element of an array that is in the limit
pub record Found (bounds : List Bounds) (element : tree.Description) (subscripts : List ℤ) (cut : ℕ) : Type 0 where
  pub index : ℕ
  pub index_is : index_of bounds subscripts ≡ Some index
  pub size : size_of element ≤ 1000000
  pub offset : cut * stride_of element ≡ index * stride_of element
  pub bound : cut * stride_of element ≤ 1000000

found_at : (bs : List Bounds) (e : tree.Description) (xs : List ℤ) (cut : ℕ) (o : Option ℕ) → count_of bs * stride_of e ≤ 1000000
    → index_of bs xs ≡ o → Some cut ≡ option_map (λ k. min k 1000001) o → Found bs e xs cut
found_at bs e xs cut None limit o_is cut_is = absurd (none-some cut (sym cut_is))
found_at bs e xs cut (Some k) limit o_is cut_is =
    let inside = element_inside k (count_of bs) (stride_of e) (size_of e) (index_below bs xs k o_is) (fits_stride e) in
    let cut_at : cut ≡ min k 1000001 = same_Some _ _ cut_is in
    let same : cut * stride_of e ≡ k * stride_of e = ap (λ n. n * stride_of e) cut_at ∙ same_offset k (stride_of e) (omega (arith, inside)) in
    record { index = k; index_is = o_is; size = omega (arith, inside); offset = same; bound = omega (arith, inside, same) }

pub found : (bs : List Bounds) (e : tree.Description) (xs : List ℤ) (cut : ℕ) → count_of bs * stride_of e ≤ 1000000
    → Some cut ≡ option_map (λ k. min k 1000001) (index_of bs xs) → Found bs e xs cut
found bs e xs cut limit cut_is = found_at bs e xs cut (index_of bs xs) limit refl cut_is

pub found_part : (bs : List Bounds) (e : tree.Description) (xs : List ℤ) (cut offset : ℕ) → Found bs e xs cut → offset ≡ cut * stride_of e
    → Some (record { offset = offset; description = e }) ≡ element_at bs e xs
found_part bs e xs cut offset f offset_is =
    let part : ℕ → PlacedPart = λ n. record { offset = n; description = e } in
    ap (λ n. Some (part n)) (offset_is ∙ f.offset) ∙ sym (rw f.index_is)
