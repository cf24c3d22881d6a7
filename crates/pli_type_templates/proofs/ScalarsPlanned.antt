-- The scalars that a plan leads to are those of its description.
use Rattle.std.proofs.Common.{◌≡◌, ℕ, zero, suc, ◌+◌, Option, Some, None, List, [], ◌∷◌, ◌++◌, length, take, zero-add, refl, ap, sym, ◌∙◌, arith}
use Rattle.std.specs.Int.{next_multiple_of}
use Rattle.std.specs.List.{flat_map}
use Rattle.std.proofs.lemmas.List.{map-append}
use Rattle.pli_base.specs.declared.declaration.InitialValue.{InitialValue}
use Rattle.pli_map.specs.Description.{Description, FixedBinary, Character, Varying, Bit, Pointer, Offset, Area, Array, Structure}
use Rattle.pli_map.specs.Description.{Members, NoMembers, MemberThen}
use Rattle.pli_map.specs.Sizes.{alignment_of, count_of, size_of, stride_of}
use Rattle.pli_map.specs.Parts.{PlacedPart}
use Rattle.pli_type_rules.specs.InitialScalars.{InitialItem, counted_from, each_with, initial_scalars, scalars_on, scalars_in_member, values_written}
use Rattle.pli_type_templates.specs.Items.{item_scalars}
use Rattle.pli_type_templates.proofs.ValuesWritten.{wanted_are_enough}
use Rattle.pli_type_templates.specs.Plans.{Leaf, Plan, leaf_in, leaf_in_member, levels_in, levels_in_member, placed, placed_as, plan_from, plans_from, scalars_planned, spread}
use Rattle.pli_type_templates.specs.declared.plan.ArrayLevel.{ArrayLevel}

-- what stands for each element, all so many bytes further
spread_out : (d : Description) (f : ℕ → List PlacedPart) (g : ℕ → List ℕ) (n m distance count base : ℕ)
    → ((b : ℕ) → f (b + n) ≡ placed_as d (g (b + m)))
    → flat_map f (counted_from (base + n) distance count) ≡ placed_as d (flat_map g (counted_from (base + m) distance count))
spread_out d f g n m distance zero base h = refl
spread_out d f g n m distance (suc count) base h =
    let left : base + n + distance ≡ base + distance + n = omega arith in
    let right : base + distance + m ≡ base + m + distance = omega arith in
    let others = spread_out d f g n m distance count (base + distance) h in
    ap (λ k. f (base + n) ++ flat_map f (counted_from k distance count)) left
    ∙ ap (λ xs. f (base + n) ++ xs) others
    ∙ ap (λ k. f (base + n) ++ placed_as d (flat_map g (counted_from k distance count))) right
    ∙ ap (λ xs. xs ++ placed_as d (flat_map g (counted_from (base + m + distance) distance count))) (h base)
    ∙ sym (map-append _ (g (base + m)) (flat_map g (counted_from (base + m + distance) distance count)))

nothing_spread : (f : ℕ → List PlacedPart) (n distance count base : ℕ) → ((b : ℕ) → f (b + n) ≡ [])
    → flat_map f (counted_from (base + n) distance count) ≡ []
nothing_spread f n distance zero base h = refl
nothing_spread f n distance (suc count) base h =
    let left : base + n + distance ≡ base + distance + n = omega arith in
    ap (λ xs. xs ++ flat_map f (counted_from (base + n + distance) distance count)) (h base)
    ∙ ap (λ k. flat_map f (counted_from k distance count)) left
    ∙ nothing_spread f n distance count (base + distance) h

-- those of an array, by those of its element
of_array : (leaf : Option Leaf) (levels : List ArrayLevel) (f : ℕ → List PlacedPart) (n distance count base : ℕ)
    → ((b : ℕ) → f (b + n) ≡ placed leaf levels b)
    → flat_map f (counted_from (base + n) distance count) ≡ placed leaf (record { count = count; distance = distance } ∷ levels) base
of_array None levels f n distance count base h = nothing_spread f n distance count base h
of_array (Some leaf) levels f n distance count base h =
    spread_out leaf.description f (spread levels) n leaf.first distance count base h

mutual
  pub scalars_there : (d : Description) (path : List ℕ) (n base : ℕ)
      → scalars_on d path (base + n) ≡ placed (leaf_in (plan_from n d) path) (levels_in (plan_from n d) path) base
  scalars_there (FixedBinary p) path n base = refl
  scalars_there (Character k) path n base = refl
  scalars_there (Varying k) path n base = refl
  scalars_there (Bit k) path n base = refl
  scalars_there Pointer path n base = refl
  scalars_there Offset path n base = refl
  scalars_there (Area k) [] n base = refl
  scalars_there (Area k) (i ∷ path) n base = refl
  scalars_there (Array bounds element) path n base =
      of_array (leaf_in (plan_from n element) path) (levels_in (plan_from n element) path) (λ k. scalars_on element path k)
      n (stride_of element) (count_of bounds) base (λ b. scalars_there element path n b)
  scalars_there (Structure ds) [] n base = refl
  scalars_there (Structure ds) (i ∷ path) n base = scalars_of_member ds i path n 0 base

  pub scalars_of_member : (ds : Members) (i : ℕ) (path : List ℕ) (n ended base : ℕ)
      → scalars_in_member ds i path (base + n) ended ≡ placed (leaf_in_member (plans_from n ended ds) i path) (levels_in_member (plans_from n ended ds) i path) base
  scalars_of_member NoMembers i path n ended base = refl
  scalars_of_member (MemberThen d ds) zero path n ended base =
      let start = next_multiple_of ended (alignment_of d) in
      let place : base + n + start ≡ base + (n + start) = omega arith in
      ap (λ k. scalars_on d path k) place ∙ scalars_there d path (n + start) base
  scalars_of_member (MemberThen d ds) (suc i) path n ended base =
      scalars_of_member ds i path n (next_multiple_of ended (alignment_of d) + size_of d) base

-- what an item gives, by no more bytes than values are wanted
pub item_made : (p : Plan) (path : List ℕ) (values : List InitialValue) (leaf : Leaf) (levels : List ArrayLevel) (offsets : List ℕ) (wanted : ℕ)
    → leaf_in p path ≡ Some leaf → levels_in p path ≡ levels → wanted ≡ length (values_written values) → offsets ≡ take wanted (spread levels leaf.first)
    → each_with (placed_as leaf.description offsets) (values_written values) ≡ each_with (scalars_planned p path) (values_written values)
item_made p path values leaf levels offsets wanted leaf_is levels_are counted made =
    let vs = values_written values in
    let d = leaf.description in
    ap (λ ns. each_with (placed_as d ns) vs) (made ∙ ap (λ n. take n (spread levels leaf.first)) counted)
    ∙ wanted_are_enough d (spread levels leaf.first) vs
    ∙ ap (λ n. each_with (placed_as d (spread levels n)) vs) (sym (zero-add leaf.first))
    ∙ ap (λ ls. each_with (placed (Some leaf) ls 0) vs) (sym levels_are)
    ∙ ap (λ o. each_with (placed o (levels_in p path) 0) vs) (sym leaf_is)

-- what the items of a variable give
pub item_planned : (d : Description) (i : InitialItem) → item_scalars (plan_from 0 d) i ≡ initial_scalars d i
item_planned d i = ap (λ ss. each_with ss (values_written i.values)) (sym (scalars_there d i.path 0 0))

pub items_planned : (d : Description) (is : List InitialItem) → flat_map (item_scalars (plan_from 0 d)) is ≡ flat_map (initial_scalars d) is
items_planned d [] = refl
items_planned d (i ∷ is) =
    ap (λ xs. xs ++ flat_map (item_scalars (plan_from 0 d)) is) (item_planned d i)
    ∙ ap (λ xs. initial_scalars d i ++ xs) (items_planned d is)
