-- The laws of subscripts.
use Rattle.std.proofs.Common.{◌≡◌, ℕ, ◌+◌, ◌*◌, ◌==◌, ◌&&◌, true, int_le, ℤ, ◌-ℤ◌, ◌≤ℤ◌, unsigned_abs, List, [], ◌∷◌, ◌++◌, map, length, Option, Some, None, IsSome, option_map, option_and_then, refl, ap, sym, ◌∙◌, subst, arith, inl, inr}
use Rattle.std.specs.List.{All, sum_by}
use Rattle.std.specs.Option.{unwrap_or}
use Rattle.std.proofs.lemmas.Bool.{eqb-true, and_parts}
use Rattle.std.proofs.lemmas.Int.{ints}
use Rattle.std.proofs.lemmas.List.Elements.{All-nil, All-cons, All-head, All-tail, All-append}
use Rattle.std.proofs.lemmas.List.Sums.{sum_by-append, sum_by-cons}
use Rattle.std.proofs.lemmas.Option.{same_Some, none-some}
use Rattle.pli_map.specs.declared.description.Bounds.{Bounds}
use Rattle.pli_map.specs.Description.{Description, Array, Structure, Members}
use Rattle.pli_map.specs.laws.Laws.{WithinBounds}
use Rattle.pli_map.specs.laws.SubscriptLaws.{OffsetsAreSums, SubscriptsWithinLead}
use Rattle.pli_map.specs.Parts.{PathStep, Member, Element, PlacedPart, distance_of, index_of, member_after, part_at, moved, place_of}
use Rattle.pli_map.specs.Sizes.{count_of, stride_of}
use Rattle.pli_map.specs.Subscripts.{Subscript, IsWithin, bytes_passed, subscripts_in, step_subscripts, first_step, first_path, subscripts_of, step_has_subscripts, has_subscripts}
use Rattle.pli_map.proofs.Places.{element_part, step_is, met, turns}
use Rattle.pli_map.proofs.PlaceLaws.{leads, index_from_within, at_most}

abbrev pub lows : List Bounds → List ℤ
lows bs = map (λ b. b.low) bs

abbrev pub subscript_at : Bounds → ℕ → ℤ → Subscript
subscript_at b m x = record { bounds = b; multiplier = m; subscript = x }

-- ---- the subscripts of one step

low_within : (low high x : ℤ) → low ≤ℤ x → x ≤ℤ high → (int_le low low ≡ true) × (int_le low high ≡ true) × (unsigned_abs (low -ℤ low) ≡ 0)
low_within low high x p q = (grind (arith, ints), grind (arith, ints, p, q), omega (arith, ints))

low_distance : (b : Bounds) (x : ℤ) (d : ℕ) → distance_of b x ≡ Some d → distance_of b b.low ≡ Some 0
low_distance b x d e =
    let m = met b x d e in
    let l = low_within b.low b.high x (at_most b.low x m.0) (at_most x b.high m.1) in
    rw (l.0, l.1) (ap Some l.2)

-- where there is an element there is a first one
first_index : (bs : List Bounds) (xs : List ℤ) (k : ℕ) → index_of bs xs ≡ Some k → index_of bs (lows bs) ≡ Some 0
first_index [] [] k e = refl
first_index [] (x ∷ xs) k e = absurd (none-some k e)
first_index (b ∷ bs) [] k e = absurd (none-some k e)
first_index (b ∷ bs) (x ∷ xs) k e =
    let t = turns b bs x xs k e in
    let none : 0 * count_of bs + 0 ≡ 0 = omega arith in
    rw (low_distance b x t.distance t.distance_is, first_index bs xs t.after t.after_is) (ap Some none)

pub record Passed (bs : List Bounds) (stride : ℕ) (xs : List ℤ) (k : ℕ) : Type 0 where
  pub sum : sum_by bytes_passed (subscripts_in bs stride xs) ≡ k * stride
  pub all : All IsWithin (subscripts_in bs stride xs)

times : (k d c j s : ℕ) → d * c + j ≡ k → d * (c * s) + j * s ≡ k * s
times k d c j s e =
    let same : (d * c + j) * s ≡ k * s = ap (λ n. n * s) e in
    omega (arith, same)

passed : (bs : List Bounds) (stride : ℕ) (xs : List ℤ) (k : ℕ) → index_of bs xs ≡ Some k → Passed bs stride xs k
passed [] stride [] k e =
    let none : 0 * stride ≡ k * stride = ap (λ n. n * stride) (same_Some _ _ e) in
    record { sum = omega (arith, none); all = All-nil IsWithin }
passed [] stride (x ∷ xs) k e = absurd (none-some k e)
passed (b ∷ bs) stride [] k e = absurd (none-some k e)
passed (b ∷ bs) stride (x ∷ xs) k e =
    let t = turns b bs x xs k e in
    let m = met b x t.distance t.distance_is in
    let p = passed bs stride xs t.after t.after_is in
    let s : Subscript = subscript_at b (count_of bs * stride) x in
    let first : bytes_passed s ≡ t.distance * (count_of bs * stride) = ap (λ n. n * (count_of bs * stride)) m.2 in
    let split = sum_by-cons bytes_passed s (subscripts_in bs stride xs) in
    record {
      sum = omega (arith, split, first, p.sum, times k t.distance (count_of bs) t.after stride t.whole);
      all = All-cons IsWithin s (subscripts_in bs stride xs) (at_most b.low x m.0, at_most x b.high m.1) p.all;
    }

within_bounds : (bs : List Bounds) (stride : ℕ) (xs : List ℤ) → length xs ≡ length bs → All IsWithin (subscripts_in bs stride xs) → WithinBounds bs xs
within_bounds [] stride [] e h = tt
within_bounds [] stride (x ∷ xs) e h = absurd (omega (arith, e))
within_bounds (b ∷ bs) stride [] e h = absurd (omega (arith, e))
within_bounds (b ∷ bs) stride (x ∷ xs) e h =
    let s : Subscript = subscript_at b (count_of bs * stride) x in
    let first = All-head IsWithin s (subscripts_in bs stride xs) h in
    (first.0, first.1, within_bounds bs stride xs (omega (arith, e)) (All-tail IsWithin s (subscripts_in bs stride xs) h))

-- ---- one step

pub record StepSums (d : Description) (s : PathStep) (p : PlacedPart) : Type 0 where
  pub first : PlacedPart
  pub first_is : part_at d (first_step d s) ≡ Some first
  pub description : p.description ≡ first.description
  pub offset : p.offset ≡ first.offset + sum_by bytes_passed (step_subscripts d s)
  pub all : All IsWithin (step_subscripts d s)

element_sums : (bs : List Bounds) (e : Description) (xs : List ℤ) (k : ℕ) → index_of bs xs ≡ Some k → StepSums (Array bs e) (Element xs) (element_part k e)
element_sums bs e xs k is =
    let p = passed bs (stride_of e) xs k is in
    record { first = element_part 0 e; first_is = ap (λ o. option_map (λ n. element_part n e) o) (first_index bs xs k is); description = refl; offset = omega (arith, p.sum); all = p.all }

member_sums : (ds : Members) (i : ℕ) (p : PlacedPart) → member_after 0 ds i ≡ Some p → StepSums (Structure ds) (Member i) p
member_sums ds i p is = record { first = p; first_is = is; description = refl; offset = omega arith; all = All-nil IsWithin }

step_sums : (d : Description) (s : PathStep) (p : PlacedPart) → part_at d s ≡ Some p → StepSums d s p
step_sums d s p e = elim (step_is d s p e) [
  | inl m ↦ subst (λ w. StepSums w s p) (sym m.whole_is) (subst (λ t. StepSums (Structure m.members) t p) (sym m.step_is) (member_sums m.members m.number p m.part_is))
  | inr m ↦ subst (λ w. StepSums w s p) (sym m.whole_is) (subst (λ t. StepSums (Array m.bounds m.element) t p) (sym m.step_is)
      (subst (λ q. StepSums (Array m.bounds m.element) (Element m.subscripts) q) m.part_is (element_sums m.bounds m.element m.subscripts m.index m.index_is)))
]

-- ---- paths

pub record PathSums (d : Description) (path : List PathStep) (p : PlacedPart) : Type 0 where
  pub first : PlacedPart
  pub first_is : place_of d (first_path d path) ≡ Some first
  pub description : p.description ≡ first.description
  pub offset : p.offset ≡ first.offset + sum_by bytes_passed (subscripts_of d path)
  pub all : All IsWithin (subscripts_of d path)

path_sums : (d : Description) (path : List PathStep) (p : PlacedPart) → place_of d path ≡ Some p → PathSums d path p
path_sums d [] p e = record { first = p; first_is = e; description = refl; offset = omega arith; all = All-nil IsWithin }
path_sums d (s ∷ path) p e =
    let l = leads d s path p e in
    let outer = step_sums d s l.first l.first_is in
    let inner = path_sums l.first.description path l.rest l.rest_is in
    let going : first_path d (s ∷ path) ≡ first_step d s ∷ first_path l.first.description path =
    rw outer.first_is (ap (λ w. first_step d s ∷ first_path w path) (sym outer.description)) in
    let subscripts : subscripts_of d (s ∷ path) ≡ step_subscripts d s ++ subscripts_of l.first.description path =
    rw outer.first_is (ap (λ w. step_subscripts d s ++ subscripts_of w path) (sym outer.description)) in
    let there : place_of outer.first.description (first_path l.first.description path) ≡ Some inner.first =
    ap (λ w. place_of w (first_path l.first.description path)) (sym outer.description) ∙ inner.first_is in
    let split = sum_by-append bytes_passed (step_subscripts d s) (subscripts_of l.first.description path) in
    let sum : sum_by bytes_passed (subscripts_of d (s ∷ path)) ≡ sum_by bytes_passed (step_subscripts d s) + sum_by bytes_passed (subscripts_of l.first.description path) =
    ap (sum_by bytes_passed) subscripts ∙ split in
    let whole_offset : l.first.offset + l.rest.offset ≡ p.offset = ap (λ q. q.offset) l.whole in
    let whole_description : l.rest.description ≡ p.description = ap (λ q. q.description) l.whole in
    record {
      first = moved outer.first.offset inner.first;
      first_is = ap (place_of d) going ∙ rw (outer.first_is, there);
      description = sym whole_description ∙ inner.description;
      offset = omega (arith, whole_offset, outer.offset, inner.offset, sum);
      all = subst (All IsWithin) (sym subscripts) (All-append IsWithin (step_subscripts d s) (subscripts_of l.first.description path) outer.all inner.all);
    }

pub offsets_are_sums : OffsetsAreSums
offsets_are_sums whole path part e =
    let p = path_sums whole path part e in
    (p.first, p.first_is, p.description, p.offset, p.all)

-- ---- where subscripts are within their bounds

-- one step leads somewhere
abbrev pub Leads_to : Description → PathStep → PlacedPart → Type 0
Leads_to d s first = (p : PlacedPart) × (part_at d s ≡ Some p) × (p.description ≡ first.description)

member_leads : (ds : Members) (i : ℕ) (first : PlacedPart) → member_after 0 ds i ≡ Some first → Leads_to (Structure ds) (Member i) first
member_leads ds i first e = (first, e, refl)

element_first : (e : Description) (o : Option ℕ) (first : PlacedPart) → option_map (λ n. element_part n e) o ≡ Some first → e ≡ first.description
element_first e None first h = absurd (none-some first h)
element_first e (Some n) first h = ap (λ q. q.description) (same_Some _ first h)

element_leads : (bs : List Bounds) (e : Description) (xs : List ℤ) (first : PlacedPart) → (length xs == length bs) ≡ true → All IsWithin (subscripts_in bs (stride_of e) xs)
    → option_map (λ n. element_part n e) (index_of bs (lows bs)) ≡ Some first → Leads_to (Array bs e) (Element xs) first
element_leads bs e xs first lengths all is =
    let k = index_from_within bs xs (within_bounds bs (stride_of e) xs (eqb-true _ _ lengths) all) in
    (element_part k.0 e, ap (λ o. option_map (λ n. element_part n e) o) k.1, element_first e (index_of bs (lows bs)) first is)

step_leads : (d : Description) (s : PathStep) (first : PlacedPart) → step_has_subscripts d s ≡ true → All IsWithin (step_subscripts d s)
    → part_at d (first_step d s) ≡ Some first → Leads_to d s first
step_leads (Structure ds) (Member i) first counts all is = member_leads ds i first is
step_leads (Array bs e) (Element xs) first counts all is = element_leads bs e xs first counts all is
step_leads d s first counts all is = absurd (none-some first is)

all_parts : {X : Type 0} (P : X → Type 0) (xs ys : List X) → All P (xs ++ ys) → All P xs × All P ys
all_parts P [] ys h = (All-nil P, h)
all_parts P (x ∷ xs) ys h =
    let others = all_parts P xs ys (All-tail P x (xs ++ ys) h) in
    (All-cons P x xs (All-head P x (xs ++ ys) h) others.0, others.1)

some_before : (f : PlacedPart → Option PlacedPart) (o : Option PlacedPart) → IsSome (option_and_then f o) → (p : PlacedPart) × (o ≡ Some p)
some_before f None h = cc
some_before f (Some p) h = (p, refl)

some_inside : (f : PlacedPart → PlacedPart) (o : Option PlacedPart) → IsSome (option_map f o) → IsSome o
some_inside f None h = h
some_inside f (Some p) h = refl

counts_after : (d : Description) (s : PathStep) (path : List PathStep) (first : PlacedPart) → part_at d (first_step d s) ≡ Some first
    → has_subscripts d (s ∷ path) ≡ (step_has_subscripts d s && has_subscripts first.description path)
counts_after d s path first there = rw there

subscripts_after : (d : Description) (s : PathStep) (path : List PathStep) (first : PlacedPart) → part_at d (first_step d s) ≡ Some first
    → subscripts_of d (s ∷ path) ≡ step_subscripts d s ++ subscripts_of first.description path
subscripts_after d s path first there = rw there

place_after : (d : Description) (s : PathStep) (path : List PathStep) (first : PlacedPart) → part_at d (first_step d s) ≡ Some first
    → place_of d (first_path d (s ∷ path)) ≡ option_map (moved first.offset) (place_of first.description (first_path first.description path))
place_after d s path first there = rw there

on_from : (d : Description) (s : PathStep) (path : List PathStep) (p first inner : PlacedPart) → part_at d s ≡ Some p → p.description ≡ first.description
    → place_of first.description path ≡ Some inner → place_of d (s ∷ path) ≡ Some (moved p.offset inner)
on_from d s path p first inner step same rest =
    let there : place_of p.description path ≡ Some inner = ap (λ w. place_of w path) same ∙ rest in
    rw (step, there)

path_leads : (d : Description) (path : List PathStep) → IsSome (place_of d (first_path d path)) → has_subscripts d path ≡ true → All IsWithin (subscripts_of d path)
    → (p : PlacedPart) × (place_of d path ≡ Some p)
path_leads d [] some counts all = (record { offset = 0; description = d }, refl)
path_leads d (s ∷ path) some counts all =
    let rest : PlacedPart → Option PlacedPart =
    λ p. option_map (moved p.offset) (place_of p.description (unwrap_or (option_map (λ q. first_path q.description path) (part_at d (first_step d s))) [])) in
    let f = some_before rest (part_at d (first_step d s)) some in
    let first = f.0 in
    let there : part_at d (first_step d s) ≡ Some first = f.1 in
    let counts_are = counts_after d s path first there in
    let both = and_parts (step_has_subscripts d s) (has_subscripts first.description path) (sym counts_are ∙ counts) in
    let subscripts = subscripts_after d s path first there in
    let parts = all_parts IsWithin (step_subscripts d s) (subscripts_of first.description path) (subst (All IsWithin) subscripts all) in
    let step = step_leads d s first both.0 parts.0 there in
    let going = place_after d s path first there in
    let inner_some : IsSome (place_of first.description (first_path first.description path)) =
    some_inside (moved first.offset) (place_of first.description (first_path first.description path)) (subst IsSome going some) in
    let inner = path_leads first.description path inner_some both.1 parts.1 in
    (moved step.0.offset inner.0, on_from d s path step.0 first inner.0 step.1 step.2 inner.1)

pub subscripts_within_lead : SubscriptsWithinLead
subscripts_within_lead whole path some counts all =
    let p = path_leads whole path some counts all in
    subst IsSome (sym p.1) refl
