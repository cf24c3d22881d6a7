-- Each scalar lies where each path to it leads.
use Rattle.std.proofs.Common.{◌≡◌, ℕ, zero, suc, ◌+◌, ◌*◌, ◌<◌, true, List, [], ◌∷◌, ◌++◌, map, length, slice_get, Option, Some, None, option_map, refl, ap, sym, ◌∙◌, arith, true≢false}
use Rattle.std.specs.Int.{next_multiple_of}
use Rattle.std.specs.Option.{option_and_then}
use Rattle.std.proofs.lemmas.List.{length-map}
use Rattle.std.proofs.lemmas.Option.{same_Some, none-some, slice_get-map}
use Rattle.pli_map.specs.Description.{Description, FixedBinary, Character, Varying, Bit, Pointer, Offset, Area, Array, Structure, Members, NoMembers, MemberThen}
use Rattle.pli_map.specs.Parts.{PathStep, Member, Element, PlacedPart, index_of, member_after, part_at, moved, place_of}
use Rattle.pli_map.specs.ScalarPaths.{scalars_before, scalars_before_member, scalars_before_step}
use Rattle.pli_map.specs.Scalars.{is_scalar, scalars_in}
use Rattle.pli_map.specs.Sizes.{count_of, alignment_of, size_of, stride_of}
use Rattle.pli_map.proofs.Places.{index_below}
use Rattle.pli_bytes.specs.Contents.{spread, scalars_at, scalars_after}
use Rattle.pli_bytes.specs.laws.ContentsLaws.{OnPaths}
use Rattle.pli_bytes.proofs.Scalars.{counted}

abbrev place : ℕ → Description → PlacedPart
place offset d = record { offset = offset; description = d }

-- ---- lists, one after another

there_before : (xs ys : List PlacedPart) (j : ℕ) (v : PlacedPart) → slice_get xs j ≡ Some v → slice_get (xs ++ ys) j ≡ Some v
there_before [] ys j v h = absurd (none-some v h)
there_before (x ∷ xs) ys zero v h = h
there_before (x ∷ xs) ys (suc j) v h = there_before xs ys j v h

there_after : (xs ys : List PlacedPart) (n j : ℕ) → length xs ≡ n → slice_get (xs ++ ys) (n + j) ≡ slice_get ys j
there_after [] ys zero j h = let e : 0 + j ≡ j = omega arith in ap (slice_get ys) e
there_after [] ys (suc n) j h = absurd (omega (arith, h))
there_after (x ∷ xs) ys zero j h = absurd (omega (arith, h))
there_after (x ∷ xs) ys (suc n) j h =
    let e : suc n + j ≡ suc (n + j) = omega arith in
    ap (slice_get (x ∷ (xs ++ ys))) e ∙ there_after xs ys n j (omega (arith, h))

there_moved : (m : ℕ) (ss : List PlacedPart) (j : ℕ) (q : PlacedPart) → slice_get ss j ≡ Some q → slice_get (map (moved m) ss) j ≡ Some (moved m q)
there_moved m ss j q h = slice_get-map (moved m) ss j ∙ ap (option_map (moved m)) h

moved_count : (m : ℕ) (d : Description) → length (map (moved m) (scalars_at d)) ≡ scalars_in d
moved_count m d = length-map (scalars_at d) (moved m) ∙ counted d

-- ---- elements and members

in_spread : (element : Description) (at stride count n j : ℕ) (q : PlacedPart) → n < count → slice_get (scalars_at element) j ≡ Some q
    → slice_get (spread at stride count (scalars_at element)) (n * scalars_in element + j) ≡ Some (moved (at + n * stride) q)
in_spread element at stride zero n j q within h = absurd (omega (arith, within))
in_spread element at stride (suc count) zero j q within h =
    let ss = scalars_at element in
    let e : at ≡ at + 0 * stride = omega arith in
    let k : 0 * scalars_in element + j ≡ j = omega arith in
    ap (slice_get (spread at stride (suc count) ss)) k
    ∙ there_before (map (moved at) ss) (spread (at + stride) stride count ss) j (moved at q) (there_moved at ss j q h)
    ∙ ap (λ n. Some (moved n q)) e
in_spread element at stride (suc count) (suc n) j q within h =
    let ss = scalars_at element in
    let s = scalars_in element in
    let e : at + stride + n * stride ≡ at + suc n * stride = omega arith in
    let k : suc n * s + j ≡ s + (n * s + j) = omega arith in
    ap (slice_get (spread at stride (suc count) ss)) k
    ∙ there_after (map (moved at) ss) (spread (at + stride) stride count ss) s (n * s + j) (moved_count at element)
    ∙ in_spread element (at + stride) stride count n j q (omega (arith, within)) h
    ∙ ap (λ m. Some (moved m q)) e

number_of : (f : ℕ → ℕ) (o : Option ℕ) (k : ℕ) → option_map f o ≡ Some k → (j : ℕ) × (o ≡ Some j) × (f j ≡ k)
number_of f None k e = absurd (none-some k e)
number_of f (Some j) k e = (j, refl, same_Some _ _ e)

in_members : (ds : Members) (at i : ℕ) (p q : PlacedPart) (k j : ℕ) → member_after at ds i ≡ Some p → scalars_before_member ds i ≡ Some k
    → slice_get (scalars_at p.description) j ≡ Some q → slice_get (scalars_after at ds) (k + j) ≡ Some (moved p.offset q)
in_members NoMembers at i p q k j is before h = absurd (none-some k before)
in_members (MemberThen d ds) at zero p q k j is before h =
    let start = next_multiple_of at (alignment_of d) in
    let part : place start d ≡ p = same_Some _ _ is in
    let first : 0 ≡ k = same_Some _ _ before in
    let same : k + j ≡ j = omega (arith, first) in
    let mine : slice_get (scalars_at d) j ≡ Some q = ap (λ (r : PlacedPart). slice_get (scalars_at r.description) j) part ∙ h in
    ap (slice_get (scalars_after at (MemberThen d ds))) same
    ∙ there_before (map (moved start) (scalars_at d)) (scalars_after (start + size_of d) ds) j (moved start q) (there_moved start (scalars_at d) j q mine)
    ∙ ap (λ (r : PlacedPart). Some (moved r.offset q)) part
in_members (MemberThen d ds) at (suc i) p q k j is before h =
    let start = next_multiple_of at (alignment_of d) in
    let m = number_of (λ n. scalars_in d + n) (scalars_before_member ds i) k before in
    let same : k + j ≡ scalars_in d + (m.0 + j) = omega (arith, m.2) in
    ap (slice_get (scalars_after at (MemberThen d ds))) same
    ∙ there_after (map (moved start) (scalars_at d)) (scalars_after (start + size_of d) ds) (scalars_in d) (m.0 + j) (moved_count start d)
    ∙ in_members ds (start + size_of d) i p q m.0 j is m.1 h

in_elements : (element : Description) (count j : ℕ) (q : PlacedPart) (index : Option ℕ) (p : PlacedPart) (k : ℕ) → ((n : ℕ) → index ≡ Some n → n < count)
    → option_map (λ n. place (n * stride_of element) element) index ≡ Some p → option_map (λ n. n * scalars_in element) index ≡ Some k
    → slice_get (scalars_at p.description) j ≡ Some q → slice_get (spread 0 (stride_of element) count (scalars_at element)) (k + j) ≡ Some (moved p.offset q)
in_elements element count j q None p k within is before h = absurd (none-some k before)
in_elements element count j q (Some n) p k within is before h =
    let stride = stride_of element in
    let part : place (n * stride) element ≡ p = same_Some _ _ is in
    let first : n * scalars_in element ≡ k = same_Some _ _ before in
    let mine : slice_get (scalars_at element) j ≡ Some q = ap (λ (r : PlacedPart). slice_get (scalars_at r.description) j) part ∙ h in
    let e : 0 + n * stride ≡ n * stride = omega arith in
    ap (λ m. slice_get (spread 0 stride count (scalars_at element)) (m + j)) (sym first)
    ∙ in_spread element 0 stride count n j q (within n refl) mine
    ∙ ap (λ m. Some (moved m q)) e ∙ ap (λ (r : PlacedPart). Some (moved r.offset q)) part

-- ---- one step of a path

step_there : (d : Description) (s : PathStep) (p q : PlacedPart) (k j : ℕ) → part_at d s ≡ Some p → scalars_before_step d s ≡ Some k
    → slice_get (scalars_at p.description) j ≡ Some q → slice_get (scalars_at d) (k + j) ≡ Some (moved p.offset q)
step_there (Structure members) (Member i) p q k j is before h = in_members members 0 i p q k j is before h
step_there (Structure _) (Element xs) p q k j is before h = absurd (none-some k before)
step_there (Array bounds element) (Member i) p q k j is before h = absurd (none-some k before)
step_there (Array bounds element) (Element xs) p q k j is before h =
    in_elements element (count_of bounds) j q (index_of bounds xs) p k (index_below bounds xs) is before h
step_there (FixedBinary n) s p q k j is before h = absurd (none-some k before)
step_there (Character n) s p q k j is before h = absurd (none-some k before)
step_there (Varying n) s p q k j is before h = absurd (none-some k before)
step_there (Bit n) s p q k j is before h = absurd (none-some k before)
step_there Pointer s p q k j is before h = absurd (none-some k before)
step_there Offset s p q k j is before h = absurd (none-some k before)
step_there (Area n) s p q k j is before h = absurd (none-some k before)

itself : (d : Description) → is_scalar d ≡ true → slice_get (scalars_at d) 0 ≡ Some (place 0 d)
itself (FixedBinary n) h = refl
itself (Character n) h = refl
itself (Varying n) h = refl
itself (Bit n) h = refl
itself Pointer h = refl
itself Offset h = refl
itself (Area n) h = absurd (true≢false (sym h))
itself (Array bounds element) h = absurd (true≢false (sym h))
itself (Structure _) h = absurd (true≢false (sym h))

-- ---- paths

record Step (first : Option PlacedPart) (after : PlacedPart → Option PlacedPart) (before : Option ℕ) (later : PlacedPart → Option ℕ) (part : PlacedPart) (k : ℕ) : Type 0 where
  pub p : PlacedPart
  pub q : PlacedPart
  pub m : ℕ
  pub j : ℕ
  pub is : first ≡ Some p
  pub rest : after p ≡ Some q
  pub part_is : moved p.offset q ≡ part
  pub before_is : before ≡ Some m
  pub later_is : later p ≡ Some j
  pub number : m + j ≡ k

part_of : (f : PlacedPart → PlacedPart) (o : Option PlacedPart) (r : PlacedPart) → option_map f o ≡ Some r → (q : PlacedPart) × (o ≡ Some q) × (f q ≡ r)
part_of f None r e = absurd (none-some r e)
part_of f (Some q) r e = (q, refl, same_Some _ _ e)

step_of : (first : Option PlacedPart) (after : PlacedPart → Option PlacedPart) (before : Option ℕ) (later : PlacedPart → Option ℕ) (part : PlacedPart) (k : ℕ)
    → option_and_then (λ p. option_map (moved p.offset) (after p)) first ≡ Some part
    → option_and_then (λ p. option_and_then (λ m. option_map (λ j. m + j) (later p)) before) first ≡ Some k → Step first after before later part k
step_of None after before later part k e f = absurd (none-some part e)
step_of (Some p) after None later part k e f = absurd (none-some k f)
step_of (Some p) after (Some m) later part k e f =
    let q = part_of (moved p.offset) (after p) part e in
    let j = number_of (λ n. m + n) (later p) k f in
    record { p = p; q = q.0; m = m; j = j.0; is = refl; rest = q.1; part_is = q.2; before_is = refl; later_is = j.1; number = j.2 }

pub on_paths : OnPaths
on_paths whole [] part k scalar is before =
    let part_is : place 0 whole ≡ part = same_Some _ _ is in
    let first : 0 ≡ k = same_Some _ _ before in
    let here : is_scalar whole ≡ true = ap (λ (q : PlacedPart). is_scalar q.description) part_is ∙ scalar in
    ap (slice_get (scalars_at whole)) (sym first) ∙ itself whole here ∙ ap Some part_is
on_paths whole (s ∷ path) part k scalar is before =
    let step = step_of (part_at whole s) (λ p. place_of p.description path) (scalars_before_step whole s) (λ p. scalars_before p.description path) part k is before in
    let inner = on_paths step.p.description path step.q step.j (ap (λ (q : PlacedPart). is_scalar q.description) step.part_is ∙ scalar) step.rest step.later_is in
    ap (slice_get (scalars_at whole)) (sym step.number)
    ∙ step_there whole s step.p step.q step.m step.j step.is step.before_is inner ∙ ap Some step.part_is
