-- How many scalars ways lead to, if they differ: no more than there are; and how many bytes these take.
use Rattle.std.proofs.Common.{◌≡◌, ℕ, zero, suc, ◌+◌, ◌*◌, ◌≤◌, nat_le, Bool, true, false, if◌then◌else◌, Some, None, option_and_then, List, [], ◌∷◌, length, length-append, refl, sym, ap, ◌∙◌, arith}
use Rattle.std.specs.Int.{next_multiple_of}
use Rattle.std.specs.List.{AllByRecursion, flat_map}
use Rattle.pli_map.specs.declared.description.Bounds.{Bounds}
use Rattle.pli_map.specs.Description.{Description, FixedBinary, Character, Varying, Bit, Pointer, Offset, Area, Array, Structure, Members, NoMembers, MemberThen}
use Rattle.pli_map.specs.Scalars.{scalars_in, scalars_among}
use Rattle.pli_map.specs.Sizes.{count_of, alignment_of, size_of, stride_of, end_after, number_bytes}
use Rattle.pli_map.proofs.Places.{fits_stride}
use Rattle.pli_resolve.specs.laws.MemberLaws.{member_of, part_on}
use Rattle.pli_deck_laws.specs.Limits.{IsDescribed, AreDescribed}
use Rattle.pli_type_rules.specs.InitialScalars.{counted_from, scalars_on, scalars_in_member}

-- ---- wherever a description begins

array_length : (e : Description) (path : List ℕ) (first distance count : ℕ) → ((k : ℕ) → length (scalars_on e path k) ≡ length (scalars_on e path 0))
    → length (flat_map (λ k. scalars_on e path k) (counted_from first distance count)) ≡ count * length (scalars_on e path 0)
array_length e path first distance zero same = omega arith
array_length e path first distance (suc count) same =
    omega (
      arith,
      length-append (scalars_on e path first) (flat_map (λ k. scalars_on e path k) (counted_from (first + distance) distance count)),
      same first,
      array_length e path (first + distance) distance count same,
    )

mutual
  on_length : (d : Description) (path : List ℕ) (first : ℕ) → length (scalars_on d path first) ≡ length (scalars_on d path 0)
  on_length (Array bs e) path first =
      array_length e path first (stride_of e) (count_of bs) (λ k. on_length e path k)
      ∙ sym (array_length e path 0 (stride_of e) (count_of bs) (λ k. on_length e path k))
  on_length (Structure ds) [] first = refl
  on_length (Structure ds) (i ∷ path) first = in_length ds i path first 0
  on_length d path first = refl

  in_length : (ds : Members) (i : ℕ) (path : List ℕ) (first ended : ℕ) → length (scalars_in_member ds i path first ended) ≡ length (scalars_in_member ds i path 0 0)
  in_length NoMembers i path first ended = refl
  in_length (MemberThen d ds) zero path first ended =
      on_length d path (first + next_multiple_of ended (alignment_of d)) ∙ sym (on_length d path (0 + next_multiple_of 0 (alignment_of d)))
  in_length (MemberThen d ds) (suc i) path first ended =
      in_length ds i path first (next_multiple_of ended (alignment_of d) + size_of d) ∙ sym (in_length ds i path 0 (next_multiple_of 0 (alignment_of d) + size_of d))

-- ---- ways that differ

-- how many scalars ways lead to
abbrev pub taken : Description → List (List ℕ) → ℕ
taken d [] = 0
taken d (p ∷ ps) = length (scalars_on d p 0) + taken d ps

abbrev pub Differs : List ℕ → List (List ℕ) → Type 0
Differs p ps = AllByRecursion (λ q. p ≡ q → ⊥) ps

abbrev pub AreDistinct : List (List ℕ) → Type 0
AreDistinct [] = Unit {0}
AreDistinct (p ∷ ps) = Differs p ps × AreDistinct ps

-- a way leads to a part
abbrev pub Reaches : Description → List ℕ → Type 0
Reaches d p = (x : Description) × (part_on d p ≡ Some x)

abbrev pub AllReach : Description → List (List ℕ) → Type 0
AllReach d ps = AllByRecursion (Reaches d) ps

nowhere : {A : Type 0} (x : A) → None ≡ Some x → ⊥
nowhere x e = cc

-- a scalar has no parts
alone : (d : Description) → ((i : ℕ) → member_of d i ≡ None) → length (scalars_on d [] 0) ≡ 1 → (ps : List (List ℕ)) → AreDistinct ps → AllReach d ps → taken d ps ≤ 1
alone d none one [] distinct reach = omega arith
alone d none one ([] ∷ []) distinct reach = omega (arith, one)
alone d none one ([] ∷ ([] ∷ qs)) distinct reach = absurd (distinct.0.0 refl)
alone d none one ([] ∷ ((i ∷ q) ∷ qs)) distinct reach = absurd (no_way d none i q reach.1.0)
  where
    no_way : (d : Description) → ((i : ℕ) → member_of d i ≡ None) → (i : ℕ) (q : List ℕ) → Reaches d (i ∷ q) → ⊥
    no_way d none i q r = nowhere r.0 (sym (ap (option_and_then (λ m. part_on m q)) (none i)) ∙ r.1)
alone d none one ((i ∷ q) ∷ qs) distinct reach = absurd (nowhere reach.0.0 (sym (ap (option_and_then (λ m. part_on m q)) (none i)) ∙ reach.0.1))

times_more : (c x y : ℕ) → x ≤ y → c * x ≤ c * y
times_more zero x y le = omega arith
times_more (suc c) x y le = omega (arith, le, times_more c x y le)

array_taken : (e : Description) (n : ℕ) (whole : Description) → ((p : List ℕ) → length (scalars_on whole p 0) ≡ n * length (scalars_on e p 0))
    → (ps : List (List ℕ)) → taken whole ps ≡ n * taken e ps
array_taken e n whole each [] = omega arith
array_taken e n whole each (p ∷ ps) = omega (arith, each p, array_taken e n whole each ps)

through_array : (d e : Description) → ((p : List ℕ) → Reaches d p → Reaches e p) → (ps : List (List ℕ)) → AllReach d ps → AllReach e ps
through_array d e through [] h = tt
through_array d e through (p ∷ ps) h = (through p h.0, through_array d e through ps h.1)

-- the ways into the first member, and those into the others
abbrev firsts : List (List ℕ) → List (List ℕ)
firsts [] = []
firsts ([] ∷ qs) = firsts qs
firsts ((zero ∷ p) ∷ qs) = p ∷ firsts qs
firsts ((suc i ∷ p) ∷ qs) = firsts qs

abbrev others : List (List ℕ) → List (List ℕ)
others [] = []
others ([] ∷ qs) = others qs
others ((zero ∷ p) ∷ qs) = others qs
others ((suc i ∷ p) ∷ qs) = (i ∷ p) ∷ others qs

split : (d : Description) (ds : Members) (qs : List (List ℕ)) → taken (Structure (MemberThen d ds)) qs ≡ taken d (firsts qs) + taken (Structure ds) (others qs)
split d ds [] = refl
split d ds ([] ∷ qs) = omega (arith, split d ds qs)
split d ds ((zero ∷ p) ∷ qs) = omega (arith, split d ds qs, on_length d p (0 + next_multiple_of 0 (alignment_of d)))
split d ds ((suc i ∷ p) ∷ qs) = omega (arith, split d ds qs, in_length ds i p 0 (next_multiple_of 0 (alignment_of d) + size_of d))

first_differs : (p : List ℕ) (qs : List (List ℕ)) → Differs (0 ∷ p) qs → Differs p (firsts qs)
first_differs p [] h = tt
first_differs p ([] ∷ qs) h = first_differs p qs h.1
first_differs p ((zero ∷ q) ∷ qs) h = (λ e. h.0 (ap (λ r. 0 ∷ r) e), first_differs p qs h.1)
first_differs p ((suc i ∷ q) ∷ qs) h = first_differs p qs h.1

one_less : (i j : ℕ) (p q : List ℕ) → (i ∷ p) ≡ (j ∷ q) → (suc i ∷ p) ≡ (suc j ∷ q)
one_less i j p q e = cc

other_differs : (i : ℕ) (p : List ℕ) (qs : List (List ℕ)) → Differs (suc i ∷ p) qs → Differs (i ∷ p) (others qs)
other_differs i p [] h = tt
other_differs i p ([] ∷ qs) h = other_differs i p qs h.1
other_differs i p ((zero ∷ q) ∷ qs) h = other_differs i p qs h.1
other_differs i p ((suc j ∷ q) ∷ qs) h = (λ e. h.0 (one_less i j p q e), other_differs i p qs h.1)

firsts_distinct : (qs : List (List ℕ)) → AreDistinct qs → AreDistinct (firsts qs)
firsts_distinct [] h = tt
firsts_distinct ([] ∷ qs) h = firsts_distinct qs h.1
firsts_distinct ((zero ∷ p) ∷ qs) h = (first_differs p qs h.0, firsts_distinct qs h.1)
firsts_distinct ((suc i ∷ p) ∷ qs) h = firsts_distinct qs h.1

others_distinct : (qs : List (List ℕ)) → AreDistinct qs → AreDistinct (others qs)
others_distinct [] h = tt
others_distinct ([] ∷ qs) h = others_distinct qs h.1
others_distinct ((zero ∷ p) ∷ qs) h = others_distinct qs h.1
others_distinct ((suc i ∷ p) ∷ qs) h = (other_differs i p qs h.0, others_distinct qs h.1)

module _ (d : Description) (ds : Members) where
  firsts_reach : (qs : List (List ℕ)) → AllReach (Structure (MemberThen d ds)) qs → AllReach d (firsts qs)
  firsts_reach [] h = tt
  firsts_reach ([] ∷ qs) h = firsts_reach qs h.1
  firsts_reach ((zero ∷ p) ∷ qs) h = (h.0, firsts_reach qs h.1)
  firsts_reach ((suc i ∷ p) ∷ qs) h = firsts_reach qs h.1

  others_reach : (qs : List (List ℕ)) → AllReach (Structure (MemberThen d ds)) qs → AllReach (Structure ds) (others qs)
  others_reach [] h = tt
  others_reach ([] ∷ qs) h = others_reach qs h.1
  others_reach ((zero ∷ p) ∷ qs) h = others_reach qs h.1
  others_reach ((suc i ∷ p) ∷ qs) h = (h.0, others_reach qs h.1)

nothing_taken : (qs : List (List ℕ)) → taken (Structure NoMembers) qs ≡ 0
nothing_taken [] = refl
nothing_taken ([] ∷ qs) = omega (arith, nothing_taken qs)
nothing_taken ((i ∷ p) ∷ qs) = omega (arith, nothing_taken qs)

none_in_area : (n : ℕ) (ps : List (List ℕ)) → taken (Area n) ps ≡ 0
none_in_area n [] = refl
none_in_area n (p ∷ ps) = omega (arith, none_in_area n ps)

through : (bs : List Bounds) (e : Description) (p : List ℕ) → Reaches (Array bs e) p → Reaches e p
through bs e [] h = (e, refl)
through bs e (i ∷ p) h = h

mutual
  pub spread : (d : Description) (ps : List (List ℕ)) → AreDistinct ps → AllReach d ps → taken d ps ≤ scalars_in d
  spread (Array bs e) ps distinct reach =
      let inner = spread e ps distinct (through_array (Array bs e) e (through bs e) ps reach) in
      let all : taken (Array bs e) ps ≡ count_of bs * taken e ps =
      array_taken e (count_of bs) (Array bs e) (λ p. array_length e p 0 (stride_of e) (count_of bs) (λ k. on_length e p k)) ps in
      omega (arith, all, times_more (count_of bs) (taken e ps) (scalars_in e) inner)
  spread (Structure ds) ps distinct reach = spread_among ds ps distinct reach
  spread (Area n) ps distinct reach = omega (arith, none_in_area n ps)
  spread d ps distinct reach = alone d (λ i. refl) refl ps distinct reach

  spread_among : (ds : Members) (ps : List (List ℕ)) → AreDistinct ps → AllReach (Structure ds) ps → taken (Structure ds) ps ≤ scalars_among ds
  spread_among NoMembers ps distinct reach = omega (arith, nothing_taken ps)
  spread_among (MemberThen d ds) ps distinct reach =
      omega (
        arith,
        split d ds ps,
        spread d (firsts ps) (firsts_distinct ps distinct) (firsts_reach d ds ps reach),
        spread_among ds (others ps) (others_distinct ps distinct) (others_reach d ds ps reach),
      )

-- ---- bytes

some_bytes : (p : ℕ) → 1 ≤ number_bytes p
some_bytes p = by (nat_le p 15) (nat_le p 31)
  where
    by : (b c : Bool) → 1 ≤ (if b then 2 else (if c then 4 else 8))
    by true c = omega arith
    by false true = omega arith
    by false false = omega arith

-- each scalar within the limits takes a byte or more
mutual
  pub scalars_take : (n : ℕ) (d : Description) → IsDescribed n d → scalars_in d ≤ size_of d
  scalars_take zero d h = absurd h
  scalars_take (suc n) (FixedBinary p) h = some_bytes p
  scalars_take (suc n) (Character k) h = h.0
  scalars_take (suc n) (Varying k) h = omega arith
  scalars_take (suc n) (Bit k) h = omega (arith, h.0)
  scalars_take (suc n) Pointer h = omega arith
  scalars_take (suc n) Offset h = omega arith
  scalars_take (suc n) (Area k) h = omega arith
  scalars_take (suc n) (Array bs e) h =
      times_more (count_of bs) (scalars_in e) (stride_of e) (omega (arith, scalars_take n e h.3, fits_stride e))
  scalars_take (suc n) (Structure NoMembers) h = absurd h
  scalars_take (suc n) (Structure (MemberThen d ds)) h =
      omega (arith, scalars_take n d h.0, members_take n (next_multiple_of 0 (alignment_of d) + size_of d) ds h.1)

  members_take : (n at : ℕ) (ds : Members) → AreDescribed n ds → at + scalars_among ds ≤ end_after at ds
  members_take n at NoMembers h = omega arith
  members_take n at (MemberThen d ds) h =
      omega (arith, scalars_take n d h.0, members_take n (next_multiple_of at (alignment_of d) + size_of d) ds h.1)
