-- The parts of a variable within the limits stand within it, and so do their strides.
use Rattle.std.specs.Prelude.{◌≡◌, ℕ, zero, suc, ◌+◌, ◌*◌, ◌≤◌, nat_eq, Bool, true, false, ◌&&◌, Option, Some, None, option_map, option_and_then}
use Rattle.std.specs.Prelude.{List, [], ◌∷◌, ◌++◌, length, if◌then◌else◌, refl}
use Rattle.std.specs.List.{AllByRecursion}
use Rattle.std.proofs.Common.{subst, arith}
use Rattle.std.proofs.lemmas.Option.{same_Some, none-some}
use Rattle.std.proofs.Math.Nat.{mul-le-mul_right}
use Rattle.pli_map.specs.Description.{Description, FixedBinary, Character, Varying, Bit, Pointer, Offset, Area, Array, Structure, Members, NoMembers, MemberThen}
use Rattle.pli_map.specs.Parts.{PlacedPart, member_after}
use Rattle.std.specs.Int.{next_multiple_of}
use Rattle.pli_map.specs.Sizes.{extent_of, count_of, alignment_of, size_of, stride_of}
use Rattle.pli_map.specs.declared.description.Bounds.{Bounds}
use Rattle.pli_map.proofs.Places.{member_inside}
use Rattle.pli_type_rules.specs.References.{StridedPart, strides_of, element_of, member_of, part_on, whole_part, with_subscripts}
use Rattle.pli_type_tree.specs.TypedTree.{Stride}
use Rattle.pli_type_laws.proofs.InitialHeld.{all_after}
use Rattle.pli_type_bounds.proofs.Meanings.{IsPart}
use Rattle.pli_deck_laws.specs.Limits.{IsDescribed, AreDescribed, IsDescription, AreBounds, IsStride}

-- ---- levels

mutual
  pub more_levels : (m n : ℕ) (d : Description) → m ≤ n → IsDescribed m d → IsDescribed n d
  more_levels zero n d le h = absurd h
  more_levels (suc m) zero d le h = absurd (omega (arith, le))
  more_levels (suc m) (suc n) (FixedBinary p) le h = h
  more_levels (suc m) (suc n) (Character k) le h = h
  more_levels (suc m) (suc n) (Varying k) le h = h
  more_levels (suc m) (suc n) (Bit k) le h = h
  more_levels (suc m) (suc n) Pointer le h = h
  more_levels (suc m) (suc n) Offset le h = h
  more_levels (suc m) (suc n) (Area k) le h = h
  more_levels (suc m) (suc n) (Array bs e) le h = (h.0, h.1, h.2, more_levels m n e (omega (arith, le)) h.3)
  more_levels (suc m) (suc n) (Structure NoMembers) le h = h
  more_levels (suc m) (suc n) (Structure (MemberThen d ds)) le h =
      (more_levels m n d (omega (arith, le)) h.0, all_more m n ds (omega (arith, le)) h.1)

  all_more : (m n : ℕ) (ds : Members) → m ≤ n → AreDescribed m ds → AreDescribed n ds
  all_more m n NoMembers le h = tt
  all_more m n (MemberThen d ds) le h = (more_levels m n d le h.0, all_more m n ds le h.1)

-- ---- sizes

extent_some : (b : Bounds) → AreBounds b → 1 ≤ extent_of b
extent_some b h = rw h.0 (omega arith)

count_some : (bs : List Bounds) → AllByRecursion AreBounds bs → 1 ≤ count_of bs
count_some [] h = omega arith
count_some (b ∷ bs) h =
    let one = mul-le-mul_right (count_of bs) (extent_some b h.0) in
    let rest = count_some bs h.1 in
    omega (arith, one, rest)

-- with a dimension more there are no fewer elements
count_more : (b : Bounds) (bs : List Bounds) (s : ℕ) → AllByRecursion AreBounds (b ∷ bs) → count_of bs * s ≤ count_of (b ∷ bs) * s
count_more b bs s h =
    let one = mul-le-mul_right (count_of bs) (extent_some b h.0) in
    let more : count_of bs ≤ count_of (b ∷ bs) = omega (arith, one) in
    mul-le-mul_right s more

element_smaller : (bs : List Bounds) (e : Description) → AllByRecursion AreBounds bs → size_of e ≤ size_of (Array bs e)
element_smaller bs e h =
    let some = mul-le-mul_right (stride_of e) (count_some bs h) in
    let over : size_of e ≤ stride_of e = omega arith in
    omega (arith, some, over)

strides_fit : (bs : List Bounds) (e : Description) → AllByRecursion AreBounds bs → count_of bs * stride_of e ≤ 1000000
    → AllByRecursion IsStride (strides_of bs e)
strides_fit [] e h le = tt
strides_fit (b ∷ bs) e h le =
    let fewer : count_of bs * stride_of e ≤ 1000000 = omega (arith, le, count_more b bs (stride_of e) h) in
    ((h.0.1, h.0.2, omega (arith, fewer)), strides_fit bs e h.1 fewer)

-- ---- members

member_described : (n at : ℕ) (ds : Members) (i : ℕ) (m : PlacedPart) → AreDescribed n ds → member_after at ds i ≡ Some m → IsDescribed n m.description
member_described n at NoMembers i m h e = absurd (none-some m e)
member_described n at (MemberThen d ds) zero m h e = subst (λ (p : PlacedPart). IsDescribed n p.description) (same_Some _ m e) h.0
member_described n at (MemberThen d ds) (suc i) m h e = member_described n (next_multiple_of at (alignment_of d) + size_of d) ds i m h.1 e

members_of_it : (n : ℕ) (ds : Members) → IsDescribed (suc n) (Structure ds) → AreDescribed n ds
members_of_it n NoMembers h = absurd h
members_of_it n (MemberThen d ds) h = h

-- ---- parts

abbrev strided : (offset : ℕ) → Description → List Stride → StridedPart
strided o d ss = record { offset = o; description = d; strides = ss }

-- a part stands within what takes so many bytes
record Lies (size : ℕ) (p : StridedPart) : Type 0 where
  within : p.offset + size_of p.description ≤ size
  described : IsDescription p.description
  strides : AllByRecursion IsStride p.strides

-- what has a level of its own is described with one less inside
element_described : (bs : List Bounds) (e : Description) → IsDescription (Array bs e) → IsDescription e
element_described bs e h = more_levels 511 512 e (omega arith) h.3

module _ (size : ℕ) (small : size ≤ 1000000) where
  element_lies : (o : ℕ) (d : Description) (ss : List Stride) → Lies size (strided o d ss) → Lies size (element_of (strided o d ss))
  element_lies o (Array bs e) ss h =
      let bounds : AllByRecursion AreBounds bs = h.described.2 in
      let less = element_smaller bs e bounds in
      record {
        within = omega (arith, h.within, less);
        described = element_described bs e h.described;
        strides = all_after IsStride ss (strides_of bs e) h.strides (strides_fit bs e bounds (omega (arith, h.within, small)));
      }
  element_lies o (FixedBinary p) ss h = h
  element_lies o (Character k) ss h = h
  element_lies o (Varying k) ss h = h
  element_lies o (Bit k) ss h = h
  element_lies o Pointer ss h = h
  element_lies o Offset ss h = h
  element_lies o (Area k) ss h = h
  element_lies o (Structure ds) ss h = h

  of_member : (o : ℕ) (ss : List Stride) (ds : Members) (i : ℕ) (q : StridedPart) (m : Option PlacedPart)
      → Lies size (strided o (Structure ds) ss) → member_after 0 ds i ≡ m
      → option_map (λ m. strided (o + m.offset) m.description ss) m ≡ Some q → Lies size q
  of_member o ss ds i q None h is e = absurd (none-some q e)
  of_member o ss ds i q (Some m) h is e =
      let inside = (member_inside 0 ds i m is).1 in
      let lies : Lies size (strided (o + m.offset) m.description ss) = record {
        within = omega (arith, h.within, inside);
        described = more_levels 511 512 m.description (omega arith) (member_described 511 0 ds i m (members_of_it 511 ds h.described) is);
        strides = h.strides;
      } in
      subst (Lies size) (same_Some _ q e) lies

  member_lies : (o : ℕ) (d : Description) (ss : List Stride) (i : ℕ) (q : StridedPart) → Lies size (strided o d ss)
      → member_of (strided o d ss) i ≡ Some q → Lies size q
  member_lies o (Structure ds) ss i q h e = of_member o ss ds i q (member_after 0 ds i) h refl e
  member_lies o (Array bs (Structure ds)) ss i q h e =
      of_member o (ss ++ strides_of bs (Structure ds)) ds i q (member_after 0 ds i)
      (element_lies o (Array bs (Structure ds)) ss h) refl e
  member_lies o d ss i q h e = absurd (none-some q e)

  further : (p : StridedPart) (i : ℕ) (path : List ℕ) (q : StridedPart) (m : Option StridedPart) → Lies size p → member_of p i ≡ m
      → ((r : StridedPart) → Lies size r → part_on r path ≡ Some q → Lies size q)
      → option_and_then (λ r. part_on r path) m ≡ Some q → Lies size q
  further p i path q None h is rest e = absurd (none-some q e)
  further p i path q (Some m) h is rest e = rest m (member_lies p.offset p.description p.strides i m h is) e

  path_lies : (p : StridedPart) (path : List ℕ) (q : StridedPart) → Lies size p → part_on p path ≡ Some q → Lies size q
  path_lies p [] q h e = subst (Lies size) (same_Some _ q e) h
  path_lies p (i ∷ path) q h e = further p i path q (member_of p i) h refl (λ r s f. path_lies r path q s f) e

  subscripted : (k : ℕ) (p q : StridedPart) (a b : Bool) → Lies size p
      → (if a then Some (element_of p) else if b then Some p else None) ≡ Some q → Lies size q
  subscripted k p q true b h e = subst (Lies size) (same_Some _ q e) (element_lies p.offset p.description p.strides h)
  subscripted k p q false true h e = subst (Lies size) (same_Some _ q e) h
  subscripted k p q false false h e = absurd (none-some q e)

  as_part : (q : StridedPart) → Lies size q → IsPart q
  as_part q h = record { offset = omega (arith, h.within, small); described = h.described; strides = h.strides }

-- on a way of members
pub way_fits : (d : Description) (path : List ℕ) → IsDescription d → size_of d ≤ 1000000 → (q : StridedPart)
    → part_on (whole_part d) path ≡ Some q → IsPart q
way_fits d path h small q e =
    let start : Lies (size_of d) (strided 0 d []) = record { within = omega arith; described = h; strides = tt } in
    as_part (size_of d) small q (path_lies (size_of d) small (strided 0 d []) path q start e)

-- with so many subscripts
pub parts_fit : (d : Description) (path : List ℕ) → IsDescription d → size_of d ≤ 1000000 → (p q : StridedPart) (given : ℕ)
    → part_on (whole_part d) path ≡ Some p → with_subscripts given p ≡ Some q → IsPart q
parts_fit d path h small p q given e f =
    let size : ℕ = size_of d in
    let start : Lies size (strided 0 d []) = record { within = omega arith; described = h; strides = tt } in
    as_part size small q
    (subscripted size small given p q (nat_eq given (length (element_of p).strides)) (nat_eq given 0 && nat_eq (length p.strides) 0)
    (path_lies size small (strided 0 d []) path p start e) f)
