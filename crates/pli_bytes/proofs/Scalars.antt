-- The places of a description's scalars: as many as it has, and of their descriptions.
use Rattle.std.proofs.Common.{◌≡◌, ℕ, zero, suc, ◌+◌, ◌*◌, true, true≢false, List, [], ◌∷◌, ◌++◌, map, length, replicate, refl, ap, sym, ◌∙◌, arith, length-append}
use Rattle.std.specs.Int.{next_multiple_of}
use Rattle.std.specs.List.{flat_map}
use Rattle.std.proofs.lemmas.List.{length-map, map-append}
use Rattle.pli_map.specs.Description.{Description, FixedBinary, Character, Varying, Bit, Pointer, Offset, Area, Array, Structure, Members, NoMembers, MemberThen}
use Rattle.pli_map.specs.Parts.{PlacedPart, moved}
use Rattle.pli_map.specs.Scalars.{is_scalar, scalars_in, scalars_among, scalars_of, scalars_of_members}
use Rattle.pli_map.specs.Sizes.{count_of, alignment_of, size_of, stride_of}
use Rattle.pli_bytes.specs.Contents.{spread, scalars_at, scalars_after}

pub spread_length : (at stride count : ℕ) (ss : List PlacedPart) → length (spread at stride count ss) ≡ count * length ss
spread_length at stride zero ss = omega arith
spread_length at stride (suc n) ss =
    let both = length-append (map (moved at) ss) (spread (at + stride) stride n ss) in
    let all : suc n * length ss ≡ length ss + n * length ss = omega arith in
    omega (arith, both, all, length-map ss (moved at), spread_length (at + stride) stride n ss)

mutual
  pub counted : (d : Description) → length (scalars_at d) ≡ scalars_in d
  counted (FixedBinary p) = refl
  counted (Character n) = refl
  counted (Varying n) = refl
  counted (Bit n) = refl
  counted Pointer = refl
  counted Offset = refl
  counted (Area n) = refl
  counted (Array bounds element) =
      spread_length 0 (stride_of element) (count_of bounds) (scalars_at element) ∙ ap (λ n. count_of bounds * n) (counted element)
  counted (Structure members) = counted_after 0 members

  pub counted_after : (at : ℕ) (ds : Members) → length (scalars_after at ds) ≡ scalars_among ds
  counted_after at NoMembers = refl
  counted_after at (MemberThen d ds) =
      let start = next_multiple_of at (alignment_of d) in
      let both = length-append (map (moved start) (scalars_at d)) (scalars_after (start + size_of d) ds) in
      omega (arith, both, length-map (scalars_at d) (moved start), counted d, counted_after (start + size_of d) ds)

-- a scalar is its own alone
pub scalar_alone : (d : Description) → is_scalar d ≡ true → scalars_at d ≡ record { offset = 0; description = d } ∷ []
scalar_alone (FixedBinary p) scalar = refl
scalar_alone (Character n) scalar = refl
scalar_alone (Varying n) scalar = refl
scalar_alone (Bit n) scalar = refl
scalar_alone Pointer scalar = refl
scalar_alone Offset scalar = refl
scalar_alone (Area n) scalar = absurd (true≢false (sym scalar))
scalar_alone (Array _ _) scalar = absurd (true≢false (sym scalar))
scalar_alone (Structure _) scalar = absurd (true≢false (sym scalar))

pub one_scalar : (d : Description) → is_scalar d ≡ true → scalars_in d ≡ 1
one_scalar d scalar = sym (counted d) ∙ ap length (scalar_alone d scalar)

pub scalar_moved : (m : ℕ) (d : Description) → is_scalar d ≡ true → map (moved m) (scalars_at d) ≡ record { offset = m; description = d } ∷ []
scalar_moved m d scalar =
    let at : ℕ → List PlacedPart = λ n. record { offset = n; description = d } ∷ [] in
    let same : m + 0 ≡ m = omega arith in
    ap (map (moved m)) (scalar_alone d scalar) ∙ ap at same

-- ---- their descriptions

abbrev pub descriptions : List PlacedPart → List Description
descriptions ss = map (λ s. s.description) ss

pub descriptions_moved : (m : ℕ) (ss : List PlacedPart) → descriptions (map (moved m) ss) ≡ descriptions ss
descriptions_moved m [] = refl
descriptions_moved m (s ∷ ss) = ap (λ ds. s.description ∷ ds) (descriptions_moved m ss)

descriptions_spread : (at stride count : ℕ) (ss : List PlacedPart) → descriptions (spread at stride count ss) ≡ flat_map (λ ds. ds) (replicate count (descriptions ss))
descriptions_spread at stride zero ss = refl
descriptions_spread at stride (suc n) ss =
    let rest = spread (at + stride) stride n ss in
    map-append (λ s. s.description) (map (moved at) ss) rest
    ∙ ap (λ ds. ds ++ descriptions rest) (descriptions_moved at ss)
    ∙ ap (λ ds. descriptions ss ++ ds) (descriptions_spread (at + stride) stride n ss)

mutual
  pub described : (d : Description) → descriptions (scalars_at d) ≡ scalars_of d
  described (FixedBinary p) = refl
  described (Character n) = refl
  described (Varying n) = refl
  described (Bit n) = refl
  described Pointer = refl
  described Offset = refl
  described (Area n) = refl
  described (Array bounds element) =
      descriptions_spread 0 (stride_of element) (count_of bounds) (scalars_at element)
      ∙ ap (λ ds. flat_map (λ ds. ds) (replicate (count_of bounds) ds)) (described element)
  described (Structure members) = described_after 0 members

  pub described_after : (at : ℕ) (ds : Members) → descriptions (scalars_after at ds) ≡ scalars_of_members ds
  described_after at NoMembers = refl
  described_after at (MemberThen d ds) =
      let start = next_multiple_of at (alignment_of d) in
      let rest = scalars_after (start + size_of d) ds in
      map-append (λ s. s.description) (map (moved start) (scalars_at d)) rest
      ∙ ap (λ ds. ds ++ descriptions rest) (descriptions_moved start (scalars_at d) ∙ described d)
      ∙ ap (λ ds. scalars_of d ++ ds) (described_after (start + size_of d) ds)

-- ---- a scalar alone

pub scalar_itself : (d : Description) → is_scalar d ≡ true → scalars_of d ≡ d ∷ []
scalar_itself d scalar = sym (described d) ∙ ap descriptions (scalar_alone d scalar)

pub scalars_counted : (d : Description) → length (scalars_of d) ≡ scalars_in d
scalars_counted d = ap length (sym (described d)) ∙ length-map (scalars_at d) (λ s. s.description) ∙ counted d
