-- The scalar that begins on a byte of a description is the one that decks find there.
use Rattle.std.proofs.Common.{◌≡◌, ℕ, ◌+◌, ◌-◌, ◌*◌, ◌%◌, [], ◌∷◌, Bool, true, false, nat_eq, nat_lt, ◌&&◌, Option, Some, None, if◌then◌else◌, option_map, refl, ap, sym, ◌∙◌}
use Rattle.std.specs.Int.{next_multiple_of}
use Rattle.std.proofs.lemmas.Bool.{ltb-true, ltb-false}
use Rattle.std.proofs.lemmas.Option.{none-some, same_Some}
use Rattle.pli_bytes.specs.Contents.{scalar_on, scalars_at, scalars_after}
use Rattle.pli_bytes.proofs.Rising.{rises}
use Rattle.pli_bytes.proofs.ScalarsOn.{on_past, on_in_array, on_before, on_first, on_others}
use Rattle.pli_map.specs.Description.{Description, FixedBinary, Character, Varying, Bit, Pointer, Offset, Area, Array, Structure, Members, NoMembers, MemberThen}
use Rattle.pli_map.specs.Parts.{PlacedPart, moved}
use Rattle.pli_map.specs.Sizes.{count_of, alignment_of, size_of, stride_of}
use Rattle.pli_deck_write.specs.DeckFaults.{scalar_at, scalar_among}
use Rattle.pli_deck_laws.specs.DeckLaws.{ScalarsAreFound}

-- one that is moved
record IsMoved (o : Option PlacedPart) (s : PlacedPart) : Type 0 where
  one : PlacedPart
  there : o ≡ Some one
  same : one.description ≡ s.description

is_moved : (m : ℕ) (o : Option PlacedPart) (s : PlacedPart) → option_map (moved m) o ≡ Some s → IsMoved o s
is_moved m None s h = absurd (none-some s h)
is_moved m (Some t) s h = record { one = t; there = refl; same = ap (λ p. p.description) (same_Some (moved m t) s h) }

-- a scalar alone
abbrev place : Description → PlacedPart
place d = record { offset = 0; description = d }

alone : (d : Description) (offset : ℕ) (s : PlacedPart) → scalar_on offset (place d ∷ []) ≡ Some s → (if nat_eq offset 0 then Some d else None) ≡ Some s.description
alone d offset s h = by (nat_eq offset 0) (nat_lt 0 (size_of d)) h
  where
    by : (b c : Bool) → (if b && c then Some (place d) else None) ≡ Some s → (if b then Some d else None) ≡ Some s.description
    by true true h = ap (λ (p : PlacedPart). Some p.description) (same_Some (place d) s h)
    by true false h = absurd (none-some s h)
    by false c h = absurd (none-some s h)

mutual
  pub stands : (d : Description) (offset : ℕ) (s : PlacedPart) → scalar_on offset (scalars_at d) ≡ Some s → scalar_at d offset ≡ Some s.description
  stands (FixedBinary p) offset s h = alone (FixedBinary p) offset s h
  stands (Character n) offset s h = alone (Character n) offset s h
  stands (Varying n) offset s h = alone (Varying n) offset s h
  stands (Bit n) offset s h = alone (Bit n) offset s h
  stands Pointer offset s h = alone Pointer offset s h
  stands Offset offset s h = alone Offset offset s h
  stands (Area n) offset s h = absurd (none-some s h)
  stands (Array bounds element) offset s h = by (nat_lt offset (count_of bounds * stride_of element)) refl (λ t there. stands element (offset % stride_of element) t there)
    where
      by : (b : Bool) → nat_lt offset (count_of bounds * stride_of element) ≡ b
          → ((t : PlacedPart) → scalar_on (offset % stride_of element) (scalars_at element) ≡ Some t → scalar_at element (offset % stride_of element) ≡ Some t.description)
          → (if b then scalar_at element (offset % stride_of element) else None) ≡ Some s.description
      by true e inner =
          let here = on_in_array bounds element offset (ltb-true offset (count_of bounds * stride_of element) e) in
          let i = is_moved _ (scalar_on (offset % stride_of element) (scalars_at element)) s (sym here.there ∙ h) in
          inner i.one i.there ∙ ap Some i.same
      by false e inner =
          absurd (none-some s (sym (on_past offset 0 (scalars_at (Array bounds element)) (size_of (Array bounds element)) (rises (Array bounds element)) (ltb-false offset (count_of bounds * stride_of element) e)) ∙ h))
  stands (Structure members) offset s h = among 0 members offset s h

  among : (at : ℕ) (ds : Members) (offset : ℕ) (s : PlacedPart) → scalar_on offset (scalars_after at ds) ≡ Some s → scalar_among at ds offset ≡ Some s.description
  among at NoMembers offset s h = absurd (none-some s h)
  among at (MemberThen d ds) offset s h =
      let start = next_multiple_of at (alignment_of d) in
      by (nat_lt offset start) (nat_lt offset (start + size_of d)) refl refl (λ t there. stands d (offset - start) t there) (λ there. among (start + size_of d) ds offset s there)
    where
      start : ℕ
      start = next_multiple_of at (alignment_of d)

      by : (b c : Bool) → nat_lt offset start ≡ b → nat_lt offset (start + size_of d) ≡ c
          → ((t : PlacedPart) → scalar_on (offset - start) (scalars_at d) ≡ Some t → scalar_at d (offset - start) ≡ Some t.description)
          → (scalar_on offset (scalars_after (start + size_of d) ds) ≡ Some s → scalar_among (start + size_of d) ds offset ≡ Some s.description)
          → (if b then None else if c then scalar_at d (offset - start) else scalar_among (start + size_of d) ds offset) ≡ Some s.description
      by true c e f inner rest = absurd (none-some s (sym (on_before offset at d ds (ltb-true offset start e)) ∙ h))
      by false true e f inner rest =
          let i = is_moved start (scalar_on (offset - start) (scalars_at d)) s
          (sym (on_first offset at d ds (ltb-false offset start e) (ltb-true offset (start + size_of d) f)) ∙ h) in
          inner i.one i.there ∙ ap Some i.same
      by false false e f inner rest = rest (sym (on_others offset at d ds (ltb-false offset (start + size_of d) f)) ∙ h)

pub scalars_are_found : ScalarsAreFound
scalars_are_found d offset s h = stands d offset s h
