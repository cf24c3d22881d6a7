-- Blocks of an area stand apart, whatever is placed and taken away.
use Rattle.std.proofs.Common.{◌≡◌, ◌+◌, ◌≤◌, ◌<◌, ◌%◌, ℕ, Bool, true, false, nat_eq, nat_lt, Some, None, MatchOption, List, [], ◌∷◌, length, map, if◌then◌else◌, refl, sym, ap, subst, arith, inl, inr, eqb-true, ltb-true, ltb-false, ne_eqb}
use Rattle.std.proofs.lemmas.List.{length-replicate}
use Rattle.pli_area.specs.Areas as area
use Rattle.pli_area.specs.Areas.{IsApart, IsArea, IsFull, IsLeast, Stand}
use Rattle.pli_area.proofs.FirstFits.{first_is_least}
use Rattle.pli_map.specs.Sizes.{size_of}
use Rattle.pli_world.specs.Areas.{taken_by, room_in, with_block, without_block}
use Rattle.pli_world.specs.Storage.{Block, block_at}
use Rattle.pli_locators.specs.laws.AreaLaws as law

-- ---- a block more

stand_with : (from : ℕ) (bs : List area.Block) (b : area.Block) → Stand from bs → IsApart b.size b.position bs → from + 8 ≤ b.position
    → b.position % 8 ≡ 0 → length b.bytes ≡ b.size → Stand from (area.with_block bs b)
stand_with from [] b stand apart low even count = (low, even, count, tt)
stand_with from (c ∷ cs) b stand apart low even count =
    by (nat_lt b.position c.position) refl (λ l. stand_with (area.end_of c) cs b stand.3 apart.1 l even count)
  where
    by : (l : Bool) → nat_lt b.position c.position ≡ l → (area.end_of c + 8 ≤ b.position → Stand (area.end_of c) (area.with_block cs b))
        → Stand from (if l then b ∷ c ∷ cs else c ∷ area.with_block cs b)
    by true e rest =
        let less = ltb-true b.position c.position e in
        let high = stand.0 in
        elim apart.0 [
          | inl before ↦ (low, even, count, (omega (arith, before, high), stand.1, stand.2, stand.3))
          | inr after ↦ absurd (omega (arith, after, less))
        ]
    by false e rest =
        let less = ltb-false b.position c.position e in
        let high = stand.0 in
        elim apart.0 [
          | inl before ↦ absurd (omega (arith, before, less, high))
          | inr after ↦ (stand.0, stand.1, stand.2, rest (omega (arith, after, low)))
        ]

end_with : (from capacity : ℕ) (bs : List area.Block) (b : area.Block) → area.end_from from bs ≤ capacity → area.end_of b ≤ capacity
    → area.end_from from (area.with_block bs b) ≤ capacity
end_with from capacity [] b within below = below
end_with from capacity (c ∷ cs) b within below =
    by (nat_lt b.position c.position) (end_with (area.end_of c) capacity cs b within below)
  where
    by : (l : Bool) → area.end_from (area.end_of c) (area.with_block cs b) ≤ capacity
        → area.end_from from (if l then b ∷ c ∷ cs else c ∷ area.with_block cs b) ≤ capacity
    by true rest = within
    by false rest = rest

with_taken : (bs : List Block) (b : Block) → map taken_by (with_block bs b) ≡ area.with_block (map taken_by bs) (taken_by b)
with_taken [] b = refl
with_taken (c ∷ cs) b = by (nat_lt b.position c.position) (with_taken cs b)
  where
    by : (l : Bool) → map taken_by (with_block cs b) ≡ area.with_block (map taken_by cs) (taken_by b)
        → map taken_by (if l then b ∷ c ∷ cs else c ∷ with_block cs b)
        ≡ (if l then taken_by b ∷ taken_by c ∷ map taken_by cs else taken_by c ∷ area.with_block (map taken_by cs) (taken_by b))
    by true e = refl
    by false e = ap (λ xs. taken_by c ∷ xs) e

least_of : (a : area.Blocks) (size position : ℕ) → IsArea a → area.first_fit a size ≡ Some position → IsLeast a size position
least_of a size position stands fit =
    subst (λ o. MatchOption o (IsFull a size) (IsLeast a size)) fit (first_is_least a size stands)

pub allocated_apart : law.AllocatedApart
allocated_apart capacity bs d vs position stands fit =
    let b : Block = record { position = position; description = d; values = vs } in
    let allowed = (least_of (room_in capacity bs) (size_of d) position stands fit).allowed in
    let taken = with_taken bs b in
    let header = allowed.header in
    record {
      aligned = stands.aligned;
      small = stands.small;
      stand = subst (Stand 0) (sym taken)
          (stand_with 0 (map taken_by bs) (taken_by b) stands.stand allowed.apart (omega (arith, header)) allowed.aligned
          (length-replicate (size_of d) 0));
      within = subst (λ cs. area.extent cs ≤ capacity) (sym taken)
          (end_with 0 capacity (map taken_by bs) (taken_by b) stands.within allowed.below);
    }

-- ---- a block less

stand_lower : (low from : ℕ) (bs : List area.Block) → low ≤ from → Stand from bs → Stand low bs
stand_lower low from [] le stand = tt
stand_lower low from (b ∷ bs) le stand = let high = stand.0 in (omega (arith, le, high), stand.1, stand.2, stand.3)

end_lower : (low from : ℕ) (bs : List area.Block) → low ≤ from → area.end_from low bs ≤ area.end_from from bs
end_lower low from [] le = le
end_lower low from (b ∷ bs) le = omega arith

stand_without : (from : ℕ) (bs : List area.Block) (p : ℕ) → Stand from bs → Stand from (area.without_block bs p)
stand_without from [] p stand = stand
stand_without from (c ∷ cs) p stand = by (nat_eq c.position p) (stand_without (area.end_of c) cs p stand.3)
  where
    by : (e : Bool) → Stand (area.end_of c) (area.without_block cs p) → Stand from (if e then cs else c ∷ area.without_block cs p)
    by true rest = let low = stand.0 in stand_lower from (area.end_of c) cs (omega (arith, low)) stand.3
    by false rest = (stand.0, stand.1, stand.2, rest)

end_without : (from : ℕ) (bs : List area.Block) (p : ℕ) → Stand from bs → area.end_from from (area.without_block bs p) ≤ area.end_from from bs
end_without from [] p stand = omega arith
end_without from (c ∷ cs) p stand = by (nat_eq c.position p) (end_without (area.end_of c) cs p stand.3)
  where
    by : (e : Bool) → area.end_from (area.end_of c) (area.without_block cs p) ≤ area.end_from (area.end_of c) cs
        → area.end_from from (if e then cs else c ∷ area.without_block cs p) ≤ area.end_from (area.end_of c) cs
    by true rest = let low = stand.0 in end_lower from (area.end_of c) cs (omega (arith, low))
    by false rest = rest

without_taken : (bs : List Block) (p : ℕ) → map taken_by (without_block bs p) ≡ area.without_block (map taken_by bs) p
without_taken [] p = refl
without_taken (c ∷ cs) p = by (nat_eq c.position p) (without_taken cs p)
  where
    by : (e : Bool) → map taken_by (without_block cs p) ≡ area.without_block (map taken_by cs) p
        → map taken_by (if e then cs else c ∷ without_block cs p)
        ≡ (if e then map taken_by cs else taken_by c ∷ area.without_block (map taken_by cs) p)
    by true e = refl
    by false e = ap (λ xs. taken_by c ∷ xs) e

pub freed_apart : law.FreedApart
freed_apart capacity bs position stands =
    let taken = without_taken bs position in
    let less = end_without 0 (map taken_by bs) position stands.stand in
    let within = stands.within in
    record {
      aligned = stands.aligned;
      small = stands.small;
      stand = subst (Stand 0) (sym taken) (stand_without 0 (map taken_by bs) position stands.stand);
      within = subst (λ cs. area.extent cs ≤ capacity) (sym taken) (omega (arith, less, within));
    }

-- ---- other laws

pub begins_apart : law.BeginsApart
begins_apart capacity aligned small = record { aligned = aligned; small = small; stand = tt; within = omega arith }

pub assigned_apart : law.AssignedApart
assigned_apart from to bs cs source target fits = record { aligned = target.aligned; small = target.small; stand = source.stand; within = fits }

-- no block stands below where blocks stand
none_below : (from : ℕ) (bs : List Block) (p : ℕ) → Stand from (map taken_by bs) → p < from + 8 → block_at bs p ≡ None
none_below from [] p stand below = refl
none_below from (c ∷ cs) p stand below =
    let low = stand.0 in
    rw (ne_eqb c.position p (λ same. omega (arith, same, low, below))) (none_below (area.end_of (taken_by c)) cs p stand.3 (omega (arith, low, below)))

-- what was taken away is not there
pub none_left : (from : ℕ) (bs : List Block) (p : ℕ) → Stand from (map taken_by bs) → block_at (without_block bs p) p ≡ None
none_left from [] p stand = refl
none_left from (c ∷ cs) p stand = by (nat_eq c.position p) refl (none_left (area.end_of (taken_by c)) cs p stand.3)
  where
    by : (e : Bool) → nat_eq c.position p ≡ e → block_at (without_block cs p) p ≡ None
        → block_at (if e then cs else c ∷ without_block cs p) p ≡ None
    by true e rest =
        let same = eqb-true c.position p e in none_below (area.end_of (taken_by c)) cs p stand.3 (omega (arith, same))
    by false e rest = rw e rest
