-- Blocks of one area, and what they say.
use Rattle.std.proofs.Common.{◌≡◌, ◌≢◌, ℕ, zero, suc, drop_of_length-le, ◌+◌, ◌-◌, ◌<◌, ◌≤◌, ◌⊎◌, Bool, true, false, nat_eq, nat_lt, nat_le, Option, Some, None, option_map, MatchOption, List, [], ◌∷◌, ◌++◌, length, map, find, if◌then◌else◌, refl, sym, ap, ◌∙◌, subst, arith, inl, inr, eq-eqb, ne_eqb, append-nil}
use Rattle.std.proofs.lemmas.Option.{none-some, same_Some}
use Rattle.pli_area.specs.Areas as area
use Rattle.pli_area.specs.Areas.{rounded, overwritten, IsApart, IsArea, IsFull, IsLeast}
use Rattle.pli_area.proofs.BlockBytes.{count_over}
use Rattle.pli_area.proofs.FirstFits.{first_is_least}
use Rattle.pli_world.specs.Areas.{taken_by, with_block, without_block}
use Rattle.pli_world.specs.Storage.{block_at, with_block_values}
use Rattle.pli_area_blocks.specs.answers.Known.{IsKnown, AreKnown}
use Rattle.pli_area_blocks.specs.views.BlocksView.{described, block_view}
use Rattle.pli_bytes.specs.Contents.{values_of}
use Rattle.pli_map.specs.Description.{Description}
use Rattle.pli_value.specs.Value.{Value}

-- ---- a block that is placed

-- a block meets none of these: none has its position
module _ (b : area.Block) (new : List ℕ) (header : 8 ≤ b.position) where
  written : area.Block
  written = record b { bytes = overwritten b.bytes 0 new }

  other : (c : area.Block) → ((b.position + rounded b.size ≤ c.position - 8) ⊎ (c.position + rounded c.size ≤ b.position - 8))
      → c.position ≢ b.position
  other c (inl before) same = omega (arith, before, same, header)
  other c (inr after) same = omega (arith, after, same, header)

  pub placed_found : (bs : List area.Block) → IsApart b.size b.position bs → area.block_at (area.with_block bs b) b.position ≡ Some b
  placed_found [] apart = rw (eq-eqb b.position b.position refl) refl
  placed_found (c ∷ cs) apart = by (nat_lt b.position c.position) (placed_found cs apart.1) (ne_eqb c.position b.position (other c apart.0))
    where
      by : (l : Bool) → area.block_at (area.with_block cs b) b.position ≡ Some b → nat_eq c.position b.position ≡ false
          → area.block_at (if l then b ∷ c ∷ cs else c ∷ area.with_block cs b) b.position ≡ Some b
      by true rest differs = rw (eq-eqb b.position b.position refl) refl
      by false rest differs = rw differs rest

  pub placed_written : (bs : List area.Block) → IsApart b.size b.position bs
      → area.with_bytes (area.with_block bs b) b.position 0 new ≡ area.with_block bs (record b { bytes = overwritten b.bytes 0 new })
  placed_written [] apart = rw (eq-eqb b.position b.position refl) refl
  placed_written (c ∷ cs) apart = by (nat_lt b.position c.position) (placed_written cs apart.1) (ne_eqb c.position b.position (other c apart.0))
    where
      by : (l : Bool)
          → area.with_bytes (area.with_block cs b) b.position 0 new ≡ area.with_block cs (record b { bytes = overwritten b.bytes 0 new })
          → nat_eq c.position b.position ≡ false
          → area.with_bytes (if l then b ∷ c ∷ cs else c ∷ area.with_block cs b) b.position 0 new
          ≡ (if l then record b { bytes = overwritten b.bytes 0 new } ∷ c ∷ cs
          else c ∷ area.with_block cs (record b { bytes = overwritten b.bytes 0 new }))
      by true rest differs = rw (eq-eqb b.position b.position refl) refl
      by false rest differs = rw differs (ap (λ bs. c ∷ bs) rest)

-- all of its bytes are written
pub whole_written : (old new : List ℕ) → length old ≡ length new → overwritten old 0 new ≡ new
whole_written old new same = ap (λ rest. new ++ rest) (drop_of_length-le old (omega (arith, same))) ∙ append-nil new

-- a block that is longer than its area fits nowhere
pub too_long : (a : area.Blocks) (size : ℕ) → IsArea a → a.capacity < size → area.first_fit a size ≡ None
too_long a size stands over = by (area.first_fit a size) (first_is_least a size stands)
  where
    by : (o : Option ℕ) → MatchOption o (IsFull a size) (IsLeast a size) → o ≡ None
    by None full = refl
    by (Some position) least = let below = least.allowed.below in absurd (omega (arith, below, over))

-- ---- what blocks say

module _ (ds : List Description) where
  pub block_at_view : (bs : List area.Block) (p : ℕ) → block_at (map (block_view ds) bs) p ≡ option_map (block_view ds) (area.block_at bs p)
  block_at_view [] p = refl
  block_at_view (b ∷ bs) p = by (nat_eq b.position p) (block_at_view bs p)
    where
      by : (c : Bool) → block_at (map (block_view ds) bs) p ≡ option_map (block_view ds) (area.block_at bs p)
          → (if c then Some (block_view ds b) else block_at (map (block_view ds) bs) p)
          ≡ option_map (block_view ds) (if c then Some b else area.block_at bs p)
      by true e = refl
      by false e = e

  pub without_view : (bs : List area.Block) (p : ℕ) → map (block_view ds) (area.without_block bs p) ≡ without_block (map (block_view ds) bs) p
  without_view [] p = refl
  without_view (b ∷ bs) p = by (nat_eq b.position p) (without_view bs p)
    where
      by : (c : Bool) → map (block_view ds) (area.without_block bs p) ≡ without_block (map (block_view ds) bs) p
          → map (block_view ds) (if c then bs else b ∷ area.without_block bs p)
          ≡ (if c then map (block_view ds) bs else block_view ds b ∷ without_block (map (block_view ds) bs) p)
      by true e = refl
      by false e = ap (λ xs. block_view ds b ∷ xs) e

  pub with_view : (bs : List area.Block) (b : area.Block) → map (block_view ds) (area.with_block bs b) ≡ with_block (map (block_view ds) bs) (block_view ds b)
  with_view [] b = refl
  with_view (c ∷ cs) b = by (nat_lt b.position c.position) (with_view cs b)
    where
      by : (l : Bool) → map (block_view ds) (area.with_block cs b) ≡ with_block (map (block_view ds) cs) (block_view ds b)
          → map (block_view ds) (if l then b ∷ c ∷ cs else c ∷ area.with_block cs b)
          ≡ (if l then block_view ds b ∷ block_view ds c ∷ map (block_view ds) cs
          else block_view ds c ∷ with_block (map (block_view ds) cs) (block_view ds b))
      by true e = refl
      by false e = ap (λ xs. block_view ds c ∷ xs) e

  pub put_view : (bs : List area.Block) (p at : ℕ) (new : List ℕ) (b : area.Block) (vs : List Value) → area.block_at bs p ≡ Some b
      → values_of (described ds b.description) (overwritten b.bytes at new) ≡ vs
      → map (block_view ds) (area.with_bytes bs p at new) ≡ with_block_values (map (block_view ds) bs) p vs
  put_view [] p at new b vs found hold = absurd (none-some b found)
  put_view (c ∷ cs) p at new b vs found hold = by (nat_eq c.position p) found (λ e. put_view cs p at new b vs e hold)
    where
      by : (e : Bool) → (if e then Some c else area.block_at cs p) ≡ Some b
          → (area.block_at cs p ≡ Some b → map (block_view ds) (area.with_bytes cs p at new) ≡ with_block_values (map (block_view ds) cs) p vs)
          → map (block_view ds) (if e then record c { bytes = overwritten c.bytes at new } ∷ cs else c ∷ area.with_bytes cs p at new)
          ≡ (if e then record (block_view ds c) { values = vs } ∷ map (block_view ds) cs
          else block_view ds c ∷ with_block_values (map (block_view ds) cs) p vs)
      by true here rest =
          let is : b ≡ c = sym (same_Some c b here) in
          ap (λ ws. record (block_view ds c) { values = ws } ∷ map (block_view ds) cs)
          (ap (λ (x : area.Block). values_of (described ds x.description) (overwritten x.bytes at new)) (sym is) ∙ hold)
      by false there rest = ap (λ xs. block_view ds c ∷ xs) (rest there)

  -- ---- blocks that are known

  pub none_known : AreKnown ds []
  none_known k b e = absurd (none-some b e)

  pub cons_known : (b : area.Block) (bs : List area.Block) → IsKnown ds b → AreKnown ds bs → AreKnown ds (b ∷ bs)
  cons_known b bs one rest zero c e = subst (IsKnown ds) (same_Some b c e) one
  cons_known b bs one rest (suc k) c e = rest k c e

  pub first_known : (b : area.Block) (bs : List area.Block) → AreKnown ds (b ∷ bs) → IsKnown ds b
  first_known b bs known = known 0 b refl

  pub rest_known : (b : area.Block) (bs : List area.Block) → AreKnown ds (b ∷ bs) → AreKnown ds bs
  rest_known b bs known k c e = known (suc k) c e

  pub known_at : (bs : List area.Block) (p : ℕ) (b : area.Block) → AreKnown ds bs → area.block_at bs p ≡ Some b → IsKnown ds b
  known_at [] p b known found = absurd (none-some b found)
  known_at (c ∷ cs) p b known found = by (nat_eq c.position p) found (λ there. known_at cs p b (rest_known c cs known) there)
    where
      by : (e : Bool) → (if e then Some c else area.block_at cs p) ≡ Some b → (area.block_at cs p ≡ Some b → IsKnown ds b) → IsKnown ds b
      by true here rest = subst (IsKnown ds) (same_Some c b here) (first_known c cs known)
      by false there rest = rest there

  pub known_with : (bs : List area.Block) (b : area.Block) → AreKnown ds bs → IsKnown ds b → AreKnown ds (area.with_block bs b)
  known_with [] b known one = cons_known b [] one none_known
  known_with (c ∷ cs) b known one = by (nat_lt b.position c.position) (known_with cs b (rest_known c cs known) one)
    where
      by : (l : Bool) → AreKnown ds (area.with_block cs b) → AreKnown ds (if l then b ∷ c ∷ cs else c ∷ area.with_block cs b)
      by true rest = cons_known b (c ∷ cs) one known
      by false rest = cons_known c (area.with_block cs b) (first_known c cs known) rest

  pub known_without : (bs : List area.Block) (p : ℕ) → AreKnown ds bs → AreKnown ds (area.without_block bs p)
  known_without [] p known = known
  known_without (c ∷ cs) p known = by (nat_eq c.position p) (known_without cs p (rest_known c cs known))
    where
      by : (e : Bool) → AreKnown ds (area.without_block cs p) → AreKnown ds (if e then cs else c ∷ area.without_block cs p)
      by true rest = rest_known c cs known
      by false rest = cons_known c (area.without_block cs p) (first_known c cs known) rest

  -- other bytes in a block, as many
  one_written : (c : area.Block) (at : ℕ) (new : List ℕ) → IsKnown ds c → at + length new ≤ c.size → IsKnown ds (record c { bytes = overwritten c.bytes at new })
  one_written c at new known fits =
      let counted = known.2 in (known.0, known.1, count_over c.bytes at new (omega (arith, counted, fits)) ∙ counted)

  pub known_written : (bs : List area.Block) (p at : ℕ) (new : List ℕ) (b : area.Block) → AreKnown ds bs → area.block_at bs p ≡ Some b
      → at + length new ≤ b.size → AreKnown ds (area.with_bytes bs p at new)
  known_written [] p at new b known found fits = known
  known_written (c ∷ cs) p at new b known found fits =
      by (nat_eq c.position p) found (λ there. known_written cs p at new b (rest_known c cs known) there fits)
    where
      by : (e : Bool) → (if e then Some c else area.block_at cs p) ≡ Some b
          → (area.block_at cs p ≡ Some b → AreKnown ds (area.with_bytes cs p at new))
          → AreKnown ds (if e then record c { bytes = overwritten c.bytes at new } ∷ cs else c ∷ area.with_bytes cs p at new)
      by true here rest =
          let size = ap (λ (x : area.Block). x.size) (same_Some c b here) in
          cons_known (record c { bytes = overwritten c.bytes at new }) cs
          (one_written c at new (first_known c cs known) (omega (arith, size, fits))) (rest_known c cs known)
      by false there rest = cons_known c (area.with_bytes cs p at new) (first_known c cs known) (rest there)

  -- ---- room

  pub holes_view : (from capacity : ℕ) (bs : List area.Block) → AreKnown ds bs
      → area.holes_from from capacity bs ≡ area.holes_from from capacity (map taken_by (map (block_view ds) bs))
  holes_view from capacity [] known = refl
  holes_view from capacity (b ∷ bs) known =
      ap (area.hole_between from (b.position - 8))
      (holes_view (area.end_of b) capacity bs (rest_known b bs known)
      ∙ ap (λ n. area.holes_from (b.position + rounded n) capacity (map taken_by (map (block_view ds) bs))) (first_known b bs known).1)

  pub fit_view : (capacity : ℕ) (bs : List area.Block) (size : ℕ) → AreKnown ds bs
      → area.first_fit (record { capacity = capacity; blocks = bs; visited = 0 }) size
      ≡ area.first_fit (record { capacity = capacity; blocks = map taken_by (map (block_view ds) bs); visited = 0 }) size
  fit_view capacity bs size known =
      ap (λ hs. option_map (λ (h : area.Hole). h.start + 8) (find (λ h. nat_le (8 + rounded size) h.room) hs)) (holes_view 0 capacity bs known)

  pub extent_view : (from : ℕ) (bs : List area.Block) → AreKnown ds bs → area.end_from from bs ≡ area.end_from from (map taken_by (map (block_view ds) bs))
  extent_view from [] known = refl
  extent_view from (b ∷ bs) known =
      extent_view (area.end_of b) bs (rest_known b bs known)
      ∙ ap (λ n. area.end_from (b.position + rounded n) (map taken_by (map (block_view ds) bs))) (first_known b bs known).1
