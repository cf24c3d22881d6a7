-- What holds of the blocks of areas after they have changed, and where the next one fits.
use Rattle.std.specs.Prelude.{◌≡◌, ℕ, ◌+◌, ◌-◌, ◌<◌, ◌^◌, nat_eq, nat_lt, nat_le, Bool, true, false, cond, Option, Some, None, option_map, List, [], ◌∷◌, map, find}
use Rattle.std.specs.Prelude.{if◌then◌else◌, refl}
use Rattle.std.proofs.Common.{arith, sym, ap, ◌∙◌, subst, ltb-true, leb-true}
use Rattle.std.proofs.lemmas.Bool.{eqb-true}
use Rattle.pli_area.specs.Areas as area
use Rattle.pli_map.specs.Scalars.{scalars_of}
use Rattle.pli_value.specs.Value.{Value}
use Rattle.pli_world.specs.Areas.{taken_by, place_in, with_block, without_block}
use Rattle.pli_world.specs.Storage.{Block, block_at, with_block_values}
use Rattle.pli_type_tree.specs.WellTyped.{AreHeld}
use Rattle.pli_meaning_typed.specs.SoundWorlds.{IsSoundBlock, AreSoundBlocks}

some_same : {A : Type 0} {x y : A} → Some x ≡ Some y → x ≡ y
some_same e = cc

none_some : {A : Type 0} {x : A} → None ≡ Some x → ⊥
none_some e = absurd (cc)

-- the one that is found at a position
pub block_found : (bs : List Block) (k : ℕ) (b : Block) → AreSoundBlocks bs → block_at bs k ≡ Some b → IsSoundBlock b × (b.position ≡ k)
block_found [] k b h e = absurd (none_some e)
block_found (c ∷ cs) k b h e = by (nat_eq c.position k) refl e (block_found cs k b h.1)
  where
    by : (t : Bool) → nat_eq c.position k ≡ t → (if t then Some c else block_at cs k) ≡ Some b
        → (block_at cs k ≡ Some b → IsSoundBlock b × (b.position ≡ k)) → IsSoundBlock b × (b.position ≡ k)
    by true f e rest =
        let same : c ≡ b = some_same e in
        (subst (λ b. IsSoundBlock b) same h.0, ap (λ (b : Block). b.position) (sym same) ∙ eqb-true c.position k f)
    by false f e rest = rest e

-- one of them holds other values
pub values_put : (bs : List Block) (k : ℕ) (b : Block) (vs : List Value) → AreSoundBlocks bs → block_at bs k ≡ Some b → AreHeld (scalars_of b.description) vs
    → AreSoundBlocks (with_block_values bs k vs)
values_put [] k b vs h e held = tt
values_put (c ∷ cs) k b vs h e held = by (nat_eq c.position k) e (λ e. values_put cs k b vs h.1 e held)
  where
    by : (t : Bool) → (if t then Some c else block_at cs k) ≡ Some b → (block_at cs k ≡ Some b → AreSoundBlocks (with_block_values cs k vs))
        → AreSoundBlocks (if t then record c { values = vs } ∷ cs else c ∷ with_block_values cs k vs)
    by true e rest = (
      record {
        values = subst (λ (b : Block). AreHeld (scalars_of b.description) vs) (sym (some_same e)) held;
        near = h.0.near;
        position = h.0.position;
      },
      h.1,
    )
    by false e rest = (h.0, rest e)

-- one more, and one less
pub block_added : (bs : List Block) (b : Block) → AreSoundBlocks bs → IsSoundBlock b → AreSoundBlocks (with_block bs b)
block_added [] b h new = (new, tt)
block_added (c ∷ cs) b h new = by (nat_lt b.position c.position) (block_added cs b h.1 new)
  where
    by : (t : Bool) → AreSoundBlocks (with_block cs b) → AreSoundBlocks (if t then b ∷ c ∷ cs else c ∷ with_block cs b)
    by true rest = (new, h)
    by false rest = (h.0, rest)

pub block_removed : (bs : List Block) (k : ℕ) → AreSoundBlocks bs → AreSoundBlocks (without_block bs k)
block_removed [] k h = tt
block_removed (c ∷ cs) k h = by (nat_eq c.position k) (block_removed cs k h.1)
  where
    by : (t : Bool) → AreSoundBlocks (without_block cs k) → AreSoundBlocks (if t then cs else c ∷ without_block cs k)
    by true rest = h.1
    by false rest = (h.0, rest)

-- a hole has room for so many bytes with their header
abbrev has_room : (size : ℕ) → area.Hole → Bool
has_room size = λ h. nat_le (8 + area.rounded size) h.room

abbrev IsLow : area.Hole → Type 0
IsLow h = h.start + 8 < 2 ^ 32

hole_low : (size from to : ℕ) (more : List area.Hole) (h : area.Hole) → to < 2 ^ 32 → (find (has_room size) more ≡ Some h → IsLow h)
    → find (has_room size) (area.hole_between from to more) ≡ Some h → IsLow h
hole_low size from to more h low rest e = by (nat_lt from to) refl e
  where
    new : area.Hole
    new = record { start = from; room = to - from }

    this : (b : Bool) → nat_le (8 + area.rounded size) (to - from) ≡ b → from < to → cond b (Some new) (find (has_room size) more) ≡ Some h → IsLow h
    this true room less e =
        let fits = leb-true (8 + area.rounded size) (to - from) room in
        let begins : from ≡ h.start = ap (λ (h : area.Hole). h.start) (some_same e) in
        omega (arith, fits, less, low, begins)
    this false room less e = rest e

    by : (b : Bool) → nat_lt from to ≡ b → find (has_room size) (if b then new ∷ more else more) ≡ Some h → IsLow h
    by true f e = this (nat_le (8 + area.rounded size) (to - from)) refl (ltb-true from to f) e
    by false f e = rest e

first_low : (size capacity : ℕ) → capacity < 2 ^ 32 → (from : ℕ) (bs : List Block) → AreSoundBlocks bs → (h : area.Hole)
    → find (has_room size) (area.holes_from from capacity (map taken_by bs)) ≡ Some h → IsLow h
first_low size capacity small from [] sound h e = hole_low size from capacity [] h small (λ e. absurd (none_some e)) e
first_low size capacity small from (b ∷ bs) sound h e =
    let at = sound.0.position in
    hole_low size from (b.position - 8) (area.holes_from (area.end_of (taken_by b)) capacity (map taken_by bs)) h (omega (arith, at))
    (first_low size capacity small (area.end_of (taken_by b)) bs sound.1 h) e

-- where the next one fits
pub place_low : (capacity : ℕ) (bs : List Block) (size position : ℕ) → capacity < 2 ^ 32 → AreSoundBlocks bs → place_in capacity bs size ≡ Some position
    → position < 2 ^ 32
place_low capacity bs size position small sound e = by (find (has_room size) (area.holes_from 0 capacity (map taken_by bs))) refl e
  where
    by : (o : Option area.Hole) → find (has_room size) (area.holes_from 0 capacity (map taken_by bs)) ≡ o → option_map (λ h. h.start + 8) o ≡ Some position
        → position < 2 ^ 32
    by None f e = absurd (none_some e)
    by (Some h) f e = subst (λ n. n < 2 ^ 32) (some_same e) (first_low size capacity small 0 bs sound h f)
