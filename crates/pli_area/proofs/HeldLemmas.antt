-- Fields of an area: what they say of a position, and an area without blocks.
use Rattle.std.proofs.Common.{◌≡◌, ℕ, ◌+◌, ◌-◌, ◌*◌, ◌/◌, ◌%◌, ◌^◌, ◌<◌, ◌≤◌, Bool, true, false, ◌&&◌, nat_eq, nat_lt, List, [], length, replicate, get_or, Some, None, refl, sym, ap, ◌∙◌, subst, arith, rules, eq-eqb}
use Rattle.std.proofs.lemmas.Bool.{and_parts, eqb-true, ltb-true, lt-ltb}
use Rattle.std.proofs.lemmas.List.{places}
use Rattle.pli_holes.specs.Holes.{Spells, ChangesWithin}
use Rattle.pli_area.specs.Areas.{Block, Stand, rounded, start_of, end_of, extent, holes_from, hole_between, block_at}
use Rattle.pli_area.specs.Held.{AreHeld, IsHeld, is_marked}
use Rattle.pli_area.specs.views.AreaView.{block_from, blocks_from}
use Rattle.pli_area.proofs.BlockBytes.{Same}
use Rattle.pli_area.proofs.BlockHoles.{StandsAt, block_apart, outside_holes, stands_at}
use Rattle.pli_area.proofs.MarkLemmas.{absent, found, no_blocks}

-- ---- an area without blocks

pub created : (bytes : List ℕ) (marks : List Bool) (c first : ℕ) → length bytes ≡ c → c % 8 ≡ 0 → c < 2 ^ 32 → marks ≡ replicate (c / 8) false → Spells bytes first (hole_between 0 c []) → IsHeld bytes marks first 0 0
created bytes marks c first counts even small clear spelled =
    let none = ap (blocks_from bytes 0) clear ∙ no_blocks bytes 0 (c / 8) in
    subst (λ bs. AreHeld bs bytes marks first 0 0) (sym none) (record {
      aligned = omega (arith, counts, even);
      small = omega (arith, counts, small);
      marked = let n : length marks ≡ c / 8 = ap length clear ∙ search (rules, places) in omega (arith, n, counts, even);
      stand = tt;
      within = omega arith;
      spelled = subst (λ n. Spells bytes first (hole_between 0 n [])) (sym counts) spelled;
      ends = refl;
      counted = refl;
    })

-- ---- the mark of a position

-- a position whose header is marked
pub marked_at : (marks : List Bool) (position : ℕ) → is_marked marks position ≡ true → (position ≡ 8 * (position / 8 - 1) + 8) × (get_or marks (position / 8 - 1) false ≡ true)
marked_at marks position e =
    let both = and_parts (nat_eq (position % 8) 0 && nat_lt 0 position) (get_or marks (position / 8 - 1) false) e in
    let first = and_parts (nat_eq (position % 8) 0) (nat_lt 0 position) both.0 in
    let even = eqb-true (position % 8) 0 first.0 in
    let some = ltb-true 0 position first.1 in
    (omega (arith, even, some), both.1)

pub not_marked : (bytes : List ℕ) (marks : List Bool) (position : ℕ) → is_marked marks position ≡ false → block_at (blocks_from bytes 0 marks) position ≡ None
not_marked bytes marks position e = absent bytes 0 marks position (λ k here. by k here (omega (arith, here)))
  where
    by : (k : ℕ) → position ≡ 0 + 8 * k + 8 → position / 8 - 1 ≡ k → get_or marks k false ≡ false
    by k here number =
        let even : position % 8 ≡ 0 = omega (arith, here) in
        let some : 0 < position = omega (arith, here) in
        ap (λ n. get_or marks n false) (sym number) ∙ sym (rw (eq-eqb (position % 8) 0 even, lt-ltb 0 position some) refl) ∙ e

pub marked_block : (bytes : List ℕ) (marks : List Bool) (position : ℕ) → is_marked marks position ≡ true → block_at (blocks_from bytes 0 marks) position ≡ Some (block_from bytes (position - 8))
marked_block bytes marks position e =
    let m = marked_at marks position e in
    let here = m.0 in
    let start : position - 8 + 8 ≡ position = omega (arith, here) in
    subst (λ p. block_at (blocks_from bytes 0 marks) p ≡ Some (block_from bytes (position - 8))) start (found bytes 0 marks (position / 8 - 1) (position - 8) (omega (arith, here)) m.1)

-- where a block is, it stands within the bytes
pub block_stands : {bytes : List ℕ} {marks : List Bool} {first end count : ℕ} → IsHeld bytes marks first end count → (position : ℕ) (b : Block) → block_at (blocks_from bytes 0 marks) position ≡ Some b → StandsAt 0 b position (extent (blocks_from bytes 0 marks))
block_stands {bytes} {marks} held position b e = stands_at 0 (blocks_from bytes 0 marks) position b held.stand e

-- ---- bytes that are the same

-- those that a block covers, where only holes have changed
pub covered : (c : ℕ) (bs : List Block) (old new : List ℕ) → c % 8 ≡ 0 → Stand 0 bs → extent bs ≤ c → ChangesWithin (holes_from 0 c bs) old new → (position : ℕ) (b : Block) → block_at bs position ≡ Some b → Same old new (start_of b) (end_of b)
covered c bs old new even s within changes position b e k low high =
    let apart = block_apart 0 c bs position b refl even s within e in
    let above = (stands_at 0 bs position b s e).low in
    changes.kept k (outside_holes (start_of b) (8 + rounded b.size) k (holes_from 0 c bs) apart low (omega (arith, high, above)))
