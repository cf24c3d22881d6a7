-- What is read and written in a block, and what that leaves of an area's fields.
use Rattle.std.proofs.Common.{◌≡◌, ℕ, ◌+◌, ◌*◌, ◌%◌, ◌≤◌, ◌⊎◌, Bool, List, [], length, take, drop, refl, sym, ap, ◌∙◌, subst, arith, inl, inr}
use Rattle.std.specs.Option.{option_map_or}
use Rattle.pli_region.specs.Words.{word_at, overwritten}
use Rattle.pli_holes.specs.Holes.{Leads, LieWithin, Spells}
use Rattle.pli_holes.proofs.LeadLemmas.{leads_kept}
use Rattle.pli_holes.proofs.WordLemmas.{changes_over, count_over, word_kept}
use Rattle.pli_area.specs.Areas.{Block, HasBytes, rounded, start_of, extent, holes_from, with_bytes, bytes_at}
use Rattle.pli_area.specs.Held.{AreHeld, IsHeld}
use Rattle.pli_area.specs.views.AreaView.{blocks_from}
use Rattle.pli_area.proofs.BlockBytes.{count_written, end_written, holes_written, part_of_part, stand_written, written}
use Rattle.pli_area.proofs.BlockHoles.{StandsAt, block_apart, same_apart}
use Rattle.pli_area.proofs.MarkLemmas.{mark_of}
use Rattle.pli_area.proofs.HeldLemmas.{block_stands}

module _ {bytes : List ℕ} {marks : List Bool} {first end count : ℕ} (held : IsHeld bytes marks first end count) (position at few : ℕ) (has : HasBytes (blocks_from bytes 0 marks) position at few) where
  has_stands : StandsAt 0 has.block position (extent (blocks_from bytes 0 marks))
  has_stands = block_stands held position has.block has.found

  pub part_inside : position + at + few ≤ length bytes
  part_inside =
      let here = has_stands.here in
      let high = has_stands.high in
      let within = held.within in
      let fits = has.within in
      omega (arith, here, high, within, fits)

  pub part_read : take few (drop (position + at) bytes) ≡ bytes_at (blocks_from bytes 0 marks) position at few
  part_read =
      let m = mark_of bytes 0 marks position has.block has.found in
      let here = m.here in
      let stands = has_stands.here in
      let high = has_stands.high in
      let within = held.within in
      let fits : at + few ≤ word_at bytes (0 + 8 * m.number + 4) = subst (λ (b : Block). at + few ≤ b.size) (sym m.block) has.within in
      let inside : 0 + 8 * m.number + 8 + word_at bytes (0 + 8 * m.number + 4) ≤ length bytes = subst (λ (b : Block). b.position + b.size ≤ length bytes) (sym m.block) (omega (arith, high, within)) in
      ap (λ p. take few (drop (p + at) bytes)) here
      ∙ part_of_part bytes (0 + 8 * m.number + 8) (word_at bytes (0 + 8 * m.number + 4)) at few fits inside
      ∙ ap (λ (b : Block). take few (drop at b.bytes)) m.block
      ∙ sym (ap (λ o. option_map_or (λ (b : Block). take few (drop at b.bytes)) o []) has.found)

module _ {bytes : List ℕ} {marks : List Bool} {first end count : ℕ} (held : IsHeld bytes marks first end count) (position at : ℕ) (new : List ℕ) (has : HasBytes (blocks_from bytes 0 marks) position at (length new)) where
  pub written_blocks : blocks_from (overwritten bytes (position + at) new) 0 marks ≡ with_bytes (blocks_from bytes 0 marks) position at new
  written_blocks = written bytes at new 0 0 marks position has.block held.stand held.within has.found has.within

  pub written_count : length (overwritten bytes (position + at) new) ≡ length bytes
  written_count = count_over bytes (position + at) new (part_inside held position at (length new) has)

  other_words : (q : ℕ) → (q + 4 ≤ start_of has.block) ⊎ (start_of has.block + (8 + rounded has.block.size) ≤ q) → word_at (overwritten bytes (position + at) new) q ≡ word_at bytes q
  other_words q side = word_kept (changes_over bytes (position + at) new (part_inside held position at (length new) has)) q (by side)
    where
      by : (q + 4 ≤ start_of has.block) ⊎ (start_of has.block + (8 + rounded has.block.size) ≤ q) → (q + 4 ≤ position + at) ⊎ (position + at + length new ≤ q)
      by (inl before) =
          let here = (block_stands held position has.block has.found).here in
          inl (omega (arith, here, before))
      by (inr after) =
          let here = (block_stands held position has.block has.found).here in
          let low = (block_stands held position has.block has.found).low in
          let fits = has.within in
          inr (omega (arith, here, low, after, fits))

  spells : Spells (overwritten bytes (position + at) new) first (holes_from 0 (length bytes) (blocks_from bytes 0 marks))
  spells = record {
    leads = subst (Leads (word_at (overwritten bytes (position + at) new)) first (holes_from 0 (length bytes) (blocks_from bytes 0 marks))) (sym written_count)
        (leads_kept (word_at bytes) (word_at (overwritten bytes (position + at) new)) first (holes_from 0 (length bytes) (blocks_from bytes 0 marks)) (length bytes)
        (same_apart (word_at bytes) (word_at (overwritten bytes (position + at) new)) (start_of has.block) (8 + rounded has.block.size) 0 (holes_from 0 (length bytes) (blocks_from bytes 0 marks)) (length bytes)
        (block_apart 0 (length bytes) (blocks_from bytes 0 marks) position has.block refl held.aligned held.stand held.within has.found) held.spelled.lie other_words)
        held.spelled.leads);
    lie = subst (LieWithin 0 (holes_from 0 (length bytes) (blocks_from bytes 0 marks))) (sym written_count) held.spelled.lie;
  }

  pub written_held : IsHeld (overwritten bytes (position + at) new) marks first end count
  written_held =
      let n = written_count in
      let ends = end_written 0 (blocks_from bytes 0 marks) position at new in
      subst (λ bs. AreHeld bs (overwritten bytes (position + at) new) marks first end count) (sym written_blocks) (record {
        aligned = subst (λ n. n % 8 ≡ 0) (sym n) held.aligned;
        small = let s = held.small in omega (arith, n, s);
        marked = let m = held.marked in omega (arith, m, n);
        stand = stand_written 0 (blocks_from bytes 0 marks) position at new has.block held.stand has.found has.within;
        within = let w = held.within in omega (arith, ends, w, n);
        spelled = subst (Spells (overwritten bytes (position + at) new) first) (sym (ap (λ c. holes_from 0 c (with_bytes (blocks_from bytes 0 marks) position at new)) n ∙ holes_written 0 (length bytes) (blocks_from bytes 0 marks) position at new)) spells;
        ends = held.ends ∙ sym ends;
        counted = held.counted ∙ sym (count_written (blocks_from bytes 0 marks) position at new);
      })
