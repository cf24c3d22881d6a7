-- What a part of a block holds, and what is put there.
use Rattle.std.proofs.Common.{◌≡◌, ◌<◌, ◌≤◌, ◌^◌, ◌+◌, ℕ, Bool, true, false, nat_eq, if◌then◌else◌, Some, List, [], ◌∷◌, length, map, take, drop, append_assoc, sym, ap, ◌∙◌, arith}
use Rattle.std.specs.Option.{option_map_or}
use Rattle.std.proofs.lemmas.List.{take-take}
use Rattle.std.proofs.lemmas.Option.{none-some, same_Some}
use Rattle.pli_area.specs.Areas as area
use Rattle.pli_area.specs.Areas.{HasBytes, IsArea, Stand, overwritten, bytes_at}
use Rattle.pli_bytes.specs.Contents.{values_of}
use Rattle.pli_bytes.proofs.PartsOfBytes.{part_bytes, part_put, part_values, same_values}
use Rattle.pli_map.specs.Description.{Description}
use Rattle.pli_map.specs.Scalars.{first_scalar, scalars_in}
use Rattle.pli_map.specs.Sizes.{size_of}
use Rattle.pli_world.specs.Storage.{Block, values_from, with_block_values, with_values_at}
use Rattle.pli_area_blocks.specs.answers.Known.{IsKnown, AreKnown}
use Rattle.pli_area_blocks.specs.answers.Parts.{PartHolds, PartPut, PartStands}
use Rattle.pli_area_blocks.specs.views.BlocksView.{described, block_view}
use Rattle.pli_area_blocks.proofs.Options.{unmapped_one}
use Rattle.pli_area_blocks.proofs.ViewedBlocks.{block_at_view, known_at, known_written, put_view}

-- ---- blocks are no longer than their area

ends_above : (from : ℕ) (bs : List area.Block) → Stand from bs → from ≤ area.end_from from bs
ends_above from [] stand = omega arith
ends_above from (b ∷ bs) stand = let above = ends_above (area.end_of b) bs stand.3 in let low = stand.0 in omega (arith, above, low)

block_within : (from : ℕ) (bs : List area.Block) (p : ℕ) (b : area.Block) → Stand from bs → area.block_at bs p ≡ Some b → b.size ≤ area.end_from from bs
block_within from [] p b stand found = absurd (none-some b found)
block_within from (c ∷ cs) p b stand found =
    by (nat_eq c.position p) found (λ there. block_within (area.end_of c) cs p b stand.3 there)
  where
    by : (e : Bool) → (if e then Some c else area.block_at cs p) ≡ Some b
        → (area.block_at cs p ≡ Some b → b.size ≤ area.end_from (area.end_of c) cs) → b.size ≤ area.end_from (area.end_of c) cs
    by true here rest =
        let above = ends_above (area.end_of c) cs stand.3 in
        let size = ap (λ (x : area.Block). x.size) (same_Some c b here) in
        omega (arith, above, size)
    by false there rest = rest there

module _ (ds : List Description) (a : area.Blocks) (known : AreKnown ds a.blocks) (position offset : ℕ) (d : Description)
    (s : PartStands (map (block_view ds) a.blocks) position offset d) where
  -- the block in the area
  inner : (x : area.Block) × (area.block_at a.blocks position ≡ Some x) × (block_view ds x ≡ s.block)
  inner = unmapped_one (block_view ds) (area.block_at a.blocks position) s.block (sym s.found ∙ block_at_view ds a.blocks position)

  abbrev whole : Description
  whole = described ds inner.0.description

  is_known : IsKnown ds inner.0
  is_known = known_at ds a.blocks position inner.0 known inner.1

  first : first_scalar whole offset d ≡ Some s.scalar
  first = ap (λ (b : Block). first_scalar b.description offset d) inner.2 ∙ s.first

  within : offset + size_of d ≤ inner.0.size
  within =
      let inside = part_bytes whole offset d s.scalar first in
      let size = is_known.1 in
      omega (arith, inside, size)

  pub part_small : IsArea a → size_of d < 2 ^ 32
  part_small stands =
      let inside = within in
      let ends = block_within 0 a.blocks position inner.0 stands.stand inner.1 in
      let below = stands.within in
      let small = stands.small in
      omega (arith, inside, ends, below, small)

  pub part_there : HasBytes a.blocks position offset (size_of d)
  part_there = record { block = inner.0; found = inner.1; within = within }

  pub part_held : (bytes : List ℕ) → bytes ≡ bytes_at a.blocks position offset (size_of d)
      → PartHolds (map (block_view ds) a.blocks) position offset d (values_of d bytes)
  part_held bytes is =
      let held = drop offset inner.0.bytes in
      let read : bytes ≡ take (size_of d) held =
      is ∙ ap (λ o. option_map_or (λ (b : area.Block). take (size_of d) (drop offset b.bytes)) o []) inner.1 in
      let all : take (size_of d) (take (size_of d) held) ≡ take (size_of d) held =
      take-take (size_of d) (size_of d) held (omega arith) in
      record {
        there = s;
        held =
            ap (λ (b : Block). values_from s.scalar (scalars_in d) b.values) (sym inner.2)
            ∙ part_values whole offset d s.scalar inner.0.bytes first
            ∙ same_values d held bytes (sym (ap (take (size_of d)) read ∙ all));
      }

  module _ (bytes : List ℕ) (size : length bytes ≡ size_of d) where
    pub part_known : AreKnown ds (area.with_bytes a.blocks position offset bytes)
    part_known =
        let inside = within in
        known_written ds a.blocks position offset bytes inner.0 known inner.1 (omega (arith, inside, size))

    changed_values : values_of whole (overwritten inner.0.bytes offset bytes)
        ≡ with_values_at s.scalar (values_of d bytes) (values_of whole inner.0.bytes)
    changed_values =
        ap (values_of whole) (append_assoc (take offset inner.0.bytes) bytes (drop (offset + length bytes) inner.0.bytes))
        ∙ part_put whole offset d s.scalar bytes inner.0.bytes first size (is_known.2 ∙ is_known.1)

    pub part_is_put : (new : List area.Block) → new ≡ area.with_bytes a.blocks position offset bytes
        → PartPut (map (block_view ds) a.blocks) (map (block_view ds) new) position offset d (values_of d bytes)
    part_is_put new put = record {
      there = s;
      changed =
          ap (map (block_view ds)) put
          ∙ put_view ds a.blocks position offset bytes inner.0 (with_values_at s.scalar (values_of d bytes) (values_of whole inner.0.bytes))
          inner.1 changed_values
          ∙ ap (λ (b : Block). with_block_values (map (block_view ds) a.blocks) position (with_values_at s.scalar (values_of d bytes) b.values))
          inner.2;
    }
