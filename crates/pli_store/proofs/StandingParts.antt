-- Parts that stand in the store: where, and what their bytes hold.
use Rattle.std.proofs.Common.{◌≡◌, ℕ, ◌+◌, ◌<◌, ◌≤◌, true, List, [], ◌∷◌, length, map, take, drop, get_or, Some, slice_get, refl, sym, ap, ◌∙◌, arith, length-drop}
use Rattle.std.proofs.lemmas.Option.{same_Some, slice_get_read}
use Rattle.std.proofs.lemmas.List.{length-take-le, take-take}
use Rattle.pli_bytes.specs.Contents.{bytes_from, value_in, values_of}
use Rattle.pli_bytes.proofs.PartsOfBytes.{part_bytes, part_values, same_values, scalar_read}
use Rattle.pli_map.specs.Description.{Description}
use Rattle.pli_map.specs.Scalars.{first_scalar, is_scalar, scalars_in}
use Rattle.pli_map.specs.Sizes.{size_of}
use Rattle.pli_world.specs.Storage as plain
use Rattle.pli_world.specs.Storage.{values_from, live_bytes}
use Rattle.pli_store.specs.answers.Found.{PartStands}
use Rattle.pli_store.specs.answers.Puts.{BytesStand}
use Rattle.pli_store.specs.declared.generation.Generation.{Generation}
use Rattle.pli_store.specs.declared.part.GenerationPart.{GenerationPart}
use Rattle.pli_store.specs.views.GenerationView.{generation_view}
use Rattle.pli_store.proofs.RisingNumbers.{size_at}
use Rattle.pli_store.proofs.Searches.{slice_get_within_view, stands_in_view, stands_in_store}

-- a part takes no more bytes than live
pub part_lives : (gs : List plain.Generation) (part : GenerationPart) (d : Description) → PartStands gs part d → size_of d ≤ live_bytes gs
part_lives gs part d s =
    omega (arith, part_bytes s.generation.description part.offset d s.scalar s.first, size_at gs part.at s.generation s.stands)

module _ (items : List Generation) (part : GenerationPart) (d : Description) (s : PartStands (map generation_view items) part d) where
  pub inside : part.at < length items
  inside = slice_get_within_view items part.at s.generation s.stands

  pub read_there : (g : Generation) → g ≡ get_or items part.at g → slice_get items part.at ≡ Some g
  read_there g read = slice_get_read items (length items) part.at g refl inside read

  module _ (g : Generation) (here : slice_get items part.at ≡ Some g) where
    pub generation_is : s.generation ≡ generation_view g
    generation_is = same_Some s.generation (generation_view g) (sym s.stands ∙ stands_in_view items part.at g here)

    pub first_is : first_scalar (generation_view g).description part.offset d ≡ Some s.scalar
    first_is = ap (λ (x : plain.Generation). first_scalar x.description part.offset d) (sym generation_is) ∙ s.first

    pub bytes_within : part.offset + size_of d ≤ length g.bytes.items
    bytes_within = omega (arith, part_bytes (generation_view g).description part.offset d s.scalar first_is, g.sized)

    pub held_there : is_scalar d ≡ true
        → values_from s.scalar 1 s.generation.values ≡ value_in g.bytes.items (record { offset = part.offset; description = d }) ∷ []
    held_there scalar =
        ap (λ (x : plain.Generation). values_from s.scalar 1 x.values) generation_is
        ∙ scalar_read (generation_view g).description part.offset d s.scalar g.bytes.items scalar first_is

    -- its bytes hold its values
    pub part_read : (bytes : List ℕ) → bytes ≡ bytes_from part.offset (size_of d) g.bytes.items
        → values_from s.scalar (scalars_in d) s.generation.values ≡ values_of d bytes
    part_read bytes is =
        let held = drop part.offset g.bytes.items in
        let all : take (size_of d) (take (size_of d) held) ≡ take (size_of d) held = take-take (size_of d) (size_of d) held (omega arith) in
        ap (λ (x : plain.Generation). values_from s.scalar (scalars_in d) x.values) generation_is
        ∙ part_values (generation_view g).description part.offset d s.scalar g.bytes.items first_is
        ∙ same_values d held bytes (sym (ap (take (size_of d)) is ∙ all))

    pub part_counted : (bytes : List ℕ) → bytes ≡ bytes_from part.offset (size_of d) g.bytes.items → length bytes ≡ size_of d
    part_counted bytes is =
        let within = bytes_within in
        ap length is ∙ length-take-le (size_of d) (drop part.offset g.bytes.items) (omega (arith, within, length-drop part.offset g.bytes.items))

  -- its bytes stand there, as many as its description takes
  pub bytes_stand : (size : ℕ) → size ≡ size_of d → BytesStand items part size
  bytes_stand size size_is =
      let found = stands_in_store items part.at s.generation s.stands in
      record {
        generation = found.0;
        stands = found.1;
        within = omega (arith, bytes_within found.0 found.1, size_is);
      }
