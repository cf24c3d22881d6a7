-- What lives at a position of a generation of the store.
use Rattle.std.proofs.Common.{◌≡◌, ℕ, Bool, true, false, nat_eq, None, Some, option_map, option_and_then, if◌then◌else◌, List, [], ◌∷◌, length, map, get_or, refl, sym, ap, ◌∙◌, eq-eqb, eqb-true, ne_eqb, ◌≢◌}
use Rattle.std.proofs.lemmas.Option.{none-some, same_Some, slice_get_read}
use Rattle.pli_area_blocks.proofs.Options.{unmapped_nothing, unmapped_one}
use Rattle.pli_map.specs.Description.{Description}
use Rattle.pli_world.specs.Storage as plain
use Rattle.pli_world.specs.Storage.{Based, Block, block_at}
use Rattle.pli_world.specs.Targets.{block_target, target_at, target_in}
use Rattle.pli_world.specs.Storage.{whole_at}
use Rattle.pli_store.specs.answers.Found.{StandsAt}
use Rattle.pli_store.specs.declared.generation.Generation.{Generation}
use Rattle.pli_store.specs.views.GenerationView.{generation_view}
use Rattle.pli_store.proofs.PartAnswers.{number_found}
use Rattle.pli_store.proofs.PlaceLemmas.{stored_one, within_store}

position_found : (bs : List Block) (position : ℕ) (b : Block) → block_at bs position ≡ Some b → b.position ≡ position
position_found [] position b h = absurd (none-some b h)
position_found (x ∷ bs) position b h = by (nat_eq x.position position) refl h (position_found bs position b)
  where
    by : (c : Bool) → nat_eq x.position position ≡ c → (if c then Some x else block_at bs position) ≡ Some b
        → (block_at bs position ≡ Some b → b.position ≡ position) → b.position ≡ position
    by true e found rest = ap (λ (y : Block). y.position) (sym (same_Some x b found)) ∙ eqb-true x.position position e
    by false e found rest = rest found

module _ (items : List Generation) (number position at : ℕ) (s : StandsAt (map generation_view items) number at) (g : Generation) (read : g ≡ get_or items at g) where
  found : plain.generation_in (map generation_view items) number ≡ Some (generation_view g)
  found = stored_one items number at g s (slice_get_read items (length items) at g refl (within_store items number at s) read)

  same_number : (generation_view g).number ≡ number
  same_number = number_found (map generation_view items) number (generation_view g) found

  at_generation : target_at number position (map generation_view items) ≡ target_in position (generation_view g)
  at_generation = ap (option_and_then (target_in position)) found

  pub generation_target : position ≡ 0 → Some (record { place = whole_at number 0 (generation_view g).description; made = (generation_view g).made })
      ≡ target_at number position (map generation_view items)
  generation_target outside =
      ap (λ n. Some (record { place = whole_at n 0 (generation_view g).description; made = (generation_view g).made })) (sym same_number)
      ∙ sym (at_generation ∙ rw (eq-eqb position 0 outside) refl)

  module _ (inside : position ≢ 0) where
    at_block : target_at number position (map generation_view items) ≡ option_map (block_target (generation_view g).number) (block_at (generation_view g).blocks position)
    at_block = at_generation ∙ rw (ne_eqb position 0 inside) refl

    pub no_block_target : None ≡ option_map (λ (b : Block). b.description) (block_at (generation_view g).blocks position)
        → None ≡ target_at number position (map generation_view items)
    no_block_target none =
        sym (at_block ∙ ap (option_map (block_target (generation_view g).number))
        (unmapped_nothing (λ (b : Block). b.description) (block_at (generation_view g).blocks position) none))

    pub block_target_there : (d : Description) → Some d ≡ option_map (λ (b : Block). b.description) (block_at (generation_view g).blocks position)
        → Some (record { place = whole_at number position d; made = Based }) ≡ target_at number position (map generation_view items)
    block_target_there d there =
        let b = unmapped_one (λ (b : Block). b.description) (block_at (generation_view g).blocks position) d there in
        ap (λ n. Some (record { place = whole_at n position d; made = Based })) (sym same_number)
        ∙ ap (λ k. Some (record { place = whole_at (generation_view g).number k d; made = Based })) (sym (position_found (generation_view g).blocks position b.0 b.1))
        ∙ ap (λ e. Some (record { place = whole_at (generation_view g).number b.0.position e; made = Based })) (sym b.2)
        ∙ sym (at_block ∙ ap (option_map (block_target (generation_view g).number)) b.1)

-- without the generation nothing lives there
pub no_target : (gs : List plain.Generation) (number position : ℕ) → plain.generation_in gs number ≡ None → None ≡ target_at number position gs
no_target gs number position none = sym (ap (option_and_then (target_in position)) none)
