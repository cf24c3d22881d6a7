-- What ends of generations leave.
use Rattle.std.proofs.Common.{◌≡◌, ℕ, suc, ◌+◌, ◌≤◌, true, List, [], ◌∷◌, ◌++◌, length, map, take, drop, get_or, Some, None, slice_get, refl, sym, ap, ◌∙◌}
use Rattle.std.specs.List.{remove}
use Rattle.std.proofs.lemmas.List.{map-append, take-map, drop-map}
use Rattle.std.proofs.lemmas.Option.{same_Some, none-some, slice_get_read}
use Rattle.pli_map.specs.Sizes.{size_of}
use Rattle.pli_world.specs.Storage as plain
use Rattle.pli_world.specs.Storage.{generation_in, without, live_bytes}
use Rattle.pli_store.specs.answers.Found.{StandsAt}
use Rattle.pli_store.specs.answers.Kept.{rise}
use Rattle.pli_store.specs.declared.generation.Generation.{Generation}
use Rattle.pli_store.specs.views.GenerationView.{generation_view}
use Rattle.pli_store.proofs.PlaceLemmas.{within_store}
use Rattle.pli_store.proofs.PartAnswers.{number_found}
use Rattle.pli_store.proofs.RisingNumbers.{all_kept, ended_at, live_ended, rise_ended, size_at, found_at}
use Rattle.pli_store.proofs.Searches.{stands_in_view}

map_remove : {X Y : Type 0} (f : X → Y) (xs : List X) (i : ℕ) → map f (remove xs i) ≡ remove (map f xs) i
map_remove f xs i =
    map-append f (take i xs) (drop (suc i) xs)
    ∙ ap (λ l. l ++ map f (drop (suc i) xs)) (sym (take-map f i xs))
    ∙ ap (λ l. take i (map f xs) ++ l) (sym (drop-map f (suc i) xs))

module _ (items : List Generation) (to : ℕ) (r : rise 0 (map generation_view items) to ≡ true) (number at : ℕ)
    (s : StandsAt (map generation_view items) number at) (g : Generation) (read : g ≡ get_or items at g) where
  there : slice_get (map generation_view items) at ≡ Some (generation_view g)
  there =
      stands_in_view items at g
      (slice_get_read items (length items) at g refl (within_store items number at s) read)

  pub ended_size : size_of (generation_view g).description ≤ live_bytes (map generation_view items)
  ended_size = size_at (map generation_view items) at (generation_view g) there

  pub ended_live : live_bytes (map generation_view (remove items at)) + size_of (generation_view g).description ≡ live_bytes (map generation_view items)
  ended_live =
      ap (λ l. live_bytes l + size_of (generation_view g).description) (map_remove generation_view items at)
      ∙ live_ended (map generation_view items) at (generation_view g) there

  pub ended_rise : rise 0 (map generation_view (remove items at)) to ≡ true
  ended_rise =
      ap (λ l. rise 0 l to) (map_remove generation_view items at) ∙ rise_ended 0 (map generation_view items) to at (generation_view g) there r

  pub ended_view : map generation_view (remove items at) ≡ without (number ∷ []) (map generation_view items)
  ended_view =
      let same_number : (generation_view g).number ≡ number =
      ap (λ (x : plain.Generation). x.number) (same_Some (generation_view g) s.generation (sym there ∙ s.stands))
      ∙ number_found (map generation_view items) number s.generation s.found in
      map_remove generation_view items at
      ∙ sym (ended_at 0 (map generation_view items) to at (generation_view g) r there)
      ∙ ap (λ n. without (n ∷ []) (map generation_view items)) same_number

-- where none of the number lives
pub none_ended : (gs : List plain.Generation) (to number : ℕ) → rise 0 gs to ≡ true → generation_in gs number ≡ None → without (number ∷ []) gs ≡ gs
none_ended gs to number r none =
    all_kept gs number (λ at g h same. none-some g (sym none ∙ ap (generation_in gs) (sym same) ∙ found_at 0 gs to at g r h))
