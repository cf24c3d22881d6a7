-- Blocks of one generation of the store changed.
use Rattle.std.proofs.Common.{◌≡◌, ◌<◌, ℕ, true, Option, None, Result, Ok, Err, IfOk, OnErr, List, length, map, set, get_or, Some, slice_get, refl, sym, ap, ◌∙◌, subst}
use Rattle.std.proofs.lemmas.List.{map-set}
use Rattle.std.proofs.lemmas.Option.{same_Some, slice_get_read}
use Rattle.pli_map.specs.Scalars.{is_area}
use Rattle.pli_world.specs.Storage as plain
use Rattle.pli_world.specs.Storage.{Block, Place, live_bytes, with_blocks}
use Rattle.pli_store.specs.answers.Blocks.{AreaStands, BlocksChanged, OthersStay}
use Rattle.pli_store.specs.answers.Kept.{rise}
use Rattle.pli_store.specs.declared.generation.Generation.{Generation}
use Rattle.pli_store.specs.views.GenerationView.{generation_view}
use Rattle.pli_store.proofs.AreaAnswers.{whole_is_area}
use Rattle.pli_store.proofs.PartAnswers.{Kept, number_found}
use Rattle.pli_store.proofs.RisingNumbers.{blocks_changed_at, live_changed, rise_changed}
use Rattle.pli_store.proofs.Searches.{set_same, slice_get_within_view, stands_in_view}

-- a generation with these blocks
abbrev having : plain.Generation → List Block → plain.Generation
having g bs = record g { blocks = bs }

-- nothing but blocks has changed where they have changed so
pub others_of : (old new : Generation) (change : List Block → List Block) → BlocksChanged old new change → OthersStay old new
others_of old new change c =
    record { says = c.says ∙ ap (having (generation_view old)) (sym (ap (λ (x : plain.Generation). x.blocks) c.says)) }

-- and they have changed so where they are so
pub changed_to : (old new : Generation) (change : List Block → List Block) → OthersStay old new
    → (generation_view new).blocks ≡ change (generation_view old).blocks → BlocksChanged old new change
changed_to old new change o is = record { says = o.says ∙ ap (having (generation_view old)) is }

-- an option that is nothing
pub nothing_there : {X : Type 0} (o : Option X) → ((x : X) → o ≡ Some x → ⊥) → o ≡ None
nothing_there None none = refl
nothing_there (Some x) none = absurd (none x refl)

-- other blocks that are equal to these
pub other_blocks : (old new : Generation) (bs cs : List Block) → BlocksChanged old new (λ _. bs) → bs ≡ cs → BlocksChanged old new (λ _. cs)
other_blocks old new bs cs c same = record { says = c.says ∙ ap (having (generation_view old)) same }

-- nothing but blocks has changed where nothing has, and where a block is placed or none fits
pub same_others : (old new : Generation) → generation_view new ≡ generation_view old → OthersStay old new
same_others old new same = record { says = same ∙ ap (having (generation_view old)) (sym (ap (λ (x : plain.Generation). x.blocks) same)) }

pub placed_others : {E : Type 0} (old new : Generation) (r : Result (Option ℕ) E) (change : Option ℕ → List Block → List Block)
    → IfOk r (λ position. BlocksChanged old new (change position)) → OnErr r (generation_view new ≡ generation_view old) → OthersStay old new
placed_others old new (Ok position) change placed same = others_of old new (change position) placed
placed_others old new (Err e) change placed same = same_others old new same

module _ (items : List Generation) (at : ℕ) (g changed : Generation) (here : slice_get items at ≡ Some g) where
  there : slice_get (map generation_view items) at ≡ Some (generation_view g)
  there = stands_in_view items at g here

  pub nothing_said : generation_view changed ≡ generation_view g → map generation_view (set items at changed) ≡ map generation_view items
  nothing_said e =
      map-set generation_view items at changed ∙ ap (set (map generation_view items) at) e
      ∙ set_same (map generation_view items) at (generation_view g) there

  module _ (to : ℕ) (r : rise 0 (map generation_view items) to ≡ true) where
    pub blocks_kept : OthersStay g changed → Kept (map generation_view items) (map generation_view (set items at changed)) to
    blocks_kept o =
        let gs = map generation_view items in
        let view = map-set generation_view items at changed in
        record {
          rising = subst (λ l. rise 0 l to ≡ true) (sym view)
              (rise_changed 0 gs to at (generation_view g) (generation_view changed) (ap (λ (x : plain.Generation). x.number) o.says) there r);
          counted =
              ap live_bytes view
              ∙ live_changed gs at (generation_view g) (generation_view changed) (ap (λ (x : plain.Generation). x.description) o.says) there;
        }

    pub blocks_said : (change : List Block → List Block) → BlocksChanged g changed change → (number : ℕ) → (generation_view g).number ≡ number
        → map generation_view (set items at changed) ≡ with_blocks (map generation_view items) number change
    blocks_said change c number same =
        let gs = map generation_view items in
        map-set generation_view items at changed ∙ ap (set gs at) c.says ∙ sym (blocks_changed_at 0 gs to at (generation_view g) change r there)
        ∙ ap (λ n. with_blocks gs n change) same

-- the area that stands there
module _ (items : List Generation) (p : Place) (at : ℕ) (s : AreaStands (map generation_view items) p at) where
  pub area_inside : at < length items
  area_inside = slice_get_within_view items at s.generation s.stands

  module _ (g : Generation) (read : g ≡ get_or items at g) where
    pub area_here : slice_get items at ≡ Some g
    area_here = slice_get_read items (length items) at g refl area_inside read

    pub area_is : s.generation ≡ generation_view g
    area_is = same_Some s.generation (generation_view g) (sym s.stands ∙ stands_in_view items at g area_here)

    pub area_number : (generation_view g).number ≡ p.generation
    area_number = number_found (map generation_view items) p.generation (generation_view g) (s.found ∙ ap Some area_is)

    pub area_described : is_area (generation_view g).description ≡ true
    area_described = ap (λ (x : plain.Generation). is_area x.description) (sym area_is) ∙ whole_is_area s.generation p s.whole
