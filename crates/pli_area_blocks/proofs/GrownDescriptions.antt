-- Descriptions keep their numbers where there are more, and blocks say what they said.
use Rattle.std.proofs.Common.{◌≡◌, ◌<◌, ℕ, zero, suc, Bor, List, [], ◌∷◌, ◌++◌, length, map, get_or, option_map, refl, sym, ap, ◌∙◌, arith, length-append}
use Rattle.std.proofs.lemmas.Option.{slice_get-map, slice_get-get_or, get_or_from_slice_get}
use Rattle.pli_area.specs.Areas as area
use Rattle.pli_bytes.specs.Contents.{values_of}
use Rattle.pli_map.specs.Description.{Description, FixedBinary}
use Rattle.pli_map.specs.Sizes.{size_of}
use Rattle.pli_map.specs.declared.description.Description.{Description as CodeDescription}
use Rattle.pli_map.specs.views.DescriptionView.{description_view}
use Rattle.pli_world.specs.Storage.{Block}
use Rattle.pli_area_blocks.specs.answers.Known.{IsGrown, IsKnown, AreKnown}
use Rattle.pli_area_blocks.specs.views.BlocksView.{block_view, described, wholes}
use Rattle.pli_area_blocks.proofs.ViewedBlocks.{cons_known, first_known, none_known, rest_known}

-- ---- a description by its number

pub described_first : (ds more : List Description) (n : ℕ) → n < length ds → described (ds ++ more) n ≡ described ds n
described_first [] more n inside = absurd (omega (arith, inside))
described_first (d ∷ ds) more zero inside = refl
described_first (d ∷ ds) more (suc n) inside = described_first ds more n (omega (arith, inside))

pub described_last : (ds : List Description) (d : Description) → described (ds ++ d ∷ []) (length ds) ≡ d
described_last [] d = refl
described_last (e ∷ ds) d = described_last ds d

pub described_read : (ds : List (Bor CodeDescription)) (n : ℕ) (x : Bor CodeDescription) → n < length ds
    → described (wholes ds) n ≡ description_view (get_or ds n x).now
described_read ds n x inside =
    get_or_from_slice_get (wholes ds) n (description_view (get_or ds n x).now) (FixedBinary 0)
    (slice_get-map (λ (d : Bor CodeDescription). description_view d.now) ds n
    ∙ ap (option_map (λ (d : Bor CodeDescription). description_view d.now)) (slice_get-get_or ds n x inside))

-- ---- blocks

module _ (ds new : List Description) (grown : IsGrown ds new) where
  kept : (n : ℕ) → n < length ds → described new n ≡ described ds n
  kept n inside = ap (λ l. described l n) grown.new_is ∙ described_first ds grown.more n inside

  one_grown : (b : area.Block) → IsKnown ds b → IsKnown new b
  one_grown b known =
      let inside = known.0 in
      let count = ap length grown.new_is ∙ length-append ds grown.more in
      (omega (arith, inside, count), known.1 ∙ ap size_of (sym (kept b.description inside)), known.2)

  pub known_grown : (bs : List area.Block) → AreKnown ds bs → AreKnown new bs
  known_grown [] known = none_known new
  known_grown (b ∷ bs) known =
      cons_known new b bs (one_grown b (first_known ds b bs known)) (known_grown bs (rest_known ds b bs known))

  pub view_grown : (bs : List area.Block) → AreKnown ds bs → map (block_view new) bs ≡ map (block_view ds) bs
  view_grown [] known = refl
  view_grown (b ∷ bs) known =
      let same = kept b.description (first_known ds b bs known).0 in
      ap (λ d. (let c : Block = record { position = b.position; description = d; values = values_of d b.bytes } in c) ∷ map (block_view new) bs) same
      ∙ ap (λ cs. block_view ds b ∷ cs) (view_grown bs (rest_known ds b bs known))
