-- Known parts of generations to which locators lead.
use Rattle.std.proofs.Common.{◌≡◌, ℕ, ◌+◌, Bool, true, false, List, length, map, get_or, Some, option_and_then, if◌then◌else◌, refl, sym, ap, subst, ◌∙◌, arith}
use Rattle.std.specs.Option.{is_some}
use Rattle.std.proofs.lemmas.Option.{same_Some, slice_get_read}
use Rattle.pli_map.specs.Description as tree
use Rattle.pli_map.specs.Description.{Description, FixedBinary}
use Rattle.pli_map.specs.Scalars.{first_scalar}
use Rattle.pli_map.specs.views.DescriptionView.{description_view}
use Rattle.pli_map.proofs.ScalarPlaces.{itself}
use Rattle.pli_run.specs.declared.ending.RunError.TheVariants.{DescriptionMismatch}
use Rattle.pli_value.specs.declared.locator.Locator.{Locator}
use Rattle.pli_value.specs.declared.locator.Locator.TheVariants.{Pointer}
use Rattle.pli_value.specs.Value.{Value}
use Rattle.pli_world.specs.Locating.{based, located, unless_other}
use Rattle.pli_world.specs.Storage as plain
use Rattle.pli_world.specs.Storage.{Place, field_of}
use Rattle.pli_world.specs.Targets.{Target, target_at, target_in}
use Rattle.pli_world.specs.Storage.{whole_at}
use Rattle.pli_world.specs.World.{World, Yields, Raises, further, held, led_on}
use Rattle.pli_world.specs.laws.OperationLaws.{led_near}
use Rattle.pli_store.specs.answers.Found.{LeadsTo, StandsAt}
use Rattle.pli_store.specs.answers.Known.{IsOutside, PutBy, ReadBy, StandsBy}
use Rattle.pli_store.specs.declared.generation.Generation.{Generation}
use Rattle.pli_store.specs.declared.known.KnownPart.{KnownPart}
use Rattle.pli_store.specs.declared.part.GenerationPart.{GenerationPart}
use Rattle.pli_store.specs.declared.storage.Storage.{Storage}
use Rattle.pli_store.specs.views.GenerationView.{generation_view}
use Rattle.pli_store.specs.views.StorageView.{ValuePut, storage_view, with_storage}
use Rattle.pli_store.proofs.PartAnswers.{number_found}
use Rattle.pli_store.proofs.PlaceLemmas.{is_number, is_pointer, leads_to, within_store}
use Rattle.pli_store.proofs.Searches.{stands_in_store, stands_in_view}
use Rattle.pli_world.specs.World.{unless_dead}

-- a locator leads to one generation
pub outside_at : (gs : List plain.Generation) (l : Locator) (d : Description) (number at : ℕ) (s : StandsAt gs number at) → l ≡ Pointer number 0
    → (o : (k : ℕ) × IsOutside gs l d k) → s.generation.description ≡ d
outside_at gs l d number at s is o =
    let same : number ≡ o.1.number = cc (is, o.1.is) in
    let found : s.generation ≡ o.1.stands.generation = same_Some s.generation o.1.stands.generation (sym s.found ∙ ap (plain.generation_in gs) same ∙ o.1.stands.found) in
    ap (λ (g : plain.Generation). g.description) found ∙ o.1.described

-- what stands in the list is what is read in the store
pub generation_described : (items : List Generation) (number at : ℕ) (s : StandsAt (map generation_view items) number at) (g : Generation) → g ≡ get_or items at g
    → s.generation.description ≡ (generation_view g).description
generation_described items number at s g read =
    let here = slice_get_read items (length items) at g refl (within_store items number at s) read in
    ap (λ (x : plain.Generation). x.description) (same_Some s.generation (generation_view g) (sym s.stands ∙ stands_in_view items at g here))

-- a part of as many binary digits as most have is a number of these
pub usual_part : (k : KnownPart) → k.usual ≡ true → description_view k.description.now ≡ FixedBinary 31
usual_part k usual = is_number (description_view k.description.now) 31 (λ e. cc) (sym (k.numeric usual).1)

-- and one that is a pointer is one
pub pointer_part : (k : KnownPart) → k.pointer ≡ true → description_view k.description.now ≡ tree.Pointer
pointer_part k pointer = is_pointer (description_view k.description.now) (k.pointing pointer).1

module _ (s : Storage) (k : KnownPart) (l : Locator) (at : ℕ) (o : IsOutside (storage_view s) l (description_view k.whole.now) at) where
  -- the place of the whole, and that of the part
  abbrev whole_place : Place
  whole_place = whole_at o.number 0 (description_view k.whole.now)

  abbrev pub part_place : Place
  part_place = field_of k.offset (description_view k.description.now) whole_place

  -- what lives there is the whole
  lives : target_at o.number 0 (storage_view s) ≡ Some (record { place = whole_place; made = o.stands.generation.made })
  lives =
      ap (option_and_then (target_in 0)) o.stands.found
      ∙ ap (λ n. Some (record { place = whole_at n 0 o.stands.generation.description; made = o.stands.generation.made })) (number_found (storage_view s) o.number o.stands.generation o.stands.found)
      ∙ ap (λ d. Some (record { place = whole_at o.number 0 d; made = o.stands.generation.made })) o.described

  pub leads_there : (w : World) → based (description_view k.whole.now) l (with_storage s w) ≡ Yields whole_place (with_storage s w)
  unfolding based located
  leads_there w =
      let d = description_view k.whole.now in
      let v = with_storage s w in
      let target : Target = record { place = whole_place; made = o.stands.generation.made } in
      ap (λ m. based d m v) o.is
      ∙ ap (λ t. further (further (unless_dead t v) (unless_other d)) (λ t w. Yields t.place w)) lives
      ∙ ap (λ b. further {A = Target} (if b then Yields target v else Raises DescriptionMismatch v) (λ t w. Yields t.place w)) (itself d)

  pub leads_on : (w : World) → led_on k.offset (description_view k.description.now) whole_place w ≡ Yields part_place w
  leads_on w = led_near k.offset (description_view k.description.now) whole_place w (omega (arith, k.near))

  -- the part's place leads to the part of the generation
  pub part_leads : (g : Generation) → g ≡ get_or s.generations.items at g → LeadsTo (storage_view s) part_place (record { at = at; offset = k.offset })
  part_leads g read =
      let items = s.generations.items in
      let here = slice_get_read items (length items) at g refl (within_store items o.number at o.stands) read in
      let whole = description_view k.whole.now in
      let part = description_view k.description.now in
      let described : (generation_view g).description ≡ whole = sym (generation_described items o.number at o.stands g read) ∙ o.described in
      let begins : 0 + k.offset ≡ k.offset = omega arith in
      subst (λ n. LeadsTo (storage_view s) part_place (record { at = at; offset = n })) begins
      (leads_to items part_place at o.stands refl g here
      (ap (λ d. is_some (first_scalar d (0 + k.offset) part)) described ∙ ap (λ n. is_some (first_scalar whole n part)) begins ∙ k.stands))

  -- what it holds is read by the locator
  pub read_by : (v : Value) → ((w : World) → held part_place (with_storage s w) ≡ Yields v (with_storage s w)) → ReadBy s l k v
  read_by v holds = record { whole = whole_place; part = part_place; leads = leads_there; led = leads_on; holds = holds }

  -- the part's place leads there
  pub part_stands : LeadsTo (storage_view s) part_place (record { at = at; offset = k.offset })
  part_stands =
      let items = s.generations.items in
      let found = stands_in_store items at o.stands.generation o.stands.stands in
      let g = found.0 in
      let whole = description_view k.whole.now in
      let part = description_view k.description.now in
      let described : (generation_view g).description ≡ whole =
      ap (λ (x : plain.Generation). x.description) (sym (same_Some o.stands.generation (generation_view g) (sym o.stands.stands ∙ stands_in_view items at g found.1))) ∙ o.described in
      let begins : 0 + k.offset ≡ k.offset = omega arith in
      subst (λ n. LeadsTo (storage_view s) part_place (record { at = at; offset = n })) begins
      (leads_to items part_place at o.stands refl g found.1
      (ap (λ d. is_some (first_scalar d (0 + k.offset) part)) described ∙ ap (λ n. is_some (first_scalar whole n part)) begins ∙ k.stands))

  pub stands_by : StandsBy s l k (record { at = at; offset = k.offset })
  stands_by = record { whole = whole_place; part = part_place; leads = leads_there; led = leads_on; described = refl; there = part_stands }

-- what is put there is put by the locator
pub put_by : (b : Bool) (old new : Storage) (l : Locator) (k : KnownPart) (stands : GenerationPart) (s : StandsBy old l k stands) (v : Value) → ValuePut b old new s.part v → PutBy b old new l k v
put_by true old new l k stands s v put = record { whole = s.whole; part = s.part; leads = s.leads; led = s.led; puts = put }
put_by false old new l k stands s v same = same
