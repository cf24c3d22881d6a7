-- What stacks say, and what is answered of them.
use Rattle.std.proofs.Common.{◌≡◌, ◌<◌, ◌≤◌, ℕ, List, [], ◌∷◌, ◌++◌, Some, None, option_map, length, map, get_or, slice_get, slice_set, Err, refl, sym, ap, subst, ◌∙◌}
use Rattle.std.specs.Vec.{with_item}
use Rattle.std.proofs.lemmas.List.{map-set, reverse-append}
use Rattle.std.proofs.lemmas.Option.{slice_get-map, slice_get_read, slice_get_past}
use Rattle.pli_map.specs.Description.{Description}
use Rattle.pli_run.specs.declared.ending.RunError.TheVariants.{NoGeneration}
use Rattle.pli_store.proofs.Searches.{set_same}
use Rattle.pli_store.specs.answers.Answered.{Answered}
use Rattle.pli_store.specs.declared.fault.StoreFault.{StoreFault}
use Rattle.pli_store.specs.declared.kind.Handle.{Handle}
use Rattle.pli_store.specs.declared.storage.Storage.{Storage}
use Rattle.pli_store.specs.views.StorageView.{storage_view, made_count, with_storage}
use Rattle.pli_world.specs.Stacks.{with_places, newest, stacked, without_newest_of, unstacked, counted, counted_in}
use Rattle.pli_world.specs.Storage.{Controlled, Place, whole, without}
use Rattle.pli_world.specs.World.{Stack, World, Yields, Raises, Wrong, further, made_of, newest_in}
use Rattle.pli_stacks.specs.declared.stack.Stack.{Stack as CodeStack}
use Rattle.pli_stacks.specs.declared.stacks.Stacks.{Stacks}
use Rattle.pli_stacks.specs.views.StackView.{places_view, stack_view}
use Rattle.pli_stacks.specs.views.StacksView.{stacks_view, with_stacks}
use Rattle.pli_stacks.proofs.AnsweredCalls.{first_refused}

-- ---- places

-- a generation put after the others is the newest
pub newest_pushed : (d : Description) (generations : List Handle) (h : Handle)
    → places_view d (generations ++ h ∷ []) ≡ whole h.number d ∷ places_view d generations
newest_pushed d generations h = ap (map (λ (x : Handle). whole x.number d)) (reverse-append generations (h ∷ []))

-- the last of these is the newest, if there is one
pub newest_popped : (d : Description) (old new : List Handle) (h : Handle) → old ≡ new ++ h ∷ []
    → places_view d old ≡ whole h.number d ∷ places_view d new
newest_popped d old new h is = ap (places_view d) is ∙ newest_pushed d new h

module _ (s : Stacks) (number : ℕ) where
  pub stack_past : length s.stacks.items ≤ number → slice_get (stacks_view s) number ≡ None
  stack_past past = slice_get-map stack_view s.stacks.items number ∙ ap (option_map stack_view) (slice_get_past s.stacks.items number past)

  pub stack_read : (x : CodeStack) → number < length s.stacks.items → x ≡ get_or s.stacks.items number x
      → slice_get (stacks_view s) number ≡ Some (stack_view x)
  stack_read x inside read =
      slice_get-map stack_view s.stacks.items number
      ∙ ap (option_map stack_view) (slice_get_read s.stacks.items (length s.stacks.items) number x refl inside read)

  pub stacks_changed : (x : CodeStack)
      → stacks_view (record { stacks = with_item s.stacks number x }) ≡ slice_set (stacks_view s) number (stack_view x)
  stacks_changed x = map-set stack_view s.stacks.items number x

  pub stacks_same : (old new : CodeStack) → slice_get (stacks_view s) number ≡ Some (stack_view old) → stack_view new ≡ stack_view old
      → stacks_view (record { stacks = with_item s.stacks number new }) ≡ stacks_view s
  stacks_same old new there same =
      stacks_changed new ∙ ap (slice_set (stacks_view s) number) same ∙ set_same (stacks_view s) number (stack_view old) there

-- ---- operations on a stack that is there, or is not

module _ (number : ℕ) (w : World) (x : Stack) (there : slice_get w.stacks number ≡ Some x) where
  pub newest_there : newest number w ≡ newest_in x.places w
  unfolding newest
  newest_there = rw there refl

  pub counted_there : counted number w ≡ counted_in x.places w
  unfolding counted
  counted_there = rw there refl

  pub stacked_there : stacked number w
      ≡ further (made_of x.variable.description Controlled x.variable.initial w) (λ p u. Yields tt (with_places number x (p ∷ x.places) u))
  unfolding stacked
  stacked_there = rw there refl

  pub unstacked_there : unstacked number w ≡ without_newest_of number x x.places w
  unfolding unstacked
  unstacked_there = rw there refl

module _ (number : ℕ) (w : World) (none : slice_get w.stacks number ≡ None) where
  pub newest_nowhere : newest number w ≡ Wrong
  unfolding newest
  newest_nowhere = rw none refl

  pub counted_nowhere : counted number w ≡ Wrong
  unfolding counted
  counted_nowhere = rw none refl

  pub stacked_nowhere : stacked number w ≡ Wrong
  unfolding stacked
  stacked_nowhere = rw none refl

  pub unstacked_nowhere : unstacked number w ≡ Wrong
  unfolding unstacked
  unstacked_nowhere = rw none refl

-- ---- what changes

module _ (s : Stacks) (storage : Storage) (number : ℕ) (w : World) (old : CodeStack)
    (there : slice_get (stacks_view s) number ≡ Some (stack_view old)) where
  abbrev before : World
  before = with_stacks s (with_storage storage w)

  abbrev was : Stack
  was = stack_view old

  pub stacked_refused : {T : Type 0} (view : T → Place) (f : StoreFault) (after later : World)
      → Answered view (Err f) (with_storage storage (with_stacks s w)) after
      (made_of was.variable.description Controlled was.variable.initial (with_storage storage (with_stacks s w)))
      → Answered {T = Unit {0}} (λ _. tt) (Err f) (with_stacks s (with_storage storage w)) later (stacked number (with_stacks s (with_storage storage w)))
  stacked_refused view f after later made =
      subst (Answered {T = Unit {0}} (λ _. tt) (Err f) before later) (sym (stacked_there number before was there))
      (first_refused {U = Unit {0}} view (λ _. tt) f before after later (made_of was.variable.description Controlled was.variable.initial before)
      (λ p u. Yields tt (with_places number was (p ∷ was.places) u)) made)

  pub stacked_done : (later : Storage) (p : Place) (new : CodeStack) → stack_view new ≡ record was { places = p ∷ was.places }
      → made_of was.variable.description Controlled was.variable.initial (with_storage storage (with_stacks s w))
      ≡ Yields p (with_storage later (with_stacks s w))
      → stacked number (with_stacks s (with_storage storage w))
      ≡ Yields tt (with_stacks (record { stacks = with_item s.stacks number new }) (with_storage later w))
  stacked_done later p new pushed made =
      stacked_there number before was there
      ∙ ap (λ a. further a (λ q u. Yields tt (with_places number was (q ∷ was.places) u))) made
      ∙ ap (λ xs. Yields tt (record (with_storage later w) { stacks = xs }))
      (ap (slice_set (stacks_view s) number) (sym pushed) ∙ sym (stacks_changed s number new))

  pub unstacked_empty : was.places ≡ [] → unstacked number (with_stacks s (with_storage storage w)) ≡ Raises NoGeneration (with_stacks s (with_storage storage w))
  unstacked_empty empty =
      unstacked_there number before was there ∙ ap (λ ps. without_newest_of number was ps before) empty

  pub unstacked_done : (later : Storage) (ended : ℕ) (new : CodeStack) → was ≡ record (stack_view new) { places = whole ended (stack_view new).variable.description ∷ (stack_view new).places }
      → storage_view later ≡ without (ended ∷ []) (storage_view storage) → made_count later ≡ made_count storage
      → unstacked number (with_stacks s (with_storage storage w))
      ≡ Yields tt (with_stacks (record { stacks = with_item s.stacks number new }) (with_storage later w))
  unstacked_done later ended new popped ends count =
      unstacked_there number before was there
      ∙ ap (λ (x : Stack). without_newest_of number x x.places before) popped
      ∙ ap (λ gs. Yields tt (record (with_storage storage w) { storage = gs; stacks = slice_set (stacks_view s) number (stack_view new) })) (sym ends)
      ∙ ap (λ n. Yields tt (record (with_storage later w) { made = n; stacks = slice_set (stacks_view s) number (stack_view new) })) (sym count)
      ∙ ap (λ xs. Yields tt (record (with_storage later w) { stacks = xs })) (sym (stacks_changed s number new))
