-- What locators lead to, and what is answered of it.
use Rattle.std.proofs.Common.{◌≡◌, ℕ, true, false, nat_eq, ◌&&◌, Bor, Result, Ok, Err, if◌then◌else◌, refl, ap, ◌∙◌}
use Rattle.pli_run.specs.declared.ending.RunError.TheVariants.{DescriptionMismatch}
use Rattle.pli_map.specs.Description.{Description}
use Rattle.pli_map.specs.declared.description.Description.{Description as CodeDescription}
use Rattle.pli_map.specs.views.DescriptionView.{description_view}
use Rattle.pli_map.specs.Same.{same}
use Rattle.pli_map.specs.Variables.{Variable}
use Rattle.pli_store.specs.answers.Answered.{Answered}
use Rattle.pli_store.specs.answers.Blocks.{WholeUsed}
use Rattle.pli_store.specs.declared.fault.StoreFault.{StoreFault}
use Rattle.pli_store.specs.declared.fault.StoreFault.TheVariants.{Raised, NoRule, OutOfMemory}
use Rattle.pli_store.specs.declared.generation.Made.{Made as CodeMade}
use Rattle.pli_store.specs.declared.generation.Made.TheVariants as made
use Rattle.pli_store.specs.declared.living.Target.{Target as CodeTarget}
use Rattle.pli_store.specs.declared.place.Place as code
use Rattle.pli_store.specs.views.GenerationView.{made_view}
use Rattle.pli_store.specs.views.StorageView.{place_view, target_view}
use Rattle.pli_value.specs.declared.locator.Locator.{Locator}
use Rattle.pli_value.specs.declared.locator.Locator.TheVariants.{Pointer}
use Rattle.pli_world.specs.Storage.{Based, Place}
use Rattle.pli_world.specs.Targets.{Target, target_at}
use Rattle.pli_world.specs.World.{World, Answer, Yields, Raises, Wrong, further, made_of}
use Rattle.pli_world.specs.Locating.{unless_other, located, based, pointer_to, based_allocated, is_allocated, ended, based_freed, addressed}
use Rattle.pli_stacks.proofs.AnsweredCalls.{first_refused, second_decides}
use Rattle.pli_world.specs.World.{unless_dead}

pub unless_other_same : (d : Description) (t : Target) (w : World) → same t.place.description d ≡ true → unless_other d t w ≡ Yields t w
unless_other_same d t w e = rw e refl

pub unless_other_differs : (d : Description) (t : Target) (w : World) → same t.place.description d ≡ false
    → unless_other d t w ≡ Raises DescriptionMismatch w
unless_other_differs d t w e = rw e refl

-- ---- locators

module _ (d : Description) (number position : ℕ) (w : World) where
  pub located_dead : (f : StoreFault) → Answered target_view (Err f) w w (unless_dead (target_at number position w.storage) w)
      → Answered target_view (Err f) w w (located d (Pointer number position) w)
  unfolding located
  located_dead f answer =
      first_refused target_view target_view f w w w (unless_dead (target_at number position w.storage) w) (unless_other d) answer

  pub located_there : (t : CodeTarget) (r : Result CodeTarget StoreFault)
      → Answered target_view (Ok t) w w (unless_dead (target_at number position w.storage) w)
      → Answered target_view r w w (unless_other d (target_view t) w) → Answered target_view r w w (located d (Pointer number position) w)
  unfolding located
  located_there t r answer next =
      second_decides target_view target_view t r w w (unless_dead (target_at number position w.storage) w) (unless_other d) answer next

-- ---- BASED variables

-- what is done with what is freed
abbrev free : Target → World → Answer Unit
free t w = if is_allocated t.made then Yields tt (ended t.place w) else Raises DescriptionMismatch w

pub not_allocated : (m : CodeMade) → (m ≡ made.Based → ⊥) → is_allocated (made_view m) ≡ false
not_allocated made.Automatic other = refl
not_allocated made.Static other = refl
not_allocated made.Controlled other = refl
not_allocated made.Based other = absurd (other refl)
not_allocated made.Dummy other = refl

module _ (d : Description) (l : Locator) (w : World) where
  pub based_refused : (f : StoreFault) → Answered target_view (Err f) w w (located d l w) → Answered place_view (Err f) w w (based d l w)
  unfolding based
  based_refused f answer = first_refused target_view place_view f w w w (located d l w) _ answer

  pub based_there : (t : CodeTarget) → Answered target_view (Ok t) w w (located d l w) → based d l w ≡ Yields (place_view t.place) w
  unfolding based
  based_there t answer = ap (λ a. further a (λ x w. Yields x.place w)) answer

  pub freed_refused : (f : StoreFault) (after : World) → Answered target_view (Err f) w w (located d l w)
      → Answered {T = Unit {0}} (λ _. tt) (Err f) w after (based_freed d l w)
  unfolding based_freed
  freed_refused f after answer = first_refused {U = Unit {0}} target_view (λ _. tt) f w w after (located d l w) free answer

  pub freed_there : (t : CodeTarget) → Answered target_view (Ok t) w w (located d l w) → is_allocated (made_view t.made) ≡ true
      → based_freed d l w ≡ Yields tt (ended (place_view t.place) w)
  unfolding based_freed
  freed_there t answer made = ap (λ a. further a free) answer ∙ rw made refl

  pub freed_other : (t : CodeTarget) → Answered target_view (Ok t) w w (located d l w) → is_allocated (made_view t.made) ≡ false
      → based_freed d l w ≡ Raises DescriptionMismatch w
  unfolding based_freed
  freed_other t answer made = ap (λ a. further a free) answer ∙ rw made refl

module _ (v : Variable) (before after : World) where
  pub allocated_refused : (f : StoreFault) → Answered place_view (Err f) before after (made_of v.description Based v.initial before)
      → Answered {T = Locator} (λ l. l) (Err f) before after (based_allocated v before)
  unfolding based_allocated
  allocated_refused f answer =
      first_refused {U = Locator} place_view (λ l. l) f before after after (made_of v.description Based v.initial before) _ answer

  pub allocated_there : (p : code.Place) → Answered place_view (Ok p) before after (made_of v.description Based v.initial before)
      → based_allocated v before ≡ Yields (pointer_to (place_view p)) after
  unfolding based_allocated
  allocated_there p answer = ap (λ a. further a (λ q w. Yields (pointer_to q) w)) answer

-- ---- ADDR

module _ (p : Place) (w : World) where
  pub address_refused : (f : StoreFault) → WholeUsed p w (Err f) → Answered {T = Locator} (λ l. l) (Err f) w w (addressed p w)
  unfolding addressed
  address_refused (Raised e) u = rw u refl
  address_refused NoRule u = absurd u
  address_refused OutOfMemory u = tt

  module _ (d : Bor CodeDescription) (u : WholeUsed p w (Ok d)) where
    pub address_of_whole : (nat_eq p.offset 0 && same (description_view d.now) p.description) ≡ true → addressed p w ≡ Yields (pointer_to p) w
    unfolding addressed
    address_of_whole is = rw (u.1, ap (λ x. nat_eq p.offset 0 && same x p.description) u.2 ∙ is) refl

    pub address_of_part : (nat_eq p.offset 0 && same (description_view d.now) p.description) ≡ false → addressed p w ≡ Wrong
    unfolding addressed
    address_of_part part = rw (u.1, ap (λ x. nat_eq p.offset 0 && same x p.description) u.2 ∙ part) refl
