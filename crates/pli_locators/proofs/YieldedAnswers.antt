-- What is so where a locator leads somewhere.
use Rattle.std.proofs.Common.{◌≡◌, ℕ, Bool, true, false, nat_eq, Option, Some, None, option_map, option_and_then, List, [], ◌∷◌, if◌then◌else◌, refl, sym, ap, ◌∙◌, eqb-true}
use Rattle.std.proofs.lemmas.Option.{same_Some, none-some}
use Rattle.pli_run.specs.declared.ending.RunError.TheVariants.{DescriptionMismatch}
use Rattle.pli_map.specs.Description.{Description}
use Rattle.pli_map.specs.Same.{same}
use Rattle.pli_store.proofs.PartAnswers.{number_found}
use Rattle.pli_value.specs.declared.locator.Locator.{Locator}
use Rattle.pli_value.specs.declared.locator.Locator.TheVariants.{Null, Pointer, Offset}
use Rattle.pli_world.specs.Storage.{Block, Generation, whole, block_at, generation_in}
use Rattle.pli_world.specs.World.{World, Answer, Yields, Raises, Wrong, further}
use Rattle.pli_world.specs.Targets.{Target, block_target, target_at, target_in}
use Rattle.pli_stacks.specs.laws.Operations.{IfYields}
use Rattle.pli_stacks.proofs.YieldedAnswers.{yields_guarded}
use Rattle.pli_world.specs.Locating.{pointer_to, unless_other, located}
use Rattle.pli_world.specs.World.{unless_dead}

-- a pointer leads to this, and the world stays
pub record IsTarget (l : Locator) (w : World) (t : Target) (v : World) : Type 0 where
  pub pointer : l ≡ pointer_to t.place
  pub same : v ≡ w

position_found : (bs : List Block) (position : ℕ) (b : Block) → block_at bs position ≡ Some b → b.position ≡ position
position_found [] position b h = absurd (none-some b h)
position_found (x ∷ bs) position b h = by (nat_eq x.position position) refl h (position_found bs position b)
  where
    by : (c : Bool) → nat_eq x.position position ≡ c → (if c then Some x else block_at bs position) ≡ Some b
        → (block_at bs position ≡ Some b → b.position ≡ position) → b.position ≡ position
    by true e found rest = ap (λ (y : Block). y.position) (sym (same_Some x b found)) ∙ eqb-true x.position position e
    by false e found rest = rest found

-- where something lives its pointer leads
target_pointer : (gs : List Generation) (number position : ℕ) (t : Target) → target_at number position gs ≡ Some t → Pointer number position ≡ pointer_to t.place
target_pointer gs number position t h = by (generation_in gs number) refl h
  where
    block : (g : Generation) (o : Option Block) → block_at g.blocks position ≡ o → g.number ≡ number → option_map (block_target g.number) o ≡ Some t
        → Pointer number position ≡ pointer_to t.place
    block g None e same found = absurd (none-some t found)
    block g (Some b) e same found =
        ap (λ n. Pointer n position) (sym same) ∙ ap (Pointer g.number) (sym (position_found g.blocks position b e))
        ∙ ap (λ (x : Target). pointer_to x.place) (same_Some (block_target g.number b) t found)

    at : (g : Generation) (c : Bool) → nat_eq position 0 ≡ c → g.number ≡ number
        → (if c then Some (record { place = whole g.number g.description; made = g.made }) else option_map (block_target g.number) (block_at g.blocks position)) ≡ Some t
        → Pointer number position ≡ pointer_to t.place
    at g true e same found =
        ap (λ n. Pointer n position) (sym same) ∙ ap (Pointer g.number) (eqb-true position 0 e)
        ∙ ap (λ (x : Target). pointer_to x.place) (same_Some (record { place = whole g.number g.description; made = g.made }) t found)
    at g false e same found = block g (block_at g.blocks position) refl same found

    by : (o : Option Generation) → generation_in gs number ≡ o → option_and_then (target_in position) o ≡ Some t → Pointer number position ≡ pointer_to t.place
    by None e found = absurd (none-some t found)
    by (Some g) e found = at g (nat_eq position 0) refl (number_found gs number g e) found

pub yields_located : (d : Description) (l : Locator) (w : World) → IfYields (located d l w) (IsTarget l w)
unfolding located
yields_located d Null w = tt
yields_located d (Pointer number position) w = by (target_at number position w.storage) refl
  where
    by : (o : Option Target) → target_at number position w.storage ≡ o
        → IfYields (further (unless_dead o w) (unless_other d)) (IsTarget (Pointer number position) w)
    by None e = tt
    by (Some t) e =
        yields_guarded (same t.place.description d) (Yields t w) (Raises DescriptionMismatch w) (IsTarget (Pointer number position) w)
        (record { pointer = target_pointer w.storage number position t e; same = refl }) tt
yields_located d (Offset position) w = tt

-- an operation, whatever it gives
pub yields_always : {A : Type 0} (a : Answer A) → IfYields a (λ x w. Unit {0})
yields_always (Yields x w) = tt
yields_always (Raises e w) = tt
yields_always Wrong = tt
