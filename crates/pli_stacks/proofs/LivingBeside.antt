-- What lives beside stays as it is.
use Rattle.std.proofs.Common.{◌≡◌, ◌≢◌, ℕ, zero, suc, Some, List, [], ◌∷◌, slice_get, slice_set, refl, sym, ap, subst, ◌∙◌}
use Rattle.std.proofs.lemmas.Option.{none-some}
use Rattle.pli_map.specs.Description.{Description}
use Rattle.pli_value.specs.Value.{Value}
use Rattle.pli_world.specs.Stacks.{stack_of, without_newest_of, stacked, unstacked}
use Rattle.pli_world.specs.Storage.{Made, Controlled, Place, generation_in}
use Rattle.pli_world.specs.World.{Stack, World, made_of}
use Rattle.pli_stacks.specs.laws.Operations.{IfYields, LivingStays}
use Rattle.pli_stacks.specs.laws.Operations as law
use Rattle.pli_stacks.proofs.GenerationsFound.{added_found}
use Rattle.pli_stacks.proofs.YieldedAnswers.{yields_further, yields_made, IsKnown, yields_known}

-- ---- generations

pub making_beside : (d : Description) (how : Made) (vs : List Value) → LivingStays (made_of d how vs)
making_beside d how vs w number g h = yields_made d how vs w (λ _ u. generation_in u.storage number ≡ Some g) (added_found w.storage _ number g h)

pub beside_stacked : law.BesideStacked
unfolding stacked
beside_stacked number w living g h =
    yields_further (stack_of number w) _ (IsKnown (slice_get w.stacks number) w) _ (yields_known (slice_get w.stacks number) w)
    (λ s u k. yields_further (made_of s.variable.description Controlled s.variable.initial u) _ (λ _ x. generation_in x.storage living ≡ Some g) _
    (making_beside s.variable.description Controlled s.variable.initial u living g (subst (λ (x : World). generation_in x.storage living ≡ Some g) (sym k.same) h))
    (λ p x e. e))

-- ---- stacks

set_here : {X : Type 0} (xs : List X) (i : ℕ) (x y : X) → slice_get xs i ≡ Some y → slice_get (slice_set xs i x) i ≡ Some x
set_here [] i x y h = absurd (none-some y h)
set_here (z ∷ xs) zero x y h = refl
set_here (z ∷ xs) (suc i) x y h = set_here xs i x y h

set_other : {X : Type 0} (xs : List X) (i j : ℕ) (x : X) → j ≢ i → slice_get (slice_set xs i x) j ≡ slice_get xs j
set_other [] i j x apart = refl
set_other (z ∷ xs) zero zero x apart = absurd (apart refl)
set_other (z ∷ xs) zero (suc j) x apart = refl
set_other (z ∷ xs) (suc i) zero x apart = refl
set_other (z ∷ xs) (suc i) (suc j) x apart = set_other xs i j x (λ same. apart (ap (λ n. suc n) same))

pub newest_goes : law.NewestGoes
unfolding unstacked
newest_goes number s p older w there =
    rw there (set_here w.stacks number (record s { places = older }) (record s { places = p ∷ older }) there, refl)

pub other_stacks : law.OtherStacks
unfolding stacked unstacked
other_stacks number other w apart = (
  yields_further (stack_of number w) _ (IsKnown (slice_get w.stacks number) w) _ (yields_known (slice_get w.stacks number) w)
      (λ s u k. yields_further (made_of s.variable.description Controlled s.variable.initial u) _ (λ _ x. x.stacks ≡ u.stacks) _
      (yields_made s.variable.description Controlled s.variable.initial u (λ _ x. x.stacks ≡ u.stacks) refl)
      (λ p x e. set_other x.stacks number other (record s { places = p ∷ s.places }) apart
      ∙ ap (λ xs. slice_get xs other) (e ∙ ap (λ (y : World). y.stacks) k.same))),
  yields_further (stack_of number w) (λ s w. without_newest_of number s s.places w) (IsKnown (slice_get w.stacks number) w)
      (λ _ u. slice_get u.stacks other ≡ slice_get w.stacks other)
      (yields_known (slice_get w.stacks number) w) (λ s u k. by s s.places u (ap (λ (y : World). y.stacks) k.same)),
)
  where
    by : (s : Stack) (ps : List Place) (u : World) → u.stacks ≡ w.stacks
        → IfYields (without_newest_of number s ps u) (λ _ x. slice_get x.stacks other ≡ slice_get w.stacks other)
    by s [] u e = tt
    by s (p ∷ older) u e = set_other u.stacks number other (record s { places = older }) apart ∙ ap (λ xs. slice_get xs other) e
