-- What lives beside stays as it is.
use Rattle.std.proofs.Common.{◌≡◌, ℕ, Some, refl, sym, ap, ◌∙◌}
use Rattle.pli_run.specs.declared.ending.RunError.TheVariants.{DescriptionMismatch}
use Rattle.pli_value.specs.declared.locator.Locator.{Locator}
use Rattle.pli_value.specs.declared.locator.Locator.TheVariants.{Pointer}
use Rattle.pli_world.specs.Storage.{Based, generation_in}
use Rattle.pli_world.specs.World.{World, Yields, Raises, made_of}
use Rattle.pli_stacks.proofs.LivingBeside.{making_beside}
use Rattle.pli_stacks.proofs.YieldedAnswers.{yields_further, yields_guarded, yields_made}
use Rattle.pli_world.specs.Locating.{located, based_allocated, is_allocated, ended, based_freed}
use Rattle.pli_locators.specs.laws.Operations as law
use Rattle.pli_locators.proofs.EndedWholes.{whole_other}
use Rattle.pli_locators.proofs.YieldedAnswers.{IsTarget, yields_located}

pub beside_allocated : law.BesideAllocated
unfolding based_allocated
beside_allocated v w number g h =
    yields_further (made_of v.description Based v.initial w) _ (λ _ u. generation_in u.storage number ≡ Some g) _
    (making_beside v.description Based v.initial w number g h) (λ p u e. e)

abbrev pub number_of_pointer : Locator → ℕ
number_of_pointer (Pointer number position) = number
number_of_pointer other = 0

pub beside_freed : law.BesideFreed
unfolding based_freed
beside_freed d number position other w apart =
    let l = Pointer number position in
    yields_further (located d l w) _ (IsTarget l w) _ (yields_located d l w)
    (λ t v i. yields_guarded (is_allocated t.made) (Yields tt (ended t.place v)) (Raises DescriptionMismatch v) _
    (whole_other t.place v.storage other (λ same. apart (same ∙ sym (ap number_of_pointer i.pointer)))
    ∙ ap (λ (x : World). generation_in x.storage other) i.same) tt)

-- ---- stacks

pub stacks_beside : law.StacksBeside
unfolding based_allocated based_freed
stacks_beside v d l w = (
  yields_further (made_of v.description Based v.initial w) _ (λ _ u. u.stacks ≡ w.stacks) _
      (yields_made v.description Based v.initial w (λ _ u. u.stacks ≡ w.stacks) refl) (λ p u e. e),
  yields_further (located d l w) _ (IsTarget l w) _ (yields_located d l w)
      (λ t u i. yields_guarded (is_allocated t.made) (Yields tt (ended t.place u)) (Raises DescriptionMismatch u) _
      (ap (λ (x : World). x.stacks) i.same) tt),
)
