-- No number of a generation is used again.
use Rattle.std.proofs.Common.{◌≡◌, ℕ, suc, None, refl, sym, ap, subst, ◌∙◌}
use Rattle.pli_run.specs.declared.ending.RunError.TheVariants.{DeadLocator, DescriptionMismatch}
use Rattle.pli_map.specs.Description.{Description}
use Rattle.pli_value.specs.declared.locator.Locator.{Locator}
use Rattle.pli_value.specs.declared.locator.Locator.TheVariants.{Pointer}
use Rattle.pli_world.specs.Storage.{Based, generation_in}
use Rattle.pli_world.specs.World.{World, Yields, Raises, made_of}
use Rattle.pli_stacks.specs.laws.Operations.{HasEnded}
use Rattle.pli_stacks.proofs.NumbersGiven.{ended_after_making}
use Rattle.pli_stacks.proofs.YieldedAnswers.{yields_further, yields_guarded, yields_made}
use Rattle.pli_world.specs.Locating.{located, based, based_allocated, is_allocated, ended, based_freed}
use Rattle.pli_locators.specs.laws.Operations as law
use Rattle.pli_locators.proofs.EndedWholes.{whole_ended, whole_none}
use Rattle.pli_locators.proofs.YieldedAnswers.{IsTarget, yields_located}

pub number_is_new : law.NumberIsNew
unfolding based_allocated
number_is_new v w =
    yields_further (made_of v.description Based v.initial w) _ (λ p u. (p.generation ≡ w.made) × (p.position ≡ 0) × (u.made ≡ suc w.made)) _
    (yields_made v.description Based v.initial w _ (refl, refl, refl))
    (λ p u e. (ap (λ n. Pointer n p.position) e.0 ∙ ap (Pointer w.made) e.1, e.2))

-- nothing lives where no generation does
pub gone_is_dead : (number position : ℕ) (d : Description) (w : World) → generation_in w.storage number ≡ None
    → based d (Pointer number position) w ≡ Raises DeadLocator w
unfolding located based
gone_is_dead number position d w gone = rw gone refl

pub ended_is_dead : law.EndedIsDead
ended_is_dead number position d w e = gone_is_dead number position d w e.gone

abbrev pub position_of_pointer : Locator → ℕ
position_of_pointer (Pointer number position) = position
position_of_pointer other = 0

pub freed_is_dead : law.FreedIsDead
unfolding based_freed
freed_is_dead d e number w =
    let l = Pointer number 0 in
    yields_further (located d l w) _ (IsTarget l w) _ (yields_located d l w)
    (λ t v i. yields_guarded (is_allocated t.made) (Yields tt (ended t.place v)) (Raises DescriptionMismatch v) _
    (subst (λ k. based e k (ended t.place v) ≡ Raises DeadLocator (ended t.place v)) (sym i.pointer)
    (gone_is_dead t.place.generation t.place.position e (ended t.place v) (whole_ended t.place v.storage (sym (ap position_of_pointer i.pointer)))))
    tt)

pub ended_after_allocating : law.EndedAfterAllocating
unfolding based_allocated
ended_after_allocating v w number e =
    yields_further (made_of v.description Based v.initial w) _ (λ _ u. HasEnded number u) _
    (ended_after_making v.description Based v.initial w number e) (λ p u h. h)

pub ended_after_freeing : law.EndedAfterFreeing
unfolding based_freed
ended_after_freeing d l w number e =
    yields_further (located d l w) _ (IsTarget l w) _ (yields_located d l w)
    (λ t v i. yields_guarded (is_allocated t.made) (Yields tt (ended t.place v)) (Raises DescriptionMismatch v) _
    (let h = subst (HasEnded number) (sym i.same) e in record { given = h.given; gone = whole_none t.place v.storage number h.gone }) tt)
