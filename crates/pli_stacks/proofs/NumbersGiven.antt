-- No number of a generation is used again.
use Rattle.std.proofs.Common.{◌≡◌, ℕ, None, List, [], ◌∷◌, slice_get, sym, subst, ◌∙◌, arith, inl, inr}
use Rattle.std.proofs.lemmas.Bool.Decides.{eqb_tells}
use Rattle.pli_world.specs.Stacks.{stack_of, without_newest_of, stacked, unstacked}
use Rattle.pli_world.specs.Storage.{Controlled, Place, generation_in}
use Rattle.pli_world.specs.World.{Stack, World, generation_ended, made_of}
use Rattle.pli_stacks.specs.laws.Operations.{IfYields, HasEnded}
use Rattle.pli_stacks.specs.laws.Operations as law
use Rattle.pli_stacks.proofs.GenerationsFound.{added_none, ended_none, ended_other}
use Rattle.pli_stacks.proofs.YieldedAnswers.{yields_further, yields_made, IsKnown, yields_known}

pub ended_after_making : law.EndedAfterMaking
ended_after_making d how vs w number e =
    yields_made d how vs w (λ _ u. HasEnded number u)
    (record {
      given = let given = e.given in omega (arith, given);
      gone = added_none w.storage _ number e.gone (λ same. let given = e.given in omega (arith, given, same));
    })

-- where another ends, or this one
pub still_ended : (generation : ℕ) (w : World) (number : ℕ) → HasEnded number w → HasEnded number (generation_ended generation w)
still_ended generation w number e =
    record {
      given = e.given;
      gone =
          elim (eqb_tells number generation) [
            | inl same ↦ subst (λ n. generation_in (generation_ended generation w).storage n ≡ None) (sym same.1) (ended_none w.storage generation)
            | inr other ↦ ended_other w.storage generation number other.1 ∙ e.gone
          ];
    }

pub ended_after_stacking : law.EndedAfterStacking
unfolding stacked
ended_after_stacking number w other e =
    yields_further (stack_of number w) _ (IsKnown (slice_get w.stacks number) w) _ (yields_known (slice_get w.stacks number) w)
    (λ s u k. yields_further (made_of s.variable.description Controlled s.variable.initial u) _ (λ _ x. HasEnded other x) _
    (ended_after_making s.variable.description Controlled s.variable.initial u other (subst (HasEnded other) (sym k.same) e))
    (λ p x h. record { given = h.given; gone = h.gone }))

pub ended_after_unstacking : law.EndedAfterUnstacking
unfolding unstacked
ended_after_unstacking number w other e =
    yields_further (stack_of number w) (λ s w. without_newest_of number s s.places w) (IsKnown (slice_get w.stacks number) w) (λ _ u. HasEnded other u)
    (yields_known (slice_get w.stacks number) w)
    (λ s u k. by s s.places u (subst (HasEnded other) (sym k.same) e))
  where
    by : (s : Stack) (ps : List Place) (u : World) → HasEnded other u → IfYields (without_newest_of number s ps u) (λ _ x. HasEnded other x)
    by s [] u h = tt
    by s (p ∷ older) u h = let s = still_ended p.generation u other h in record { given = s.given; gone = s.gone }
