-- What is so where operations give results.
use Rattle.std.proofs.Common.{◌≡◌, suc, Bool, true, false, nat_lt, nat_le, ◌&&◌, ◌+◌, Option, Some, None, List, [], ◌∷◌, ◌++◌, if◌then◌else◌, refl, ap, subst, ◌∙◌}
use Rattle.pli_run.specs.declared.ending.RunError.TheVariants.{StorageLimit}
use Rattle.pli_map.specs.Description.{Description}
use Rattle.pli_map.specs.Scalars.{scalars_of}
use Rattle.pli_map.specs.Sizes.{size_of}
use Rattle.pli_map.specs.Values.{are_held}
use Rattle.pli_map.specs.Variables.{byte_limit}
use Rattle.pli_value.specs.Value.{Value}
use Rattle.pli_world.specs.Storage.{Made, Place, whole, live_bytes, generation_limit}
use Rattle.pli_world.specs.World.{World, Answer, Yields, Raises, Wrong, further, known, made_of}
use Rattle.pli_stacks.specs.laws.Operations.{IfYields}

-- one operation after another
pub yields_further : {A B : Type 0} (a : Answer A) (go : A → World → Answer B) (first : A → World → Type 0) (says : B → World → Type 0)
    → IfYields a first → ((x : A) (v : World) → first x v → IfYields (go x v) says) → IfYields (further a go) says
yields_further (Yields x v) go first says f next = next x v f
yields_further (Raises e v) go first says f next = tt
yields_further Wrong go first says f next = tt

-- what is done only where it may be
pub yields_guarded : {A : Type 0} (b : Bool) (done refused : Answer A) (says : A → World → Type 0) → IfYields done says → IfYields refused says
    → IfYields (if b then done else refused) says
yields_guarded true done refused says y n = y
yields_guarded false done refused says y n = n

-- the world after a new generation
abbrev pub made_world : Description → Made → List Value → World → World
made_world d how vs w = record w {
  storage = w.storage ++ record { number = w.made; description = d; made = how; values = vs; blocks = [] } ∷ [];
  made = suc w.made;
}

pub yields_made : (d : Description) (how : Made) (vs : List Value) (w : World) (says : Place → World → Type 0)
    → says (whole w.made d) (made_world d how vs w) → IfYields (made_of d how vs w) says
unfolding made_of
yields_made d how vs w says f =
    yields_guarded (nat_lt w.made generation_limit && nat_le (live_bytes w.storage + size_of d) byte_limit) _ (Raises StorageLimit w) says
    (yields_guarded (are_held (scalars_of d) vs) (Yields (whole w.made d) (made_world d how vs w)) Wrong says f tt) tt

-- the place of a new generation is the next
pub made_next : (d : Description) (how : Made) (vs : List Value) (before after : World) (p : Place) → made_of d how vs before ≡ Yields p after
    → made_of d how vs before ≡ Yields (whole before.made d) after
made_next d how vs before after p e =
    e ∙ ap (λ q. Yields q after) (subst (λ a. IfYields a (λ q _. q ≡ whole before.made d)) e (yields_made d how vs before (λ q _. q ≡ whole before.made d) refl))

-- where something is found among others
pub record IsKnown {A : Type 0} (o : Option A) (w : World) (x : A) (v : World) : Type 0 where
  pub there : o ≡ Some x
  pub same : v ≡ w

pub yields_known : {A : Type 0} (o : Option A) (w : World) → IfYields (known o w) (IsKnown o w)
yields_known (Some x) w = record { there = refl; same = refl }
yields_known None w = tt
