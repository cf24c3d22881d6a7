-- What an operation of the program answers.
use Rattle.std.specs.Prelude.{◌≡◌, Result, Ok, Err}
use Rattle.pli_world.specs.World.{World, Answer, Yields, Raises, Wrong}
use Rattle.pli_store.specs.declared.fault.StoreFault.{StoreFault}
use Rattle.pli_store.specs.declared.fault.StoreFault.TheVariants.{Raised, NoRule, OutOfMemory}

-- what the definition gives in a world: a result, seen so, in the world after it, or an error or nothing in
-- the world before; memory may be refused at any time
abbrev pub Answered : {T A : Type 0} → (view : T → A) → Result T StoreFault → (before after : World)
    → Answer A → Type 0
Answered view (Ok x) before after answer = answer ≡ Yields (view x) after
Answered view (Err (Raised e)) before after answer = answer ≡ Raises e before
Answered view (Err NoRule) before after answer = answer ≡ Wrong
Answered view (Err OutOfMemory) before after answer = Unit {0}
