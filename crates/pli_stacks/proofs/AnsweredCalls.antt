-- What operations one after another answer.
use Rattle.std.proofs.Common.{Result, Ok, Err, ap, ◌∙◌}
use Rattle.pli_store.specs.answers.Answered.{Answered}
use Rattle.pli_store.specs.declared.fault.StoreFault.{StoreFault}
use Rattle.pli_store.specs.declared.fault.StoreFault.TheVariants.{Raised, NoRule, OutOfMemory}
use Rattle.pli_world.specs.World.{World, Answer, further}

-- the first is refused, and so is the whole
pub first_refused : {T U A B : Type 0} (view : T → A) (other : U → B) (f : StoreFault) (before after later : World) (a : Answer A)
    (go : A → World → Answer B) → Answered view (Err f) before after a → Answered other (Err f) before later (further a go)
first_refused view other (Raised e) before after later a go answer = ap (λ x. further x go) answer
first_refused view other NoRule before after later a go answer = ap (λ x. further x go) answer
first_refused view other OutOfMemory before after later a go answer = tt

-- the first gives something, and then the second decides
pub second_decides : {T U A B : Type 0} (view : T → A) (other : U → B) (x : T) (r : Result U StoreFault) (before after : World) (a : Answer A)
    (go : A → World → Answer B) → Answered view (Ok x) before before a → Answered other r before after (go (view x) before)
    → Answered other r before after (further a go)
second_decides view other x (Ok y) before after a go answer next = ap (λ b. further b go) answer ∙ next
second_decides view other x (Err (Raised e)) before after a go answer next = ap (λ b. further b go) answer ∙ next
second_decides view other x (Err NoRule) before after a go answer next = ap (λ b. further b go) answer ∙ next
second_decides view other x (Err OutOfMemory) before after a go answer next = tt
