-- One step after another, where each gives a value or a fault.
use Rattle.std.proofs.Common.{◌≡◌, Result, Ok, Err, IsErrAnd, List, [], ◌∷◌, ◌++◌, refl, ap, sym, subst, append_assoc}
use Rattle.pli_base.specs.Results.{◌>>=◌}
use Rattle.pli_base.specs.declared.token.Fault.{Fault}
use Rattle.pli_base.specs.answers.FailureAnswers.{Fails, Gives}
use Rattle.pli_base.specs.declared.failure.Failure.{Failure}
use Rattle.pli_base.specs.declared.failure.Failure.TheVariants as errors

-- the fault of the first step is that of the whole
pub fails_on : {X Y : Type 0} (e : Failure Fault) (r : Result X Fault) (k : X → Result Y Fault) → Fails e r
    → Fails e (r >>= k)
fails_on errors.OutOfMemory r k p = tt
fails_on (errors.Fault f) r k p = ap (λ s. s >>= k) p

-- what is equal fails alike
pub fails_as : {Y : Type 0} (e : Failure Fault) (r s : Result Y Fault) → r ≡ s → Fails e s → Fails e r
fails_as e r s q p = let P : Result _ Fault → Type 0 = λ t. Fails e t in subst P (sym q) p

-- where a step fails, what a `?` returns fails alike
pub exits : {X Y : Type 0} (view : X → Y) (r : Result X (Failure Fault)) (e : Failure Fault) (typed : Result Y Fault)
    → IsErrAnd r (λ d. d ≡ e) → Fails e typed → Gives view r typed
exits view (Ok x) e typed is p = absurd is
exits view (Err d) e typed is p = subst (λ d. Fails d typed) (sym is) p

pub bind_assoc : {X Y Z : Type 0} (r : Result X Fault) (f : X → Result Y Fault) (g : Y → Result Z Fault)
    → ((r >>= f) >>= g) ≡ (r >>= λ x. f x >>= g)
bind_assoc (Ok x) f g = refl
bind_assoc (Err e) f g = refl

-- after a value
pub bind_ok : {X Y : Type 0} (r : Result X Fault) (x : X) (k : X → Result Y Fault) → r ≡ Ok x
    → (r >>= k) ≡ k x
bind_ok r x k p = ap (λ s. s >>= k) p

-- one item more in front of the rest, which stands after others
pub one_after : {X : Type 0} (rest : Result (List X) Fault) (xs : List X) (x : X)
    → ((rest >>= λ ys. Ok (x ∷ ys)) >>= λ ys. Ok (xs ++ ys)) ≡ (rest >>= λ ys. Ok ((xs ++ x ∷ []) ++ ys))
one_after (Ok ys) xs x = ap (λ zs. Ok zs) (sym (append_assoc xs (x ∷ []) ys))
one_after (Err e) xs x = refl

-- nothing stands in front
pub none_before : {X : Type 0} (rest : Result (List X) Fault) → (rest >>= λ ys. Ok ([] ++ ys)) ≡ rest
none_before (Ok ys) = refl
none_before (Err e) = refl
